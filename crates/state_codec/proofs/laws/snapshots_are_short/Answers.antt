use Rattle.state_codec.proofs.SizeLaws.{snapshot_length, snapshot_some}
use Rattle.state_codec.proofs.laws.snapshots_are_short.Goals as goal

pub returns : goal.returns
returns c = record { short = record { most = snapshot_length; some = snapshot_some } }
