use Rattle.alarm_core.proofs.Listed.{knows_listed_peers}
use Rattle.alarm_core.proofs.laws.knows_listed_peers.Goals as goal

pub returns : goal.returns
returns c = record { peers = knows_listed_peers }
