use Rattle.state_codec.proofs.LengthLaws.{event_length}
use Rattle.state_codec.proofs.laws.records_are_short.Goals as goal

pub returns : goal.returns
returns c = record { short = event_length }
