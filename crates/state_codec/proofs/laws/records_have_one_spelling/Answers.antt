use Rattle.state_codec.proofs.EventLaws.{one_spelling}
use Rattle.state_codec.proofs.laws.records_have_one_spelling.Goals as goal

pub returns : goal.returns
returns c = record { spelling = one_spelling }
