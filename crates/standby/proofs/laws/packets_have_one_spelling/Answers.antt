use Rattle.standby.proofs.Spelling.{one_packet}
use Rattle.standby.proofs.laws.packets_have_one_spelling.Goals as goal

pub returns : goal.returns
returns c = record { spelling = one_packet }
