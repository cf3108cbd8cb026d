use Rattle.profile_laws.proofs.InTurn.{acknowledgements_in_turn, ranges_in_turn, reads_in_turn, writes_in_turn}
use Rattle.profile_laws.proofs.ListTables.{lists_in_turn}
use Rattle.profile_laws.proofs.laws.no_error_before_its_turn.Goals as goal

pub returns : goal.returns
returns c = record { write = writes_in_turn; read = reads_in_turn; range = ranges_in_turn; acknowledge = acknowledgements_in_turn; list = lists_in_turn }
