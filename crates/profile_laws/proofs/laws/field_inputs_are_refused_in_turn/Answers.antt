use Rattle.profile_laws.proofs.FieldTables.{refuses_faults_in_turn, refuses_sets_in_turn}
use Rattle.profile_laws.proofs.laws.field_inputs_are_refused_in_turn.Goals as goal

pub returns : goal.returns
returns c = record { sets = refuses_sets_in_turn; faults = refuses_faults_in_turn }
