use Rattle.profile_laws.proofs.EnteredStates.{states_were_entered}
use Rattle.profile_laws.proofs.ToldBack.{tells_the_state}
use Rattle.profile_laws.proofs.laws.reads_tell_the_state.Goals as goal

pub returns : goal.returns
returns c = record { tells = tells_the_state; entered = states_were_entered }
