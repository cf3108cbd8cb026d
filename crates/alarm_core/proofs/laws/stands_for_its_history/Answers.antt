use Rattle.alarm_core.proofs.Standing.{stands}
use Rattle.alarm_core.proofs.laws.stands_for_its_history.Goals as goal

pub returns : goal.returns
returns c = record { history = stands }
