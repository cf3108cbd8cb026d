use Rattle.held_timers.proofs.Telling.{least_tells_whether_due}
use Rattle.held_timers.proofs.laws.least_tells_whether_due.Goals as goal

pub returns : goal.returns
returns c = record { law = least_tells_whether_due }
