use Rattle.event_machine.proofs.GoingOn.{runs_go_on}
use Rattle.event_machine.proofs.Keeping.{keeps_course}
use Rattle.event_machine.proofs.laws.keeps_course.Goals as goal

pub returns-clause-course : goal.returns-clause-course
returns-clause-course c = keeps_course

pub returns-clause-runs : goal.returns-clause-runs
returns-clause-runs c = runs_go_on
