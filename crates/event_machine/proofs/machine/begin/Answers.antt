use Rattle.std.proofs.Common.{ap, ◌∙◌}
use Rattle.event_machine.specs.Given.{point_of}
use Rattle.event_machine.specs.AlarmSteps.{begins}
use Rattle.event_machine.proofs.Keeping.{after_first}
use Rattle.event_machine.proofs.machine.begin.Goals as goal

pub returns-clause-course : goal.returns-clause-course
returns-clause-course c = λ is_new.
    let algorithm = c.args.snapshot.now.algorithm in
    let point = point_of c.args.snapshot.now c.args.point.now in
    c.begin_runs.ensures.runs ∙ (ap (begins algorithm point) is_new ∙ after_first algorithm point)
