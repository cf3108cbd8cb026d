use Rattle.std.proofs.Common.{◌++◌, ap, ◌∙◌}
use Rattle.std.specs.Option.{option_to_list}
use Rattle.event_machine.specs.Given.{point_of}
use Rattle.event_machine.specs.AlarmSteps.{fault_change, later_change}
use Rattle.event_machine.proofs.Keeping.{after_look, moves_look}
use Rattle.event_machine.proofs.machine.evaluate.Goals as goal

pub returns-clause-course : goal.returns-clause-course
returns-clause-course g c = λ first later course after.
    let algorithm = c.args.snapshot.now.algorithm in
    let point = point_of c.args.snapshot.now c.args.point.now in
    c.later_change-second.ensures.alarm
    ∙ (ap (λ a. (later_change algorithm point a).alarm) c.fault_change-first.ensures.alarm
    ∙ after_look algorithm first later point c.args.alarm.now course after)

pub returns-clause-course_moves : goal.returns-clause-course_moves
returns-clause-course_moves g c = λ first later course after.
    let algorithm = c.args.snapshot.now.algorithm in
    let point = point_of c.args.snapshot.now c.args.point.now in
    let second = c.later_change-second.ensures.moves ∙ ap (λ a. (later_change algorithm point a).moves) c.fault_change-first.ensures.alarm in
    ap (λ moves. moves ++ option_to_list c.later_change-second.result) c.fault_change-first.ensures.moves
    ∙ (ap (λ moves. (fault_change algorithm point c.args.alarm.now).moves ++ moves) second
    ∙ moves_look algorithm first later point c.args.alarm.now course after)
