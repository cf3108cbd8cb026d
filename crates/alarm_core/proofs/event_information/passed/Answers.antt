use Rattle.std.proofs.Common.{arith, ◌≡◌, ◌+◌, ◌≤◌, length, rules}
use Rattle.std.proofs.lemmas.List.Sorted.{answers_always}
use Rattle.alarm_core.specs.State.{DetectedObjectState}
use Rattle.alarm_core.proofs.BehindLast.{passed_through, passed_up_to}
use Rattle.alarm_core.proofs.event_information.passed.Goals as goal

pub returns-in-Ok : goal.returns-in-Ok
returns-in-Ok c =
    let bound = c.in-Ok.ensures.bound in
    let by_key = c.in-Ok.ensures.position (λ (detected : DetectedObjectState). detected.object) (answers_always _ _ _ (λ f a r g called. search rules)) in
    let within : c.in-Ok.place + 1 ≤ length c.args.alarms.now = omega arith in
    record { within = within; told = rw c.in-Some.is (passed_through c.in-Some.last.now c.args.alarms.now c.in-Ok.place c.requires.ascending bound by_key) }

pub returns-in-Err : goal.returns-in-Err
returns-in-Err c =
    let bound = c.in-Err.ensures.bound in
    let by_key = c.in-Err.ensures.position (λ (detected : DetectedObjectState). detected.object) (answers_always _ _ _ (λ f a r g called. search rules)) in
    record { within = bound; told = rw c.in-Some.is (passed_up_to c.in-Some.last.now c.args.alarms.now c.in-Err.place c.requires.ascending bound by_key) }
