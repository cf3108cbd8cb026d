use Rattle.std.proofs.Common.{◌≡◌, ◌∙◌, List, None, set, sym, ap, subst, rules}
use Rattle.alarm_core.specs.CoreSteps.{acked}
use Rattle.alarm_core.specs.DueSteps.{StandsAt}
use Rattle.alarm_core.specs.Found.{detected_object_in}
use Rattle.alarm_core.specs.State.{DetectedObjectState}
use Rattle.alarm_core.proofs.Places.{acked_at, acked_nobody}
use Rattle.alarm_core.proofs.detections.acknowledge_in.Goals as goal

pub returns-in-Ok : goal.returns-in-Ok
returns-in-Ok c =
    let alarms = c.args.alarms.now.items in
    let place = c.in-Ok.place in
    let x = c.index_mut.result.now in
    let found : StandsAt c.args.object alarms place = subst (λ (ds : List DetectedObjectState). StandsAt c.args.object ds place) c.deref.ensures.value c.in-Ok.ensures.found in
    record { alarms = ap (set alarms place) (c.acknowledge.ensures.acked ∙ ap (acked c.args.object c.args.transition) c.index_mut.ensures.value) ∙ sym (acked_at c.args.object c.args.transition alarms place x found) }

pub returns-in_default : goal.returns-in_default
returns-in_default c =
    let alarms = c.args.alarms.now.items in
    let absent : detected_object_in c.args.object alarms ≡ None = search rules in
    record { alarms = sym (acked_nobody c.args.object c.args.transition alarms absent) }
