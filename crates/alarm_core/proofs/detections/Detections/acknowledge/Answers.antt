use Rattle.std.proofs.Common.{◌∙◌, map, length, ap, sym, arith}
use Rattle.std.proofs.lemmas.List.{length-map}
use Rattle.alarm_core.specs.CoreSteps.{acked}
use Rattle.alarm_core.specs.DueSteps.{due_of, object_of}
use Rattle.alarm_core.proofs.Places.{ascend_still}
use Rattle.alarm_core.proofs.Undoing.{acked_objects, dues_acked}
use Rattle.alarm_core.proofs.detections.Detections.acknowledge.Goals as goal

pub invariant_of-self : goal.invariant_of-self
invariant_of-self c =
    let inside = c.self.inside in
    let before = inside.timed.alarms.items in
    let alarms = c.acknowledge_in.ensures.alarms in
    record {
      timers = c.self.invariant.timers ∙ (sym (dues_acked inside.objects c.args.object c.args.transition before) ∙ ap (map (due_of inside.objects)) (sym alarms));
      few = omega (arith, ap length alarms, length-map before (acked c.args.object c.args.transition), c.self.invariant.few);
      ascending = ascend_still before c.acknowledge_in.new.alarms.items (ap (map object_of) alarms ∙ acked_objects c.args.object c.args.transition before) c.self.invariant.ascending;
    }
