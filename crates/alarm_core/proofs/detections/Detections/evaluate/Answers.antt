use Rattle.std.proofs.Common.{List, Option, ℕ, sym, subst, arith}
use Rattle.alarm_core.specs.DueSteps.{AreEarly}
use Rattle.alarm_core.proofs.Places.{as_many_objects, ascend_still}
use Rattle.alarm_core.proofs.Rounds.{exact_early}
use Rattle.alarm_core.proofs.detections.Detections.evaluate.Goals as goal

pub evaluate_due-requires-clause-early : goal.evaluate_due-requires-clause-early
evaluate_due-requires-clause-early g c =
    let inside = c.self.inside in
    subst (λ (timers : List (Option ℕ)). AreEarly inside.objects inside.timed.alarms.items timers) (sym c.self.invariant.timers) (exact_early inside.objects inside.timed.alarms.items)

pub invariant_of-self : goal.invariant_of-self
invariant_of-self g c =
    let inside = c.self.inside in
    let objects = c.evaluate_due.ensures.objects in
    record {
      timers = c.evaluate_due.ensures.exact c.self.invariant.timers;
      few = omega (arith, as_many_objects inside.timed.alarms.items _ objects, c.self.invariant.few);
      ascending = ascend_still inside.timed.alarms.items _ objects c.self.invariant.ascending;
    }
