use Rattle.std.proofs.Common.{◌≡◌, ◌+◌, ◌++◌, ◌-◌, ◌≤◌, ◌<◌, ◌^◌, length, map, take, drop}
use Rattle.alarm_core.specs.DueSteps.{DetectionsState, Undoes, due_count, due_of, object_of}
use Rattle.alarm_core.proofs.Rounds.{HasCome, made_of}
use Rattle.alarm_core.proofs.due_looks.evaluate_due.Given as goal

abbrev pub invariant-loop-index : goal.invariant-loop-index
invariant-loop-index g l = record {
  come : HasCome l.at l.objects l.from l.fn.timed.alarms.items l.timed.alarms.items l.timed.timers;
  within : l.from ≤ length l.timed.timers;
  few : length l.timed.timers < 2 ^ 32;
  made : l.round.transitions.items ≡ l.fn.round.transitions.items ++ made_of l.at l.objects (take l.from l.fn.timed.alarms.items);
  undoes : (before : DetectionsState) → Undoes l.fn.round.formers.items before l.fn.timed.alarms.items l.fn.timed.timers →
      Undoes l.round.formers.items before l.timed.alarms.items l.timed.timers;
  exact : l.fn.timed.timers ≡ map (due_of l.objects) l.fn.timed.alarms.items → l.timed.timers ≡ map (due_of l.objects) l.timed.alarms.items;
  same : map object_of l.timed.alarms.items ≡ map object_of l.fn.timed.alarms.items;
  waits : drop l.from l.timed.timers ≡ drop l.from l.fn.timed.timers;
  steps : l.steps ≤ l.fn.steps + due_count l.at.moment (take l.from l.fn.timed.timers);
}

abbrev pub decreases-loop-index : goal.decreases-loop-index
decreases-loop-index g l = length l.timed.timers - l.from
