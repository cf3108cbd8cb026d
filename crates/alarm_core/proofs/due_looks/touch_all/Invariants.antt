use Rattle.std.proofs.Common.{◌≡◌, ◌∷◌, length, drop}
use Rattle.alarm_core.specs.DueSteps.{DetectionsState, Undoes, all_once}
use Rattle.alarm_core.proofs.due_looks.touch_all.Given as goal

abbrev pub invariant-loop-watcher : goal.invariant-loop-watcher
invariant-loop-watcher l = record {
  alarms : l.timed.alarms.items ≡ l.fn.timed.alarms.items;
  many : length l.timed.timers ≡ length l.fn.timed.timers;
  timers : all_once (drop l.watcher-index l.watchers) l.fn.timed.alarms.items l.timed.timers ≡ all_once (l.fn.object ∷ l.watchers) l.fn.timed.alarms.items l.fn.timed.timers;
  transitions : l.round.transitions.items ≡ l.fn.round.transitions.items;
  undoes : (before : DetectionsState) → Undoes l.fn.round.formers.items before l.fn.timed.alarms.items l.fn.timed.timers →
      Undoes l.round.formers.items before l.timed.alarms.items l.timed.timers;
}
