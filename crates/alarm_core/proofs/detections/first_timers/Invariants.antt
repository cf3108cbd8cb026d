use Rattle.std.proofs.Common.{◌≡◌, length, map, take}
use Rattle.alarm_core.specs.DueSteps.{due_of}
use Rattle.alarm_core.proofs.detections.first_timers.Given as goal

abbrev pub invariant-loop-index : goal.invariant-loop-index
invariant-loop-index l = record {
  count : length l.timers ≡ length l.alarms;
  set : take l.index l.timers ≡ map (due_of l.objects) (take l.index l.alarms);
}
