use Rattle.std.proofs.Common.{◌≡◌, ◌≤◌, ◌-◌, [], length, take}
use Rattle.alarm_core.specs.DueSteps.{DueOnesMove}
use Rattle.alarm_core.proofs.Rounds.{made_of}
use Rattle.alarm_core.proofs.due_looks.are_still.Given as goal

abbrev pub invariant-loop-index : goal.invariant-loop-index
invariant-loop-index g l = record {
  within : l.from ≤ length l.timed.alarms.items;
  none : made_of l.at l.objects (take l.from l.timed.alarms.items) ≡ [];
  grows : l.fn.steps ≤ l.steps;
  first : DueOnesMove l.at l.objects l.timed.alarms.items → l.steps ≤ l.fn.steps;
}

abbrev pub decreases-loop-index : goal.decreases-loop-index
decreases-loop-index g l = length l.timed.alarms.items - l.from
