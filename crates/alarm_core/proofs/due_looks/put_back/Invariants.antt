use Rattle.std.proofs.Common.{length}
use Rattle.alarm_core.specs.DueSteps.{Undoes, restored}
use Rattle.alarm_core.proofs.due_looks.put_back.Given as goal

abbrev pub invariant-loop-former : goal.invariant-loop-former
invariant-loop-former l = Undoes l.formers.items (record { values = l.objects; alarms = restored l.fn.formers.items l.fn.timed.alarms.items }) l.timed.alarms.items l.timed.timers

abbrev pub decreases-loop-former : goal.decreases-loop-former
decreases-loop-former l = length l.formers.items
