use Rattle.std.proofs.Common.{◌-◌}
use Rattle.floor_tests.proofs.thread_tests.+enter_all+fn-enter_all-join+arg2+fn-enter_all-join+arg3.Given as goal

abbrev pub decreases-enter_all : goal.decreases-enter_all
decreases-enter_all g l = l.callers

abbrev pub decreases-join+arg2 : goal.decreases-join+arg2
decreases-join+arg2 g l = l.half

abbrev pub decreases-join+arg3 : goal.decreases-join+arg3
decreases-join+arg3 g l = l.callers - l.half
