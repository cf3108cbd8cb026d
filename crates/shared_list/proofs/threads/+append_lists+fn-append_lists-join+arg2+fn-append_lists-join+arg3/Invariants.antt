use Rattle.std.proofs.Common.{length}
use Rattle.shared_list.proofs.threads.+append_lists+fn-append_lists-join+arg2+fn-append_lists-join+arg3.Given as goal

abbrev pub decreases-append_lists : goal.decreases-append_lists
decreases-append_lists g l = length l.lists.now

abbrev pub decreases-join+arg2 : goal.decreases-join+arg2
decreases-join+arg2 g l = length l.left.now

abbrev pub decreases-join+arg3 : goal.decreases-join+arg3
decreases-join+arg3 g l = length l.right.now
