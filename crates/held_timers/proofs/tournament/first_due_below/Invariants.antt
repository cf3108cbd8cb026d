use Rattle.std.proofs.Common.{◌*◌, ◌-◌}
use Rattle.held_timers.proofs.Searching.{Descends}
use Rattle.held_timers.proofs.tournament.first_due_below.Given as goal

abbrev pub invariant-loop-node : goal.invariant-loop-node
invariant-loop-node l = Descends l.moment l.nodes l.leaves l.fn.top l.node

abbrev pub decreases-loop-node : goal.decreases-loop-node
decreases-loop-node l = 2 * l.leaves - l.node
