use Rattle.held_timers.proofs.Climbing.{Climbs}
use Rattle.held_timers.proofs.tournament.first_due.Given as goal

abbrev pub invariant-loop-node : goal.invariant-loop-node
invariant-loop-node l = Climbs l.moment l.nodes l.leaves l.node l.fn.index

abbrev pub decreases-loop-node : goal.decreases-loop-node
decreases-loop-node l = l.node
