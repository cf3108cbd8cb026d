use Rattle.held_timers.proofs.Replacing.{Replaced}
use Rattle.held_timers.proofs.tournament.replace.Given as goal

abbrev pub invariant-loop-node : goal.invariant-loop-node
invariant-loop-node l = Replaced l.leaves l.fn.index l.fn.due l.fn.nodes l.nodes l.node

abbrev pub decreases-loop-node : goal.decreases-loop-node
decreases-loop-node l = l.node
