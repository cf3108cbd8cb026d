use Rattle.held_timers.proofs.Replacing.{replaced_at_first, replaced_above}
use Rattle.held_timers.proofs.tournament.replace.Goals as goal

pub loop-node-init : goal.loop-node-init
loop-node-init c = replaced_at_first c.args.leaves c.args.index c.args.due c.args.nodes.now c.requires.size c.requires.tournament c.requires.within

pub loop-node-preserved : goal.loop-node-preserved
loop-node-preserved c =
    replaced_above c.args.leaves c.args.index c.args.due c.earlier.result c.args.nodes.now c.loop-node.nodes c.loop-node.node c.loop-node.invariant c.loop-node-test.true c.earlier.ensures.earlier
