use Rattle.std.proofs.Common.{sym, ◌∙◌}
use Rattle.held_timers.proofs.Climbing.{begins_beside, climbs_from_leaf, climbs_from_left, climbs_from_right}
use Rattle.held_timers.proofs.tournament.first_due.Goals as goal
use Rattle.held_timers.proofs.tournament.first_due.Goals.{else-node-eq0-via-then-node-eq0+else-is_due-2, else-node-eq0-via-else-node-eq0}

pub loop-node-init : goal.loop-node-init
loop-node-init c =
    climbs_from_leaf c.args.moment c.args.nodes.now c.args.leaves c.args.index c.requires.tournament c.requires.size c.requires.power c.requires.within (sym c.is_due.ensures.due ∙ c.if-is_due.false)

pub returns-then-is_due-2 : goal.returns-then-is_due-2
returns-then-is_due-2 c =
    let climbs = c.loop-node.invariant in
    record {
      first = c.first_due_below.ensures.first climbs.edge (begins_beside c.args.moment c.args.nodes.now c.args.leaves c.loop-node.node c.args.index climbs c.if-node-eq0.true)
          ∙ sym climbs.same;
    }

pub loop-node-preserved : goal.loop-node-preserved
loop-node-preserved c =
    let climbs = c.loop-node.invariant in
    elim c.else-node-eq0.branch [
      | else-node-eq0-via-then-node-eq0+else-is_due-2 w ↦
          climbs_from_left c.args.moment c.args.nodes.now c.args.leaves c.loop-node.node c.args.index c.requires.tournament c.requires.size climbs c.loop-node-test.true w.if-node-eq0.true (sym w.is_due-then-node-eq0.ensures.due ∙ w.if-is_due-2.false)
      | else-node-eq0-via-else-node-eq0 w ↦
          climbs_from_right c.args.moment c.args.nodes.now c.args.leaves c.loop-node.node c.args.index climbs c.loop-node-test.true w.if-node-eq0.false
    ]
