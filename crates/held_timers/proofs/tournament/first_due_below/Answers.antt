use Rattle.std.proofs.Common.{ℕ, ◌*◌, arith, sym, ◌∙◌}
use Rattle.held_timers.proofs.Searching.{descends_left, descends_right, comes_to_leaf}
use Rattle.held_timers.proofs.tournament.first_due_below.Goals as goal

pub loop-node-preserved-then-not-is_due : goal.loop-node-preserved-then-not-is_due
loop-node-preserved-then-not-is_due c =
    let node : ℕ = c.loop-node.node in
    descends_right c.args.moment c.args.nodes.now c.args.leaves c.args.top node (node * 2) c.requires.tournament c.requires.size c.loop-node.invariant c.loop-node-test.true (omega arith) (sym c.is_due.ensures.due ∙ c.if-not-is_due.true)

pub loop-node-preserved : goal.loop-node-preserved
loop-node-preserved c =
    let node : ℕ = c.loop-node.node in
    descends_left c.args.moment c.args.nodes.now c.args.leaves c.args.top node (node * 2) c.loop-node.invariant c.loop-node-test.true (omega arith) (sym c.is_due.ensures.due ∙ c.if-not-is_due.false)

pub returns : goal.returns
returns c =
    let found = c.loop-node.invariant in
    record {
      first = λ index begins. comes_to_leaf c.args.moment c.args.nodes.now c.args.leaves c.loop-node.node index c.requires.size (found.comes index begins) c.loop-node-test.false found.high found.due;
    }
