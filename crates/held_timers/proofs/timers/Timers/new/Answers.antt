use Rattle.std.proofs.Common.{sym, subst, ◌∙◌, ap, take, drop, rules}
use Rattle.held_timers.specs.TournamentSteps.{HoldsTimers}
use Rattle.held_timers.proofs.Starting.{holds_none, shows_none}
use Rattle.held_timers.proofs.timers.Timers.new.Goals as goal

pub invariant_of-result : goal.invariant_of-result
invariant_of-result c =
    let leaves = c.next_power_of_two-leaves in
    let made = c.in_ok-nodes.ensures.items_if_clones_equal (λ y clone. search rules) in
    subst (λ nodes. HoldsTimers c.args.count leaves.result nodes) (sym made) (holds_none c.args.count leaves.result leaves.ensures.power leaves.ensures.lower_bound)

pub returns : goal.returns
returns c =
    let leaves = c.next_power_of_two-leaves in
    let made = c.in_ok-nodes.ensures.items_if_clones_equal (λ y clone. search rules) in
    record { none = ap (λ nodes. take c.args.count (drop leaves.result nodes)) made ∙ shows_none c.args.count leaves.result leaves.ensures.lower_bound }
