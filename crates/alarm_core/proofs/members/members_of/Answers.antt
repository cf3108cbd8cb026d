use Rattle.std.proofs.Common.{ℕ, [], ◌∷◌, ◌++◌, ap, ◌∙◌}
use Rattle.enrollment.proofs.Appended.{makes_next, makes_all}
use Rattle.alarm_core.specs.Room.{members_of_class}
use Rattle.alarm_core.proofs.members.members_of.Goals as goal

pub loop-class-preserved : goal.loop-class-preserved
loop-class-preserved c =
    let now = c.loop-class.members.items in
    makes_next (members_of_class c.args.site.now) c.args.classes.now c.loop-class.class-index c.class-item.result [] now c.push.new.items.items
    c.loop-class-test.true c.class-item.is c.loop-class.invariant
    (c.in_ok-push.ensures.added ∙ ap (λ (n : ℕ). now ++ n ∷ []) c.few_members.ensures.members)

pub returns : goal.returns
returns c =
    record { members = makes_all (members_of_class c.args.site.now) c.args.classes.now c.loop-class.class-index [] c.loop-class.members.items c.loop-class-test.false c.loop-class.invariant }
