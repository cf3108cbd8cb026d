use Rattle.std.proofs.Common.{List, [], ◌∷◌, ◌++◌, ap, ◌∙◌}
use Rattle.std.proofs.lemmas.Result.{IfOk-from_err}
use Rattle.notify_class.specs.Recipients.{DestinationData}
use Rattle.notify_class.specs.declared.class.Class.{Class}
use Rattle.notify_class.specs.declared.class_site.ClassSite.{ClassSite}
use Rattle.enrollment.proofs.Appended.{makes_next, makes_all}
use Rattle.alarm_core.proofs.classes.classes_of.Goals as goal

pub loop-listed-preserved : goal.loop-listed-preserved
loop-listed-preserved c =
    let x = c.listed-item.result in
    let now = c.loop-listed.classes.items in
    makes_next (λ (listed : ClassSite). listed.class) c.args.sites.now c.loop-listed.listed-index x [] now c.push.new.items.items
    c.loop-listed-test.true c.listed-item.is c.loop-listed.invariant
    (c.in_ok-push.ensures.added
    ∙ ap (λ (class : Class). now ++ class ∷ []) c.in_ok-class.ensures.class
    ∙ ap (λ (destinations : List DestinationData). now ++ record x.class { destinations = destinations } ∷ []) c.as_slice.ensures.same)

pub returns-in_err-class : goal.returns-in_err-class
returns-in_err-class c = record { classes = IfOk-from_err c.from_residual.result _ c.from_residual.ensures.0 }

pub returns-in_err-push : goal.returns-in_err-push
returns-in_err-push c = record { classes = IfOk-from_err c.from_residual-in_err-push.result _ c.from_residual-in_err-push.ensures.0 }

pub returns : goal.returns
returns c =
    record { classes = makes_all (λ (listed : ClassSite). listed.class) c.args.sites.now c.loop-listed.listed-index [] c.loop-listed.classes.items c.loop-listed-test.false c.loop-listed.invariant }
