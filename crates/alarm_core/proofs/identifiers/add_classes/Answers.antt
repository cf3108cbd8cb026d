use Rattle.std.proofs.Common.{[], ◌∷◌, ◌++◌, ap, ◌∙◌}
use Rattle.std.proofs.lemmas.Result.{IfOk-from_err}
use Rattle.bac_values.specs.Identifier.{ObjectIdData}
use Rattle.enrollment.proofs.Appended.{makes_next, makes_all}
use Rattle.alarm_core.specs.Devices.{class_object}
use Rattle.alarm_core.proofs.identifiers.add_classes.Goals as goal

pub loop-listed-preserved : goal.loop-listed-preserved
loop-listed-preserved c =
    let now = c.loop-listed.identifiers.items in
    makes_next class_object c.args.classes.now c.loop-listed.listed-index c.listed-item.result c.args.identifiers.now.items now c.push.new.items.items
    c.loop-listed-test.true c.listed-item.is c.loop-listed.invariant (c.in_ok-push.ensures.added ∙ ap (λ (object : ObjectIdData). now ++ object ∷ []) c.class_object.ensures.object)

pub returns-in_err-push : goal.returns-in_err-push
returns-in_err-push c = record { added = IfOk-from_err c.from_residual.result _ c.from_residual.ensures.0 }

pub returns : goal.returns
returns c =
    record { added = makes_all class_object c.args.classes.now c.loop-listed.listed-index c.args.identifiers.now.items c.loop-listed.identifiers.items c.loop-listed-test.false c.loop-listed.invariant }
