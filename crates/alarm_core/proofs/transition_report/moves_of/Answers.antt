use Rattle.std.proofs.Common.{[], ◌∷◌, ◌++◌, ap, ◌∙◌}
use Rattle.std.proofs.lemmas.Result.{IfOk-from_err}
use Rattle.bac_values.specs.declared.moved.Moved.{Moved}
use Rattle.enrollment.proofs.Appended.{makes_next, makes_all}
use Rattle.alarm_core.specs.ViewSteps.{moved_of}
use Rattle.alarm_core.proofs.transition_report.moves_of.Goals as goal

pub loop-transition-preserved : goal.loop-transition-preserved
loop-transition-preserved c =
    let now = c.loop-transition.moves.items in
    makes_next moved_of c.args.transitions.now c.loop-transition.transition-index c.transition-item.result [] now c.push.new.items.items
    c.loop-transition-test.true c.transition-item.is c.loop-transition.invariant (c.in_ok-push.ensures.added ∙ ap (λ (moved : Moved). now ++ moved ∷ []) c.moved_of.ensures.moved)

pub returns-in_err-push : goal.returns-in_err-push
returns-in_err-push c = record { moves = IfOk-from_err c.from_residual.result _ c.from_residual.ensures.0 }

pub returns : goal.returns
returns c =
    record { moves = makes_all moved_of c.args.transitions.now c.loop-transition.transition-index [] c.loop-transition.moves.items c.loop-transition-test.false c.loop-transition.invariant }
