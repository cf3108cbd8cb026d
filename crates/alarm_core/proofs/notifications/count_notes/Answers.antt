use Rattle.std.proofs.Common.{◌+◌, ap, ◌∙◌}
use Rattle.alarm_core.specs.declared.transition.ObjectTransition.{ObjectTransition}
use Rattle.alarm_core.specs.Notes.{notes_of_transition}
use Rattle.alarm_core.specs.ViewSteps.{transition_in}
use Rattle.alarm_core.proofs.Counted.{counts_all, counts_next}
use Rattle.alarm_core.proofs.notifications.count_notes.Goals as goal

pub loop-transition-preserved : goal.loop-transition-preserved
loop-transition-preserved c =
    let seen = c.args.view.now in
    counts_next (λ (transition : ObjectTransition). notes_of_transition seen.site seen.classes (transition_in seen transition)) c.args.transitions.now c.loop-transition.transition-index c.transition-item.result
    c.args.others c.loop-transition.count c.in_ok-count.count c.loop-transition-test.true c.transition-item.is c.loop-transition.invariant
    (c.in_ok-count.ensures.sum ∙ ap (λ more. c.loop-transition.count + more) c.count_of.ensures.count)

pub returns : goal.returns
returns c =
    let seen = c.args.view.now in
    record {
      count = counts_all (notes_of_transition seen.site seen.classes) (transition_in seen) c.args.transitions.now c.loop-transition.transition-index c.args.others c.loop-transition.count
          c.loop-transition-test.false c.loop-transition.invariant;
    }
