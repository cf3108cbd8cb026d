use Rattle.std.proofs.Common.{[], ◌++◌, Option, ap, ◌∙◌}
use Rattle.std.specs.Option.{option_to_list}
use Rattle.std.proofs.lemmas.Result.{IfOk-from_err}
use Rattle.enrollment.proofs.Appended.{gives_next, gives_all}
use Rattle.alarm_core.specs.declared.transition.ObjectTransition.{ObjectTransition}
use Rattle.alarm_core.specs.ViewSteps.{AddressedData, addressed_in, transition_in}
use Rattle.alarm_core.proofs.notifications.addressed_notifications.Goals as goal

pub loop-transition-preserved : goal.loop-transition-preserved
loop-transition-preserved c =
    let seen = c.args.view.now in
    let now = c.loop-transition.list.items in
    gives_next (λ (transition : ObjectTransition). option_to_list (addressed_in seen (transition_in seen transition))) c.args.transitions.now c.loop-transition.transition-index c.transition-item.result [] now c.add_addressed.new.list.items
    c.loop-transition-test.true c.transition-item.is c.loop-transition.invariant
    (c.in_ok-add_addressed.ensures.added ∙ ap (λ (told : Option AddressedData). now ++ option_to_list told) c.in_ok-addressed.ensures.addressed)

pub returns-in_err-addressed : goal.returns-in_err-addressed
returns-in_err-addressed c = record { addressed = IfOk-from_err c.from_residual.result _ c.from_residual.ensures.0 }

pub returns-in_err-add_addressed : goal.returns-in_err-add_addressed
returns-in_err-add_addressed c = record { addressed = IfOk-from_err c.from_residual-in_err-add_addressed.result _ c.from_residual-in_err-add_addressed.ensures.0 }

pub returns : goal.returns
returns c =
    let seen = c.args.view.now in
    record {
      addressed = gives_all (λ (transition : ObjectTransition). option_to_list (addressed_in seen (transition_in seen transition))) c.args.transitions.now c.loop-transition.transition-index [] c.loop-transition.list.items
          c.loop-transition-test.false c.loop-transition.invariant;
    }
