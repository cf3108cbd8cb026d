use Rattle.std.proofs.Common.{◌∙◌, ◌++◌, map, slice_set, refl, ap}
use Rattle.std.proofs.lemmas.Result.{IfOk-from_err, MatchResult-from_err}
use Rattle.event_machine.specs.Summary.{AlarmState}
use Rattle.alarm_core.specs.History.{object_transition}
use Rattle.alarm_core.specs.DueSteps.{due_of}
use Rattle.alarm_core.proofs.RecordedBy.{two_made}
use Rattle.alarm_core.proofs.due_looks.evaluate_at.Goals as goal

pub returns-in_err-add_transition : goal.returns-in_err-add_transition
returns-in_err-add_transition g c =
    let result = c.from_residual.result in
    let failed = c.from_residual.ensures.0 in
    record {
      alarms = IfOk-from_err result _ failed;
      timers = IfOk-from_err result _ failed;
      formers = IfOk-from_err result _ failed;
      transitions = IfOk-from_err result _ failed;
      same_alarms = MatchResult-from_err result _ _ failed (λ fault. refl);
      same_timers = MatchResult-from_err result _ _ failed (λ fault. refl);
      same_formers = MatchResult-from_err result _ _ failed (λ fault. refl);
      step = c.evaluate-changed.ensures.step;
    }

pub returns-in_err-add_transition-2 : goal.returns-in_err-add_transition-2
returns-in_err-add_transition-2 g c =
    let result = c.from_residual-in_err-add_transition-2.result in
    let failed = c.from_residual-in_err-add_transition-2.ensures.0 in
    record {
      alarms = IfOk-from_err result _ failed;
      timers = IfOk-from_err result _ failed;
      formers = IfOk-from_err result _ failed;
      transitions = IfOk-from_err result _ failed;
      same_alarms = MatchResult-from_err result _ _ failed (λ fault. refl);
      same_timers = MatchResult-from_err result _ _ failed (λ fault. refl);
      same_formers = MatchResult-from_err result _ _ failed (λ fault. refl);
      step = c.evaluate-changed.ensures.step;
    }

pub returns-in_err-push : goal.returns-in_err-push
returns-in_err-push g c =
    let result = c.from_residual-in_err-push.result in
    let failed = c.from_residual-in_err-push.ensures.0 in
    record {
      alarms = IfOk-from_err result _ failed;
      timers = IfOk-from_err result _ failed;
      formers = IfOk-from_err result _ failed;
      transitions = IfOk-from_err result _ failed;
      same_alarms = MatchResult-from_err result _ _ failed (λ fault. refl);
      same_timers = MatchResult-from_err result _ _ failed (λ fault. refl);
      same_formers = MatchResult-from_err result _ _ failed (λ fault. c.in_err-push.ensures.same);
      step = c.evaluate-changed.ensures.step;
    }

pub returns : goal.returns
returns g c =
    let former = c.args.former in
    let values = c.args.objects.now in
    let old = c.args.round.now.transitions.items in
    let next = c.evaluate-changed.ensures.evaluated in
    let made = object_transition c.object-object.result c.cause-cause.result in
    let cause = c.cause-cause.ensures.cause ∙ ap (λ (alarm : AlarmState). alarm.cause) c.alarm.ensures.alarm in
    record {
      alarms = ap (slice_set c.args.timed.now.alarms.items former.index) next;
      timers = c.set_due.ensures.set ∙ ap (slice_set c.args.timed.now.timers former.index) (c.due.ensures.due ∙ ap (due_of values) next);
      formers = c.in_ok-push.ensures.added;
      transitions = two_made made c.evaluate-changed.result.first c.evaluate-changed.result.second old c.add_transition.new.transitions.items c.add_transition-2.new.transitions.items
          c.in_ok-add_transition.ensures.added c.in_ok-add_transition-2.ensures.added
          ∙ (λ k. old ++ map (object_transition (c.object-object.ensures.object k) (cause k)) (c.evaluate-changed.ensures.moves k));
      same_alarms = tt;
      same_timers = tt;
      same_formers = tt;
      step = c.evaluate-changed.ensures.step;
    }
