use Rattle.std.proofs.Common.{◌≡◌, ◌∙◌, ℕ, ◌≤◌, ◌+◌, refl, ap, sym, subst, arith}
use Rattle.std.specs.List.{flat_map}
use Rattle.std.proofs.lemmas.Result.{IfOk-from_err, MatchResult-from_err}
use Rattle.enrollment.specs.Objects.{written}
use Rattle.object_table.specs.declared.change.Change.{Change}
use Rattle.alarm_core.specs.CoreSteps.{evaluated_all, transitions_by}
use Rattle.alarm_core.specs.DueSteps.{DetectionsState, LeadsBack, all_once, detections_of, due_count, dues_of, start_of, touched_by}
use Rattle.alarm_core.specs.Logs.{HasNoLog}
use Rattle.alarm_core.specs.State.{CoreState}
use Rattle.alarm_core.proofs.Apart.{written_apart}
use Rattle.alarm_core.proofs.DueCounts.{touching_raises}
use Rattle.alarm_core.proofs.MovesTold.{at_site}
use Rattle.alarm_core.proofs.state.Core.change.Goals as goal

no_more : (n m : ℕ) → n ≤ n + m
no_more n m = omega arith

at_most : (n m k steps : ℕ) → n ≤ steps + m → m ≤ k → n ≤ steps + k
at_most n m k steps few more = omega (arith, few, more)

pub invariant_of-self-2 : goal.invariant_of-self-2
invariant_of-self-2 g c =
    let old = c.self.inside.detections.values in
    record {
      site = c.self.invariant.site;
      zone = c.self.invariant.zone;
      moment = c.self.invariant.moment;
      limit = c.self.invariant.limit;
      peers = c.self.invariant.peers;
      known = c.self.invariant.known;
      lists = c.self.invariant.lists;
      members = c.self.invariant.members;
      identifiers = c.self.invariant.identifiers;
      apart = subst HasNoLog (sym c.in_ok-undo.ensures.values) (written_apart c.in_ok-copy_of_change.field-0 old c.self.invariant.apart);
    }

pub returns-in_err-evaluate : goal.returns-in_err-evaluate
returns-in_err-evaluate g c =
    let old = c.args.self.now in
    let moment = c.args.at.now.moment in
    let formers = c.args.round.now.formers.items in
    let start = start_of formers (detections_of old) in
    let result = c.from_residual.result in
    let failed = c.from_residual.ensures.0 in
    let steps : c.evaluate.new.steps ≤ c.args.steps.now + due_count moment (dues_of (detections_of old)) =
    subst (λ (s : DetectionsState). c.evaluate.new.steps ≤ c.args.steps.now + due_count moment (dues_of s)) (ap detections_of c.self.view_is) c.evaluate.ensures.steps in
    record {
      rest = λ k. record (c.self.view_is k) { values = c.evaluate.new.self.values; alarms = c.evaluate.new.self.alarms };
      values = IfOk-from_err result _ failed;
      alarms = IfOk-from_err result _ failed;
      transitions = IfOk-from_err result _ failed;
      back = IfOk-from_err result _ failed;
      takes = IfOk-from_err result _ failed;
      same = MatchResult-from_err result _ _ failed (λ fault. c.evaluate.ensures.values ∙ ap (λ (s : CoreState). s.values) c.self.view_is);
      undoes = c.evaluate.ensures.undoes start (subst (LeadsBack formers start) (ap detections_of (sym c.self.view_is)) c.requires.undoes);
      steps = at_most c.evaluate.new.steps (due_count moment (dues_of (detections_of old))) _ c.args.steps.now steps (touching_raises moment (touched_by c.args.change.now.object old.values) (detections_of old));
    }

pub returns-then-is_of_log : goal.returns-then-is_of_log
returns-then-is_of_log g c =
    let old = c.args.self.now in
    let at = c.args.at.now in
    let formers = c.args.round.now.formers.items in
    let start = start_of formers (detections_of old) in
    let values : c.evaluate.new.self.values ≡ old.values = c.evaluate.ensures.values ∙ ap (λ (s : CoreState). s.values) c.self.view_is in
    let same : old.values ≡ written c.args.change.now old.values = sym (c.is_of_log.ensures.log c.if-is_of_log.true) in
    let here = at_site at old.site at.moment c.requires.zone refl in
    let steps : c.evaluate.new.steps ≤ c.args.steps.now + due_count at.moment (dues_of (detections_of old)) =
    subst (λ (s : DetectionsState). c.evaluate.new.steps ≤ c.args.steps.now + due_count at.moment (dues_of s)) (ap detections_of c.self.view_is) c.evaluate.ensures.steps in
    record {
      rest = λ k. record (c.self.view_is k) { values = c.evaluate.new.self.values; alarms = c.evaluate.new.self.alarms };
      values = values ∙ same;
      alarms = c.in_ok-evaluate.ensures.alarms ∙ (ap (λ (s : CoreState). evaluated_all at s.values s.alarms) c.self.view_is ∙ (λ k. evaluated_all (here k) (same k) old.alarms));
      transitions = c.in_ok-evaluate.ensures.transitions ∙ (ap (λ (s : CoreState). flat_map (transitions_by at s.values) s.alarms) c.self.view_is ∙ (λ k. flat_map (transitions_by (here k) (same k)) old.alarms));
      back = values;
      takes = tt;
      same = tt;
      undoes = c.evaluate.ensures.undoes start (subst (LeadsBack formers start) (ap detections_of (sym c.self.view_is)) c.requires.undoes);
      steps = at_most c.evaluate.new.steps (due_count at.moment (dues_of (detections_of old))) _ c.args.steps.now steps (touching_raises at.moment (touched_by c.args.change.now.object old.values) (detections_of old));
    }

pub returns-in_err-copy_of_change : goal.returns-in_err-copy_of_change
returns-in_err-copy_of_change g c =
    let formers = c.args.round.now.formers.items in
    let result = c.from_residual-in_err-copy_of_change.result in
    let failed = c.from_residual-in_err-copy_of_change.ensures.0 in
    record {
      rest = λ k. record (c.self.view_is k) { values = c.self.inside.detections.values; alarms = c.self.inside.detections.alarms };
      values = IfOk-from_err result _ failed;
      alarms = IfOk-from_err result _ failed;
      transitions = IfOk-from_err result _ failed;
      back = IfOk-from_err result _ failed;
      takes = IfOk-from_err result _ failed;
      same = MatchResult-from_err result _ _ failed (λ fault. ap (λ (s : CoreState). s.values) c.self.view_is);
      undoes = subst (LeadsBack formers (start_of formers (detections_of c.args.self.now))) (ap detections_of (sym c.self.view_is)) c.requires.undoes;
      steps = no_more c.args.steps.now _;
    }

pub returns-in_err-undo : goal.returns-in_err-undo
returns-in_err-undo g c =
    let formers = c.args.round.now.formers.items in
    let result = c.from_residual-in_err-undo.result in
    let failed = c.from_residual-in_err-undo.ensures.0 in
    let copy = c.in_ok-copy_of_change.ensures.same in
    record {
      rest = λ k. record (c.self.view_is k) { values = c.write.new.self.values; alarms = c.write.new.self.alarms };
      values = IfOk-from_err result _ failed;
      alarms = IfOk-from_err result _ failed;
      transitions = IfOk-from_err result _ failed;
      back = IfOk-from_err result _ failed;
      takes = IfOk-from_err result _ failed;
      same = MatchResult-from_err result _ _ failed (λ fault. c.in_err-undo.ensures.same ∙ ap (λ (s : CoreState). s.values) c.self.view_is);
      undoes = subst (λ (s : DetectionsState). LeadsBack c.write.new.round.formers.items (start_of formers s) c.write.new.self) (ap detections_of c.self.view_is) c.write.ensures.undoes;
      steps = subst (λ (n : ℕ). c.write.new.steps ≤ c.args.steps.now + n)
          (λ k. due_count c.args.at.now.moment (all_once (touched_by (copy k).object (c.self.view_is k).values) (c.self.view_is k).alarms (dues_of (detections_of (c.self.view_is k))))) c.write.ensures.steps;
    }

pub returns : goal.returns
returns g c =
    let old = c.args.self.now in
    let at = c.args.at.now in
    let formers = c.args.round.now.formers.items in
    let here = at_site at old.site at.moment c.requires.zone refl in
    let copy = c.in_ok-copy_of_change.ensures.same in
    record {
      rest = λ k. record (c.self.view_is k) { values = c.write.new.self.values; alarms = c.write.new.self.alarms };
      values = c.in_ok-undo.ensures.values ∙ (λ k. written (copy k) (c.self.view_is k).values);
      alarms = c.in_ok-undo.ensures.alarms
          ∙ (ap (λ (change : Change). evaluated_all at (written change c.self.inside.detections.values) c.self.inside.detections.alarms) copy
          ∙ (ap (λ (s : CoreState). evaluated_all at (written c.args.change.now s.values) s.alarms) c.self.view_is ∙ (λ k. evaluated_all (here k) (written c.args.change.now old.values) old.alarms)));
      transitions = c.in_ok-undo.ensures.transitions
          ∙ (ap (λ (change : Change). flat_map (transitions_by at (written change c.self.inside.detections.values)) c.self.inside.detections.alarms) copy
          ∙ (ap (λ (s : CoreState). flat_map (transitions_by at (written c.args.change.now s.values)) s.alarms) c.self.view_is ∙ (λ k. flat_map (transitions_by (here k) (written c.args.change.now old.values)) old.alarms)));
      back = c.in_ok-undo.ensures.back ∙ ap (λ (s : CoreState). s.values) c.self.view_is;
      takes = c.in_ok-undo.ensures.takes;
      same = tt;
      undoes = subst (λ (s : DetectionsState). LeadsBack c.write.new.round.formers.items (start_of formers s) c.write.new.self) (ap detections_of c.self.view_is) c.write.ensures.undoes;
      steps = subst (λ (n : ℕ). c.write.new.steps ≤ c.args.steps.now + n)
          (λ k. due_count at.moment (all_once (touched_by (copy k).object (c.self.view_is k).values) (c.self.view_is k).alarms (dues_of (detections_of (c.self.view_is k))))) c.write.ensures.steps;
    }
