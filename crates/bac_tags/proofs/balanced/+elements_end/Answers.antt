use Rattle.std.proofs.Common.{◌≡◌, ◌≢◌, ℕ, ◌+◌, false, get_or, refl, sym, ap, ◌∙◌, arith, rules, inl, inr}
use Rattle.std.specs.Prelude.{◌⊎◌}
use Rattle.bac_tags.specs.BalancedSteps.{elements_end}
use Rattle.bac_tags.proofs.Balance.{not_true, not_false, step_without, step_cut, step_over, step_into, step_into_none, step_into_some, step_application, step_closes, step_other}
use Rattle.bac_tags.proofs.Unwinding.{started, gone, passed, opened, closed, ended}
use Rattle.bac_tags.proofs.balanced.+elements_end.Goals as goal
use Rattle.bac_tags.proofs.balanced.+elements_end.Goals.{then-not-tag-2-via-then-not-tag-2, then-not-tag-2-via-else-not-tag-2+then-tag-numbers}

pub tags-init : goal.tags-init
tags-init t c = record {
  later = omega arith;
  within = omega arith;
  few = omega arith;
  long = refl;
  left = started c.args.input.now _ c.args.at c.args.number refl;
}

pub returns-in_default-clause-exact : goal.returns-in_default-clause-exact
returns-in_default-clause-exact t c =
    gone c.args.input.now c.tags.numbers c.tags.inner _ _ c.tags.invariant.left
    (step_without c.args.input.now c.tags.place (get_or c.tags.numbers c.tags.inner 0) (λ i. omega (arith, c.type_inv.input i)) (λ x e. c.in_default.not-Ok x (c.read_tag.ensures.exact ∙ e)))

pub returns-then-input-after-clause-exact : goal.returns-then-input-after-clause-exact
returns-then-input-after-clause-exact t c =
    gone c.args.input.now c.tags.numbers c.tags.inner _ _ c.tags.invariant.left
    (step_cut c.args.input.now c.tags.place (get_or c.tags.numbers c.tags.inner 0) c.in-Ok.tag c.in-Ok.after c.in-Primitive.length (λ i. omega (arith, c.type_inv.input i)) c.in-Ok.ensures.exact c.in-Primitive.is (omega (arith, c.if-input-after.true, c.content_size-size.ensures)))

pub tags-preserved-in-Primitive : goal.tags-preserved-in-Primitive
tags-preserved-in-Primitive t c =
    let top = get_or c.tags.numbers c.tags.inner 0 in
    let whole = step_over c.args.input.now c.tags.place top c.in-Ok.tag c.in-Ok.after c.in-Primitive.length (λ i. omega (arith, c.type_inv.input i)) c.in-Ok.ensures.exact c.in-Primitive.is (omega (arith, c.if-input-after.false, c.in-Ok.ensures.within, c.content_size-size.ensures)) in
    record {
      later = omega (arith, c.in-Ok.ensures.within);
      within = omega (arith, c.if-input-after.false, c.in-Ok.ensures.within);
      few = c.tags.invariant.few;
      long = c.tags.invariant.long;
      left = passed c.args.input.now c.tags.numbers c.tags.inner _ _ _ c.tags.invariant.left (whole ∙ ap (λ (n : ℕ). elements_end c.args.input.now (c.in-Ok.after + n) top) (sym c.content_size-size.ensures.size));
    }

pub returns-in-Opening-clause-exact : goal.returns-in-Opening-clause-exact
returns-in-Opening-clause-exact t c =
    gone c.args.input.now c.tags.numbers c.tags.inner _ _ c.tags.invariant.left
    (step_application c.args.input.now c.tags.place (get_or c.tags.numbers c.tags.inner 0) c.in-Ok.tag c.in-Ok.after (λ i. omega (arith, c.type_inv.input i)) c.in-Ok.ensures.exact c.in-Opening.is (not_true _ c.if-not-tag.true))

pub tags-preserved-then-inner-lt-OPEN : goal.tags-preserved-then-inner-lt-OPEN
tags-preserved-then-inner-lt-OPEN t c =
    let into = step_into c.args.input.now c.tags.place (get_or c.tags.numbers c.tags.inner 0) c.in-Ok.tag c.in-Ok.after (λ i. omega (arith, c.type_inv.input i)) c.in-Ok.ensures.exact c.in-Opening.is (not_false _ c.if-not-tag.false) in
    record {
      later = omega (arith, c.in-Ok.ensures.within);
      within = omega (arith, c.in-Ok.ensures.within);
      few = omega (arith, c.if-inner-lt-OPEN.true);
      long = search rules;
      left = opened c.args.input.now c.tags.numbers c.tags.inner (c.tags.inner + 1) c.in-Ok.tag.number c.in-Ok.after _ (omega arith) (omega (arith, c.tags.invariant.long)) (passed c.args.input.now c.tags.numbers c.tags.inner _ _ _ c.tags.invariant.left into);
    }

pub returns-in_err-next-in-Opening-2-clause-exact : goal.returns-in_err-next-in-Opening-2-clause-exact
returns-in_err-next-in-Opening-2-clause-exact t c =
    let none = gone c.args.input.now c.tags.numbers c.tags.inner _ _ c.tags.invariant.left
    (step_into_none c.args.input.now c.tags.place (get_or c.tags.numbers c.tags.inner 0) c.in-Ok.tag c.in-Ok.after (λ i. omega (arith, c.type_inv.input i)) c.in-Ok.ensures.exact c.in-Opening.is (not_false _ c.if-not-tag.false) c.in_err-next-in-Opening-2.ensures.exact) in
    cc

pub tags-preserved-else-inner-lt-OPEN : goal.tags-preserved-else-inner-lt-OPEN
tags-preserved-else-inner-lt-OPEN t c =
    let over = step_into_some c.args.input.now c.tags.place (get_or c.tags.numbers c.tags.inner 0) c.in-Ok.tag c.in-Ok.after (c.in_ok-next-in-Opening-2.field-0-0, c.in_ok-next-in-Opening-2.next) (λ i. omega (arith, c.type_inv.input i)) c.in-Ok.ensures.exact c.in-Opening.is (not_false _ c.if-not-tag.false) c.in_ok-next-in-Opening-2.ensures.exact in
    record {
      later = omega (arith, c.in-Ok.ensures.within, c.in_ok-next-in-Opening-2.ensures.within);
      within = omega (arith, c.in_ok-next-in-Opening-2.ensures.within);
      few = c.tags.invariant.few;
      long = c.tags.invariant.long;
      left = passed c.args.input.now c.tags.numbers c.tags.inner _ _ _ c.tags.invariant.left over;
    }

pub returns-then-not-tag-2-clause-exact : goal.returns-then-not-tag-2-clause-exact
returns-then-not-tag-2-clause-exact t c =
    let why : (c.in-Ok.tag.context ≡ false) ⊎ (c.in-Ok.tag.number ≢ get_or c.tags.numbers c.tags.inner 0) = elim c.then-not-tag-2.branch [
      | then-not-tag-2-via-then-not-tag-2 w ↦ inl (not_true _ w.if-not-tag-2.true)
      | then-not-tag-2-via-else-not-tag-2+then-tag-numbers w ↦ inr w.if-tag-numbers.true
    ] in
    gone c.args.input.now c.tags.numbers c.tags.inner _ _ c.tags.invariant.left
    (step_other c.args.input.now c.tags.place (get_or c.tags.numbers c.tags.inner 0) c.in-Ok.tag c.in-Ok.after (λ i. omega (arith, c.type_inv.input i)) c.in-Ok.ensures.exact c.in-Closing.is why)

pub returns-then-inner-eq0-clause-exact : goal.returns-then-inner-eq0-clause-exact
returns-then-inner-eq0-clause-exact t c =
    let shut = step_closes c.args.input.now c.tags.place (get_or c.tags.numbers c.tags.inner 0) c.in-Ok.tag c.in-Ok.after (λ i. omega (arith, c.type_inv.input i)) c.in-Ok.ensures.exact c.in-Closing.is (not_false _ c.if-not-tag-2.false) c.if-tag-numbers.false in
    ended c.args.input.now c.tags.numbers c.tags.inner c.tags.place c.in-Ok.after _ c.if-inner-eq0.true (passed c.args.input.now c.tags.numbers c.tags.inner _ _ _ c.tags.invariant.left shut)

pub tags-preserved : goal.tags-preserved
tags-preserved t c =
    let shut = step_closes c.args.input.now c.tags.place (get_or c.tags.numbers c.tags.inner 0) c.in-Ok.tag c.in-Ok.after (λ i. omega (arith, c.type_inv.input i)) c.in-Ok.ensures.exact c.in-Closing.is (not_false _ c.if-not-tag-2.false) c.if-tag-numbers.false in
    record {
      later = omega (arith, c.in-Ok.ensures.within);
      within = omega (arith, c.in-Ok.ensures.within);
      few = omega (arith, c.tags.invariant.few);
      long = c.tags.invariant.long;
      left = closed c.args.input.now c.tags.numbers c.tags.inner c.tags.place c.in-Ok.after _ (omega (arith, c.if-inner-eq0.false)) (passed c.args.input.now c.tags.numbers c.tags.inner _ _ _ c.tags.invariant.left shut);
    }
