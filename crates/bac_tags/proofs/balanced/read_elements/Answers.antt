use Rattle.std.proofs.Common.{◌≡◌, ℕ, Result, Ok, Err, refl, sym, subst, ◌∙◌, arith}
use Rattle.std.specs.Prelude.{IfOk, IsOkAnd, slice_range}
use Rattle.bac_tags.specs.declared.fault.TagFault.{TagFault}
use Rattle.bac_tags.proofs.Between.{elements_found, elements_again}
use Rattle.bac_tags.proofs.balanced.read_elements.Goals as goal

pub returns-clause-found : goal.returns-clause-found
returns-clause-found c =
    when_ok c.elements_at.result (λ x e. elements_found c.args.input.now c.args.at c.args.number x (λ i. omega (arith, c.type_inv.input i)) c.requires (sym c.elements_at.ensures.exact ∙ e))
  where
    when_ok : {P : (ℕ × ℕ) × ℕ → Type 0} (r : Result ((ℕ × ℕ) × ℕ) TagFault) → ((x : (ℕ × ℕ) × ℕ) → r ≡ Ok x → P x) → IfOk r P
    when_ok (Ok x) f = f x refl
    when_ok (Err d) f = tt

pub returns-clause-only : goal.returns-clause-only
returns-clause-only c = λ elements end s.
    let e = elements_again c.args.input.now c.args.at c.args.number elements end (λ i. omega (arith, c.type_inv.input i)) c.requires s in
    subst (λ (r : Result ((ℕ × ℕ) × ℕ) TagFault). IsOkAnd r (λ x. (slice_range c.args.input.now x.0.0 x.0.1 ≡ elements) × (x.1 ≡ end))) (sym (c.elements_at.ensures.exact ∙ e.read)) (e.range, refl)
