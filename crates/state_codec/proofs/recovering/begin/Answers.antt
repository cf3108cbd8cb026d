use Rattle.std.proofs.Common.{◌⊎◌, inl, inr, List, ℕ, subst, sym}
use Rattle.state_codec.specs.Spelled.{SpellsState}
use Rattle.state_codec.proofs.recovering.begin.Goals as goal

first_of : {A B : Type 0} → A ⊎ B → (B → A) → A
first_of (inl a) follows = a
first_of (inr b) follows = follows b

pub returns-in-Ok-clause-only : goal.returns-in-Ok-clause-only
returns-in-Ok-clause-only c = λ state spells.
    first_of (c.in-Ok.ensures.only state (subst (λ (octets : List ℕ). SpellsState c.args.site.now octets state) (sym c.as_slice-2.ensures.same) spells)) (λ refused. absurd cc)
