-- Whether notes are more than there may be.
use Rattle.std.proofs.Common.{◌≡◌, ◌↔◌, ℕ, ◌+◌, ◌<◌, ◌≤◌, Bool, true, false, true≢false, ◌&&◌, nat_lt, List, Ok, Err, refl, sym, ◌∙◌, arith}
use Rattle.std.specs.Result.{IsErrOf}
use Rattle.std.proofs.lemmas.Bool.{ltb-true, ltb-false}
use Rattle.bac_values.specs.declared.note.Note.{Note}
use Rattle.outbox.specs.declared.answers.QueueFault.{QueueFault}
use Rattle.outbox.specs.declared.answers.QueueFault.TheVariants.{Full, NoMemory}

both_true : (a b : Bool) → true ≡ (a && b) → (a ≡ true) × (b ≡ true)
both_true true b e = (refl, sym e)
both_true false b e = absurd (true≢false e)

pub is_above : (added would limit : ℕ) → true ≡ (nat_lt 0 added && nat_lt limit would) → (0 < added) × (limit < would)
is_above added would limit e = let both = both_true (nat_lt 0 added) (nat_lt limit would) e in (ltb-true 0 added both.0, ltb-true limit would both.1)

pub is_within : (unfinished added limit : ℕ) → unfinished ≤ limit → false ≡ (nat_lt 0 added && nat_lt limit (unfinished + added)) → unfinished + added ≤ limit
is_within unfinished added limit fits e = by_tests (nat_lt 0 added) (nat_lt limit (unfinished + added)) refl refl e
  where
    by_tests : (a b : Bool) → nat_lt 0 added ≡ a → nat_lt limit (unfinished + added) ≡ b → false ≡ (a && b) → unfinished + added ≤ limit
    by_tests true true f g h = absurd (true≢false (sym h))
    by_tests true false f g h = ltb-false limit (unfinished + added) g
    by_tests false b f g h = let none = ltb-false 0 added f in omega arith

module _ (total most : ℕ) (notes : List Note) (added : ℕ) where
  pub told_full : (a b : ℕ) (c : List Note) → a ≡ total → b ≡ most → c ≡ notes → 0 < added → most < total →
      (would limit : ℕ) (back : List Note) → (IsErrOf {T = Unit {0}} {E = QueueFault} (Err (Full a b c)) (Full would limit back)) ↔ ((would ≡ total) × (limit ≡ most) × (back ≡ notes) × (0 < added) × (limit < would))
  told_full a b c p q r some above would limit back = (
    λ h.
        let x : a ≡ would = cc in
        let y : b ≡ limit = cc in
        let z : c ≡ back = cc in
        (sym x ∙ p, sym y ∙ q, sym z ∙ r, some, omega arith),
    λ h.
        let x : a ≡ would = p ∙ sym h.0 in
        let y : b ≡ limit = q ∙ sym h.1 in
        let z : c ≡ back = r ∙ sym h.2 in
        λ k. Err (Full (x k) (y k) (z k)),
  )

  pub not_full : total ≤ most → (P : Type 0) → (P → ⊥) → (would limit : ℕ) (back : List Note) → P ↔ ((would ≡ total) × (limit ≡ most) × (back ≡ notes) × (0 < added) × (limit < would))
  not_full within P never would limit back = (λ h. absurd (never h), λ h. let e = h.0 in let f = h.1 in let g = h.4 in absurd (omega (arith, e, f, g)))

pub no_memory_is_not_full : (back : List Note) (would limit : ℕ) (notes : List Note) → IsErrOf {T = Unit {0}} {E = QueueFault} (Err (NoMemory back)) (Full would limit notes) → ⊥
no_memory_is_not_full back would limit notes h = cc

pub ok_is_not_full : (would limit : ℕ) (notes : List Note) → IsErrOf {T = Unit {0}} {E = QueueFault} (Ok tt) (Full would limit notes) → ⊥
ok_is_not_full would limit notes h = cc
