-- The first element that passes a test, and those that pass it from there on.
use Rattle.std.proofs.Common.{rules, arith, ◌≡◌, ℕ, zero, suc, ◌+◌, ◌<◌, ◌≤◌, Bool, true, false, List, [], ◌∷◌, length, drop, refl, sym, ap, ◌∙◌, inl, inr}
use Rattle.std.specs.List.{filter, slice_get, position_or_len}
use Rattle.std.specs.Option.{IfSome, IsSomeAnd}
use Rattle.std.proofs.lemmas.Bool.{cases_Bool}
use Rattle.std.proofs.Math.Seq.{drop-nil}

module _ {X : Type 0} (p : X → Bool) where
  here : (y : X) (ys : List X) → p y ≡ true → position_or_len p (y ∷ ys) ≡ 0
  here y ys e = rw e refl

  there : (y : X) (ys : List X) → p y ≡ false → position_or_len p (y ∷ ys) ≡ suc (position_or_len p ys)
  there y ys e = rw e (search rules)

  kept : (y : X) (ys : List X) → p y ≡ true → filter p (y ∷ ys) ≡ y ∷ filter p ys
  kept y ys e = rw e refl

  passed_over : (y : X) (ys : List X) → p y ≡ false → filter p (y ∷ ys) ≡ filter p ys
  passed_over y ys e = rw e refl

  -- those before it fail
  pub before : (ys : List X) (k : ℕ) → k < position_or_len p ys → IfSome (slice_get ys k) (λ y. p y ≡ false)
  before [] k h = tt
  before (y ∷ ys) zero h = elim (cases_Bool (p y)) [
    | inl passes ↦ let first = here y ys passes in absurd (omega arith)
    | inr fails ↦ fails
  ]
  before (y ∷ ys) (suc k) h = elim (cases_Bool (p y)) [
    | inl passes ↦ let first = here y ys passes in absurd (omega arith)
    | inr fails ↦ let later = there y ys fails in before ys k (omega arith)
  ]

  -- where there is none, none is kept
  pub none_kept : (ys : List X) → length ys ≤ position_or_len p ys → filter p ys ≡ []
  none_kept [] h = refl
  none_kept (y ∷ ys) h = elim (cases_Bool (p y)) [
    | inl passes ↦ let first = here y ys passes in absurd (omega arith)
    | inr fails ↦ let later = there y ys fails in passed_over y ys fails ∙ none_kept ys (omega arith)
  ]

  -- it passes, and it is the first that is kept
  pub first_kept : (ys : List X) → position_or_len p ys < length ys → IsSomeAnd (slice_get ys (position_or_len p ys)) (λ y. (p y ≡ true) × (filter p ys ≡ y ∷ filter p (drop (suc (position_or_len p ys)) ys)))
  first_kept [] h = absurd (omega arith)
  first_kept (y ∷ ys) h = elim (cases_Bool (p y)) [
    | inl passes ↦ rw (here y ys passes) (passes, kept y ys passes)
    | inr fails ↦
        let later = there y ys fails in
        let rest = first_kept ys (omega arith) in
        rw (later, passed_over y ys fails) rest
  ]

-- an element of what is left after a few
pub slice_get-drop : {X : Type 0} (n k : ℕ) (xs : List X) → slice_get (drop n xs) k ≡ slice_get xs (n + k)
slice_get-drop zero k xs = search rules
slice_get-drop (suc n) k [] = search rules
slice_get-drop (suc n) k (x ∷ xs) = search (rules, slice_get-drop n k xs)

pub drop-drop : {X : Type 0} (n k : ℕ) (xs : List X) → drop k (drop n xs) ≡ drop (n + k) xs
drop-drop zero k xs = search rules
drop-drop (suc n) k [] = drop-nil k ∙ sym (drop-nil (suc n + k))
drop-drop (suc n) k (x ∷ xs) =
    let more : suc (n + k) ≡ suc n + k = omega arith in
    drop-drop n k xs ∙ ap (λ m. drop m (x ∷ xs)) more
