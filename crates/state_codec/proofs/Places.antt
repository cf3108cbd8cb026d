-- Whether there is an element at a place.
use Rattle.std.proofs.Common.{◌≡◌, ℕ, zero, suc, ◌<◌, true, ltb, List, [], ◌∷◌, length, is_some, slice_get, refl, sym, ap, ◌∙◌, arith, inl, inr}
use Rattle.std.proofs.lemmas.Bool.{cases_lt, lt-ltb, le-ltb}
use Rattle.std.proofs.lemmas.Option.{slice_get_past}

within : {X : Type 0} (xs : List X) (place : ℕ) → place < length xs → is_some (slice_get xs place) ≡ true
within [] place lt = absurd (omega (arith, lt))
within (x ∷ xs) zero lt = refl
within (x ∷ xs) (suc place) lt = within xs place (omega (arith, lt))

pub is_there : {X : Type 0} (xs : List X) (place : ℕ) → is_some (slice_get xs place) ≡ ltb place (length xs)
is_there xs place =
    elim (cases_lt place (length xs)) [
      | inl lt ↦ within xs place lt ∙ sym (lt-ltb place (length xs) lt)
      | inr le ↦ ap is_some (slice_get_past xs place le) ∙ sym (le-ltb place (length xs) le)
    ]
