-- Where the first element that passes is, and what stands before and after it.
use Rattle.std.proofs.Common.{◌≡◌, inl, inr, ℕ, zero, suc, ◌+◌, ◌-◌, ◌<◌, ◌≤◌, Bool, false, not, Some, None, List, [], ◌∷◌, length, take, drop, ap, ◌∙◌, sym, arith, length-drop}
use Rattle.std.specs.List.{position, position_or_len}
use Rattle.std.proofs.lemmas.Grind.{common_steps}
use Rattle.std.proofs.lemmas.Bool.{cases_Bool}
use Rattle.std.proofs.lemmas.List.Sums.{prefix_len-le-length}
use Rattle.std.proofs.lemmas.List.{take_all}

pub first_within : {X : Type 0} (p : X → Bool) (xs : List X) → position_or_len p xs ≤ length xs
first_within p xs = prefix_len-le-length (λ x. not (p x)) xs

pub first_at : {X : Type 0} (p : X → Bool) (xs : List X) (i : ℕ) → position p xs ≡ Some i → (i < length xs) × (position_or_len p xs ≡ i)
first_at p xs i e = (grind (arith, common_steps), grind (arith, common_steps))

pub first_nowhere : {X : Type 0} (p : X → Bool) (xs : List X) → position p xs ≡ None → position_or_len p xs ≡ length xs
first_nowhere p xs e = let within = first_within p xs in grind (arith, common_steps)

pub nowhere_first : {X : Type 0} (p : X → Bool) (xs : List X) → length xs ≤ position_or_len p xs → position p xs ≡ None
nowhere_first p xs e = grind (arith, common_steps)

-- behind elements that do not pass, the first is as far behind as in what is left of them
pub first_behind : {X : Type 0} (p : X → Bool) (xs : List X) (seen : ℕ) → seen ≤ position_or_len p xs → position_or_len p xs ≡ seen + position_or_len p (drop seen xs)
first_behind p [] seen h = grind (arith, common_steps)
first_behind p (x ∷ xs) zero h = grind (arith, common_steps)
first_behind p (x ∷ xs) (suc k) h =
    elim (cases_Bool (p x)) [
      | inl passes ↦ grind (arith, common_steps)
      | inr fails ↦ let rest : k ≤ position_or_len p xs = grind (arith, common_steps) in let more = first_behind p xs k rest in grind (arith, common_steps)
    ]

-- where none passes in a front, the first is behind it
pub first_past_front : {X : Type 0} (p : X → Bool) (xs ys : List X) → take (length xs) ys ≡ xs → length xs ≤ position_or_len p xs → length xs ≤ position_or_len p ys
first_past_front p [] ys same none = grind (arith, common_steps)
first_past_front p (x ∷ xs) [] same none = grind (arith, common_steps)
first_past_front p (x ∷ xs) (y ∷ ys) same none =
    elim (cases_Bool (p x)) [
      | inl passes ↦ grind (arith, common_steps)
      | inr fails ↦
          let rest : length xs ≤ position_or_len p xs = grind (arith, common_steps) in
          let head : y ≡ x = cc in
          let tail : take (length xs) ys ≡ xs = cc in
          let more = first_past_front p xs ys tail rest in
          let fails_too : p y ≡ false = ap p head ∙ fails in
          grind (arith, common_steps)
    ]

tail_of : {X : Type 0} (xs : List X) (seen : ℕ) → take (length xs - seen) (drop seen xs) ≡ drop seen xs
tail_of xs seen = take_all (length xs - seen) (drop seen xs) (simp length-drop (omega arith))

-- the first in what is left of a slice, where none passes before
pub first_in_tail : {X : Type 0} (p : X → Bool) (xs : List X) (seen i : ℕ) → seen ≤ position_or_len p xs → position p (take (length xs - seen) (drop seen xs)) ≡ Some i → seen + i ≡ position_or_len p xs
first_in_tail p xs seen i h e =
    let found = first_at p (drop seen xs) i (ap (position p) (sym (tail_of xs seen)) ∙ e) in
    omega (arith, found.1, first_behind p xs seen h)

pub nowhere_in_tail : {X : Type 0} (p : X → Bool) (xs : List X) (seen : ℕ) → seen ≤ position_or_len p xs → position p (take (length xs - seen) (drop seen xs)) ≡ None → length xs ≡ position_or_len p xs
nowhere_in_tail p xs seen h e =
    let none = first_nowhere p (drop seen xs) (ap (position p) (sym (tail_of xs seen)) ∙ e) in
    omega (arith, none, length-drop seen xs, first_behind p xs seen h, first_within p xs)
