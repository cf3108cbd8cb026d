-- The notes before the first that is to be confirmed, one after the other.
use Rattle.std.proofs.Common.{◌≡◌, ℕ, suc, ◌+◌, ◌-◌, ◌<◌, ◌≤◌, Bool, true, false, not, List, [], ◌∷◌, ◌++◌, length, take, drop, map, get_or, min, max, cond, refl, sym, ◌∙◌, ap, inl, inr, arith}
use Rattle.std.specs.List.{position_or_len, count_by}
use Rattle.std.proofs.lemmas.List.{map_more, get_or-drop, length-drop, take_all, drop_all}
use Rattle.std.proofs.lemmas.List.Sums.{prefix_len-drop_yes, prefix_len-drop_no, sum_by-cons}
use Rattle.std.proofs.lemmas.Bool.{cases_lt}

module _ {X : Type 0} (p : X → Bool) where
  -- one that fails is passed over
  pub passed : (xs : List X) (place : ℕ) (x : X) → place < length xs → x ≡ get_or xs place x → p x ≡ false →
      position_or_len p (drop place xs) ≡ 1 + position_or_len p (drop (place + 1) xs)
  passed xs place x within is fails =
      let e : not (p (get_or xs place x)) ≡ true = ap (λ y. not (p y)) (sym is) ∙ ap not fails in
      prefix_len-drop_yes (λ y. not (p y)) xs place x within e

  -- one that passes is the first
  pub stops : (xs : List X) (place : ℕ) (x : X) → place < length xs → x ≡ get_or xs place x → p x ≡ true →
      position_or_len p (drop place xs) ≡ 0
  stops xs place x within is passes =
      let e : not (p (get_or xs place x)) ≡ false = ap (λ y. not (p y)) (sym is) ∙ ap not passes in
      prefix_len-drop_no (λ y. not (p y)) xs place x within e

  pub end_found : (xs : List X) (from place : ℕ) (x : X) → from + position_or_len p (drop from xs) ≡ place + position_or_len p (drop place xs) → from ≤ place →
      place < length xs → x ≡ get_or xs place x → p x ≡ true →
      take (place + 1 - from) (drop from xs) ≡ take (position_or_len p (drop from xs) + 1) (drop from xs)
  end_found xs from place x same above within is passes =
      let here = stops xs place x within is passes in
      let count : place + 1 - from ≡ position_or_len p (drop from xs) + 1 = omega (arith, here, same, above) in
      ap (λ n. take n (drop from xs)) count

  pub end_reached : (xs : List X) (from place : ℕ) → from + position_or_len p (drop from xs) ≡ place + position_or_len p (drop place xs) → from ≤ place →
      length xs ≤ place → take (place - from) (drop from xs) ≡ take (position_or_len p (drop from xs) + 1) (drop from xs)
  end_reached xs from place same above past =
      let size = length-drop from xs in
      let none : position_or_len p (drop place xs) ≡ 0 = ap (position_or_len p) (drop_all place xs past) in
      take_all (place - from) (drop from xs) (omega (arith, size, past)) ∙ sym (take_all (position_or_len p (drop from xs) + 1) (drop from xs) (omega (arith, size, past, same, none, above)))

  -- without the first, which fails
  pub first_dropped : (xs : List X) (x : X) → 0 < length xs → x ≡ get_or xs 0 x → p x ≡ false →
      drop (position_or_len p xs) xs ≡ drop (position_or_len p (drop 1 xs)) (drop 1 xs)
  first_dropped [] x h is fails = absurd (omega arith)
  first_dropped (y ∷ ys) x h is fails =
      let e : p y ≡ false = ap p (sym is) ∙ fails in
      let next : 1 + position_or_len p ys ≡ suc (position_or_len p ys) = omega arith in
      rw e (ap (λ n. drop n (y ∷ ys)) next)

  pub first_stays : (xs : List X) (x : X) → 0 < length xs → x ≡ get_or xs 0 x → p x ≡ true → drop (position_or_len p xs) xs ≡ xs
  first_stays [] x h is passes = refl
  first_stays (y ∷ ys) x h is passes =
      let e : p y ≡ true = ap p (sym is) ∙ passes in
      rw e refl

  -- those before the first that passes fail, so none of them counts
  before_by : (x : X) (xs : List X) → count_by p (take (position_or_len p xs) xs) ≡ 0 → (b : Bool) → p x ≡ b → count_by p (take (position_or_len p (x ∷ xs)) (x ∷ xs)) ≡ 0
  before_by x xs none true e = rw e refl
  before_by x xs none false e =
      let next : 1 + position_or_len p xs ≡ suc (position_or_len p xs) = omega arith in
      let later : count_by p (x ∷ take (position_or_len p xs) xs) ≡ 0 = sum_by-cons (λ y. cond (p y) 1 0) x (take (position_or_len p xs) xs) ∙ (rw e (omega (arith, none))) in
      rw e (ap (λ n. count_by p (take n (x ∷ xs))) next ∙ later)

  pub none_before : (xs : List X) → count_by p (take (position_or_len p xs) xs) ≡ 0
  none_before [] = refl
  none_before (x ∷ xs) = before_by x xs (none_before xs) (p x) refl

-- one more element through a function
pub one_more : {X Y : Type 0} (f : X → Y) (xs : List X) (from place : ℕ) (x : X) → from ≤ place → place < length xs → x ≡ get_or xs place x →
    map f (take (place + 1 - from) (drop from xs)) ≡ map f (take (place - from) (drop from xs)) ++ f x ∷ []
one_more f xs from place x above within is =
    let count : place + 1 - from ≡ (place - from) + 1 = omega (arith, above) in
    let size = length-drop from xs in
    let inside : place - from < length (drop from xs) = omega (arith, size, above, within) in
    let there : from + (place - from) ≡ place = omega (arith, above) in
    let at : get_or (drop from xs) (place - from) x ≡ x = get_or-drop from xs (place - from) x ∙ ap (λ n. get_or xs n x) there ∙ sym is in
    ap (λ n. map f (take n (drop from xs))) count ∙ map_more f (drop from xs) (place - from) x inside ∙ ap (λ y. map f (take (place - from) (drop from xs)) ++ f y ∷ []) at

-- where a loop over places has ended
pub same_front : {X : Type 0} (xs : List X) (from to place n : ℕ) → n ≡ length xs → from ≤ place → min to n ≤ place → place ≤ max from (min to n) →
    take (place - from) (drop from xs) ≡ take (to - from) (drop from xs)
same_front xs from to place n size above past near = elim (cases_lt n to) [
  | inl beyond ↦
      let left = length-drop from xs in
      take_all (place - from) (drop from xs) (omega (arith, left, size, past, beyond)) ∙ sym (take_all (to - from) (drop from xs) (omega (arith, left, size, beyond)))
  | inr within ↦
      let count : place - from ≡ to - from = omega (arith, above, past, near, within) in
      ap (λ k. take k (drop from xs)) count
]
