-- The greatest number for which a test passes that no greater one passes once it fails; and lists of so many leading elements.
use Rattle.std.proofs.Common.{◌≡◌, ℕ, zero, suc, ◌+◌, ◌<◌, ◌≤◌, Bool, true, false, List, [], ◌∷◌, ◌++◌, length, take, drop, refl, sym, ◌∙◌, ap, arith, slice_get, Some, if◌then◌else◌}
use Rattle.std.specs.Prelude.{flat_map, nat_lt}
use Rattle.std.proofs.lemmas.Bool.{ltb-true, ltb-false}
use Rattle.std.proofs.lemmas.List.{flat_map_more, get_or-drop, length-append, length-drop, take_more}
use Rattle.std.proofs.lemmas.Option.{get_or_from_slice_get, slice_get_within}
use Rattle.bac_tags.specs.Writing.{unsigned_size}
use Rattle.service_desk.specs.Ranges.{greatest}

pub by_case : {P : Type 0} (test : Bool) → (test ≡ true → P) → (test ≡ false → P) → P
by_case true holds fails = holds refl
by_case false holds fails = fails refl

-- no number from one on passes
pub greatest_stops : (test : ℕ → Bool) (sent count : ℕ) → ((n : ℕ) → sent < n → test n ≡ false) → sent ≤ count → greatest test count ≡ greatest test sent
unfolding greatest
greatest_stops test sent zero fails within = let none : zero ≡ sent = omega (arith, within) in ap (greatest test) none
greatest_stops test sent (suc m) fails within =
    by_case (nat_lt sent (suc m)) (λ less. let more = ltb-true sent (suc m) less in let before : sent ≤ m = omega (arith, more) in rw (fails (suc m) more) (greatest_stops test sent m fails before)) (λ not. let least = ltb-false sent (suc m) not in let same : suc m ≡ sent = omega (arith, within, least) in ap (greatest test) same)

-- one that passes is the greatest up to itself
pub greatest_passes : (test : ℕ → Bool) (n : ℕ) → test (n + 1) ≡ true → greatest test (n + 1) ≡ n + 1
unfolding greatest
greatest_passes test n passes =
    let next : n + 1 ≡ suc n = omega arith in
    let passed : test (suc n) ≡ true = ap test (sym next) ∙ passes in
    let there : greatest test (suc n) ≡ suc n = rw passed refl in
    ap (greatest test) next ∙ there ∙ sym next

-- tests that agree from 1 on
pub greatest_same : (test other : ℕ → Bool) (count : ℕ) → ((n : ℕ) → 0 < n → test n ≡ other n) → greatest test count ≡ greatest other count
unfolding greatest
greatest_same test other zero agree = refl
greatest_same test other (suc m) agree = ap (λ b. if b then suc m else greatest test m) (agree (suc m) (omega arith)) ∙ ap (λ n. if other (suc m) then suc m else n) (greatest_same test other m agree)

-- a greater number has no fewer octets
pub size_grows : (m n : ℕ) → m ≤ n → unsigned_size m ≤ unsigned_size n
size_grows m n least = grind arith

module _ {X Y : Type 0} (f : X → List Y) where
  -- more leading elements have no fewer octets
  pub leading_grow : (xs : List X) (m n : ℕ) → m ≤ n → length (flat_map f (take m xs)) ≤ length (flat_map f (take n xs))
  leading_grow [] zero n least = omega arith
  leading_grow [] (suc m) zero least = omega arith
  leading_grow [] (suc m) (suc n) least = omega arith
  leading_grow (x ∷ xs) zero n least = omega arith
  leading_grow (x ∷ xs) (suc m) zero least = omega (arith, least)
  leading_grow (x ∷ xs) (suc m) (suc n) least =
      omega (arith, length-append (f x) (flat_map f (take m xs)), length-append (f x) (flat_map f (take n xs)), leading_grow xs m n (omega (arith, least)))

  -- one more element from a place on
  pub one_more : (xs : List X) (first sent : ℕ) (x : X) → slice_get xs (first + sent) ≡ Some x →
      flat_map f (take (sent + 1) (drop first xs)) ≡ flat_map f (take sent (drop first xs)) ++ f x
  one_more xs first sent x found =
      let within = slice_get_within xs (first + sent) x found in
      let at = get_or-drop first xs sent x ∙ get_or_from_slice_get xs (first + sent) x x found in
      let short : sent < length (drop first xs) = omega (arith, length-drop first xs, within) in
      ap (flat_map f) (take_more (drop first xs) sent x short ∙ ap (λ y. take sent (drop first xs) ++ y ∷ []) at) ∙ sym (flat_map_more f [] (take sent (drop first xs)) x)

pub greatest_within : (test : ℕ → Bool) (count : ℕ) → greatest test count ≤ count
unfolding greatest
greatest_within test zero = omega arith
greatest_within test (suc m) = by_case (test (suc m)) (λ passes. rw passes (omega arith)) (λ fails. rw fails (omega (arith, greatest_within test m)))
