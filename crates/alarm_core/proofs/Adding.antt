-- Adding up to a most, as 64 bits allow.
use Rattle.std.proofs.Common.{◌≡◌, ℕ, ◌+◌, ◌≤◌, min, List, [], ◌∷◌, fold, map, sum_by, ◌∙◌, arith}
use Rattle.std.proofs.lemmas.List.Sums.{sum_by-cons}

folded_from : {X : Type 0} (most : ℕ) (f : X → ℕ) (a : ℕ) (xs : List X) → a ≤ most → fold (λ s n. min (s + n) most) a (map (λ x. min (f x) most) xs) ≡ min (a + sum_by f xs) most
folded_from most f a [] small = omega (arith, small)
folded_from most f a (x ∷ xs) small =
    let next : min (a + min (f x) most) most ≤ most = omega arith in
    folded_from most f (min (a + min (f x) most) most) xs next ∙ omega (arith, sum_by-cons f x xs)

-- it gives the sum, or the most
pub folded : {X : Type 0} (most : ℕ) (f : X → ℕ) (xs : List X) → fold (λ s n. min (s + n) most) 0 (map (λ x. min (f x) most) xs) ≡ min (sum_by f xs) most
folded most f xs =
    let from_nothing : min (0 + sum_by f xs) most ≡ min (sum_by f xs) most = omega arith in
    folded_from most f 0 xs (omega arith) ∙ from_nothing
