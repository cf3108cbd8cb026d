-- Two lists that stand beside each other.
use Rattle.std.proofs.Common.{◌≡◌, List, [], ◌∷◌, ◌++◌, length, map, refl, ap, arith}
use Rattle.std.specs.List.{zip}
use Rattle.std.proofs.lemmas.List.{length-append}

pub one_more_pair : {X Y : Type 0} (xs : List X) (ys : List Y) (x : X) (y : Y) → length xs ≡ length ys → zip (xs ++ x ∷ []) (ys ++ y ∷ []) ≡ zip xs ys ++ (x, y) ∷ []
one_more_pair [] [] x y same = refl
one_more_pair [] (b ∷ ys) x y same = absurd (omega (arith, same))
one_more_pair (a ∷ xs) [] x y same = absurd (omega (arith, same))
one_more_pair {X = X} {Y = Y} (a ∷ xs) (b ∷ ys) x y same = ap (λ (ps : List (X × Y)). (a, b) ∷ ps) (one_more_pair xs ys x y (omega (arith, same)))

pub still_paired : {X Y : Type 0} (xs : List X) (ys : List Y) (x : X) (y : Y) → length xs ≡ length ys → length (xs ++ x ∷ []) ≡ length (ys ++ y ∷ [])
still_paired xs ys x y same = omega (arith, same, length-append xs (x ∷ []), length-append ys (y ∷ []))

-- the first ones, and the second ones
abbrev pub first_of : {X Y : Type 0} → X × Y → X
first_of p = p.0

abbrev pub second_of : {X Y : Type 0} → X × Y → Y
second_of p = p.1

pub firsts : {X Y : Type 0} (xs : List X) (ys : List Y) → length xs ≡ length ys → map first_of (zip xs ys) ≡ xs
firsts [] [] same = refl
firsts [] (b ∷ ys) same = absurd (omega (arith, same))
firsts (a ∷ xs) [] same = absurd (omega (arith, same))
firsts {X = X} (a ∷ xs) (b ∷ ys) same = ap (λ (rest : List X). a ∷ rest) (firsts xs ys (omega (arith, same)))

pub seconds : {X Y : Type 0} (xs : List X) (ys : List Y) → length xs ≡ length ys → map second_of (zip xs ys) ≡ ys
seconds [] [] same = refl
seconds [] (b ∷ ys) same = absurd (omega (arith, same))
seconds (a ∷ xs) [] same = absurd (omega (arith, same))
seconds {Y = Y} (a ∷ xs) (b ∷ ys) same = ap (λ (bs : List Y). b ∷ bs) (seconds xs ys (omega (arith, same)))
