-- How many are made of each of a list, counted one after the other.
use Rattle.std.proofs.Common.{◌≡◌, ℕ, ◌+◌, ◌<◌, ◌≤◌, List, [], ◌++◌, length, get_or, take, map, refl, ap, sym, ◌∙◌, length-append, arith}
use Rattle.std.specs.List.{flat_map}
use Rattle.std.proofs.lemmas.List.{take_all}
use Rattle.std.proofs.lemmas.List.Folds.{flat_map-map}
use Rattle.enrollment.proofs.Appended.{gives_next}

pub counts_next : {X Y : Type 0} (f : X → List Y) (xs : List X) (i : ℕ) (x : X) (others now new : ℕ) → i < length xs → x ≡ get_or xs i x →
    now ≡ others + length (flat_map f (take i xs)) → new ≡ now + length (f x) → new ≡ others + length (flat_map f (take (i + 1) xs))
counts_next {X} {Y} f xs i x others now new within is before next =
    let made : List Y = flat_map f (take i xs) in
    let more : made ++ f x ≡ flat_map f (take (i + 1) xs) = gives_next f xs i x [] made (made ++ f x) within is refl refl in
    let long : length made + length (f x) ≡ length (flat_map f (take (i + 1) xs)) = sym (length-append made (f x)) ∙ ap length more in
    omega (arith, before, next, long)

pub counts_all : {X Y Z : Type 0} (f : Y → List Z) (g : X → Y) (xs : List X) (i others now : ℕ) → length xs ≤ i →
    now ≡ others + length (flat_map (λ x. f (g x)) (take i xs)) → now ≡ others + length (flat_map f (map g xs))
counts_all f g xs i others now past before =
    before ∙ ap (λ ys. others + length (flat_map (λ x. f (g x)) ys)) (take_all i xs past) ∙ ap (λ zs. others + length zs) (sym (flat_map-map f g xs))
