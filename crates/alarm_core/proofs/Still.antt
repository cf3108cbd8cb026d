-- Nothing moves where no object does.
use Rattle.std.proofs.Common.{◌≡◌, ℕ, ◌<◌, zero, suc, List, [], ◌∷◌, ◌++◌, length, map, get_or, refl, ◌∙◌, sym, arith}
use Rattle.std.specs.List.{flat_map}
use Rattle.std.proofs.lemmas.List.Concat.{flat_map-cons}

pub front_none : {X : Type 0} (xs ys : List X) → xs ++ ys ≡ [] → xs ≡ []
front_none [] ys e = refl
front_none (x ∷ xs) ys e = absurd cc

pub back_none : {X : Type 0} (xs ys : List X) → xs ++ ys ≡ [] → ys ≡ []
back_none [] ys e = e
back_none (x ∷ xs) ys e = absurd cc

pub flat_map-none : {X Y : Type 0} (f : X → List Y) (xs : List X) (i : ℕ) (d : X) → i < length xs → flat_map f xs ≡ [] → f (get_or xs i d) ≡ []
flat_map-none f [] i d h e = absurd (omega arith)
flat_map-none f (x ∷ xs) zero d h e = front_none (f x) (flat_map f xs) (sym (flat_map-cons f x xs) ∙ e)
flat_map-none f (x ∷ xs) (suc i) d h e = flat_map-none f xs i d (omega arith) (back_none (f x) (flat_map f xs) (sym (flat_map-cons f x xs) ∙ e))

-- a list is empty where its map is
pub map-none : {X Y : Type 0} (f : X → Y) (xs : List X) → map f xs ≡ [] → xs ≡ []
map-none f [] e = refl
map-none f (x ∷ xs) e = absurd cc
