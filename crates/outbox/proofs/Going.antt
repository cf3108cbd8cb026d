-- One more of a list.
use Rattle.std.proofs.Common.{◌≡◌, ℕ, ◌+◌, ◌<◌, List, [], ◌∷◌, ◌++◌, length, take, drop, map, set, get_or, sym, ◌∙◌, ap, arith, append_assoc}
use Rattle.std.specs.List.{flat_map}
use Rattle.std.proofs.lemmas.List.{take_more, drop_more, map_more, flat_map_more, length-take-le, length-map, set_at, get_or_at}

pub flat_more : {X Y : Type 0} (f : X → List Y) (xs : List X) (i : ℕ) (x : X) → i < length xs → x ≡ get_or xs i x → flat_map f (take i xs) ++ f x ≡ flat_map f (take (i + 1) xs)
flat_more f xs i x within is =
    flat_map_more f [] (take i xs) x ∙ ap (flat_map f) (ap (λ y. take i xs ++ y ∷ []) is ∙ sym (take_more xs i x within))

-- a change of each element in its place, where those before i are changed
module _ {X : Type 0} (f : X → X) (xs now : List X) (i : ℕ) (same : now ≡ map f (take i xs) ++ drop i xs) (within : i < length xs) (x : X) where
  front_long : length (map f (take i xs)) ≡ i
  front_long = length-map (take i xs) f ∙ length-take-le i xs (omega arith)

  split_here : now ≡ map f (take i xs) ++ get_or xs i x ∷ drop (i + 1) xs
  split_here = same ∙ ap (λ ys. map f (take i xs) ++ ys) (drop_more xs i x within)

  pub unchanged_here : get_or now i x ≡ get_or xs i x
  unchanged_here = ap (λ ys. get_or ys i x) split_here ∙ get_or_at (map f (take i xs)) (get_or xs i x) (drop (i + 1) xs) x i front_long

  pub changed_here : (new : X) → new ≡ f (get_or now i x) → set now i new ≡ map f (take (i + 1) xs) ++ drop (i + 1) xs
  changed_here new is =
      let to : new ≡ f (get_or xs i x) = is ∙ ap f unchanged_here in
      ap (λ ys. set ys i new) split_here ∙ set_at (map f (take i xs)) (get_or xs i x) (drop (i + 1) xs) new i front_long
      ∙ ap (λ y. map f (take i xs) ++ y ∷ drop (i + 1) xs) to
      ∙ sym (append_assoc (map f (take i xs)) (f (get_or xs i x) ∷ []) (drop (i + 1) xs))
      ∙ ap (λ ys. ys ++ drop (i + 1) xs) (sym (map_more f xs i x within))
