-- Two functions that agree on the elements of a list make the same of it.
use Rattle.std.proofs.Common.{◌≡◌, List, [], ◌∷◌, ◌++◌, map, refl, ap, ◌∙◌, sym}
use Rattle.std.specs.List.{All, flat_map}
use Rattle.std.proofs.lemmas.List.Concat.{flat_map-cons}
use Rattle.std.proofs.lemmas.List.Elements.{All-head, All-tail}

module _ {X Y : Type 0} (P : X → Type 0) where
  pub map_agree : (f g : X → Y) → ((x : X) → P x → f x ≡ g x) → (xs : List X) → All P xs → map f xs ≡ map g xs
  map_agree f g same [] all = refl
  map_agree f g same (x ∷ xs) all =
      ap (λ y. y ∷ map f xs) (same x (All-head P x xs all)) ∙ ap (λ ys. g x ∷ ys) (map_agree f g same xs (All-tail P x xs all))

  pub flat_map_agree : (f g : X → List Y) → ((x : X) → P x → f x ≡ g x) → (xs : List X) → All P xs → flat_map f xs ≡ flat_map g xs
  flat_map_agree f g same [] all = refl
  flat_map_agree f g same (x ∷ xs) all =
      flat_map-cons f x xs
      ∙ (ap (λ ys. ys ++ flat_map f xs) (same x (All-head P x xs all))
      ∙ (ap (λ ys. g x ++ ys) (flat_map_agree f g same xs (All-tail P x xs all))
      ∙ sym (flat_map-cons g x xs)))
