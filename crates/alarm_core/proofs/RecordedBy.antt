-- The transitions of an object, and the records of each log, one more at a time.
use Rattle.std.proofs.Common.{◌≡◌, ℕ, ◌+◌, ◌<◌, Option, List, [], ◌∷◌, ◌++◌, map, length, take, get_or, Vec, Global, sym, ap, ◌∙◌, append_assoc}
use Rattle.std.specs.List.{flat_map}
use Rattle.std.specs.Option.{option_to_list}
use Rattle.std.proofs.lemmas.List.{append-nil, map-append, take_more}
use Rattle.std.proofs.lemmas.List.Concat.{flat_map-append}
use Rattle.event_log.specs.History.{Call}

-- one and another, if they are there
pub two_made : {X Y : Type 0} (f : X → Y) (first second : Option X) (old between new : List Y) → between ≡ old ++ map f (option_to_list first) → new ≡ between ++ map f (option_to_list second) →
    new ≡ old ++ map f (option_to_list first ++ option_to_list second)
two_made f first second old between new e g =
    g
    ∙ (ap (λ ys. ys ++ map f (option_to_list second)) e
    ∙ (append_assoc old (map f (option_to_list first)) (map f (option_to_list second))
    ∙ ap (λ ys. old ++ ys) (sym (map-append f (option_to_list first) (option_to_list second)))))

module _ {X Y : Type 0} (f : X → List Y) where
  -- one more of a list
  pub flat_map_more : (xs : List X) (place : ℕ) (x : X) (old new : List Y) → place < length xs → x ≡ get_or xs place x → old ≡ flat_map f (take place xs) → new ≡ old ++ f x →
      new ≡ flat_map f (take (place + 1) xs)
  flat_map_more xs place x old new within is so_far e =
      e
      ∙ (ap (λ ys. ys ++ f x) so_far
      ∙ (ap (λ ys. flat_map f (take place xs) ++ ys) (sym (append-nil (f x)))
      ∙ (sym (flat_map-append f (take place xs) (x ∷ []))
      ∙ ap (flat_map f) (ap (λ y. take place xs ++ y ∷ []) is ∙ sym (take_more xs place x within)))))

pub calls_more : {X : Type 0} (f : X → List Call) (xs : List X) (place : ℕ) (x : X) (old new : List (Vec Call Global)) (list : Vec Call Global) → place < length xs → x ≡ get_or xs place x →
    map (λ (l : Vec Call Global). l.items) old ≡ map f (take place xs) → list.items ≡ f x → new ≡ old ++ list ∷ [] → map (λ (l : Vec Call Global). l.items) new ≡ map f (take (place + 1) xs)
calls_more f xs place x old new list within is so_far made e =
    let items = λ (l : Vec Call Global). l.items in
    ap (map items) e
    ∙ (map-append items old (list ∷ [])
    ∙ (ap (λ ys. ys ++ list.items ∷ []) so_far
    ∙ (ap (λ y. map f (take place xs) ++ y ∷ []) made
    ∙ (sym (map-append f (take place xs) (x ∷ []))
    ∙ ap (map f) (ap (λ y. take place xs ++ y ∷ []) is ∙ sym (take_more xs place x within))))))
