-- A loop that goes over a list and keeps what passes a test.
use Rattle.std.proofs.Common.{◌≡◌, ℕ, ◌+◌, ◌<◌, Bool, true, false, List, [], ◌∷◌, ◌++◌, length, map, cond, filter, take, get_or, refl, ap, ◌∙◌, sym}
use Rattle.std.proofs.lemmas.List.{map-append}
use Rattle.std.proofs.lemmas.List.Elements.{filter_more}

mapped_one : {X Y : Type 0} (f : X → Y) (x : X) (b : Bool) → cond b (f x ∷ []) [] ≡ map f (cond b (x ∷ []) [])
mapped_one f x true = refl
mapped_one f x false = refl

-- the same, where each that passes is mapped
pub kept_map_more : {X Y : Type 0} (f : X → Y) (test : X → Bool) (xs : List X) (i : ℕ) (x : X) (before after : List Y) → i < length xs → x ≡ get_or xs i x →
    before ≡ map f (filter test (take i xs)) → after ≡ before ++ cond (test x) (f x ∷ []) [] → after ≡ map f (filter test (take (i + 1) xs))
kept_map_more f test xs i x before after within is b a =
    let so_far = filter test (take i xs) in
    let one : cond (test x) (x ∷ []) [] ≡ cond (test (get_or xs i x)) (get_or xs i x ∷ []) [] = ap (λ y. cond (test y) (y ∷ []) []) is in
    a
    ∙ (ap (λ ys. ys ++ cond (test x) (f x ∷ []) []) b
    ∙ (ap (λ ys. map f so_far ++ ys) (mapped_one f x (test x))
    ∙ (sym (map-append f so_far (cond (test x) (x ∷ []) []))
    ∙ ap (map f) (ap (λ ys. so_far ++ ys) one ∙ sym (filter_more test xs i x within)))))
