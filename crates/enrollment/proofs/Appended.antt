-- What is there once the next of a list was appended: what is made of those that pass, or what they are written as.
use Rattle.std.proofs.Common.{◌≡◌, ℕ, ◌+◌, ◌<◌, ◌≤◌, Bool, true, false, cond, List, [], ◌∷◌, ◌++◌, length, get_or, take, map, filter, refl, ap, sym, ◌∙◌, append-nil, append_assoc}
use Rattle.std.specs.List.{flat_map}
use Rattle.std.proofs.lemmas.List.{map_more, map-append, take_more, take_all}
use Rattle.std.proofs.lemmas.List.Elements.{filter_more}

made_if : {X Y : Type 0} (f : X → Y) (x : X) (b : Bool) → map f (cond b (x ∷ []) []) ≡ cond b (f x ∷ []) []
made_if f x true = refl
made_if f x false = refl

pub passes_next : {X Y : Type 0} (f : X → Y) (p : X → Bool) (xs : List X) (i : ℕ) (x : X) (old now new : List Y) → i < length xs → x ≡ get_or xs i x → now ≡ old ++ map f (filter p (take i xs)) → new ≡ now ++ cond (p x) (f x ∷ []) []
    → new ≡ old ++ map f (filter p (take (i + 1) xs))
passes_next {X} {Y} f p xs i x old now new within is before next =
    let passed : List X = filter p (take i xs) in
    let one : List X = cond (p x) (x ∷ []) [] in
    let made : List Y = cond (p x) (f x ∷ []) [] in
    let more : filter p (take (i + 1) xs) ≡ passed ++ one = filter_more p xs i x within ∙ ap (λ (y : X). passed ++ cond (p y) (y ∷ []) []) (sym is) in
    let all : map f (filter p (take (i + 1) xs)) ≡ map f passed ++ made = ap (map f) more ∙ map-append f passed one ∙ ap (λ (ys : List Y). map f passed ++ ys) (made_if f x (p x)) in
    next ∙ ap (λ (ys : List Y). ys ++ made) before ∙ append_assoc old (map f passed) made ∙ ap (λ (ys : List Y). old ++ ys) (sym all)

pub passes_all : {X Y : Type 0} (f : X → Y) (p : X → Bool) (xs : List X) (i : ℕ) (old now : List Y) → length xs ≤ i → now ≡ old ++ map f (filter p (take i xs)) → now ≡ old ++ map f (filter p xs)
passes_all {X} {Y} f p xs i old now past before = before ∙ ap (λ (ys : List X). old ++ map f (filter p ys)) (take_all i xs past)

pub makes_next : {X Y : Type 0} (f : X → Y) (xs : List X) (i : ℕ) (x : X) (old now new : List Y) → i < length xs → x ≡ get_or xs i x → now ≡ old ++ map f (take i xs) → new ≡ now ++ f x ∷ [] → new ≡ old ++ map f (take (i + 1) xs)
makes_next {X} {Y} f xs i x old now new within is before next =
    let made : List Y = map f (take i xs) in
    let all : map f (take (i + 1) xs) ≡ made ++ f x ∷ [] = map_more f xs i x within ∙ ap (λ (y : X). made ++ f y ∷ []) (sym is) in
    next ∙ ap (λ (ys : List Y). ys ++ f x ∷ []) before ∙ append_assoc old made (f x ∷ []) ∙ ap (λ (ys : List Y). old ++ ys) (sym all)

pub makes_all : {X Y : Type 0} (f : X → Y) (xs : List X) (i : ℕ) (old now : List Y) → length xs ≤ i → now ≡ old ++ map f (take i xs) → now ≡ old ++ map f xs
makes_all {X} {Y} f xs i old now past before = before ∙ ap (λ (ys : List X). old ++ map f ys) (take_all i xs past)

-- lists that are given one after the other
pub given : {X Y : Type 0} (f : X → List Y) (xs ys : List X) → flat_map f (xs ++ ys) ≡ flat_map f xs ++ flat_map f ys
given f [] ys = refl
given f (x ∷ xs) ys = ap (λ zs. f x ++ zs) (given f xs ys) ∙ sym (append_assoc (f x) (flat_map f xs) (flat_map f ys))

given_if : {X Y : Type 0} (f : X → List Y) (x : X) (b : Bool) → flat_map f (cond b (x ∷ []) []) ≡ cond b (f x) []
given_if f x true = append-nil (f x)
given_if f x false = refl

pub gives_next : {X Y : Type 0} (f : X → List Y) (xs : List X) (i : ℕ) (x : X) (old now new : List Y) → i < length xs → x ≡ get_or xs i x → now ≡ old ++ flat_map f (take i xs) → new ≡ now ++ f x → new ≡ old ++ flat_map f (take (i + 1) xs)
gives_next {X} {Y} f xs i x old now new within is before next =
    let made : List Y = flat_map f (take i xs) in
    let more : take (i + 1) xs ≡ take i xs ++ x ∷ [] = take_more xs i x within ∙ ap (λ (y : X). take i xs ++ y ∷ []) (sym is) in
    let all : flat_map f (take (i + 1) xs) ≡ made ++ f x = ap (flat_map f) more ∙ given f (take i xs) (x ∷ []) ∙ ap (λ (ys : List Y). made ++ ys) (append-nil (f x)) in
    next ∙ ap (λ (ys : List Y). ys ++ f x) before ∙ append_assoc old made (f x) ∙ ap (λ (ys : List Y). old ++ ys) (sym all)

pub gives_all : {X Y : Type 0} (f : X → List Y) (xs : List X) (i : ℕ) (old now : List Y) → length xs ≤ i → now ≡ old ++ flat_map f (take i xs) → now ≡ old ++ flat_map f xs
gives_all {X} {Y} f xs i old now past before = before ∙ ap (λ (ys : List X). old ++ flat_map f ys) (take_all i xs past)

pub gives_passing : {X Y : Type 0} (f : X → List Y) (p : X → Bool) (xs : List X) (i : ℕ) (x : X) (old now new : List Y) → i < length xs → x ≡ get_or xs i x → now ≡ old ++ flat_map f (filter p (take i xs)) → new ≡ now ++ cond (p x) (f x) []
    → new ≡ old ++ flat_map f (filter p (take (i + 1) xs))
gives_passing {X} {Y} f p xs i x old now new within is before next =
    let passed : List X = filter p (take i xs) in
    let one : List X = cond (p x) (x ∷ []) [] in
    let made : List Y = cond (p x) (f x) [] in
    let more : filter p (take (i + 1) xs) ≡ passed ++ one = filter_more p xs i x within ∙ ap (λ (y : X). passed ++ cond (p y) (y ∷ []) []) (sym is) in
    let all : flat_map f (filter p (take (i + 1) xs)) ≡ flat_map f passed ++ made = ap (flat_map f) more ∙ given f passed one ∙ ap (λ (ys : List Y). flat_map f passed ++ ys) (given_if f x (p x)) in
    next ∙ ap (λ (ys : List Y). ys ++ made) before ∙ append_assoc old (flat_map f passed) made ∙ ap (λ (ys : List Y). old ++ ys) (sym all)

pub gives_all_passing : {X Y : Type 0} (f : X → List Y) (p : X → Bool) (xs : List X) (i : ℕ) (old now : List Y) → length xs ≤ i → now ≡ old ++ flat_map f (filter p (take i xs)) → now ≡ old ++ flat_map f (filter p xs)
gives_all_passing {X} {Y} f p xs i old now past before = before ∙ ap (λ (ys : List X). old ++ flat_map f (filter p ys)) (take_all i xs past)
