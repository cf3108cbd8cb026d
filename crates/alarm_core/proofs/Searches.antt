-- What is found in a list, and in one whose elements are mapped.
use Rattle.std.proofs.Common.{◌≡◌, Bool, true, false, cond, Option, Some, None, is_some, List, [], ◌∷◌, map, refl}
use Rattle.std.specs.List.{find}
use Rattle.std.specs.Option.{option_map}

found_in_image : {X Y : Type 0} (f : X → Y) (x : X) (b : Bool) (image : Option Y) (rest : Option X) → image ≡ option_map f rest →
    cond b (Some (f x)) image ≡ option_map f (cond b (Some x) rest)
found_in_image f x true image rest e = refl
found_in_image f x false image rest e = e

pub find_map : {X Y : Type 0} (f : X → Y) (test : Y → Bool) (xs : List X) → find test (map f xs) ≡ option_map f (find (λ x. test (f x)) xs)
find_map f test [] = refl
find_map f test (x ∷ xs) = found_in_image f x (test (f x)) (find test (map f xs)) (find (λ y. test (f y)) xs) (find_map f test xs)

pub find_same : {X : Type 0} (first second : X → Bool) → ((x : X) → first x ≡ second x) → (xs : List X) → find first xs ≡ find second xs
find_same first second same xs = λ k. find (λ x. same x k) xs

passes_by : {X : Type 0} (test : X → Bool) (x y : X) (rest : Option X) → (rest ≡ Some y → test y ≡ true) → (b : Bool) → test x ≡ b → cond b (Some x) rest ≡ Some y → test y ≡ true
passes_by test x y rest later true passed e = cc
passes_by test x y rest later false failed e = later e

-- what is found passes the test
pub passes : {X : Type 0} (test : X → Bool) (y : X) (xs : List X) → find test xs ≡ Some y → test y ≡ true
passes test y [] e = cc
passes test y (x ∷ xs) e = passes_by test x y (find test xs) (passes test y xs) (test x) refl e

pub is_some-map : {X Y : Type 0} (f : X → Y) (found : Option X) → is_some (option_map f found) ≡ is_some found
is_some-map f None = refl
is_some-map f (Some x) = refl

pub is_none : {X Y : Type 0} (f : X → Y) (found : Option X) → option_map f found ≡ None → found ≡ None
is_none f None e = refl
is_none f (Some x) e = cc
