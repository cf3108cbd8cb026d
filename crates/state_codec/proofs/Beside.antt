-- Two lists whose items stand beside each other.
use Rattle.std.proofs.Common.{◌≡◌, ℕ, List, [], ◌∷◌, ◌++◌, length, map, refl, ap, ◌∙◌, arith}
use Rattle.std.specs.List.{All, AllZip, flat_map}
use Rattle.std.proofs.lemmas.List.Elements.{All-nil, All-cons, All-head, All-tail}

pub beside_each : {X Y : Type 0} (R S : X → Y → Type 0) → ((x : X) (y : Y) → R x y → S x y) → (xs : List X) (ys : List Y) → AllZip R xs ys → AllZip S xs ys
beside_each R S f [] [] are = tt
beside_each R S f [] (y ∷ ys) are = absurd are
beside_each R S f (x ∷ xs) [] are = absurd are
beside_each R S f (x ∷ xs) (y ∷ ys) are = (f x y are.0, beside_each R S f xs ys are.1)

pub beside_more : {X Y : Type 0} (R : X → Y → Type 0) (xs others : List X) (ys more : List Y) → AllZip R xs ys → AllZip R others more → AllZip R (xs ++ others) (ys ++ more)
beside_more R [] others [] more are later = later
beside_more R [] others (y ∷ ys) more are later = absurd are
beside_more R (x ∷ xs) others [] more are later = absurd are
beside_more R (x ∷ xs) others (y ∷ ys) more are later = (are.0, beside_more R xs others ys more are.1 later)

pub beside_mapped : {A B X Y : Type 0} (R : X → Y → Type 0) (f : A → X) (g : B → Y) (xs : List A) (ys : List B) → AllZip (λ a b. R (f a) (g b)) xs ys → AllZip R (map f xs) (map g ys)
beside_mapped R f g [] [] are = tt
beside_mapped R f g [] (y ∷ ys) are = absurd are
beside_mapped R f g (x ∷ xs) [] are = absurd are
beside_mapped R f g (x ∷ xs) (y ∷ ys) are = (are.0, beside_mapped R f g xs ys are.1)

-- only the second ones are mapped
pub beside_made : {X B Y : Type 0} (R : X → Y → Type 0) (g : B → Y) (xs : List X) (ys : List B) → AllZip (λ x b. R x (g b)) xs ys → AllZip R xs (map g ys)
beside_made R g [] [] are = tt
beside_made R g [] (y ∷ ys) are = absurd are
beside_made R g (x ∷ xs) [] are = absurd are
beside_made R g (x ∷ xs) (y ∷ ys) are = (are.0, beside_made R g xs ys are.1)

pub seconds_all : {X Y : Type 0} (R : X → Y → Type 0) (P : Y → Type 0) → ((x : X) (y : Y) → R x y → P y) → (xs : List X) (ys : List Y) → AllZip R xs ys → All P ys
seconds_all R P f [] [] are = All-nil P
seconds_all R P f [] (y ∷ ys) are = absurd are
seconds_all R P f (x ∷ xs) [] are = absurd are
seconds_all R P f (x ∷ xs) (y ∷ ys) are = All-cons P y ys (f x y are.0) (seconds_all R P f xs ys are.1)

-- what is the same of the two of each pair
pub same_of : {X Y Z : Type 0} (R : X → Y → Type 0) (f : X → Z) (g : Y → Z) → ((x : X) (y : Y) → R x y → g y ≡ f x) → (xs : List X) (ys : List Y) → AllZip R xs ys → map g ys ≡ map f xs
same_of R f g is [] [] are = refl
same_of R f g is [] (y ∷ ys) are = absurd are
same_of R f g is (x ∷ xs) [] are = absurd are
same_of {Z = Z} R f g is (x ∷ xs) (y ∷ ys) are = ap (λ (z : Z). z ∷ map g ys) (is x y are.0) ∙ ap (λ (zs : List Z). f x ∷ zs) (same_of R f g is xs ys are.1)

-- what is written of the one is what is written of the other
pub written_same : {X Y : Type 0} (R : X → Y → Type 0) (f : X → List ℕ) (g : Y → List ℕ) → ((x : X) (y : Y) → R x y → f x ≡ g y) → (xs : List X) (ys : List Y) → AllZip R xs ys → flat_map f xs ≡ flat_map g ys
written_same R f g is [] [] are = refl
written_same R f g is [] (y ∷ ys) are = absurd are
written_same R f g is (x ∷ xs) [] are = absurd are
written_same R f g is (x ∷ xs) (y ∷ ys) are = ap (λ (t : List ℕ). t ++ flat_map f xs) (is x y are.0) ∙ ap (λ (t : List ℕ). g y ++ t) (written_same R f g is xs ys are.1)

-- those in front beside those in front, where they are as many
pub beside_apart : {X Y : Type 0} (R : X → Y → Type 0) (xs others : List X) (ys more : List Y) → length xs ≡ length ys → AllZip R (xs ++ others) (ys ++ more) → AllZip R xs ys × AllZip R others more
beside_apart R [] others [] more long are = (tt, are)
beside_apart R [] others (y ∷ ys) more long are = absurd (omega (arith, long))
beside_apart R (x ∷ xs) others [] more long are = absurd (omega (arith, long))
beside_apart R (x ∷ xs) others (y ∷ ys) more long are = let t = beside_apart R xs others ys more (omega (arith, long)) are.1 in ((are.0, t.0), t.1)

pub beside_unmapped : {A B X Y : Type 0} (R : X → Y → Type 0) (f : A → X) (g : B → Y) (xs : List A) (ys : List B) → AllZip R (map f xs) (map g ys) → AllZip (λ a b. R (f a) (g b)) xs ys
beside_unmapped R f g [] [] are = tt
beside_unmapped R f g [] (y ∷ ys) are = absurd are
beside_unmapped R f g (x ∷ xs) [] are = absurd are
beside_unmapped R f g (x ∷ xs) (y ∷ ys) are = (are.0, beside_unmapped R f g xs ys are.1)

-- two things that are so of each pair
pub beside_both : {X Y : Type 0} (R S : X → Y → Type 0) (xs : List X) (ys : List Y) → AllZip R xs ys → AllZip S xs ys → AllZip (λ x y. R x y × S x y) xs ys
beside_both R S [] [] are too = tt
beside_both R S [] (y ∷ ys) are too = absurd are
beside_both R S (x ∷ xs) [] are too = absurd are
beside_both R S (x ∷ xs) (y ∷ ys) are too = ((are.0, too.0), beside_both R S xs ys are.1 too.1)

-- something that is so of each second one besides
pub beside_with : {X Y : Type 0} (R S : X → Y → Type 0) (P : Y → Type 0) → ((x : X) (y : Y) → R x y → P y → S x y) → (xs : List X) (ys : List Y) → AllZip R xs ys → All P ys → AllZip S xs ys
beside_with R S P f [] [] are all = tt
beside_with R S P f [] (y ∷ ys) are all = absurd are
beside_with R S P f (x ∷ xs) [] are all = absurd are
beside_with R S P f (x ∷ xs) (y ∷ ys) are all = (f x y are.0 (All-head P y ys all), beside_with R S P f xs ys are.1 (All-tail P y ys all))
