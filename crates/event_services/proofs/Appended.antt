-- What is there once parts are appended, one after the other.
use Rattle.std.proofs.Common.{◌≡◌, ℕ, ◌+◌, ◌<◌, ◌≤◌, List, [], ◌++◌, length, get_or, take, ap, sym, ◌∙◌, append_assoc, arith}
use Rattle.std.specs.Prelude.{flat_map}
use Rattle.std.proofs.lemmas.List.{length-append, flat_map_more, take_more, take_all}

pub append_two : (old one two a b : List ℕ) → one ≡ old ++ a → two ≡ one ++ b → two ≡ old ++ (a ++ b)
append_two old one two a b first second = second ∙ ap (λ (it : List ℕ). it ++ b) first ∙ append_assoc old a b

pub append_three : (old one two three a b c : List ℕ) → one ≡ old ++ a → two ≡ one ++ b → three ≡ two ++ c → three ≡ old ++ ((a ++ b) ++ c)
append_three old one two three a b c first second third = append_two old two three (a ++ b) c (append_two old one two a b first second) third

-- ---- what each of a list is written as, of the first ones and then of one more

pub append_next : {X : Type 0} (f : X → List ℕ) (xs : List X) (i : ℕ) (d : X) (old now new : List ℕ) → i < length xs → now ≡ old ++ flat_map f (take i xs) → new ≡ now ++ f (get_or xs i d) → new ≡ old ++ flat_map f (take (i + 1) xs)
append_next f xs i d old now new within before next =
    next
    ∙ ap (λ (it : List ℕ). it ++ f (get_or xs i d)) before
    ∙ flat_map_more f old (take i xs) (get_or xs i d)
    ∙ ap (λ ys. old ++ flat_map f ys) (sym (take_more xs i d within))

pub length_next : {X : Type 0} (f : X → List ℕ) (xs : List X) (i : ℕ) (d : X) (n k : ℕ) → i < length xs → length (flat_map f (take i xs)) ≡ n → length (f (get_or xs i d)) ≡ k → length (flat_map f (take (i + 1) xs)) ≡ n + k
length_next f xs i d n k within before next =
    let whole = ap (λ ys. length (flat_map f ys)) (take_more xs i d within) in
    let parts = ap length (flat_map_more f [] (take i xs) (get_or xs i d)) in
    omega (arith, whole, parts, length-append (flat_map f (take i xs)) (f (get_or xs i d)))

pub append_all : {X : Type 0} (f : X → List ℕ) (xs : List X) (i : ℕ) (old now : List ℕ) → length xs ≤ i → now ≡ old ++ flat_map f (take i xs) → now ≡ old ++ flat_map f xs
append_all f xs i old now past before = before ∙ ap (λ ys. old ++ flat_map f ys) (take_all i xs past)

pub length_all : {X : Type 0} (f : X → List ℕ) (xs : List X) (i n : ℕ) → length xs ≤ i → length (flat_map f (take i xs)) ≡ n → length (flat_map f xs) ≡ n
length_all f xs i n past before = ap (λ ys. length (flat_map f ys)) (sym (take_all i xs past)) ∙ before
