-- Lists: what is written of their elements, one after the other, and of those that pass a test; and numbers that ascend.
use Rattle.std.proofs.Common.{◌≡◌, ℕ, zero, suc, ◌<◌, ◌==◌, nat_lt, Bool, true, false, true≢false, cond, ◌&&◌, ◌||◌, if◌then◌else◌, List, [], ◌∷◌, ◌++◌, map, filter, refl, sym, ap, ◌∙◌, subst, arith}
use Rattle.std.specs.Prelude.{All, AllPairs, Contains}
use Rattle.std.specs.List.{flat_map, list_all, list_any}
use Rattle.std.proofs.lemmas.Bool.{eqb-true, ltb-true}
use Rattle.std.proofs.lemmas.List.Elements.{All-cons}
use Rattle.std.proofs.lemmas.List.Kept.{AllPairs-cons, AllPairs-filter}
use Rattle.bac_tags.specs.Parameters.{SpellsEach}

pub and_both : (a b : Bool) → (a && b) ≡ true → (a ≡ true) × (b ≡ true)
and_both true b h = (refl, h)
and_both false b h = absurd (true≢false (sym h))

-- ---- what is written of elements

pub each_of : {X : Type 0} (Is : List ℕ → X → Type 0) (write : X → List ℕ) → ((x : X) → Is (write x) x) → (xs : List X) → SpellsEach Is (flat_map write xs) xs
each_of Is write is [] = refl
each_of Is write is (x ∷ xs) = (write x, flat_map write xs, refl, is x, each_of Is write is xs)

pub flat_map_map : {X Y : Type 0} (write : Y → List ℕ) (f : X → Y) (xs : List X) → flat_map write (map f xs) ≡ flat_map (λ x. write (f x)) xs
flat_map_map write f [] = refl
flat_map_map write f (x ∷ xs) = ap (λ octets. write (f x) ++ octets) (flat_map_map write f xs)

-- nothing is written of those that don't pass
pub picked : {X Y : Type 0} (f : X → Y) (test : X → Bool) (write : Y → List ℕ) (each : X → List ℕ) → ((x : X) → each x ≡ (if test x then write (f x) else [])) → (xs : List X) →
    flat_map each xs ≡ flat_map write (map f (filter test xs))
picked f test write each same [] = refl
picked {X} {Y} f test write each same (x ∷ xs) = ap (λ octets. octets ++ flat_map each xs) (same x) ∙ by_test (picked f test write each same xs) (test x)
  where
    by_test : flat_map each xs ≡ flat_map write (map f (filter test xs)) → (passes : Bool) →
        (if passes then write (f x) else []) ++ flat_map each xs ≡ flat_map write (map f (cond passes (x ∷ filter test xs) (filter test xs)))
    by_test rest true = ap (λ octets. write (f x) ++ octets) rest
    by_test rest false = rest

-- those that pass a test are among those that pass a weaker one
pub picked_among : {X Y : Type 0} (f : X → Y) (weak : X → Bool) (test : Y → Bool) (write : Y → List ℕ) (each : X → List ℕ) → ((x : X) → each x ≡ (if test (f x) then write (f x) else [])) →
    ((x : X) → test (f x) ≡ true → weak x ≡ true) → (xs : List X) → flat_map each xs ≡ flat_map write (filter test (map f (filter weak xs)))
picked_among f weak test write each same implies [] = refl
picked_among {X} {Y} f weak test write each same implies (x ∷ xs) = ap (λ octets. octets ++ flat_map each xs) (same x) ∙ by_tests (picked_among f weak test write each same implies xs) (weak x) (test (f x)) refl refl
  where
    by_tests : flat_map each xs ≡ flat_map write (filter test (map f (filter weak xs))) → (weakly passes : Bool) → weak x ≡ weakly → test (f x) ≡ passes →
        (if passes then write (f x) else []) ++ flat_map each xs ≡ flat_map write (filter test (map f (cond weakly (x ∷ filter weak xs) (filter weak xs))))
    by_tests rest true true w p =
        subst (λ (b : Bool). write (f x) ++ flat_map each xs ≡ flat_map write (cond b (f x ∷ filter test (map f (filter weak xs))) (filter test (map f (filter weak xs))))) (sym p)
        (ap (λ octets. write (f x) ++ octets) rest)
    by_tests rest true false w p =
        subst (λ (b : Bool). flat_map each xs ≡ flat_map write (cond b (f x ∷ filter test (map f (filter weak xs))) (filter test (map f (filter weak xs))))) (sym p) rest
    by_tests rest false true w p = absurd (true≢false (sym (implies x p) ∙ w))
    by_tests rest false false w p = rest

-- ---- numbers

abbrev pub rises : List ℕ → Bool
rises [] = true
rises (x ∷ xs) = list_all (λ y. nat_lt x y) xs && rises xs

all_above : (x : ℕ) (xs : List ℕ) → list_all (λ y. nat_lt x y) xs ≡ true → All (λ y. x < y) xs
all_above x [] h = λ k d within. absurd (omega (arith, within))
all_above x (y ∷ ys) h =
    let both = and_both (nat_lt x y) (list_all (λ z. nat_lt x z) ys) h in
    All-cons (λ z. x < z) y ys (ltb-true x y both.0) (all_above x ys both.1)

pub rising : (xs : List ℕ) → rises xs ≡ true → AllPairs (λ a b. a < b) xs
rising [] h = λ i j d before within. absurd (omega (arith, within))
rising (x ∷ xs) h =
    let both = and_both (list_all (λ y. nat_lt x y) xs) (rises xs) h in
    AllPairs-cons (λ a b. a < b) x xs (all_above x xs both.0) (rising xs both.1)

pub still_rising : (test : ℕ → Bool) (xs : List ℕ) → rises xs ≡ true → AllPairs (λ a b. a < b) (filter test xs)
still_rising test xs h = AllPairs-filter (λ a b. a < b) test xs (rising xs h)

-- ---- what a list contains

abbrev pub is_among : List ℕ → ℕ → Bool
is_among xs n = list_any (λ x. x == n) xs

contains_more : (x : ℕ) (xs : List ℕ) (n : ℕ) → Contains xs n → Contains (x ∷ xs) n
contains_more x xs n h = (suc h.0, omega (arith, h.1), h.2)

contains_first : (x : ℕ) (xs : List ℕ) (n : ℕ) → x ≡ n → Contains (x ∷ xs) n
contains_first x xs n same = (zero, omega arith, same)

-- one that is among them and passes is among those that pass
pub contains_kept : (test : ℕ → Bool) (n : ℕ) → test n ≡ true → (xs : List ℕ) → is_among xs n ≡ true → Contains (filter test xs) n
contains_kept test n passes [] h = absurd (true≢false (sym h))
contains_kept test n passes (x ∷ xs) h = by_first (contains_kept test n passes xs) (x == n) refl h
  where
    later : (b : Bool) → Contains (filter test xs) n → Contains (cond b (x ∷ filter test xs) (filter test xs)) n
    later true c = contains_more x (filter test xs) n c
    later false c = c

    by_first : (is_among xs n ≡ true → Contains (filter test xs) n) → (b : Bool) → (x == n) ≡ b → (b || is_among xs n) ≡ true → Contains (cond (test x) (x ∷ filter test xs) (filter test xs)) n
    by_first more true e among =
        let same = eqb-true x n e in
        subst (λ (b : Bool). Contains (cond b (x ∷ filter test xs) (filter test xs)) n) (sym (ap test same ∙ passes)) (contains_first x (filter test xs) n same)
    by_first more false e among = later (test x) (more among)

-- and what is among those passes
pub contained_passes : (test : ℕ → Bool) (n : ℕ) (xs : List ℕ) → Contains (filter test xs) n → test n ≡ true
contained_passes test n [] h = absurd (omega (arith, h.1))
contained_passes test n (x ∷ xs) h = by_test (contained_passes test n xs) (test x) refl h
  where
    by_place : (Contains (filter test xs) n → test n ≡ true) → test x ≡ true → Contains (x ∷ filter test xs) n → test n ≡ true
    by_place more e (zero, within, same) = ap test (sym same) ∙ e
    by_place more e (suc k, within, same) = more (k, omega (arith, within), same)

    by_test : (Contains (filter test xs) n → test n ≡ true) → (b : Bool) → test x ≡ b → Contains (cond b (x ∷ filter test xs) (filter test xs)) n → test n ≡ true
    by_test more true e c = by_place more e c
    by_test more false e c = more c
