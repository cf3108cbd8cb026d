-- Strings of bits match by the book exactly where they do by the code.
use Rattle.std.proofs.Common.{◌≡◌, ℕ, zero, suc, ◌/◌, ◌%◌, ◌<◌, ◌^◌, ◌==◌, min, Bool, true, false, not, ◌&&◌, ◌||◌, bit_and, Some, None, length, refl, sym, ap, ◌∙◌, arith}
use Rattle.std.specs.Int.{bit_at}
use Rattle.std.specs.Int.Bits.{and_zero_r}
use Rattle.std.proofs.Math.Nat.{pow-suc}
use Rattle.std.proofs.lemmas.Nat.Bits.{bit_at_and, bit_at_lowest, bit_at-suc, same_from_bits}
use Rattle.std.proofs.lemmas.Bool.Decides.{nat_tests}
use Rattle.profile.specs.Rules.{bits_match, same}
use Rattle.book_laws.specs.Values.{bits_of}

-- the lowest bit and the other bits of what two numbers have in common

low_and : (a m : ℕ) → bit_and a m % 2 ≡ min (a % 2) (m % 2)
low_and a m =
    sym (bit_at_lowest (bit_and a m)) ∙ bit_at_and a m 0
    ∙ ap (λ x. min x (bit_at m 0)) (bit_at_lowest a) ∙ ap (λ x. min (a % 2) x) (bit_at_lowest m)

high_and : (a m : ℕ) → bit_and a m / 2 ≡ bit_and (a / 2) (m / 2)
high_and a m = same_from_bits (bit_and a m / 2) (bit_and (a / 2) (m / 2)) (λ i.
    sym (bit_at-suc (bit_and a m) i) ∙ bit_at_and a m (suc i)
    ∙ ap (λ x. min x (bit_at m (suc i))) (bit_at-suc a i) ∙ ap (λ x. min (bit_at (a / 2) i) x) (bit_at-suc m i)
    ∙ sym (bit_at_and (a / 2) (m / 2) i))

-- numbers are the same where their lowest bits and their halves are

by_halves : (x y : ℕ) → (x == y) ≡ ((x % 2 == y % 2) && (x / 2 == y / 2))
by_halves x y = grind (arith, nat_tests)

low_counts : (a b m : ℕ) → a < 2 → b < 2 → m < 2 → (min a m == min b m) ≡ (not (m == 1) || same (a == 1) (b == 1))
low_counts zero zero zero ha hb hm = refl
low_counts zero zero (suc zero) ha hb hm = refl
low_counts zero (suc zero) zero ha hb hm = refl
low_counts zero (suc zero) (suc zero) ha hb hm = refl
low_counts (suc zero) zero zero ha hb hm = refl
low_counts (suc zero) zero (suc zero) ha hb hm = refl
low_counts (suc zero) (suc zero) zero ha hb hm = refl
low_counts (suc zero) (suc zero) (suc zero) ha hb hm = refl
low_counts (suc (suc a)) b m ha hb hm = absurd (omega (arith, ha))
low_counts a (suc (suc b)) m ha hb hm = absurd (omega (arith, hb))
low_counts a b (suc (suc m)) ha hb hm = absurd (omega (arith, hm))

low_same : (a b : ℕ) → a < 2 → b < 2 → (a == b) ≡ same (a == 1) (b == 1)
low_same zero zero ha hb = refl
low_same zero (suc zero) ha hb = refl
low_same (suc zero) zero ha hb = refl
low_same (suc zero) (suc zero) ha hb = refl
low_same (suc (suc a)) b ha hb = absurd (omega (arith, ha))
low_same a (suc (suc b)) ha hb = absurd (omega (arith, hb))

halves_masked : (a b m : ℕ) → (bit_and a m == bit_and b m)
    ≡ ((not (m % 2 == 1) || same (a % 2 == 1) (b % 2 == 1)) && (bit_and (a / 2) (m / 2) == bit_and (b / 2) (m / 2)))
halves_masked a b m =
    by_halves (bit_and a m) (bit_and b m)
    ∙ ap (λ x. (x == bit_and b m % 2) && (bit_and a m / 2 == bit_and b m / 2)) (low_and a m)
    ∙ ap (λ x. (min (a % 2) (m % 2) == x) && (bit_and a m / 2 == bit_and b m / 2)) (low_and b m)
    ∙ ap (λ x. (min (a % 2) (m % 2) == min (b % 2) (m % 2)) && (x == bit_and b m / 2)) (high_and a m)
    ∙ ap (λ x. (min (a % 2) (m % 2) == min (b % 2) (m % 2)) && (bit_and (a / 2) (m / 2) == x)) (high_and b m)
    ∙ ap (λ x. x && (bit_and (a / 2) (m / 2) == bit_and (b / 2) (m / 2))) (low_counts (a % 2) (b % 2) (m % 2) (omega arith) (omega arith) (omega arith))

halves_same : (a b : ℕ) → (a == b) ≡ (same (a % 2 == 1) (b % 2 == 1) && (a / 2 == b / 2))
halves_same a b = by_halves a b ∙ ap (λ x. x && (a / 2 == b / 2)) (low_same (a % 2) (b % 2) (omega arith) (omega arith))

half : (n a : ℕ) → a < 2 ^ suc n → a / 2 < 2 ^ n
half n a h = omega (arith, h, pow-suc 2 n)

none : (a : ℕ) → a < 2 ^ 0 → a ≡ 0
none a h = let one : 2 ^ 0 ≡ 1 = refl in omega (arith, h, one)

and_swap : (x y z : Bool) → (x && (y && z)) ≡ (y && (x && z))
and_swap true true z = refl
and_swap true false z = refl
and_swap false true z = refl
and_swap false false z = refl

length_bits : (n a : ℕ) → length (bits_of n a) ≡ n
length_bits zero a = refl
length_bits (suc n) a = ap suc (length_bits n (a / 2))

zero_same : (m b : ℕ) → m ≡ 0 → (a : ℕ) → (bit_and a m == bit_and b m) ≡ true
zero_same m b e a = let left : bit_and a m ≡ 0 = rw e (and_zero_r a) in let right : bit_and b m ≡ 0 = rw e (and_zero_r b) in grind (arith, nat_tests)

and_true : (x y : Bool) → y ≡ true → x ≡ (x && y)
and_true true y e = sym e
and_true false y e = refl

nothing_is_more : (k : ℕ) (b : Bool) → false ≡ ((0 == suc k) && b)
nothing_is_more k b = let no : (0 == suc k) ≡ false = grind (arith, nat_tests) in sym (ap (λ x. x && b) no)

more_is_nothing : (n : ℕ) (b : Bool) → false ≡ ((suc n == 0) && b)
more_is_nothing n b = let no : (suc n == 0) ≡ false = grind (arith, nat_tests) in sym (ap (λ x. x && b) no)

one_more : (n k : ℕ) → (n == k) ≡ (suc n == suc k)
one_more n k = grind (arith, nat_tests)

no_bits : (k b : ℕ) → (0 == suc (length (bits_of k b))) ≡ false
no_bits k b = grind (arith, nat_tests)

no_more_bits : (n a : ℕ) → (suc (length (bits_of n a)) == 0) ≡ false
no_more_bits n a = grind (arith, nat_tests)

-- strings of bits under a mask, each with no bit beyond its size
pub masked : (m n k mask a b : ℕ) → mask < 2 ^ m → a < 2 ^ n → b < 2 ^ k →
    bits_match (Some (bits_of m mask)) (bits_of n a) (bits_of k b) ≡ ((n == k) && (bit_and a mask == bit_and b mask))
masked zero zero zero mask a b hm ha hb = sym (zero_same mask b (none mask hm) a)
masked (suc m) zero zero mask a b hm ha hb =
    let first = none a ha in let second = none b hb in
    sym (ap (λ x. bit_and x mask == bit_and b mask) first ∙ ap (λ x. bit_and 0 mask == bit_and x mask) second ∙ refl)
masked zero zero (suc k) mask a b hm ha hb = no_bits k (b / 2) ∙ nothing_is_more k (bit_and a mask == bit_and b mask)
masked (suc m) zero (suc k) mask a b hm ha hb = nothing_is_more k (bit_and a mask == bit_and b mask)
masked zero (suc n) zero mask a b hm ha hb = no_more_bits n (a / 2) ∙ more_is_nothing n (bit_and a mask == bit_and b mask)
masked (suc m) (suc n) zero mask a b hm ha hb = more_is_nothing n (bit_and a mask == bit_and b mask)
masked zero (suc n) (suc k) mask a b hm ha hb =
    ap (λ x. suc x == suc (length (bits_of k (b / 2)))) (length_bits n (a / 2)) ∙ ap (λ x. suc n == suc x) (length_bits k (b / 2))
    ∙ and_true (suc n == suc k) (bit_and a mask == bit_and b mask) (zero_same mask b (none mask hm) a)
masked (suc m) (suc n) (suc k) mask a b hm ha hb =
    let counts = not (mask % 2 == 1) || same (a % 2 == 1) (b % 2 == 1) in
    ap (λ x. counts && x) (masked m n k (mask / 2) (a / 2) (b / 2) (half m mask hm) (half n a ha) (half k b hb))
    ∙ and_swap counts (n == k) (bit_and (a / 2) (mask / 2) == bit_and (b / 2) (mask / 2))
    ∙ ap (λ x. (n == k) && x) (sym (halves_masked a b mask)) ∙ ap (λ x. x && (bit_and a mask == bit_and b mask)) (one_more n k)

-- without a mask all bits count
pub unmasked : (n k a b : ℕ) → a < 2 ^ n → b < 2 ^ k → bits_match None (bits_of n a) (bits_of k b) ≡ ((n == k) && (a == b))
unmasked zero zero a b ha hb = let first = none a ha in let second = none b hb in rw (first, second) refl
unmasked zero (suc k) a b ha hb = nothing_is_more k (a == b)
unmasked (suc n) zero a b ha hb = more_is_nothing n (a == b)
unmasked (suc n) (suc k) a b ha hb =
    let one = same (a % 2 == 1) (b % 2 == 1) in
    ap (λ x. one && x) (unmasked n k (a / 2) (b / 2) (half n a ha) (half k b hb))
    ∙ and_swap one (n == k) (a / 2 == b / 2)
    ∙ ap (λ x. (n == k) && x) (sym (halves_same a b)) ∙ ap (λ x. x && (a == b)) (one_more n k)
