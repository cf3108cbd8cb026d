-- The bits of a number in the other order.
use Rattle.std.proofs.Common.{◌≡◌, ℕ, zero, suc, ◌+◌, ◌-◌, ◌*◌, ◌/◌, ◌%◌, ◌^◌, ◌<◌, ◌≤◌, List, length, add-zero, refl, sym, ap, subst, ◌∙◌, arith}
use Rattle.std.specs.Int.{w64, reverse_bits, reverse_bits_onto}
use Rattle.std.proofs.Math.Nat.{pow-suc, pow-succ'}
use Rattle.std.proofs.lemmas.Nat.{pow_pos, pow-add, shr_high, shr_below}
use Rattle.byteorder.specs.Endian.{big_number}
use Rattle.byteorder.specs.Numbers.{big_from-lt}
use Rattle.bac_tags.specs.Contents.{mirrored}
use Rattle.bac_tags.proofs.Standing.{IsBytes}

pub mirrored_zero : (size : ℕ) → mirrored size 0 ≡ 0
unfolding mirrored
mirrored_zero zero = refl
mirrored_zero (suc size) = let ih = mirrored_zero size in omega (arith, ih)

pub mirrored_none : (n : ℕ) → mirrored 0 n ≡ 0
unfolding mirrored
mirrored_none n = refl

pub mirrored_small : (size n : ℕ) → mirrored size n < 2 ^ size
unfolding mirrored
mirrored_small zero n = omega arith
mirrored_small (suc size) n =
    let ih = mirrored_small size (n / 2) in
    low_part (n % 2) (2 ^ size) (mirrored size (n / 2)) (2 ^ suc size) (omega arith) ih (pow-succ' 2 size)
  where
    low_part : (b p m q : ℕ) → b < 2 → m < p → q ≡ 2 * p → b * p + m < q
    low_part zero p m q h lt e = omega arith
    low_part (suc zero) p m q h lt e = omega arith
    low_part (suc (suc b)) p m q h lt e = absurd (omega arith)

halves : (b p m n : ℕ) → n ≡ b * (2 * p) + m → (n % 2 ≡ m % 2) × (n / 2 ≡ b * p + m / 2)
halves b p m n e = (omega arith, omega arith)

-- the highest bit becomes the lowest
mirrored_top : (size b m : ℕ) → b < 2 → m < 2 ^ size → mirrored (suc size) (b * 2 ^ size + m) ≡ 2 * mirrored size m + b
unfolding mirrored
mirrored_top zero b m h lt = omega arith
mirrored_top (suc size) b m h lt =
    let p = 2 ^ size in
    let q : 2 ^ suc size ≡ 2 * p = pow-succ' 2 size in
    let n = b * 2 ^ suc size + m in
    let n-is : n ≡ b * (2 * p) + m = ap (λ (x : ℕ). b * x + m) q in
    let parts = halves b p m n n-is in
    let half : m / 2 < p = omega (arith, lt, q) in
    let ih = mirrored_top size b (m / 2) h half in
    let inner : mirrored (suc size) (n / 2) ≡ 2 * mirrored size (m / 2) + b = ap (mirrored (suc size)) parts.1 ∙ ih in
    joined (n % 2) (m % 2) (2 ^ suc size) p (mirrored (suc size) (n / 2)) (mirrored size (m / 2)) b parts.0 q inner
  where
    joined : (x y q p r s b : ℕ) → x ≡ y → q ≡ 2 * p → r ≡ 2 * s + b → x * q + r ≡ 2 * (y * p + s) + b
    joined x y q p r s b same twice inner = rw (same, twice) (omega (arith, inner))

-- twice in the other order is in the first order
pub mirrored-mirrored : (size n : ℕ) → n < 2 ^ size → mirrored size (mirrored size n) ≡ n
unfolding mirrored
mirrored-mirrored zero n lt = omega arith
mirrored-mirrored (suc size) n lt =
    let half : n / 2 < 2 ^ size = omega (arith, lt, pow-succ' 2 size) in
    let top = mirrored_top size (n % 2) (mirrored size (n / 2)) (omega arith) (mirrored_small size (n / 2)) in
    let ih = mirrored-mirrored size (n / 2) half in
    top ∙ omega (arith, ih)

-- what is above the size stays below
mirrored_wide : (size more n : ℕ) → n < 2 ^ size → mirrored (size + more) n ≡ mirrored size n * 2 ^ more
unfolding mirrored
mirrored_wide zero more n lt =
    let none : n ≡ 0 = omega arith in
    let here : zero + more ≡ more = omega arith in
    rw (none, here, mirrored_zero more) (omega arith)
mirrored_wide (suc size) more n lt =
    let half : n / 2 < 2 ^ size = omega (arith, lt, pow-succ' 2 size) in
    let ih = mirrored_wide size more (n / 2) half in
    let here : suc size + more ≡ suc (size + more) = omega arith in
    rw (here, ih) (both (n % 2) (2 ^ (size + more)) (2 ^ size) (2 ^ more) (mirrored size (n / 2)) (pow-add 2 size more))
  where
    both : (b w p q r : ℕ) → w ≡ p * q → b * w + r * q ≡ (b * p + r) * q
    both b w p q r e = rw e (omega arith)

reversed_onto : (size n a : ℕ) → reverse_bits_onto size n a ≡ a * 2 ^ size + mirrored size n
unfolding mirrored reverse_bits_onto
reversed_onto zero n a = omega arith
reversed_onto (suc size) n a =
    reversed_onto size (n / 2) (a * 2 + n % 2) ∙ both a (n % 2) (2 ^ size) (2 ^ suc size) (mirrored size (n / 2)) (pow-succ' 2 size)
  where
    both : (a b p q r : ℕ) → q ≡ 2 * p → (a * 2 + b) * p + r ≡ a * q + (b * p + r)
    both a b p q r e = rw e (omega arith)

reversed_all : (width n : ℕ) → reverse_bits_onto width n 0 ≡ mirrored width n
reversed_all width n = reversed_onto width n 0 ∙ omega arith

-- the standard call that turns all 64 bits
pub reversed_is : (size n : ℕ) → size ≤ 64 → n < 2 ^ size → reverse_bits w64 n / 2 ^ (64 - size) ≡ mirrored size n
reversed_is size n le lt = go 64 size n le lt
  where
    go : (width size n : ℕ) → size ≤ width → n < 2 ^ size → reverse_bits_onto width n 0 / 2 ^ (width - size) ≡ mirrored size n
    go width size n le lt =
        let whole : width ≡ size + (width - size) = omega arith in
        let all : reverse_bits_onto width n 0 ≡ mirrored size n * 2 ^ (width - size) = reversed_all width n ∙ ap (λ (k : ℕ). mirrored k n) whole ∙ mirrored_wide size (width - size) n lt in
        rw all (ap (λ (k : ℕ). k / 2 ^ (width - size)) (sym (add-zero (mirrored size n * 2 ^ (width - size)))) ∙ shr_high (mirrored size n) (width - size) 0 (pow_pos (width - size)))

pub pow256 : (n : ℕ) → 256 ^ n ≡ 2 ^ (8 * n)
pow256 zero = refl
pow256 (suc n) =
    let e : 8 * suc n ≡ 8 * n + 8 = omega arith in
    rw (pow-suc 256 n, pow256 n, e, pow-add 2 (8 * n) 8) refl

-- the used bits of octets fit the string's length
pub used_small : (octets : List ℕ) (unused size : ℕ) → IsBytes octets → size + unused ≡ 8 * length octets → big_number (length octets) octets / 2 ^ unused < 2 ^ size
used_small octets unused size bytes e =
    let all : big_number (length octets) octets < 2 ^ (size + unused) = subst (λ (k : ℕ). big_number (length octets) octets < k) (pow256 (length octets) ∙ ap (λ (k : ℕ). 2 ^ k) (sym e)) (big_from-lt 0 (length octets) octets bytes) in
    shr_below (big_number (length octets) octets) size unused all
