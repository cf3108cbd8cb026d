-- The bits of a string in their order among the octets.
use Rattle.std.proofs.Common.{◌≡◌, ℕ, zero, suc, ◌+◌, ◌-◌, ◌*◌, ◌/◌, ◌%◌, ◌^◌, ◌<◌, List, [], ◌∷◌, length, get_or, sym, ap, subst, ◌∙◌, arith, inl, inr}
use Rattle.std.specs.Int.{bit_at}
use Rattle.std.proofs.Math.Nat.{div-div-eq-div-mul}
use Rattle.std.proofs.lemmas.Bool.{cases_lt}
use Rattle.std.proofs.lemmas.Nat.{pow-add}
use Rattle.std.proofs.lemmas.Nat.Bits.{bit_at-suc, bit_at_cat_low, bit_at_cat_high}
use Rattle.byteorder.specs.Endian.{big_number}
use Rattle.byteorder.specs.Numbers.{big_from-cons, big_from-lt}
use Rattle.bac_values.specs.BitString.{BitsData}
use Rattle.bac_tags.specs.Contents.{IsBits, mirrored}
use Rattle.bac_tags.proofs.Standing.{IsBytes}
use Rattle.bac_tags.proofs.Mirror.{mirrored_small, pow256}

-- a bit of the number in the other order
mirrored_bit : (size n i : ℕ) → i < size → bit_at (mirrored size n) i ≡ bit_at n (size - 1 - i)
unfolding mirrored
mirrored_bit zero n i lt = absurd (omega arith)
mirrored_bit (suc size) n i lt =
    let low = mirrored size (n / 2) in
    elim (cases_lt i size) [
      | inl below ↦
          let k : suc size - 1 - i ≡ suc (size - 1 - i) = omega arith in
          bit_at_cat_low (n % 2) size low i below ∙ mirrored_bit size (n / 2) i below ∙ sym (bit_at-suc n (size - 1 - i)) ∙ ap (bit_at n) (sym k)
      | inr top ↦
          let here : i ≡ size = omega arith in
          let k : suc size - 1 - i ≡ 0 = omega arith in
          let first : i - size ≡ 0 = omega arith in
          bit_at_cat_high (n % 2) size low i (mirrored_small size (n / 2)) (omega arith) ∙ ap (bit_at (n % 2)) first ∙ lowest n ∙ ap (bit_at n) (sym k)
    ]
  where
    lowest : (n : ℕ) → bit_at (n % 2) 0 ≡ bit_at n 0
    lowest n = omega arith

-- a bit above those that are cut off
shifted_bit : (n cut i : ℕ) → bit_at (n / 2 ^ cut) i ≡ bit_at n (cut + i)
shifted_bit n cut i = ap (λ (k : ℕ). k % 2) (div-div-eq-div-mul n (2 ^ cut) (2 ^ i) ∙ ap (λ (p : ℕ). n / p) (sym (pow-add 2 cut i)))

-- a bit of a number is one of an octet
number_bit : (octets : List ℕ) (place low : ℕ) → IsBytes octets → place < length octets → low < 8 → bit_at (big_number (length octets) octets) (8 * (length octets - 1 - place) + low) ≡ bit_at (get_or octets place 0) low
number_bit [] place low bytes lt small = absurd (omega arith)
number_bit (first ∷ octets) zero low bytes lt small =
    let size = length octets in
    let rest = big_number size octets in
    let below : rest < 2 ^ (8 * size) = subst (λ (k : ℕ). rest < k) (pow256 size) (big_from-lt 0 size octets (λ i. bytes (suc i))) in
    let k : 8 * (suc size - 1 - 0) + low ≡ 8 * size + low = omega arith in
    let above : 8 * size + low - 8 * size ≡ low = omega arith in
    ap (λ (n : ℕ). bit_at (first * 256 ^ size + n) (8 * (suc size - 1 - 0) + low)) (big_from-cons 0 size first octets)
    ∙ ap (λ (p : ℕ). bit_at (first * p + rest) (8 * (suc size - 1 - 0) + low)) (pow256 size)
    ∙ ap (bit_at (first * 2 ^ (8 * size) + rest)) k
    ∙ bit_at_cat_high first (8 * size) rest (8 * size + low) below (omega arith)
    ∙ ap (bit_at first) above
number_bit (first ∷ octets) (suc place) low bytes lt small =
    let size = length octets in
    let rest = big_number size octets in
    let k : 8 * (suc size - 1 - suc place) + low ≡ 8 * (size - 1 - place) + low = omega arith in
    ap (λ (n : ℕ). bit_at (first * 256 ^ size + n) (8 * (suc size - 1 - suc place) + low)) (big_from-cons 0 size first octets)
    ∙ ap (λ (p : ℕ). bit_at (first * p + rest) (8 * (suc size - 1 - suc place) + low)) (pow256 size)
    ∙ ap (bit_at (first * 2 ^ (8 * size) + rest)) k
    ∙ bit_at_cat_low first (8 * size) rest (8 * (size - 1 - place) + low) (omega arith)
    ∙ number_bit octets place low (λ i. bytes (suc i)) (omega arith) small

pub bits_in_order : (unused : ℕ) (octets : List ℕ) (string : BitsData) → IsBytes octets → IsBits (unused ∷ octets) string → (i : ℕ) → i < string.size → bit_at string.bits i ≡ bit_at (get_or octets (i / 8) 0) (7 - i % 8)
bits_in_order unused octets string bytes h i lt =
    let number = big_number (length octets) octets in
    let place : unused + (string.size - 1 - i) ≡ 8 * (length octets - 1 - i / 8) + (7 - i % 8) = omega (arith, h.1) in
    ap (λ (n : ℕ). bit_at n i) h.3 ∙ mirrored_bit string.size (number / 2 ^ unused) i lt ∙ shifted_bit number unused (string.size - 1 - i) ∙ ap (bit_at number) place
    ∙ number_bit octets (i / 8) (7 - i % 8) bytes (omega (arith, h.1)) (omega arith)
