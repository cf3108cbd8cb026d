-- Numbers of one to four octets fit their types.
use Rattle.std.proofs.Common.{◌≡◌, ℕ, ◌*◌, ◌/◌, ◌%◌, ◌^◌, ◌<◌, ◌≤◌, false, cond, ltb, pos, ◌-ℤ◌, ◌-◌, ◌||◌, Some, None, List, [], ◌∷◌, length, refl, sym, ap, subst, ◌∙◌, arith, inl, inr}
use Rattle.std.specs.Prelude.{◌⊎◌, FitsSigned}
use Rattle.std.specs.Int.{w32}
use Rattle.std.proofs.lemmas.Bool.{cases_lt, cases_eq, lt-ltb, le-ltb, ltb-false, or_parts}
use Rattle.std.proofs.lemmas.Int.{ints}
use Rattle.std.proofs.Math.Nat.{pow-le-pow_right}
use Rattle.byteorder.specs.Endian.{big_number, twos_complement}
use Rattle.byteorder.specs.Numbers.{big_from-lt}
use Rattle.bac_values.specs.Identifier.{ObjectIdData}
use Rattle.bac_tags.specs.Contents.{IsUnsigned, IsSigned, IsObject, IsBits, mirrored}
use Rattle.bac_tags.specs.Elements.{IsBetween}
use Rattle.bac_values.specs.BitString.{BitsData}
use Rattle.bac_tags.specs.Stamps.{IsFour}
use Rattle.bac_tags.specs.ReadingSteps.{unsigned_of, signed_of, identifier_of, string_of, bits_of}
use Rattle.bac_tags.proofs.Standing.{IsBytes}
use Rattle.bac_tags.proofs.Steps.{chosen}
use Rattle.bac_tags.proofs.Readers.{Values, Forms}

-- one of the lengths that a number has
four_cases : (n : ℕ) → 1 ≤ n → n ≤ 4 → (n ≡ 1) ⊎ ((n ≡ 2) ⊎ ((n ≡ 3) ⊎ (n ≡ 4)))
four_cases n least most =
    elim (cases_eq n 1) [
      | inl a ↦ inl a
      | inr a ↦ elim (cases_eq n 2) [
        | inl b ↦ inr (inl b)
        | inr b ↦ elim (cases_eq n 3) [ inl c ↦ inr (inr (inl c)) | inr c ↦ inr (inr (inr (omega arith))) ]
      ]
    ]

pub number_small : (xs : List ℕ) → IsBytes xs → length xs ≤ 4 → big_number (length xs) xs < 2 ^ 32
number_small xs bytes short =
    let top = big_from-lt 0 (length xs) xs bytes in
    let most : 256 ^ length xs ≤ 256 ^ 4 = pow-le-pow_right (omega arith) short in
    omega arith

fits_by : (x half whole : ℕ) → half ≤ 2 ^ 31 → whole ≡ 2 * half → x < whole → FitsSigned w32 (cond (ltb x half) (pos x) (pos x -ℤ pos whole))
fits_by x half whole small twice lt =
    elim (cases_lt x half) [
      | inl below ↦ rw (lt-ltb x half below) (omega (arith, ints))
      | inr above ↦ rw (le-ltb x half above) (omega (arith, ints))
    ]

pub signed_fits : (n x : ℕ) → 1 ≤ n → n ≤ 4 → x < 256 ^ n → FitsSigned w32 (twos_complement n x)
signed_fits n x least most lt =
    elim (four_cases n least most) [
      | inl a ↦ let small : x < 256 ^ 1 = subst (λ (m : ℕ). x < 256 ^ m) a lt in rw a (fits_by x (2 ^ 7) (2 ^ 8) (omega arith) refl small)
      | inr a ↦ elim a [
        | inl b ↦ let small : x < 256 ^ 2 = subst (λ (m : ℕ). x < 256 ^ m) b lt in rw b (fits_by x (2 ^ 15) (2 ^ 16) (omega arith) refl small)
        | inr b ↦ elim b [
          | inl d ↦ let small : x < 256 ^ 3 = subst (λ (m : ℕ). x < 256 ^ m) d lt in rw d (fits_by x (2 ^ 23) (2 ^ 24) (omega arith) refl small)
          | inr d ↦ let small : x < 256 ^ 4 = subst (λ (m : ℕ). x < 256 ^ m) d lt in rw d (fits_by x (2 ^ 31) (2 ^ 32) (omega arith) refl small)
        ]
      ]
    ]

pub signed_small : (xs : List ℕ) → IsBytes xs → 1 ≤ length xs → length xs ≤ 4 → FitsSigned w32 (twos_complement (length xs) (big_number (length xs) xs))
signed_small xs bytes least most = signed_fits (length xs) (big_number (length xs) xs) least most (big_from-lt 0 (length xs) xs bytes)

-- ---- each content of a right length has one value

pub unsigned_values : Values 1 4 unsigned_of IsUnsigned
unsigned_values = record { is = λ content bytes right. (right, refl); right = λ content x h. h.0; one = λ content x h. sym h.1 }

pub signed_values : Values 1 4 signed_of IsSigned
signed_values = record { is = λ content bytes right. (right, refl); right = λ content x h. h.0; one = λ content x h. sym h.1 }

abbrev made : ℕ → ℕ → ObjectIdData
made number instance = record { number = number; instance = instance }

pub identifier_values : Values 4 4 identifier_of IsObject
identifier_values = record {
  is = λ content bytes right.
      let four : length content ≡ 4 = omega (arith, right.0, right.1) in
      let small = big_from-lt 0 4 content bytes in
      (four, omega arith, (omega arith, omega arith));
  right = λ content x h. (omega (arith, h.0), omega (arith, h.0));
  one = λ content x h.
      let number : big_number 4 content / 4194304 ≡ x.number = omega (arith, h.1, h.2.0, h.2.1) in
      let instance : big_number 4 content % 4194304 ≡ x.instance = omega (arith, h.1, h.2.0, h.2.1) in
      ap (λ (n : ℕ). made n (big_number 4 content % 4194304)) number ∙ ap (λ (n : ℕ). made x.number n) instance;
}

-- four octets are their own value
pub four_values : Values 4 4 (λ content. content) IsFour
four_values = record { is = λ content bytes right. (omega (arith, right.0, right.1), refl); right = λ content x h. (omega (arith, h.0), omega (arith, h.0)); one = λ content x h. sym h.1 }

-- ---- contents that may have another form

-- the number of unused bits and the octets behind it
pub bits_is : (content : List ℕ) (x : BitsData) → length content ≤ 9 → bits_of content ≡ Some x → IsBits content x
bits_is [] x short e = absurd cc
bits_is (unused ∷ octets) x short e =
    elim (chosen (ltb 7 unused || ltb (8 * length octets) unused) None (Some (string_of unused octets)) (Some x) e) [
      | inl h ↦ absurd (let bad = h.1 in cc)
      | inr h ↦
          let both = or_parts (ltb 7 unused) (ltb (8 * length octets) unused) h.0 in
          let few : unused ≤ 7 = ltb-false _ _ both.0 in
          let there : unused ≤ 8 * length octets = ltb-false _ _ both.1 in
          let same : string_of unused octets ≡ x = let some = h.1 in cc in
          subst (IsBits (unused ∷ octets)) same (few, omega (arith, there), omega (arith, short), refl)
    ]

pub bits_right : (content : List ℕ) (x : BitsData) → IsBits content x → IsBetween 1 9 (length content)
bits_right [] x h = absurd h
bits_right (unused ∷ octets) x h = (omega arith, omega (arith, h.0, h.1, h.2))

abbrev string : ℕ → ℕ → BitsData
string size bits = record { size = size; bits = bits }

pub bits_one : (content : List ℕ) (x : BitsData) → IsBits content x → bits_of content ≡ Some x
bits_one [] x h = absurd h
bits_one (unused ∷ octets) x h =
    let few : ltb 7 unused ≡ false = le-ltb 7 unused h.0 in
    let there : ltb (8 * length octets) unused ≡ false = le-ltb (8 * length octets) unused (omega (arith, h.1)) in
    let size : 8 * length octets - unused ≡ x.size = omega (arith, h.1) in
    let same : string_of unused octets ≡ x = ap (λ (n : ℕ). string n (mirrored n (big_number (length octets) octets / 2 ^ unused))) size ∙ ap (string x.size) (sym h.3) in
    rw (few, there) (ap Some same)

pub bits_forms : Forms 1 9 bits_of IsBits
bits_forms = record { is = λ content x bytes right e. bits_is content x right.1 e; right = bits_right; one = bits_one }
