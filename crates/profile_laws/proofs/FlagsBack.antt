-- A string of two or of three bits is that of its flags.
use Rattle.std.proofs.Common.{◌≡◌, ◌<◌, ◌^◌, ℕ, zero, suc, [], ◌∷◌, refl, sym, ap₂, subst, arith}
use Rattle.bac_values.specs.BitString.{BitsData, flags_number, is_set, string_of_flags, three_flags, two_flags}

two_bits : (bits : ℕ) → bits < 4 → flags_number (is_set bits 1 ∷ is_set bits 2 ∷ []) ≡ bits
two_bits zero h = refl
two_bits (suc zero) h = refl
two_bits (suc (suc zero)) h = refl
two_bits (suc (suc (suc zero))) h = refl
two_bits (suc (suc (suc (suc n)))) h = absurd (omega (arith, h))

three_bits : (bits : ℕ) → bits < 8 → flags_number (is_set bits 1 ∷ is_set bits 2 ∷ is_set bits 4 ∷ []) ≡ bits
three_bits zero h = refl
three_bits (suc zero) h = refl
three_bits (suc (suc zero)) h = refl
three_bits (suc (suc (suc zero))) h = refl
three_bits (suc (suc (suc (suc zero)))) h = refl
three_bits (suc (suc (suc (suc (suc zero))))) h = refl
three_bits (suc (suc (suc (suc (suc (suc zero)))))) h = refl
three_bits (suc (suc (suc (suc (suc (suc (suc zero))))))) h = refl
three_bits (suc (suc (suc (suc (suc (suc (suc (suc n)))))))) h = absurd (omega (arith, h))

abbrev string_with : ℕ → ℕ → BitsData
string_with size bits = record { size = size; bits = bits }

pub two_back : (string : BitsData) → string.size ≡ 2 → string.bits < 2 ^ string.size → string_of_flags (two_flags string) ≡ string
two_back string size small = ap₂ string_with (sym size) (two_bits string.bits (subst (λ (n : ℕ). string.bits < 2 ^ n) size small))

pub three_back : (string : BitsData) → string.size ≡ 3 → string.bits < 2 ^ string.size → string_of_flags (three_flags string) ≡ string
three_back string size small = ap₂ string_with (sym size) (three_bits string.bits (subst (λ (n : ℕ). string.bits < 2 ^ n) size small))
