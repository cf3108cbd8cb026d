-- Bit strings (ANSI/ASHRAE 135-2020, 20.2.10).
use Rattle.std.specs.Prelude.{ℕ, ◌+◌, ◌*◌, ◌^◌, ◌<◌, ◌≤◌, ◌==◌, Bool, not, bit_and, List, [], ◌∷◌, length, if◌then◌else◌}
use Rattle.bac_values.specs.Limits.{most_bits}

-- how many bits there are, and the number whose lowest bit is the string's first
pub record BitsData : Type 0 where
  pub size : ℕ
  pub bits : ℕ

-- at most `most_bits` bits, and none at or above the size
abbrev pub IsBitString : ℕ → ℕ → Type 0
IsBitString size bits = (size ≤ most_bits) × (bits < 2 ^ size)

-- ---- strings that are lists of flags: the first bit is the first flag

-- the number whose lowest bit is the first flag
abbrev pub flags_number : List Bool → ℕ
flags_number [] = 0
flags_number (flag ∷ flags) = (if flag then 1 else 0) + 2 * flags_number flags

-- the string with these flags
abbrev pub string_of_flags : List Bool → BitsData
string_of_flags flags = record { size = length flags; bits = flags_number flags }

abbrev pub is_set : ℕ → ℕ → Bool
is_set bits weight = not (bit_and bits weight == 0)

-- the first two flags of a string, its first three, and its first four
abbrev pub two_flags : BitsData → List Bool
two_flags string = is_set string.bits 1 ∷ is_set string.bits 2 ∷ []

abbrev pub three_flags : BitsData → List Bool
three_flags string = is_set string.bits 1 ∷ is_set string.bits 2 ∷ is_set string.bits 4 ∷ []

abbrev pub four_flags : BitsData → List Bool
four_flags string = is_set string.bits 1 ∷ is_set string.bits 2 ∷ is_set string.bits 4 ∷ is_set string.bits 8 ∷ []
