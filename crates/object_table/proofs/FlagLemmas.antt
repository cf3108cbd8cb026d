-- Flags written as a string of bits are read back.
use Rattle.std.proofs.Common.{◌≡◌, Bool, true, false, List, [], ◌∷◌, length, refl, arith}
use Rattle.bac_values.specs.BitString.{two_flags, three_flags, string_of_flags}

pub two_flags-string_of_flags : (flags : List Bool) → length flags ≡ 2 → two_flags (string_of_flags flags) ≡ flags
two_flags-string_of_flags [] h = absurd (omega (arith, h))
two_flags-string_of_flags (a ∷ []) h = absurd (omega (arith, h))
two_flags-string_of_flags (false ∷ false ∷ []) h = refl
two_flags-string_of_flags (false ∷ true ∷ []) h = refl
two_flags-string_of_flags (true ∷ false ∷ []) h = refl
two_flags-string_of_flags (true ∷ true ∷ []) h = refl
two_flags-string_of_flags (a ∷ b ∷ c ∷ flags) h = absurd (omega (arith, h))

pub three_flags-string_of_flags : (flags : List Bool) → length flags ≡ 3 → three_flags (string_of_flags flags) ≡ flags
three_flags-string_of_flags [] h = absurd (omega (arith, h))
three_flags-string_of_flags (a ∷ []) h = absurd (omega (arith, h))
three_flags-string_of_flags (a ∷ b ∷ []) h = absurd (omega (arith, h))
three_flags-string_of_flags (false ∷ false ∷ false ∷ []) h = refl
three_flags-string_of_flags (false ∷ false ∷ true ∷ []) h = refl
three_flags-string_of_flags (false ∷ true ∷ false ∷ []) h = refl
three_flags-string_of_flags (false ∷ true ∷ true ∷ []) h = refl
three_flags-string_of_flags (true ∷ false ∷ false ∷ []) h = refl
three_flags-string_of_flags (true ∷ false ∷ true ∷ []) h = refl
three_flags-string_of_flags (true ∷ true ∷ false ∷ []) h = refl
three_flags-string_of_flags (true ∷ true ∷ true ∷ []) h = refl
three_flags-string_of_flags (a ∷ b ∷ c ∷ d ∷ flags) h = absurd (omega (arith, h))
