-- How the values of limits and flags are held.
use Rattle.std.specs.Prelude.{◌≡◌, ℤ, pos, Bool, List, FitsSigned}
use Rattle.std.specs.Int.{w32, FitsUnsigned}
use Rattle.bac_values.specs.declared.value.Value.{Value}
use Rattle.bac_values.specs.declared.value.Value.TheVariants.{Unsigned, Signed, Bits}
use Rattle.bac_values.specs.BitString.{two_flags, three_flags}

-- the value that a limit was given has the type that the value compared with it has, and the limit is in that type's range
abbrev pub FitsAs : Value → ℤ → Type 0
FitsAs (Signed other) limit = FitsSigned w32 limit
FitsAs (Unsigned other) limit = FitsUnsigned w32 limit
FitsAs _ limit = ⊥

-- the value is that of the limit
abbrev pub HoldsLimit : Value → ℤ → Type 0
HoldsLimit (Signed number) limit = limit ≡ number
HoldsLimit (Unsigned number) limit = limit ≡ pos number
HoldsLimit _ limit = ⊥

-- both are signed, or both unsigned
abbrev pub SameType : Value → Value → Type 0
SameType (Signed number) (Signed other) = Unit {0}
SameType (Unsigned number) (Unsigned other) = Unit {0}
SameType _ _ = ⊥

-- the flags are those of the string
abbrev pub IsTwoFlags : Value → List Bool → Type 0
IsTwoFlags (Bits string) flags = flags ≡ two_flags string
IsTwoFlags _ flags = ⊥

abbrev pub IsThreeFlags : Value → List Bool → Type 0
IsThreeFlags (Bits string) flags = flags ≡ three_flags string
IsThreeFlags _ flags = ⊥
