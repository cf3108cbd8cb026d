-- Whether a parameter stands at a place.
use Rattle.std.specs.Prelude.{◌≡◌, ℕ, ◌⊎◌, Option, Some, None, List, [], ◌∷◌, ◌++◌, length, drop}
use Rattle.bac_tags.specs.Places.{IsSpelledAt}
use Rattle.bac_tags.specs.Elements.{HasOtherTag}

-- some value is spelled there, whatever follows
pub record IsThere {X : Type 0} (Spells : List ℕ → X → Type 0) (input : List ℕ) (place : ℕ) : Type 0 where
  pub value : X
  pub end : ℕ
  pub spelled : IsSpelledAt Spells input place value end

-- no element with this number in a context begins there: the octets end, or have a whole tag of another element
abbrev pub IsAbsent : ℕ → List ℕ → ℕ → Type 0
IsAbsent number input place = (place ≡ length input) ⊎ HasOtherTag 0 (Some number) (drop place input)

-- an optional parameter, read from the place to `end`
abbrev pub IsOptionalAt : {X : Type 0} → (List ℕ → X → Type 0) → ℕ → List ℕ → ℕ → Option X → ℕ → Type 0
IsOptionalAt Spells number input place None end = (end ≡ place) × IsAbsent number input place
IsOptionalAt Spells number input place (Some value) end = IsSpelledAt Spells input place value end

-- a parameter that may be absent
abbrev pub SpellsIfGiven : {X : Type 0} → (List ℕ → X → Type 0) → List ℕ → Option X → Type 0
SpellsIfGiven Spells octets None = octets ≡ []
SpellsIfGiven Spells octets (Some x) = Spells octets x

-- things of one kind, one after the other
abbrev pub SpellsEach : {X : Type 0} → (List ℕ → X → Type 0) → List ℕ → List X → Type 0
SpellsEach Spells octets [] = octets ≡ []
SpellsEach Spells octets (x ∷ xs) =
    (front : List ℕ) × (rest : List ℕ) × (octets ≡ front ++ rest) × Spells front x × SpellsEach Spells rest xs
