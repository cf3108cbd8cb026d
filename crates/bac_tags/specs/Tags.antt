-- Tags (ANSI/ASHRAE 135-2020, 20.2.1).
use Rattle.std.specs.Prelude.{◌≡◌, ◌≢◌, ℕ, ◌/◌, ◌%◌, ◌^◌, ◌<◌, ◌==◌, ◌⊎◌, List, [], ◌∷◌, ◌++◌, length}
use Rattle.byteorder.specs.Endian.{big_number}
use Rattle.bac_tags.specs.declared.tag.Tag.{Tag}
use Rattle.bac_tags.specs.declared.tag.Shape.{Shape}
use Rattle.bac_tags.specs.declared.tag.Shape.TheVariants.{Primitive, Opening, Closing}

-- a tag number up to 14 stands in the initial octet; 15 there says that the next octet is the number (20.2.1.2)
abbrev pub SpellsTagNumber : ℕ → List ℕ → ℕ → Type 0
SpellsTagNumber high octets number =
    ((high < 15) × (octets ≡ []) × (number ≡ high)) ⊎ ((high ≡ 15) × (octets ≡ number ∷ []))

-- a length of its own octets: below 254 in one, after 254 in two, after 255 in four (20.2.1.3.1)
abbrev pub SpellsLength : List ℕ → ℕ → Type 0
SpellsLength [] n = ⊥
SpellsLength (first ∷ octets) n =
    ((first < 254) × (octets ≡ []) × (n ≡ first)) ⊎ (((first ≡ 254) × (length octets ≡ 2) × (n ≡ big_number 2 octets)) ⊎ ((first ≡ 255) × (length octets ≡ 4) × (n ≡ big_number 4 octets)))

-- the low three bits of the initial octet: a length up to 4, 5 for a length of its own octets, 6 for an opening tag, 7 for a closing one (20.2.1.3)
abbrev pub SpellsShape : ℕ → List ℕ → Shape → Type 0
SpellsShape low octets (Primitive n) = ((low < 5) × (octets ≡ []) × (n ≡ low)) ⊎ ((low ≡ 5) × SpellsLength octets n)
SpellsShape low octets Opening = (low ≡ 6) × (octets ≡ [])
SpellsShape low octets Closing = (low ≡ 7) × (octets ≡ [])

-- the initial octet, the octets of the number and those of the length
pub record SpellsTag (octets : List ℕ) (tag : Tag) : Type 0 where
  pub initial : ℕ
  pub number : List ℕ
  pub length : List ℕ
  pub parts : octets ≡ initial ∷ (number ++ length)
  pub numbered : SpellsTagNumber (initial / 16) number tag.number
  pub class : tag.context ≡ (initial / 8 % 2 == 1)
  pub shaped : SpellsShape (initial % 8) length tag.shape

-- a length fits in four octets
abbrev pub FitsShape : Shape → Type 0
FitsShape (Primitive n) = n < 2 ^ 32
FitsShape Opening = Unit {0}
FitsShape Closing = Unit {0}

-- the octets are the front of a tag, and end before it does
pub record EndsInTag (octets : List ℕ) : Type 0 where
  pub tag : Tag
  pub missing : List ℕ
  pub some : missing ≢ []
  pub spelled : SpellsTag (octets ++ missing) tag
