-- Tags that open and close the elements of a parameter, and contents that are looked at no further (ANSI/ASHRAE 135-2020, 20.2.1).
use Rattle.std.specs.Prelude.{◌≡◌, ◌≢◌, ℕ, Some, true, List, ◌++◌, length}
use Rattle.bac_tags.specs.declared.tag.Tag.{Tag}
use Rattle.bac_tags.specs.declared.tag.Shape.{Shape}
use Rattle.bac_tags.specs.declared.tag.Shape.TheVariants.{Opening, Closing}
use Rattle.bac_tags.specs.Tags.{SpellsTag}
use Rattle.bac_tags.specs.Elements.{SpellsElement, IsBetween}

abbrev pub in_context : ℕ → Shape → Tag
in_context number shape = record { number = number; context = true; shape = shape }

abbrev pub opening : ℕ → Tag
opening number = in_context number Opening

abbrev pub closing : ℕ → Tag
closing number = in_context number Closing

-- a tag, which alone says what there is to say
abbrev pub SpellsOnly : Tag → List ℕ → Unit {0} → Type 0
SpellsOnly tag octets nothing = SpellsTag octets tag

-- a whole tag is there, which is another one
pub record IsOtherTag (tag : Tag) (octets : List ℕ) : Type 0 where
  pub header : List ℕ
  pub rest : List ℕ
  pub found : Tag
  pub parts : octets ≡ header ++ rest
  pub tagged : SpellsTag header found
  pub other : found ≢ tag

-- what stands between the tags of a number
pub record SpellsEnclosed {X : Type 0} (number : ℕ) (Spells : List ℕ → X → Type 0) (octets : List ℕ) (value : X) : Type 0 where
  pub front : List ℕ
  pub inside : List ℕ
  pub back : List ℕ
  pub parts : octets ≡ front ++ (inside ++ back)
  pub opened : SpellsTag front (opening number)
  pub spelled : Spells inside value
  pub closed : SpellsTag back (closing number)

-- a primitive element with a number in a context, whose content has so many octets, whatever they are
abbrev pub IsOctets : ℕ → ℕ → List ℕ → List ℕ → Type 0
IsOctets least most content octets = IsBetween least most (length content) × (octets ≡ content)

abbrev pub SpellsOctets : ℕ → ℕ → ℕ → List ℕ → List ℕ → Type 0
SpellsOctets number least most = SpellsElement 0 (Some number) (IsOctets least most)
