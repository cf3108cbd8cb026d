-- Primitive elements (ANSI/ASHRAE 135-2020, 20.2.1): a tag, and behind it a content of the length that the tag says.
use Rattle.std.specs.Prelude.{◌≡◌, ◌≢◌, ℕ, ◌-◌, ◌^◌, ◌<◌, ◌≤◌, ◌⊎◌, true, false, Option, Some, None, List, ◌++◌, length}
use Rattle.bac_tags.specs.declared.tag.Tag.{Tag}
use Rattle.bac_tags.specs.declared.tag.Shape.TheVariants.{Primitive}
use Rattle.bac_tags.specs.Tags.{SpellsTag, EndsInTag}

-- the tag of an element: in a context its number there, and else the number of its type
abbrev pub element_tag : ℕ → Option ℕ → ℕ → Tag
element_tag type None n = record { number = type; context = false; shape = Primitive n }
element_tag type (Some number) n = record { number = number; context = true; shape = Primitive n }

-- the octets are an element whose content is that of the value
pub record SpellsElement {X : Type 0} (type : ℕ) (context : Option ℕ) (IsContent : List ℕ → X → Type 0) (octets : List ℕ) (value : X) : Type 0 where
  pub header : List ℕ
  pub content : List ℕ
  pub parts : octets ≡ header ++ content
  pub tagged : SpellsTag header (element_tag type context (length content))
  pub is : IsContent content value

-- the greatest length that a tag can tell (20.2.1.3.1)
abbrev pub longest_content : ℕ
longest_content = 2 ^ 32 - 1

-- lengths that a type has
abbrev pub IsBetween : ℕ → ℕ → ℕ → Type 0
IsBetween least most n = (least ≤ n) × (n ≤ most)

-- the octets end within the content, behind a right tag with a length that the type has
pub record EndsInContent (type : ℕ) (context : Option ℕ) (least most : ℕ) (octets : List ℕ) : Type 0 where
  pub header : List ℕ
  pub content : List ℕ
  pub size : ℕ
  pub parts : octets ≡ header ++ content
  pub tagged : SpellsTag header (element_tag type context size)
  pub right : IsBetween least most size
  pub short : length content < size

-- the octets end within the element
abbrev pub EndsInElement : ℕ → Option ℕ → ℕ → ℕ → List ℕ → Type 0
EndsInElement type context least most octets = EndsInTag octets ⊎ EndsInContent type context least most octets

-- a whole tag of another element is there
pub record HasOtherTag (type : ℕ) (context : Option ℕ) (octets : List ℕ) : Type 0 where
  pub header : List ℕ
  pub rest : List ℕ
  pub tag : Tag
  pub parts : octets ≡ header ++ rest
  pub tagged : SpellsTag header tag
  pub other : (n : ℕ) → tag ≢ element_tag type context n

-- the right tag is there, with a length that the type doesn't have
pub record HasOtherLength (type : ℕ) (context : Option ℕ) (least most : ℕ) (octets : List ℕ) : Type 0 where
  pub header : List ℕ
  pub rest : List ℕ
  pub size : ℕ
  pub parts : octets ≡ header ++ rest
  pub tagged : SpellsTag header (element_tag type context size)
  pub wrong : ¬ IsBetween least most size

-- a whole content is there, and is that of no value
pub record HasOtherForm {X : Type 0} (type : ℕ) (context : Option ℕ) (least most : ℕ) (IsContent : List ℕ → X → Type 0) (octets : List ℕ) : Type 0 where
  pub header : List ℕ
  pub content : List ℕ
  pub rest : List ℕ
  pub parts : octets ≡ header ++ content ++ rest
  pub tagged : SpellsTag header (element_tag type context (length content))
  pub right : IsBetween least most (length content)
  pub wrong : (value : X) → ¬ IsContent content value
