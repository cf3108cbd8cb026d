-- One application value (ANSI/ASHRAE 135-2020, 20.2.1.4 and 20.2.2 to 20.2.14).
use Rattle.std.specs.Prelude.{◌≡◌, ◌≢◌, ℕ, ◌*◌, ◌^◌, ◌<◌, ◌≤◌, ◌==◌, nat_le, ◌||◌, ◌⊎◌, IsTrue, Bool, true, if◌then◌else◌, None, List, [], ◌∷◌, ◌++◌, length, IsUtf8, FitsSigned}
use Rattle.bac_values.specs.Limits.{most_text_octets}
use Rattle.std.specs.Int.{w32}
use Rattle.bac_values.specs.ApplicationTags.{null_tag, boolean_tag, unsigned_tag, signed_tag, real_tag, double_tag, character_string_tag, bit_string_tag, enumerated_tag, date_tag, time_tag, object_identifier_tag}
use Rattle.bac_values.specs.Identifier.{IsIdentifier}
use Rattle.bac_values.specs.BitString.{IsBitString}
use Rattle.bac_values.specs.declared.stamp.Stamp.{Stamp}
use Rattle.bac_values.specs.declared.value.Value.{Value}
use Rattle.bac_values.specs.declared.value.Value.TheVariants as values
use Rattle.bac_values.specs.declared.value.Foreign.{Foreign}
use Rattle.bac_values.specs.declared.value.Foreign.TheVariants.{OtherType, CharacterSet, NotUtf8, TooLong, OutOfRange}
use Rattle.bac_tags.specs.declared.tag.Tag.{Tag}
use Rattle.bac_tags.specs.Tags.{SpellsTag}
use Rattle.bac_tags.specs.Elements.{element_tag, SpellsElement}
use Rattle.bac_tags.specs.Contents.{IsUnsigned, IsSigned, IsObject, IsBits, IsLongString, SpellsBoolean}
use Rattle.bac_tags.specs.Stamps.{SpellsStamp}

-- the lengths that a type has: Null 0, Boolean 0 and 1 (which are its values), Real, Date, Time and ObjectIdentifier 4, Double 8, and at least 1 those whose content begins with a number. An OctetString has any, and so has a type without a name
abbrev pub has_length : ℕ → ℕ → Bool
has_length type n =
    if type == null_tag then n == 0
    else (if type == boolean_tag then nat_le n 1
    else (if type == real_tag || type == date_tag || type == time_tag || type == object_identifier_tag then n == 4
    else (if type == double_tag then n == 8
    else (if type == unsigned_tag || type == signed_tag || type == character_string_tag || type == bit_string_tag || type == enumerated_tag then nat_le 1 n
    else true))))

-- the types whose values aren't taken
pub record IsOtherType (type : ℕ) : Type 0 where
  pub null : type ≢ null_tag
  pub boolean : type ≢ boolean_tag
  pub unsigned : type ≢ unsigned_tag
  pub signed : type ≢ signed_tag
  pub text : type ≢ character_string_tag
  pub bits : type ≢ bit_string_tag
  pub enumerated : type ≢ enumerated_tag
  pub object : type ≢ object_identifier_tag

-- the content of a CharacterString (20.2.9) begins with the number of its character set, and 0 is UTF-8
abbrev pub IsCharacters : ℕ → List ℕ → List ℕ → Type 0
IsCharacters set octets content = content ≡ set ∷ octets

-- a CharacterString that stands for no text
abbrev pub IsNoText : (ℕ → List ℕ → Type 0) → ℕ → List ℕ → Type 0
IsNoText Why type content = (type ≡ character_string_tag) × ((set : ℕ) × (octets : List ℕ) × IsCharacters set octets content × Why set octets)

-- why a content stands for no value that is taken
abbrev pub IsForeign : Foreign → ℕ → List ℕ → Type 0
IsForeign OtherType type content = IsOtherType type × IsTrue (has_length type (length content))
IsForeign CharacterSet type content = IsNoText (λ set octets. set ≢ 0) type content
IsForeign TooLong type content = IsNoText (λ set octets. (set ≡ 0) × (most_text_octets < length octets)) type content
IsForeign NotUtf8 type content = IsNoText (λ set octets. (set ≡ 0) × (length octets ≤ most_text_octets) × ¬ IsUtf8 octets) type content
IsForeign OutOfRange type content = (((type ≡ unsigned_tag) ⊎ ((type ≡ signed_tag) ⊎ (type ≡ enumerated_tag))) × (4 < length content)) ⊎ ((type ≡ bit_string_tag) × IsLongString content)

-- the value of a content of this type. A Boolean has no content, and a date with a time is two values
abbrev pub IsValue : ℕ → List ℕ → Value → Type 0
IsValue type content values.Null = (type ≡ null_tag) × (content ≡ [])
IsValue type content (values.Bool b) = ⊥
IsValue type content (values.Unsigned n) = (type ≡ unsigned_tag) × IsUnsigned content n
IsValue type content (values.Signed z) = (type ≡ signed_tag) × IsSigned content z
IsValue type content (values.Text text) = (type ≡ character_string_tag) × IsCharacters 0 text content × (length text ≤ most_text_octets) × IsUtf8 text
IsValue type content (values.Bits string) = (type ≡ bit_string_tag) × IsBits content string
IsValue type content (values.Enumerated n) = (type ≡ enumerated_tag) × IsUnsigned content n
IsValue type content (values.Object id) = (type ≡ object_identifier_tag) × IsObject content id
IsValue type content (values.DateTime stamp) = ⊥
IsValue type content (values.Opaque tag why) = (tag ≡ type) × IsForeign why type content

-- a whole element of an application
abbrev pub SpellsValue : List ℕ → Value → Type 0
SpellsValue octets value =
    ((b : Bool) × (value ≡ values.Bool b) × SpellsBoolean None octets b) ⊎ ((type : ℕ) × SpellsElement type None (IsValue type) octets value)

-- ---- what isn't a value

-- the octets end within the content
pub record EndsInValue (octets : List ℕ) : Type 0 where
  pub header : List ℕ
  pub content : List ℕ
  pub type : ℕ
  pub size : ℕ
  pub parts : octets ≡ header ++ content
  pub tagged : SpellsTag header (element_tag type None size)
  pub right : IsTrue (has_length type size)
  pub some : type ≢ boolean_tag
  pub short : length content < size

-- a whole tag is there, which is none of an application's value
pub record HasNoValueTag (octets : List ℕ) : Type 0 where
  pub header : List ℕ
  pub rest : List ℕ
  pub tag : Tag
  pub parts : octets ≡ header ++ rest
  pub tagged : SpellsTag header tag
  pub other : (type n : ℕ) → tag ≢ element_tag type None n

-- a length that the type doesn't have
pub record HasNoLength (octets : List ℕ) : Type 0 where
  pub header : List ℕ
  pub rest : List ℕ
  pub type : ℕ
  pub size : ℕ
  pub parts : octets ≡ header ++ rest
  pub tagged : SpellsTag header (element_tag type None size)
  pub wrong : ¬ IsTrue (has_length type size)

-- a whole BitString whose number of unused bits is above 7, or above 0 with no octet after it
pub record HasNoString (octets : List ℕ) : Type 0 where
  pub header : List ℕ
  pub unused : ℕ
  pub bits : List ℕ
  pub rest : List ℕ
  pub parts : octets ≡ header ++ (unused ∷ bits) ++ rest
  pub tagged : SpellsTag header (element_tag bit_string_tag None (length (unused ∷ bits)))
  pub wrong : (7 < unused) ⊎ (8 * length bits < unused)

-- ---- what is written

-- all but what isn't taken
abbrev pub IsWritable : Value → Type 0
IsWritable (values.Opaque tag why) = ⊥
IsWritable values.Null = Unit {0}
IsWritable (values.Bool b) = Unit {0}
IsWritable (values.Unsigned n) = Unit {0}
IsWritable (values.Signed z) = Unit {0}
IsWritable (values.Text text) = Unit {0}
IsWritable (values.Bits string) = Unit {0}
IsWritable (values.Enumerated n) = Unit {0}
IsWritable (values.Object id) = Unit {0}
IsWritable (values.DateTime stamp) = Unit {0}

-- a date with a time is two elements, every other value is one
abbrev pub SpellsWritten : List ℕ → Value → Type 0
SpellsWritten octets value = SpellsValue octets value ⊎ ((stamp : Stamp) × (value ≡ values.DateTime stamp) × SpellsStamp octets stamp)

-- the values that are one element, in the ranges of their types
abbrev pub IsOneElement : Value → Type 0
IsOneElement values.Null = Unit {0}
IsOneElement (values.Bool b) = Unit {0}
IsOneElement (values.Unsigned n) = n < 2 ^ 32
IsOneElement (values.Signed z) = FitsSigned w32 z
IsOneElement (values.Text text) = (length text ≤ most_text_octets) × IsUtf8 text
IsOneElement (values.Bits string) = IsBitString string.size string.bits
IsOneElement (values.Enumerated n) = n < 2 ^ 32
IsOneElement (values.Object id) = IsIdentifier id.number id.instance
IsOneElement (values.DateTime stamp) = ⊥
IsOneElement (values.Opaque tag why) = ⊥
