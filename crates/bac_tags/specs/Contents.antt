-- What the contents of primitive elements stand for (ANSI/ASHRAE 135-2020, 20.2). Numbers of one to four octets are read.
use Rattle.std.specs.Prelude.{◌≡◌, ℕ, zero, suc, ◌+◌, ◌*◌, ◌/◌, ◌%◌, ◌^◌, ◌<◌, ◌≤◌, ◌⊎◌, ℤ, Bool, Option, Some, None, List, [], ◌∷◌, length}
use Rattle.std.specs.Int.{from_bool}
use Rattle.byteorder.specs.Endian.{big_number, twos_complement}
use Rattle.bac_values.specs.ApplicationTags.{boolean_tag, unsigned_tag, signed_tag, octet_string_tag, bit_string_tag, enumerated_tag, object_identifier_tag}
use Rattle.bac_values.specs.Identifier.{IsIdentifier, ObjectIdData}
use Rattle.bac_values.specs.BitString.{BitsData}
use Rattle.bac_tags.specs.Tags.{SpellsTag, EndsInTag}
use Rattle.bac_tags.specs.Elements.{element_tag, SpellsElement, IsBetween, EndsInElement, HasOtherLength, HasOtherForm}

-- an Unsigned (20.2.4), and an Enumerated (20.2.11): the high octet first
abbrev pub IsUnsigned : List ℕ → ℕ → Type 0
IsUnsigned content number = IsBetween 1 4 (length content) × (number ≡ big_number (length content) content)

-- a Signed (20.2.5): two's complement, the high octet first
abbrev pub IsSigned : List ℕ → ℤ → Type 0
IsSigned content number = IsBetween 1 4 (length content) × (number ≡ twos_complement (length content) (big_number (length content) content))

-- an ObjectIdentifier (20.2.14): ten bits of the type's number, twenty-two of the instance
abbrev pub IsObject : List ℕ → ObjectIdData → Type 0
IsObject content id = (length content ≡ 4) × (id.number * 4194304 + id.instance ≡ big_number 4 content) × IsIdentifier id.number id.instance

-- whole elements, with the number of their type (20.2.1.4) or one in a context
abbrev pub SpellsUnsigned : Option ℕ → List ℕ → ℕ → Type 0
SpellsUnsigned context = SpellsElement unsigned_tag context IsUnsigned

abbrev pub SpellsSigned : Option ℕ → List ℕ → ℤ → Type 0
SpellsSigned context = SpellsElement signed_tag context IsSigned

abbrev pub SpellsEnumerated : Option ℕ → List ℕ → ℕ → Type 0
SpellsEnumerated context = SpellsElement enumerated_tag context IsUnsigned

abbrev pub SpellsObject : Option ℕ → List ℕ → ObjectIdData → Type 0
SpellsObject context = SpellsElement object_identifier_tag context IsObject

-- a Boolean in a context (20.2.3): one octet, 0 or 1
abbrev pub IsBoolean : List ℕ → Bool → Type 0
IsBoolean content value = content ≡ from_bool value ∷ []

-- an application's Boolean has no content: the length in its tag is the value (20.2.3)
abbrev pub SpellsBoolean : Option ℕ → List ℕ → Bool → Type 0
SpellsBoolean None octets value = SpellsTag octets (element_tag boolean_tag None (from_bool value))
SpellsBoolean (Some number) octets value = SpellsElement boolean_tag (Some number) IsBoolean octets value

-- where the octets of a Boolean end too early, and where its length or its content is none of a Boolean
abbrev pub EndsInBoolean : Option ℕ → List ℕ → Type 0
EndsInBoolean None octets = EndsInTag octets
EndsInBoolean (Some number) octets = EndsInElement boolean_tag (Some number) 1 1 octets

abbrev pub IsNoBoolean : Option ℕ → List ℕ → Type 0
IsNoBoolean None octets = HasOtherLength boolean_tag None 0 1 octets
IsNoBoolean (Some number) octets = HasOtherLength boolean_tag (Some number) 1 1 octets ⊎ HasOtherForm boolean_tag (Some number) 1 1 IsBoolean octets

-- the lowest bits of a number, the last of them first
unfoldable pub mirrored : ℕ → ℕ → ℕ
mirrored zero n = 0
mirrored (suc size) n = n % 2 * 2 ^ size + mirrored size (n / 2)

-- a BitString (20.2.10) of at most 64 bits: the number of unused bits, and the octets that end with them. The highest bit of the first octet is the first of the string, which is the lowest of the number that stands for it
abbrev pub IsBits : List ℕ → BitsData → Type 0
IsBits [] string = ⊥
IsBits (unused ∷ octets) string =
    (unused ≤ 7) × (string.size + unused ≡ 8 * length octets) × (string.size ≤ 64) × (string.bits ≡ mirrored string.size (big_number (length octets) octets / 2 ^ unused))

abbrev pub SpellsBits : Option ℕ → List ℕ → BitsData → Type 0
SpellsBits context = SpellsElement bit_string_tag context IsBits

-- a BitString of more than 64 bits
pub record IsLongString (content : List ℕ) : Type 0 where
  pub unused : ℕ
  pub octets : List ℕ
  pub parts : content ≡ unused ∷ octets
  pub few : unused ≤ 7
  pub long : 8 < length octets

-- a BitString of any length: one of more than 64 bits stands for no value
abbrev pub IsAnyBits : List ℕ → Option BitsData → Type 0
IsAnyBits content (Some string) = IsBits content string
IsAnyBits content None = IsLongString content

abbrev pub SpellsAnyBits : List ℕ → Option BitsData → Type 0
SpellsAnyBits = SpellsElement bit_string_tag None IsAnyBits

-- an OctetString (20.2.8) is its octets, however many
abbrev pub IsOctetString : List ℕ → List ℕ → Type 0
IsOctetString content octets = octets ≡ content

abbrev pub SpellsOctetString : List ℕ → List ℕ → Type 0
SpellsOctetString = SpellsElement octet_string_tag None IsOctetString
