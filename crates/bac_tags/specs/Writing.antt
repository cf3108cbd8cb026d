-- The one spelling of each element that is written: every tag and every number in the fewest octets.
use Rattle.std.specs.Prelude.{ℕ, ◌+◌, ◌-◌, ◌*◌, ◌/◌, ◌^◌, ℤ, pos, negsuc, min, nat_lt, Bool, if◌then◌else◌, Option, Some, None, List, [], ◌∷◌, ◌++◌, length, take, drop}
use Rattle.std.specs.Int.{w32, cast_unsigned, from_bool}
use Rattle.byteorder.specs.Endian.{big_bytes}
use Rattle.bac_values.specs.ApplicationTags.{null_tag, boolean_tag, unsigned_tag, signed_tag, octet_string_tag, character_string_tag, bit_string_tag, enumerated_tag, date_tag, time_tag, object_identifier_tag}
use Rattle.bac_values.specs.Identifier.{ObjectIdData}
use Rattle.bac_values.specs.BitString.{BitsData}
use Rattle.bac_values.specs.declared.stamp.Stamp.{Stamp}
use Rattle.bac_values.specs.declared.value.Value.{Value}
use Rattle.bac_values.specs.declared.value.Value.TheVariants as values
use Rattle.bac_tags.specs.declared.tag.Tag.{Tag}
use Rattle.bac_tags.specs.declared.tag.Shape.{Shape}
use Rattle.bac_tags.specs.declared.tag.Shape.TheVariants.{Primitive, Opening, Closing}
use Rattle.bac_tags.specs.Elements.{element_tag}
use Rattle.bac_tags.specs.Contents.{mirrored}

-- the low three bits of the initial octet
abbrev pub written_low : Shape → ℕ
written_low (Primitive n) = min n 5
written_low Opening = 6
written_low Closing = 7

-- the initial octet
abbrev pub written_initial : ℕ → Bool → ℕ → ℕ
written_initial high context low = 16 * high + (if context then 8 else 0) + low

-- a tag number from 15 on has an octet of its own
abbrev pub written_number : ℕ → List ℕ
written_number number = if nat_lt number 15 then [] else (number ∷ [])

-- a length from 5 on has octets of its own
abbrev pub written_length : ℕ → List ℕ
written_length n =
    if nat_lt n 5 then [] else (if nat_lt n 254 then (n ∷ []) else (if nat_lt n 65536 then (254 ∷ big_bytes 2 n) else (255 ∷ big_bytes 4 n)))

abbrev pub written_shape : Shape → List ℕ
written_shape (Primitive n) = written_length n
written_shape Opening = []
written_shape Closing = []

unfoldable pub written_tag : Tag → List ℕ
written_tag tag =
    written_initial (min tag.number 15) tag.context (written_low tag.shape) ∷ (written_number tag.number ++ written_shape tag.shape)

-- ---- elements: the shortest tag, and the content

abbrev pub written_element : ℕ → Option ℕ → List ℕ → List ℕ
written_element type context content = written_tag (element_tag type context (length content)) ++ content

-- the fewest octets of a number, at least one
abbrev pub unsigned_size : ℕ → ℕ
unsigned_size n = if nat_lt n 256 then 1 else (if nat_lt n 65536 then 2 else (if nat_lt n 16777216 then 3 else 4))

-- the same in two's complement, for -1 as for 0
abbrev pub half_size : ℕ → ℕ
half_size n = if nat_lt n 128 then 1 else (if nat_lt n 32768 then 2 else (if nat_lt n 8388608 then 3 else 4))

abbrev pub signed_size : ℤ → ℕ
signed_size (pos n) = half_size n
signed_size (negsuc n) = half_size n

abbrev pub written_unsigned : Option ℕ → ℕ → List ℕ
written_unsigned context n = written_element unsigned_tag context (big_bytes (unsigned_size n) n)

abbrev pub written_enumerated : Option ℕ → ℕ → List ℕ
written_enumerated context n = written_element enumerated_tag context (big_bytes (unsigned_size n) n)

abbrev pub written_signed : Option ℕ → ℤ → List ℕ
written_signed context z = written_element signed_tag context (big_bytes (signed_size z) (cast_unsigned w32 z))

abbrev pub written_object : Option ℕ → ObjectIdData → List ℕ
written_object context id = written_element object_identifier_tag context (big_bytes 4 (id.number * 4194304 + id.instance))

abbrev pub written_boolean : Option ℕ → Bool → List ℕ
written_boolean None value = written_tag (element_tag boolean_tag None (from_bool value))
written_boolean (Some number) value = written_element boolean_tag (Some number) (from_bool value ∷ [])

-- as many octets as the bits need, the rest of the last one unused
abbrev pub octets_of_bits : ℕ → ℕ
octets_of_bits size = (size + 7) / 8

abbrev pub unused_of_bits : ℕ → ℕ
unused_of_bits size = 8 * octets_of_bits size - size

abbrev pub written_bits : Option ℕ → BitsData → List ℕ
written_bits context string =
    written_element bit_string_tag context (unused_of_bits string.size ∷ big_bytes (octets_of_bits string.size) (mirrored string.size string.bits * 2 ^ unused_of_bits string.size))

abbrev pub written_octet_string : List ℕ → List ℕ
written_octet_string octets = written_element octet_string_tag None octets

abbrev pub written_time : List ℕ → List ℕ
written_time octets = written_element time_tag None octets

abbrev pub written_stamp : Stamp → List ℕ
written_stamp stamp = written_element date_tag None (take 4 stamp.octets) ++ written_element time_tag None (drop 4 stamp.octets)

-- a text in UTF-8, behind the number of this character set
abbrev pub written_text : List ℕ → List ℕ
written_text octets = written_element character_string_tag None (0 ∷ octets)

abbrev pub written_value : Value → List ℕ
written_value values.Null = written_element null_tag None []
written_value (values.Bool b) = written_boolean None b
written_value (values.Unsigned n) = written_unsigned None n
written_value (values.Signed z) = written_signed None z
written_value (values.Text text) = written_text text
written_value (values.Bits string) = written_bits None string
written_value (values.Enumerated n) = written_enumerated None n
written_value (values.Object id) = written_object None id
written_value (values.DateTime stamp) = written_stamp stamp
written_value (values.Opaque tag why) = []
