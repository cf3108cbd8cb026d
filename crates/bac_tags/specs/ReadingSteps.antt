-- Reading from a place on: the value and the place after it, or the first fault.
use Rattle.std.specs.Prelude.{◌≡◌, ℕ, zero, suc, ◌+◌, ◌-◌, ◌*◌, ◌^◌, ◌/◌, ◌%◌, ◌==◌, nat_lt, ◌&&◌, ◌||◌, not, ◌⊎◌, if◌then◌else◌, ℤ, Option, Some, None, unwrap_or, is_some, Bool, true, false, List, [], ◌∷◌, ◌++◌, length, slice_index, slice_range, Result, Ok, Err, IsOkAnd}
use Rattle.bac_values.specs.Limits.{most_text_octets}
use Rattle.std.specs.Option.{ok_or}
use Rattle.std.specs.Bool.{beq}
use Rattle.std.specs.Str.{is_utf8}
use Rattle.byteorder.specs.Endian.{big_number, twos_complement}
use Rattle.bac_values.specs.ApplicationTags.{null_tag, boolean_tag, unsigned_tag, signed_tag, octet_string_tag, character_string_tag, bit_string_tag, enumerated_tag, date_tag, time_tag, object_identifier_tag}
use Rattle.bac_values.specs.Identifier.{ObjectIdData}
use Rattle.bac_values.specs.BitString.{BitsData}
use Rattle.bac_values.specs.declared.stamp.Stamp.{Stamp}
use Rattle.bac_values.specs.declared.value.Value.{Value}
use Rattle.bac_values.specs.declared.value.Value.TheVariants as values
use Rattle.bac_values.specs.declared.value.Foreign.TheVariants.{OtherType, CharacterSet, NotUtf8, TooLong, OutOfRange}
use Rattle.bac_tags.specs.declared.fault.TagFault.{TagFault}
use Rattle.bac_tags.specs.declared.fault.TagFault.TheVariants.{Truncated, WrongTag, BadLength, NoMemory}
use Rattle.bac_tags.specs.declared.tag.Tag.{Tag}
use Rattle.bac_tags.specs.declared.tag.Shape.{Shape}
use Rattle.bac_tags.specs.declared.tag.Shape.TheVariants.{Primitive, Opening, Closing}
use Rattle.bac_tags.specs.Elements.{longest_content}
use Rattle.bac_tags.specs.Contents.{mirrored}
use Rattle.bac_tags.specs.Values.{has_length}

infixl 10 ◌>>=◌
abbrev pub ◌>>=◌ : {A B E : Type 0} → Result A E → (A → Result B E) → Result B E
(Ok x) >>= f = f x
(Err e) >>= f = Err e

-- what a call returned, seen by view, is what reading gives
abbrev pub Gives : {X Y E : Type 0} → (X → Y) → Result X E → Result Y E → Type 0
Gives view (Ok x) read = read ≡ Ok (view x)
Gives view (Err e) read = read ≡ Err e

unfoldable pub octet_at : List ℕ → ℕ → Result ℕ TagFault
octet_at input place = if nat_lt place (length input) then Ok (slice_index input place) else Err (Truncated (length input))

unfoldable pub octets_at : List ℕ → ℕ → ℕ → Result (List ℕ) TagFault
octets_at input place count =
    if nat_lt (length input) (place + count) then Err (Truncated (length input)) else Ok (slice_range input place (place + count))

-- the number of a tag, behind the initial octet with these high four bits
unfoldable pub number_at : List ℕ → ℕ → ℕ → Result (ℕ × ℕ) TagFault
number_at input place high = if high == 15 then (octet_at input place >>= λ number. Ok (number, place + 1)) else Ok (high, place)

-- a length of its own octets
unfoldable pub extended_at : List ℕ → ℕ → Result (ℕ × ℕ) TagFault
extended_at input place = do
  first ← octet_at input place
  if first == 254 then (octets_at input (place + 1) 2 >>= λ octets. Ok (big_number 2 octets, place + 3)) else (if first == 255 then (octets_at input (place + 1) 4 >>= λ octets. Ok (big_number 4 octets, place + 5)) else Ok (first, place + 1))

-- what follows a tag whose initial octet has these low three bits
unfoldable pub shape_at : List ℕ → ℕ → ℕ → Result (Shape × ℕ) TagFault
shape_at input place low =
    if low == 5 then (extended_at input place >>= λ long. Ok (Primitive long.0, long.1))
    else (if low == 6 then Ok (Opening, place) else (if low == 7 then Ok (Closing, place) else Ok (Primitive low, place)))

unfoldable pub tag_at : List ℕ → ℕ → Result (Tag × ℕ) TagFault
tag_at input place = do
  first ← octet_at input place
  number ← number_at input (place + 1) (first / 16)
  shape ← shape_at input number.1 (first % 8)
  Ok (record { number = number.0; context = first / 8 % 2 == 1; shape = shape.0 }, shape.1)

-- ---- primitive elements

abbrev pub length_in : Shape → Option ℕ
length_in (Primitive n) = Some n
length_in Opening = None
length_in Closing = None

-- the length in the tag of an element of this type, or with this number in a context
unfoldable pub header_at : List ℕ → ℕ → ℕ → Option ℕ → Result (ℕ × ℕ) TagFault
header_at input place type context = do
  tag ← tag_at input place
  n ← ok_or (length_in tag.0.shape) (WrongTag place)
  if tag.0.number == unwrap_or context type && beq tag.0.context (is_some context) then Ok (n, tag.1) else Err (WrongTag place)

-- the content of an element whose type has these lengths
unfoldable pub content_at : List ℕ → ℕ → ℕ → Option ℕ → ℕ → ℕ → Result (List ℕ × ℕ) TagFault
content_at input place type context least most = do
  header ← header_at input place type context
  if nat_lt header.0 least || nat_lt most header.0 then Err (BadLength place) else (octets_at input header.1 header.0 >>= λ content. Ok (content, header.1 + header.0))

-- ---- the value of a content

abbrev pub valued : {X : Type 0} → (List ℕ → X) → Result (List ℕ × ℕ) TagFault → Result (X × ℕ) TagFault
valued value read = read >>= λ x. Ok (value x.0, x.1)

abbrev pub unsigned_of : List ℕ → ℕ
unsigned_of content = big_number (length content) content

abbrev pub signed_of : List ℕ → ℤ
signed_of content = twos_complement (length content) (big_number (length content) content)

abbrev pub identifier_of : List ℕ → ObjectIdData
identifier_of content = record { number = big_number 4 content / 4194304; instance = big_number 4 content % 4194304 }

unfoldable pub unsigned_at : List ℕ → ℕ → Option ℕ → Result (ℕ × ℕ) TagFault
unsigned_at input place context = valued unsigned_of (content_at input place unsigned_tag context 1 4)

unfoldable pub signed_at : List ℕ → ℕ → Option ℕ → Result (ℤ × ℕ) TagFault
signed_at input place context = valued signed_of (content_at input place signed_tag context 1 4)

unfoldable pub object_at : List ℕ → ℕ → Option ℕ → Result (ObjectIdData × ℕ) TagFault
object_at input place context = valued identifier_of (content_at input place object_identifier_tag context 4 4)

-- the value of a content of its form
abbrev pub formed : {X : Type 0} → (List ℕ → Option X) → ℕ → Result (List ℕ × ℕ) TagFault → Result (X × ℕ) TagFault
formed value place read = read >>= λ x. ok_or (value x.0) (BadLength place) >>= λ v. Ok (v, x.1)

abbrev pub boolean_in : ℕ → Option Bool
boolean_in zero = Some false
boolean_in (suc zero) = Some true
boolean_in (suc (suc n)) = None

abbrev pub boolean_of : List ℕ → Option Bool
boolean_of [] = None
boolean_of (octet ∷ octets) = boolean_in octet

unfoldable pub boolean_at : List ℕ → ℕ → Option ℕ → Result (Bool × ℕ) TagFault
boolean_at input place None = header_at input place boolean_tag None >>= λ header. ok_or (boolean_in header.0) (BadLength place) >>= λ value. Ok (value, header.1)
boolean_at input place (Some number) = formed boolean_of place (content_at input place boolean_tag (Some number) 1 1)

abbrev pub string_of : ℕ → List ℕ → BitsData
string_of unused octets =
    record {
      size = 8 * length octets - unused;
      bits = mirrored (8 * length octets - unused) (big_number (length octets) octets / 2 ^ unused);
    }

abbrev pub bits_of : List ℕ → Option BitsData
bits_of [] = None
bits_of (unused ∷ octets) =
    if nat_lt 7 unused || nat_lt (8 * length octets) unused then None else Some (string_of unused octets)

unfoldable pub bits_at : List ℕ → ℕ → Option ℕ → Result (BitsData × ℕ) TagFault
bits_at input place context = formed bits_of place (content_at input place bit_string_tag context 1 9)

-- there is no value for a string of more than 64 bits
abbrev pub string_if_short : ℕ → List ℕ → Option BitsData
string_if_short unused octets = if nat_lt 8 (length octets) then None else Some (string_of unused octets)

abbrev pub any_bits_of : List ℕ → Option (Option BitsData)
any_bits_of [] = None
any_bits_of (unused ∷ octets) =
    if nat_lt 7 unused || nat_lt (8 * length octets) unused then None else Some (string_if_short unused octets)

unfoldable pub any_bits_at : List ℕ → ℕ → Result (Option BitsData × ℕ) TagFault
any_bits_at input place = formed any_bits_of place (content_at input place bit_string_tag None 1 longest_content)

unfoldable pub octet_string_at : List ℕ → ℕ → Result (List ℕ × ℕ) TagFault
octet_string_at input place = content_at input place octet_string_tag None 0 longest_content

unfoldable pub time_at : List ℕ → ℕ → Result (List ℕ × ℕ) TagFault
time_at input place = content_at input place time_tag None 4 4

unfoldable pub stamp_at : List ℕ → ℕ → Result (Stamp × ℕ) TagFault
stamp_at input place = do
  date ← content_at input place date_tag None 4 4
  time ← content_at input date.1 time_tag None 4 4
  Ok (record { octets = date.0 ++ time.0 }, time.1)

-- ---- one application value

-- the type, the length and the place after the tag
unfoldable pub application_at : List ℕ → ℕ → Result (ℕ × ℕ × ℕ) TagFault
application_at input place = do
  tag ← tag_at input place
  n ← ok_or (length_in tag.0.shape) (WrongTag place)
  if tag.0.context then Err (WrongTag place) else Ok (tag.0.number, n, tag.1)

abbrev pub number_in : ℕ → Value → List ℕ → Value
number_in type value content = if nat_lt 4 (length content) then values.Opaque type OutOfRange else value

abbrev pub characters_in : List ℕ → Value
characters_in octets =
    if nat_lt most_text_octets (length octets) then values.Opaque character_string_tag TooLong else (if is_utf8 octets then values.Text octets else values.Opaque character_string_tag NotUtf8)

abbrev pub text_in : List ℕ → Value
text_in [] = values.Opaque character_string_tag CharacterSet
text_in (set ∷ octets) = if set == 0 then characters_in octets else values.Opaque character_string_tag CharacterSet

abbrev pub string_in : List ℕ → Option Value
string_in [] = None
string_in (unused ∷ octets) =
    if nat_lt 7 unused || nat_lt (8 * length octets) unused then None
    else Some (if nat_lt 8 (length octets) then values.Opaque bit_string_tag OutOfRange else values.Bits (string_of unused octets))

-- the value of a content of this type, if the content has the type's form
unfoldable pub value_in : ℕ → List ℕ → Option Value
value_in type content =
    if type == null_tag then Some values.Null
    else (if type == unsigned_tag then Some (number_in unsigned_tag (values.Unsigned (unsigned_of content)) content)
    else (if type == signed_tag then Some (number_in signed_tag (values.Signed (signed_of content)) content)
    else (if type == character_string_tag then Some (text_in content)
    else (if type == bit_string_tag then string_in content
    else (if type == enumerated_tag then Some (number_in enumerated_tag (values.Enumerated (unsigned_of content)) content)
    else (if type == object_identifier_tag then Some (values.Object (identifier_of content))
    else Some (values.Opaque type OtherType)))))))

unfoldable pub value_at : List ℕ → ℕ → Result (Value × ℕ) TagFault
value_at input place = do
  header ← application_at input place
  if not (has_length header.0 header.1) then Err (BadLength place)
      else (if header.0 == boolean_tag then Ok (values.Bool (header.1 == 1), header.2)
      else (octets_at input header.2 header.1 >>= λ content. ok_or (value_in header.0 content) (BadLength place) >>= λ value. Ok (value, header.2 + header.1)))

-- a text takes memory
abbrev pub IsText : Value → Type 0
IsText (values.Text text) = Unit {0}
IsText values.Null = ⊥
IsText (values.Bool b) = ⊥
IsText (values.Unsigned n) = ⊥
IsText (values.Signed z) = ⊥
IsText (values.Bits string) = ⊥
IsText (values.Enumerated n) = ⊥
IsText (values.Object id) = ⊥
IsText (values.DateTime stamp) = ⊥
IsText (values.Opaque tag why) = ⊥

-- what is answered is what reading gives, but that a text may get no memory
abbrev pub GivesValue : Result (Value × ℕ) TagFault → Result (Value × ℕ) TagFault → Type 0
GivesValue answer read = (answer ≡ read) ⊎ ((answer ≡ Err NoMemory) × IsOkAnd read (λ x. IsText x.0))
