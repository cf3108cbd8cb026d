-- No notification is longer than its longest parts allow.
use Rattle.bac_values.specs.Limits.{most_note_octets}
use Rattle.std.proofs.Common.{◌≡◌, ℤ, pos, negsuc, ℕ, ◌+◌, ◌*◌, ◌^◌, ◌≤◌, Bool, Option, Some, None, List, [], ◌∷◌, ◌++◌, length, take, drop, ap, arith, inl, inr}
use Rattle.std.specs.Int.{w32, cast_unsigned, from_bool}
use Rattle.std.proofs.lemmas.Bool.{cases_lt, lt-ltb, le-ltb}
use Rattle.std.proofs.lemmas.List.{length-append, length-take, length-drop}
use Rattle.byteorder.specs.Endian.{big_bytes}
use Rattle.byteorder.specs.Numbers.{length-bytes_high_first}
use Rattle.bac_values.specs.BitString.{BitsData}
use Rattle.bac_values.specs.EventStates.{number_of_state}
use Rattle.bac_values.specs.Reliabilities.{number_of_reliability}
use Rattle.bac_values.specs.Identifier.{ObjectIdData}
use Rattle.bac_values.specs.declared.event_state.EventState.{EventState}
use Rattle.bac_values.specs.declared.stamp.Stamp.{Stamp}
use Rattle.bac_values.specs.declared.status_flags.StatusFlags.{StatusFlags}
use Rattle.bac_values.specs.declared.value.Value.{Value}
use Rattle.bac_values.specs.declared.value.Value.TheVariants as values
use Rattle.bac_tags.specs.declared.tag.Tag.{Tag}
use Rattle.bac_tags.specs.declared.tag.Shape.{Shape}
use Rattle.bac_tags.specs.declared.tag.Shape.TheVariants.{Primitive, Opening, Closing}
use Rattle.bac_tags.specs.Contents.{mirrored}
use Rattle.bac_tags.specs.Elements.{element_tag}
use Rattle.bac_tags.specs.Writing.{written_tag, written_number, written_length, written_shape, written_element, unsigned_size, half_size, signed_size, written_unsigned, written_signed, written_object, written_boolean, octets_of_bits, unused_of_bits, written_bits, written_stamp, written_value}
use Rattle.bac_tags.specs.EnclosingTags.{opening, closing}
use Rattle.event_services.specs.declared.notification.Notification.{Notification}
use Rattle.event_services.specs.declared.notification.EventValues.{EventValues}
use Rattle.event_services.specs.declared.notification.EventValues.TheVariants.{Bitstring, State, Command, UnsignedRange, SignedOutOfRange, UnsignedOutOfRange, Characterstring, Reliability}
use Rattle.event_services.specs.Notifications.{type_of_values, written_text_in, bits_of_flags, written_flags, state_number, written_property, written_told, written_values, written_kind, written_states}
use Rattle.event_services.specs.NoteTails.{LeavesRoom, written_objects, written_occurrence}
use Rattle.bac_tags.specs.ParameterWriting.{written_enclosed, written_if_given}
use Rattle.event_services.specs.NoteLengths.{HasShortText, IsShort, AreShort}
use Rattle.event_services.specs.NoteRanges.{IfAny}

-- ---- tags and elements

number_octets : (number : ℕ) → length (written_number number) ≤ 1
number_octets number =
    elim (cases_lt number 15) [
      | inl lt ↦ rw (lt-ltb number 15 lt) (omega arith)
      | inr le ↦ rw (le-ltb number 15 le) (omega arith)
    ]

length_octets : (n : ℕ) → length (written_length n) ≤ 5
length_octets n =
    elim (cases_lt n 5) [
      | inl lt ↦ rw (lt-ltb n 5 lt) (omega arith)
      | inr le1 ↦ elim (cases_lt n 254) [
        | inl lt ↦ rw (le-ltb n 5 le1, lt-ltb n 254 lt) (omega arith)
        | inr le2 ↦ elim (cases_lt n 65536) [
          | inl lt ↦ rw (le-ltb n 5 le1, le-ltb n 254 le2, lt-ltb n 65536 lt) (omega arith)
          | inr le3 ↦ rw (le-ltb n 5 le1, le-ltb n 254 le2, le-ltb n 65536 le3) (omega arith)
        ]
      ]
    ]

shape_octets : (shape : Shape) → length (written_shape shape) ≤ 5
shape_octets (Primitive n) = length_octets n
shape_octets Opening = omega arith
shape_octets Closing = omega arith

tag_octets : (tag : Tag) → length (written_tag tag) ≤ 7
unfolding written_tag
tag_octets tag = omega (arith, length-append (written_number tag.number) (written_shape tag.shape), number_octets tag.number, shape_octets tag.shape)

element_octets : (type : ℕ) (context : Option ℕ) (content : List ℕ) → length (written_element type context content) ≤ 7 + length content
element_octets type context content =
    omega (arith, length-append (written_tag (element_tag type context (length content))) content, tag_octets (element_tag type context (length content)))

unsigned_few : (n : ℕ) → unsigned_size n ≤ 4
unsigned_few n =
    elim (cases_lt n 256) [
      | inl lt ↦ rw (lt-ltb n 256 lt) (omega arith)
      | inr le1 ↦ elim (cases_lt n 65536) [
        | inl lt ↦ rw (le-ltb n 256 le1, lt-ltb n 65536 lt) (omega arith)
        | inr le2 ↦ elim (cases_lt n 16777216) [
          | inl lt ↦ rw (le-ltb n 256 le1, le-ltb n 65536 le2, lt-ltb n 16777216 lt) (omega arith)
          | inr le3 ↦ rw (le-ltb n 256 le1, le-ltb n 65536 le2, le-ltb n 16777216 le3) (omega arith)
        ]
      ]
    ]

half_few : (n : ℕ) → half_size n ≤ 4
half_few n =
    elim (cases_lt n 128) [
      | inl lt ↦ rw (lt-ltb n 128 lt) (omega arith)
      | inr le1 ↦ elim (cases_lt n 32768) [
        | inl lt ↦ rw (le-ltb n 128 le1, lt-ltb n 32768 lt) (omega arith)
        | inr le2 ↦ elim (cases_lt n 8388608) [
          | inl lt ↦ rw (le-ltb n 128 le1, le-ltb n 32768 le2, lt-ltb n 8388608 lt) (omega arith)
          | inr le3 ↦ rw (le-ltb n 128 le1, le-ltb n 32768 le2, le-ltb n 8388608 le3) (omega arith)
        ]
      ]
    ]

signed_few : (z : ℤ) → signed_size z ≤ 4
signed_few (pos n) = half_few n
signed_few (negsuc n) = half_few n

-- an element of a number in at most so many octets
big_octets : (type : ℕ) (context : Option ℕ) (size n most : ℕ) → size ≤ most → length (written_element type context (big_bytes size n)) ≤ 7 + most
big_octets type context size n most le = omega (arith, element_octets type context (big_bytes size n), length-bytes_high_first size n)

unsigned_octets : (context : Option ℕ) (n : ℕ) → length (written_unsigned context n) ≤ 11
unsigned_octets context n = big_octets 2 context (unsigned_size n) n 4 (unsigned_few n)

enumerated_octets : (context : Option ℕ) (n : ℕ) → length (written_element 9 context (big_bytes (unsigned_size n) n)) ≤ 11
enumerated_octets context n = big_octets 9 context (unsigned_size n) n 4 (unsigned_few n)

signed_octets : (context : Option ℕ) (z : ℤ) → length (written_signed context z) ≤ 11
signed_octets context z = big_octets 3 context (signed_size z) (cast_unsigned w32 z) 4 (signed_few z)

object_octets : (context : Option ℕ) (id : ObjectIdData) → length (written_object context id) ≤ 11
object_octets context id = big_octets 12 context 4 (id.number * 4194304 + id.instance) 4 (omega arith)

boolean_octets : (context : Option ℕ) (b : Bool) → length (written_boolean context b) ≤ 8
boolean_octets None b = omega (arith, tag_octets (element_tag 1 None (from_bool b)))
boolean_octets (Some number) b = element_octets 1 (Some number) (from_bool b ∷ [])

bits_octets : (context : Option ℕ) (string : BitsData) → string.size ≤ 64 → length (written_bits context string) ≤ 16
bits_octets context string few = omega (arith, element_octets 8 context (unused_of_bits string.size ∷ big_bytes (octets_of_bits string.size) bits), length-bytes_high_first (octets_of_bits string.size) bits, size string.size few)
  where
    bits : ℕ
    bits = mirrored string.size string.bits * 2 ^ unused_of_bits string.size

    size : (n : ℕ) → n ≤ 64 → octets_of_bits n ≤ 8
    size n le = omega arith

stamp_octets : (stamp : Stamp) → length stamp.octets ≡ 8 → length (written_stamp stamp) ≤ 22
stamp_octets stamp eight =
    omega (arith, length-append (written_element 10 None (take 4 stamp.octets)) (written_element 11 None (drop 4 stamp.octets)), element_octets 10 None (take 4 stamp.octets), element_octets 11 None (drop 4 stamp.octets), length-take 4 stamp.octets, length-drop 4 stamp.octets)

text_octets : (number : ℕ) (text : List ℕ) → HasShortText text → length (written_text_in number text) ≤ 264
text_octets number text short = omega (arith, element_octets 7 (Some number) (0 ∷ text))

value_octets : (value : Value) → IsShort value → length (written_value value) ≤ 264
value_octets values.Null short = omega (arith, element_octets 0 None [])
value_octets (values.Bool b) short = omega (arith, boolean_octets None b)
value_octets (values.Unsigned n) short = omega (arith, unsigned_octets None n)
value_octets (values.Signed z) short = omega (arith, signed_octets None z)
value_octets (values.Text text) short = omega (arith, element_octets 7 None (0 ∷ text))
value_octets (values.Bits string) short = omega (arith, bits_octets None string short)
value_octets (values.Enumerated n) short = omega (arith, enumerated_octets None n)
value_octets (values.Object id) short = omega (arith, object_octets None id)
value_octets (values.DateTime stamp) short = absurd short
value_octets (values.Opaque tag why) short = absurd short

flags_octets : (flags : StatusFlags) → length (written_flags flags) ≤ 9
flags_octets flags = element_octets 8 (Some 1) (4 ∷ big_bytes 1 (mirrored 4 (bits_of_flags flags).bits * 16))

enclosed_octets : (number : ℕ) (inside : List ℕ) (most : ℕ) → length inside ≤ most → length (written_enclosed number inside) ≤ 14 + most
enclosed_octets number inside most le =
    omega (arith, length-append (written_tag (opening number) ++ inside) (written_tag (closing number)), length-append (written_tag (opening number)) inside, tag_octets (opening number), tag_octets (closing number))

-- ---- the notification

two_octets : (a b : List ℕ) (most_a most_b : ℕ) → length a ≤ most_a → length b ≤ most_b → length (a ++ b) ≤ most_a + most_b
two_octets a b most_a most_b la lb = omega (arith, length-append a b)

three_octets : (a b c : List ℕ) (most_a most_b most_c : ℕ) → length a ≤ most_a → length b ≤ most_b → length c ≤ most_c → length (a ++ b ++ c) ≤ most_a + most_b + most_c
three_octets a b c most_a most_b most_c la lb lc = two_octets (a ++ b) c (most_a + most_b) most_c (two_octets a b most_a most_b la lb) lc

four_octets : (a b c d : List ℕ) (most_a most_b most_c most_d : ℕ) → length a ≤ most_a → length b ≤ most_b → length c ≤ most_c → length d ≤ most_d → length (a ++ b ++ c ++ d) ≤ most_a + most_b + most_c + most_d
four_octets a b c d most_a most_b most_c most_d la lb lc ld =
    two_octets (a ++ b ++ c) d (most_a + most_b + most_c) most_d (three_octets a b c most_a most_b most_c la lb lc) ld

property_octets : (property : Option Value) → IfAny IsShort property → length (written_property property) ≤ 289
property_octets None short = omega arith
property_octets (Some value) short =
    two_octets (written_unsigned (Some 0) 85) (written_enclosed 2 (written_value value)) 11 278 (unsigned_octets (Some 0) 85) (enclosed_octets 2 (written_value value) 264 (value_octets value short))

told_octets : (told : EventValues) → AreShort told → length (written_told told) ≤ 565
told_octets (Bitstring referenced flags) short =
    omega (arith, two_octets (written_bits (Some 0) referenced) (written_flags flags) 16 9 (bits_octets (Some 0) referenced short) (flags_octets flags))
told_octets (State binary number flags) short =
    omega (arith, two_octets (written_enclosed 0 (written_unsigned (Some (state_number binary)) number)) (written_flags flags) 25 9 (enclosed_octets 0 (written_unsigned (Some (state_number binary)) number) 11 (unsigned_octets (Some (state_number binary)) number)) (flags_octets flags))
told_octets (Command command flags feedback) short =
    three_octets (written_enclosed 0 (written_value command)) (written_flags flags) (written_enclosed 2 (written_value feedback)) 278 9 278
    (enclosed_octets 0 (written_value command) 264 (value_octets command short.0)) (flags_octets flags) (enclosed_octets 2 (written_value feedback) 264 (value_octets feedback short.1))
told_octets (UnsignedRange value flags limit) short =
    omega (arith, three_octets (written_unsigned (Some 0) value) (written_flags flags) (written_unsigned (Some 2) limit) 11 9 11 (unsigned_octets (Some 0) value) (flags_octets flags) (unsigned_octets (Some 2) limit))
told_octets (SignedOutOfRange value flags deadband limit) short =
    omega (arith, four_octets (written_signed (Some 0) value) (written_flags flags) (written_unsigned (Some 2) deadband) (written_signed (Some 3) limit) 11 9 11 11 (signed_octets (Some 0) value) (flags_octets flags) (unsigned_octets (Some 2) deadband) (signed_octets (Some 3) limit))
told_octets (UnsignedOutOfRange value flags deadband limit) short =
    omega (arith, four_octets (written_unsigned (Some 0) value) (written_flags flags) (written_unsigned (Some 2) deadband) (written_unsigned (Some 3) limit) 11 9 11 11 (unsigned_octets (Some 0) value) (flags_octets flags) (unsigned_octets (Some 2) deadband) (unsigned_octets (Some 3) limit))
told_octets (Characterstring changed flags alarm) short =
    omega (arith, three_octets (written_text_in 0 changed) (written_flags flags) (written_text_in 2 alarm) 264 9 264 (text_octets 0 changed short.0) (flags_octets flags) (text_octets 2 alarm short.1))
told_octets (Reliability reliability flags property) short =
    omega (arith, three_octets (written_unsigned (Some 0) (number_of_reliability reliability)) (written_flags flags) (written_enclosed 2 (written_property property)) 11 9 303 (unsigned_octets (Some 0) (number_of_reliability reliability)) (flags_octets flags) (enclosed_octets 2 (written_property property) 289 (property_octets property short)))

values_octets : (values : Option EventValues) → IfAny AreShort values → length (written_if_given written_values values) ≤ 593
values_octets None short = omega arith
values_octets (Some told) short =
    enclosed_octets 12 (written_enclosed (type_of_values told) (written_told told)) 579 (enclosed_octets (type_of_values told) (written_told told) 565 (told_octets told short))

message_octets : (text : Option (List ℕ)) → IfAny HasShortText text → length (written_if_given (written_text_in 7) text) ≤ 264
message_octets None short = omega arith
message_octets (Some text) short = text_octets 7 text short

ack_octets : (ack_required : Option Bool) → length (written_if_given (written_boolean (Some 9)) ack_required) ≤ 8
ack_octets None = omega arith
ack_octets (Some required) = boolean_octets (Some 9) required

from_octets : (from : Option EventState) → length (written_if_given (λ state. written_unsigned (Some 10) (number_of_state state)) from) ≤ 11
from_octets None = omega arith
from_octets (Some state) = unsigned_octets (Some 10) (number_of_state state)

objects_octets : (note : Notification) → length (written_objects note) ≤ 22
objects_octets note =
    two_octets (written_object (Some 1) note.device) (written_object (Some 2) note.object) 11 11 (object_octets (Some 1) note.device) (object_octets (Some 2) note.object)

kind_octets : (note : Notification) → length (written_kind note) ≤ 33
kind_octets note =
    three_octets (written_unsigned (Some 4) note.class) (written_unsigned (Some 5) note.priority) (written_unsigned (Some 6) note.event_type) 11 11 11 (unsigned_octets (Some 4) note.class) (unsigned_octets (Some 5) note.priority) (unsigned_octets (Some 6) note.event_type)

event_octets : (note : Notification) → length note.stamp.octets ≡ 8 → length (written_occurrence note) ≤ 105
event_octets note eight =
    three_octets (written_objects note) (written_enclosed 3 (written_enclosed 2 (written_stamp note.stamp))) (written_kind note) 22 50 33
    (objects_octets note) (enclosed_octets 3 (written_enclosed 2 (written_stamp note.stamp)) 36 (enclosed_octets 2 (written_stamp note.stamp) 22 (stamp_octets note.stamp eight))) (kind_octets note)

states_octets : (note : Notification) → length (written_states note) ≤ 41
states_octets note =
    four_octets (written_unsigned (Some 8) note.notify) (written_if_given (written_boolean (Some 9)) note.ack_required) (written_if_given (λ state. written_unsigned (Some 10) (number_of_state state)) note.from) (written_unsigned (Some 11) (number_of_state note.to)) 11 8 11 11
    (unsigned_octets (Some 8) note.notify) (ack_octets note.ack_required) (from_octets note.from) (unsigned_octets (Some 11) (number_of_state note.to))

-- a process identifier with what stands behind it
pub before_octets : (process : ℕ) (tail : List ℕ) → LeavesRoom tail → length (written_unsigned (Some 0) process ++ tail) ≤ most_note_octets
before_octets process tail room = omega (arith, length-append (written_unsigned (Some 0) process) tail, unsigned_octets (Some 0) process)

-- what was written part by part behind it, of a notification with a whole stamp and with short texts, has at most 1,003 octets
pub parts_octets : (note : Notification) (start event message states all : List ℕ) → start ≡ [] → event ≡ start ++ written_occurrence note → message ≡ event ++ written_if_given (written_text_in 7) note.text → states ≡ message ++ written_states note → all ≡ states ++ written_if_given written_values note.values
    → length note.stamp.octets ≡ 8 → IfAny HasShortText note.text → IfAny AreShort note.values → LeavesRoom all
parts_octets note start event message states all e f g h i eight text values =
    omega (
      arith,
      ap (λ (xs : List ℕ). length xs) e,
      ap (λ (xs : List ℕ). length xs) f,
      ap (λ (xs : List ℕ). length xs) g,
      ap (λ (xs : List ℕ). length xs) h,
      ap (λ (xs : List ℕ). length xs) i,
      length-append start (written_occurrence note),
      length-append event (written_if_given (written_text_in 7) note.text),
      length-append message (written_states note),
      length-append states (written_if_given written_values note.values),
      event_octets note eight,
      message_octets note.text text,
      states_octets note,
      values_octets note.values values,
    )
