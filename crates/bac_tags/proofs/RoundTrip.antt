-- What was written is read back, whatever stands before it and behind it.
use Rattle.std.proofs.Common.{◌≡◌, ℕ, ℤ, ◌+◌, ◌^◌, ◌<◌, ◌≤◌, Bool, Option, Some, None, List, ◌++◌, length, drop, Ok, refl, ap, ◌∙◌, append_assoc, arith}
use Rattle.std.specs.Prelude.{FitsSigned}
use Rattle.std.specs.Int.{w32}
use Rattle.std.proofs.lemmas.List.{length-append, drop_at}
use Rattle.bac_values.specs.Identifier.{IsIdentifier, ObjectIdData}
use Rattle.bac_values.specs.BitString.{IsBitString, BitsData}
use Rattle.bac_values.specs.declared.stamp.Stamp.{Stamp}
use Rattle.bac_values.specs.declared.value.Value.{Value}
use Rattle.bac_tags.specs.declared.tag.Tag.{Tag}
use Rattle.bac_tags.specs.Tags.{FitsShape}
use Rattle.bac_tags.specs.Elements.{longest_content}
use Rattle.bac_tags.specs.Contents.{IsUnsigned, IsSigned, IsObject, IsBoolean, IsBits, IsOctetString}
use Rattle.bac_tags.specs.Stamps.{IsFour}
use Rattle.bac_tags.specs.Values.{IsOneElement}
use Rattle.bac_tags.specs.ReadingSteps.{tag_at, unsigned_of, unsigned_at, signed_of, signed_at, identifier_of, object_at, boolean_of, boolean_at, bits_of, bits_at, octet_string_at, time_at, stamp_at, value_at}
use Rattle.bac_tags.specs.Writing.{written_tag, written_unsigned, written_signed, written_object, written_boolean, written_bits, written_octet_string, written_time, written_stamp, written_value}
use Rattle.bac_tags.proofs.Standing.{Stands, Stands-from}
use Rattle.bac_tags.proofs.TagLaws.{tag_again}
use Rattle.bac_tags.proofs.Readers.{value_again as content_again, form_again}
use Rattle.bac_tags.proofs.Numbers.{unsigned_values, signed_values, identifier_values, four_values, bits_forms}
use Rattle.bac_tags.proofs.LongReaders.{IsShort, octet_string_values, as_it_is}
use Rattle.bac_tags.proofs.Booleans.{boolean_forms, application_again}
use Rattle.bac_tags.proofs.StampLaws.{stamp_again}
use Rattle.bac_tags.proofs.ValueLaws.{value_again}
use Rattle.bac_tags.proofs.Written.{tag_written}
use Rattle.bac_tags.proofs.WrittenElements.{element_written, unsigned_written, signed_written, object_written, boolean_written, bits_written, stamp_written, value_written}

between : (before octets rest : List ℕ) → Stands (before ++ octets ++ rest) (length before) octets (length before + length octets)
between before octets rest =
    Stands-from (before ++ octets ++ rest) (length before) octets rest (ap (drop (length before)) (append_assoc before octets rest) ∙ drop_at before (octets ++ rest) (length before) refl)

within : (before octets rest : List ℕ) → length before ≤ length (before ++ octets ++ rest)
within before octets rest = omega (arith, length-append (before ++ octets) rest, length-append before octets)

pub tag_back : (before rest : List ℕ) (tag : Tag) → FitsShape tag.shape → tag_at (before ++ written_tag tag ++ rest) (length before) ≡ Ok (tag, length before + length (written_tag tag))
tag_back before rest tag fits =
    tag_again (before ++ written_tag tag ++ rest) (length before) (written_tag tag) tag (length before + length (written_tag tag)) (tag_written tag fits) (between before (written_tag tag) rest)

pub unsigned_back : (before rest : List ℕ) (context : Option ℕ) (n : ℕ) → n < 2 ^ 32 → unsigned_at (before ++ written_unsigned context n ++ rest) (length before) context ≡ Ok (n, length before + length (written_unsigned context n))
unfolding unsigned_at
unsigned_back before rest context n fits =
    let octets = written_unsigned context n in
    content_again 2 context 1 4 unsigned_of IsUnsigned unsigned_values (before ++ octets ++ rest) (length before) (within before octets rest) octets n (length before + length octets) (unsigned_written context n fits) (between before octets rest)

pub signed_back : (before rest : List ℕ) (context : Option ℕ) (z : ℤ) → FitsSigned w32 z → signed_at (before ++ written_signed context z ++ rest) (length before) context ≡ Ok (z, length before + length (written_signed context z))
unfolding signed_at
signed_back before rest context z fits =
    let octets = written_signed context z in
    content_again 3 context 1 4 signed_of IsSigned signed_values (before ++ octets ++ rest) (length before) (within before octets rest) octets z (length before + length octets) (signed_written context z fits) (between before octets rest)

pub object_back : (before rest : List ℕ) (context : Option ℕ) (id : ObjectIdData) → IsIdentifier id.number id.instance → object_at (before ++ written_object context id ++ rest) (length before) context ≡ Ok (id, length before + length (written_object context id))
unfolding object_at
object_back before rest context id fits =
    let octets = written_object context id in
    content_again 12 context 4 4 identifier_of IsObject identifier_values (before ++ octets ++ rest) (length before) (within before octets rest) octets id (length before + length octets) (object_written context id fits) (between before octets rest)

pub boolean_back : (before rest : List ℕ) (context : Option ℕ) (b : Bool) → boolean_at (before ++ written_boolean context b ++ rest) (length before) context ≡ Ok (b, length before + length (written_boolean context b))
unfolding boolean_at
boolean_back before rest None b =
    let octets = written_boolean None b in
    application_again (before ++ octets ++ rest) (length before) octets b (length before + length octets) (boolean_written None b) (between before octets rest)
boolean_back before rest (Some number) b =
    let octets = written_boolean (Some number) b in
    form_again 1 (Some number) 1 1 boolean_of IsBoolean boolean_forms (before ++ octets ++ rest) (length before) (within before octets rest) octets b (length before + length octets) (boolean_written (Some number) b) (between before octets rest)

pub bits_back : (before rest : List ℕ) (context : Option ℕ) (string : BitsData) → IsBitString string.size string.bits → bits_at (before ++ written_bits context string ++ rest) (length before) context ≡ Ok (string, length before + length (written_bits context string))
unfolding bits_at
bits_back before rest context string fits =
    let octets = written_bits context string in
    form_again 8 context 1 9 bits_of IsBits bits_forms (before ++ octets ++ rest) (length before) (within before octets rest) octets string (length before + length octets) (bits_written context string fits) (between before octets rest)

pub octet_string_back : (before rest octets : List ℕ) → length octets < 2 ^ 32 → octet_string_at (before ++ written_octet_string octets ++ rest) (length before) ≡ Ok (octets, length before + length (written_octet_string octets))
unfolding octet_string_at
octet_string_back before rest content short =
    let octets = written_octet_string content in
    let spelled = element_written 6 None (IsShort IsOctetString) content content short (record { short = short; is = refl }) in
    as_it_is _ ∙ content_again 6 None 0 longest_content (λ octets. octets) (IsShort IsOctetString) octet_string_values (before ++ octets ++ rest) (length before) (within before octets rest) octets content (length before + length octets) spelled (between before octets rest)

pub time_back : (before rest time : List ℕ) → length time ≡ 4 → time_at (before ++ written_time time ++ rest) (length before) ≡ Ok (time, length before + length (written_time time))
unfolding time_at
time_back before rest time four =
    let octets = written_time time in
    let spelled = element_written 11 None IsFour time time (omega (arith, four)) (four, refl) in
    as_it_is _ ∙ content_again 11 None 4 4 (λ octets. octets) IsFour four_values (before ++ octets ++ rest) (length before) (within before octets rest) octets time (length before + length octets) spelled (between before octets rest)

pub stamp_back : (before rest : List ℕ) (stamp : Stamp) → length stamp.octets ≡ 8 → stamp_at (before ++ written_stamp stamp ++ rest) (length before) ≡ Ok (stamp, length before + length (written_stamp stamp))
stamp_back before rest stamp eight =
    let octets = written_stamp stamp in
    stamp_again (before ++ octets ++ rest) (length before) (within before octets rest) octets stamp (length before + length octets) (stamp_written stamp eight) (between before octets rest)

pub value_back : (before rest : List ℕ) (value : Value) → IsOneElement value → value_at (before ++ written_value value ++ rest) (length before) ≡ Ok (value, length before + length (written_value value))
value_back before rest value h =
    let octets = written_value value in
    value_again (before ++ octets ++ rest) (length before) (within before octets rest) octets value (length before + length octets) (value_written value h) (between before octets rest)
