-- Values: each is read exactly as it is written.
use Rattle.std.proofs.Common.{◌≡◌, ℕ, ◌^◌, ◌<◌, ◌≤◌, Bool, true, eqb, ltb, leb, ◌&&◌, List, ◌∷◌, ◌++◌, length, Option, Some, refl, sym, ap, subst, ◌∙◌, arith, ℤ, pow_mono, lt_of_lt_of_le}
use Rattle.std.specs.Prelude.{IsUtf8}
use Rattle.std.specs.Int.{w16, w32, w64, to_be_bytes, cast_signed, cast_unsigned}
use Rattle.std.specs.Str.{is_utf8}
use Rattle.std.proofs.lemmas.Bool.{ltb-true, lt-ltb, leb-true, le-leb, eqb-true}
use Rattle.std.proofs.lemmas.Int.{to_z-of_z, of_z-to_z}
use Rattle.std.proofs.lemmas.Option.{cond_some}
use Rattle.std.proofs.lemmas.Str.{IsUtf8-from_is_utf8}
use mir.ValLaws as laws
use Rattle.bac_values.specs.BitString.{BitsData, IsBitString}
use Rattle.bac_values.specs.ApplicationTags.{boolean_tag, unsigned_tag, signed_tag, character_string_tag, bit_string_tag, enumerated_tag}
use Rattle.bac_values.specs.declared.value.Value.{Value}
use Rattle.bac_values.specs.declared.value.Value.TheVariants as values
use Rattle.state_codec.specs.Records.{written_flag, written_text, written_bits, written_value, IsRecorded}
use Rattle.state_codec.specs.ReadingSteps.{◌>>=◌, then_at, last_at, octet_at, octets_at, number_at, flag_at, text_of, text_at, bits_of, bits_at, content_at, value_at}
use Rattle.state_codec.proofs.Behind.{Reads, both_true, reads_then, reads_last, reads_behind, takes_either, takes_last, takes_none, TakesBehind}
use Rattle.state_codec.proofs.Texts.{is_text}
use Rattle.state_codec.proofs.PartLaws.{written_octet, IsOctet, as_they_are, HasLength, IsBelow, IsAny, octet_reads, octets_reads, u16_reads, u32_reads, u64_reads, flag_reads}

-- ---- texts

abbrev pub IsShortText : List ℕ → Type 0
IsShortText text = (length text ≤ 256) × IsUtf8 text

text_forth : (count : ℕ) (octets text : List ℕ) → length octets ≡ count → text_of octets ≡ Some text → (IsShortText text × (length text ≡ count)) × (text ≡ octets)
text_forth count octets text long e =
    let g = cond_some (leb (length octets) 256 && is_utf8 octets) octets text e in
    let t = both_true (leb (length octets) 256) (is_utf8 octets) g.0 in
    subst (λ (x : List ℕ). (IsShortText x × (length x ≡ count)) × (x ≡ octets)) g.1 (((leb-true _ _ t.0, IsUtf8-from_is_utf8 octets t.1), long), refl)

text_back : (count : ℕ) (text : List ℕ) → IsShortText text × (length text ≡ count) → (octets : List ℕ) × (length octets ≡ count) × (text_of octets ≡ Some text) × (text ≡ octets)
text_back count text is = (text, is.1, is_text text is.0.0 is.0.1, refl)

pub text_reads : Reads text_at written_text IsShortText
unfolding text_at
text_reads =
    reads_then (number_at w16) (λ count. last_at (octets_at count) text_of) (to_be_bytes w16) (IsBelow (2 ^ 16)) (λ text. length text) as_they_are IsShortText u16_reads (λ text is. omega (arith, is.0))
    (λ count lt. reads_last (octets_at count) text_of as_they_are (HasLength count) as_they_are (λ text. IsShortText text × (length text ≡ count)) (octets_reads count) (text_forth count) (text_back count))

-- ---- strings of bits

abbrev pub AreBits : BitsData → Type 0
AreBits string = IsBitString string.size string.bits

abbrev string_of : ℕ → ℕ → BitsData
string_of size bits = record { size = size; bits = bits }

bits_forth : (size bits : ℕ) (string : BitsData) → bits < 2 ^ 64 → bits_of size bits ≡ Some string → (AreBits string × (string.size ≡ size)) × (to_be_bytes w64 string.bits ≡ to_be_bytes w64 bits)
bits_forth size bits string lt e =
    let g = cond_some (leb size 64 && ltb bits (2 ^ size)) (string_of size bits) string e in
    let t = both_true (leb size 64) (ltb bits (2 ^ size)) g.0 in
    subst (λ (s : BitsData). (AreBits s × (s.size ≡ size)) × (to_be_bytes w64 s.bits ≡ to_be_bytes w64 bits)) g.1 (((leb-true _ _ t.0, ltb-true _ _ t.1), refl), refl)

bits_back : (size : ℕ) (string : BitsData) → AreBits string × (string.size ≡ size) → (bits : ℕ) × (bits < 2 ^ 64) × (bits_of size bits ≡ Some string) × (to_be_bytes w64 string.bits ≡ to_be_bytes w64 bits)
bits_back size string is =
    let fits : string.bits < 2 ^ 64 = lt_of_lt_of_le is.0.1 (pow_mono {i = string.size} {j = 64} is.0.0) in
    let same : bits_of string.size string.bits ≡ Some string = rw (le-leb _ _ is.0.0, lt-ltb _ _ is.0.1) refl in
    (string.bits, fits, subst (λ (s : ℕ). bits_of s string.bits ≡ Some string) is.1 same, refl)

pub bits_reads : Reads bits_at written_bits AreBits
unfolding bits_at
bits_reads =
    reads_then octet_at (λ size. last_at (number_at w64) (bits_of size)) written_octet IsOctet (λ string. string.size) (λ string. to_be_bytes w64 string.bits) AreBits octet_reads (λ string is. omega (arith, is.0))
    (λ size lt. reads_last (number_at w64) (bits_of size) (to_be_bytes w64) (IsBelow (2 ^ 64)) (λ string. to_be_bytes w64 string.bits) (λ string. AreBits string × (string.size ≡ size)) u64_reads (bits_forth size) (bits_back size))

-- ---- values

pub behind : (tag number : ℕ) (octets : List ℕ) → eqb tag number ≡ true → number ∷ octets ≡ tag ∷ octets
behind tag number octets is = ap (λ (n : ℕ). n ∷ octets) (sym (eqb-true tag number is))

signed_forth : (tag number : ℕ) → eqb tag signed_tag ≡ true → number < 2 ^ 32 → IsRecorded (values.Signed (cast_signed w32 number)) × (written_value (values.Signed (cast_signed w32 number)) ≡ tag ∷ to_be_bytes w32 number)
signed_forth tag number is lt =
    (laws.to_z-Fits w32 number (record { fits = lt }), ap (λ (n : ℕ). signed_tag ∷ to_be_bytes w32 n) (of_z-to_z w32 number lt) ∙ behind tag signed_tag (to_be_bytes w32 number) is)

value_takes : (tag : ℕ) → TakesBehind written_value IsRecorded tag (content_at tag)
unfolding content_at
value_takes tag =
    takes_either written_value IsRecorded tag (eqb tag boolean_tag) _ _ (λ is. takes_last written_value IsRecorded tag flag_at (λ flag. values.Bool flag) written_flag IsAny flag_reads (λ flag any. (tt, behind tag boolean_tag (written_flag flag) is)))
    (takes_either written_value IsRecorded tag (eqb tag unsigned_tag) _ _ (λ is. takes_last written_value IsRecorded tag (number_at w32) (λ number. values.Unsigned number) (to_be_bytes w32) (IsBelow (2 ^ 32)) u32_reads (λ number lt. (lt, behind tag unsigned_tag (to_be_bytes w32 number) is)))
    (takes_either written_value IsRecorded tag (eqb tag signed_tag) _ _ (λ is. takes_last written_value IsRecorded tag (number_at w32) (λ number. values.Signed (cast_signed w32 number)) (to_be_bytes w32) (IsBelow (2 ^ 32)) u32_reads (λ number lt. signed_forth tag number is lt))
    (takes_either written_value IsRecorded tag (eqb tag character_string_tag) _ _ (λ is. takes_last written_value IsRecorded tag text_at (λ text. values.Text text) written_text IsShortText text_reads (λ text short. (short, behind tag character_string_tag (written_text text) is)))
    (takes_either written_value IsRecorded tag (eqb tag bit_string_tag) _ _ (λ is. takes_last written_value IsRecorded tag bits_at (λ string. values.Bits string) written_bits AreBits bits_reads (λ string are. (are, behind tag bit_string_tag (written_bits string) is)))
    (takes_either written_value IsRecorded tag (eqb tag enumerated_tag) _ _ (λ is. takes_last written_value IsRecorded tag (number_at w32) (λ number. values.Enumerated number) (to_be_bytes w32) (IsBelow (2 ^ 32)) u32_reads (λ number lt. (lt, behind tag enumerated_tag (to_be_bytes w32 number) is)))
    (takes_none written_value IsRecorded tag))))))

value_again : (value : Value) (rest : List ℕ) → IsRecorded value → then_at octet_at content_at (written_value value ++ rest) ≡ Some (value, rest)
unfolding octet_at content_at
value_again (values.Bool flag) rest f = ap (λ (o : Option (Bool × List ℕ)). o >>= λ found. Some (values.Bool found.0, found.1)) (flag_reads.again flag rest tt)
value_again (values.Unsigned number) rest f = ap (λ (o : Option (ℕ × List ℕ)). o >>= λ found. Some (values.Unsigned found.0, found.1)) (u32_reads.again number rest f)
value_again (values.Signed number) rest f =
    ap (λ (o : Option (ℕ × List ℕ)). o >>= λ found. Some (values.Signed (cast_signed w32 found.0), found.1)) (u32_reads.again (cast_unsigned w32 number) rest (laws.of_z_fits w32 number f).fits)
    ∙ ap (λ (z : ℤ). Some (values.Signed z, rest)) (to_z-of_z w32 number f)
value_again (values.Text text) rest f = ap (λ (o : Option (List ℕ × List ℕ)). o >>= λ found. Some (values.Text found.0, found.1)) (text_reads.again text rest f)
value_again (values.Bits string) rest f = ap (λ (o : Option (BitsData × List ℕ)). o >>= λ found. Some (values.Bits found.0, found.1)) (bits_reads.again string rest f)
value_again (values.Enumerated number) rest f = ap (λ (o : Option (ℕ × List ℕ)). o >>= λ found. Some (values.Enumerated found.0, found.1)) (u32_reads.again number rest f)
value_again values.Null rest f = absurd f
value_again (values.Object object) rest f = absurd f
value_again (values.DateTime stamp) rest f = absurd f
value_again (values.Opaque tag why) rest f = absurd f

pub value_reads : Reads value_at written_value IsRecorded
unfolding value_at
value_reads = reads_behind written_value IsRecorded content_at value_takes value_again
