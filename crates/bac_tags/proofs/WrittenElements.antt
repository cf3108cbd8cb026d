-- The element that is written spells the value.
use Rattle.std.proofs.Common.{◌≡◌, ℕ, ℤ, zero, suc, ◌+◌, ◌-◌, ◌*◌, ◌/◌, ◌%◌, ◌^◌, ◌<◌, ◌≤◌, Bool, true, false, cond, ltb, pos, negsuc, ◌-ℤ◌, Option, Some, None, List, [], ◌∷◌, length, take, drop, refl, sym, ap, subst, ◌∙◌, arith, inl, inr}
use Rattle.std.specs.Prelude.{FitsSigned, IsUtf8}
use Rattle.std.specs.Int.{w32, w64, cast_unsigned, from_bool, bytes_high_first, to_be_bytes}
use Rattle.std.proofs.lemmas.Bool.{cases_lt, lt-ltb, le-ltb}
use Rattle.std.proofs.lemmas.Int.{ints}
use Rattle.std.proofs.lemmas.Nat.{shl_below, shr_high, pow_pos}
use Rattle.std.proofs.lemmas.List.{append-nil, length-take, length-drop, take-append-drop, take_all}
use Rattle.std.proofs.Math.Nat.{pow-le-pow_right, mod-eq_of_lt}
use Rattle.byteorder.specs.Endian.{big_number, big_bytes, twos_complement}
use Rattle.byteorder.specs.Numbers.{big_number-reads_back, length-bytes_high_first}
use Rattle.bac_values.specs.Identifier.{IsIdentifier, ObjectIdData}
use Rattle.bac_values.specs.BitString.{IsBitString, BitsData}
use Rattle.bac_values.specs.declared.stamp.Stamp.{Stamp}
use Rattle.bac_tags.specs.Tags.{FitsShape}
use Rattle.bac_tags.specs.Elements.{element_tag, SpellsElement}
use Rattle.bac_tags.specs.Contents.{IsUnsigned, IsSigned, IsObject, IsBoolean, IsBits, SpellsUnsigned, SpellsSigned, SpellsEnumerated, SpellsObject, SpellsBoolean, SpellsBits, mirrored}
use Rattle.bac_values.specs.declared.value.Value.{Value}
use Rattle.bac_values.specs.declared.value.Value.TheVariants as values
use Rattle.bac_tags.specs.Values.{IsValue, SpellsValue, SpellsWritten, IsOneElement}
use Rattle.bac_tags.specs.Stamps.{IsFour, SpellsStamp}
use Rattle.bac_tags.specs.Writing.{written_tag, written_element, unsigned_size, half_size, signed_size, written_unsigned, written_enumerated, written_signed, written_object, written_boolean, octets_of_bits, unused_of_bits, written_bits, written_stamp, written_value}
use Rattle.bac_tags.proofs.Mirror.{mirrored_small, mirrored-mirrored, pow256}
use Rattle.bac_tags.proofs.Written.{tag_written}

element_fits : (type : ℕ) (context : Option ℕ) (n : ℕ) → n < 2 ^ 32 → FitsShape (element_tag type context n).shape
element_fits type None n lt = lt
element_fits type (Some number) n lt = lt

pub element_written : {X : Type 0} (type : ℕ) (context : Option ℕ) (IsContent : List ℕ → X → Type 0) (content : List ℕ) (x : X) → length content < 2 ^ 32 → IsContent content x → SpellsElement type context IsContent (written_element type context content) x
element_written type context IsContent content x short is =
    record { header = written_tag (element_tag type context (length content)); content = content; parts = refl; tagged = tag_written (element_tag type context (length content)) (element_fits type context (length content) short); is = is }

-- the octets of a number give it back
pub read_back : (n x : ℕ) → x < 256 ^ n → big_number n (big_bytes n x) ≡ x
read_back n x lt = ap (big_number n) (sym (append-nil (big_bytes n x))) ∙ big_number-reads_back n x [] lt

unsigned_size_fits : (n : ℕ) → n < 2 ^ 32 → (1 ≤ unsigned_size n) × (unsigned_size n ≤ 4) × (n < 256 ^ unsigned_size n)
unsigned_size_fits n fits =
    elim (cases_lt n 256) [
      | inl lt ↦ rw (lt-ltb n 256 lt) (omega arith, omega arith, omega arith)
      | inr le1 ↦ elim (cases_lt n 65536) [
        | inl lt ↦ rw (le-ltb n 256 le1, lt-ltb n 65536 lt) (omega arith, omega arith, omega arith)
        | inr le2 ↦ elim (cases_lt n 16777216) [
          | inl lt ↦ rw (le-ltb n 256 le1, le-ltb n 65536 le2, lt-ltb n 16777216 lt) (omega arith, omega arith, omega arith)
          | inr le3 ↦ rw (le-ltb n 256 le1, le-ltb n 65536 le2, le-ltb n 16777216 le3) (omega arith, omega arith, omega arith)
        ]
      ]
    ]

unsigned_is : (n : ℕ) → n < 2 ^ 32 → IsUnsigned (big_bytes (unsigned_size n) n) n
unsigned_is n fits =
    let size = unsigned_size_fits n fits in
    let long = length-bytes_high_first (unsigned_size n) n in
    ((omega (arith, long, size.0), omega (arith, long, size.1)), sym (ap (λ (k : ℕ). big_number k (big_bytes (unsigned_size n) n)) long ∙ read_back (unsigned_size n) n size.2))

number_short : (n : ℕ) → n < 2 ^ 32 → length (big_bytes (unsigned_size n) n) < 2 ^ 32
number_short n fits = omega (arith, length-bytes_high_first (unsigned_size n) n, (unsigned_size_fits n fits).1)

pub unsigned_written : (context : Option ℕ) (n : ℕ) → n < 2 ^ 32 → SpellsUnsigned context (written_unsigned context n) n
unsigned_written context n fits = element_written 2 context IsUnsigned (big_bytes (unsigned_size n) n) n (number_short n fits) (unsigned_is n fits)

pub enumerated_written : (context : Option ℕ) (n : ℕ) → n < 2 ^ 32 → SpellsEnumerated context (written_enumerated context n) n
enumerated_written context n fits = element_written 9 context IsUnsigned (big_bytes (unsigned_size n) n) n (number_short n fits) (unsigned_is n fits)

-- ---- two's complement

-- the octets of a number give back what is below their place
low_1 : (n : ℕ) → n < 128 → big_number 1 (big_bytes 1 (2 ^ 32 - suc n)) ≡ 256 - suc n
low_1 n lt = omega arith

low_2 : (n : ℕ) → n < 32768 → big_number 2 (big_bytes 2 (2 ^ 32 - suc n)) ≡ 65536 - suc n
low_2 n lt = omega arith

low_3 : (n : ℕ) → n < 8388608 → big_number 3 (big_bytes 3 (2 ^ 32 - suc n)) ≡ 16777216 - suc n
low_3 n lt = omega arith

low_4 : (n : ℕ) → n < 2147483648 → big_number 4 (big_bytes 4 (2 ^ 32 - suc n)) ≡ 2 ^ 32 - suc n
low_4 n lt = read_back 4 (2 ^ 32 - suc n) (omega arith)

positive : (n half whole : ℕ) → n < half → cond (ltb n half) (pos n) (pos n -ℤ pos whole) ≡ pos n
positive n half whole lt = rw (lt-ltb n half lt) refl

negative : (n half whole : ℕ) → n < half → whole ≡ 2 * half → cond (ltb (whole - suc n) half) (pos (whole - suc n)) (pos (whole - suc n) -ℤ pos whole) ≡ negsuc n
negative n half whole lt twice = rw (le-ltb (whole - suc n) half (omega arith)) (omega (arith, ints))

signed_is_1 : (n : ℕ) → n < 128 → (pos n ≡ twos_complement 1 (big_number 1 (big_bytes 1 n))) × (negsuc n ≡ twos_complement 1 (big_number 1 (big_bytes 1 (2 ^ 32 - suc n))))
signed_is_1 n lt =
    (sym (ap (twos_complement 1) (read_back 1 n (omega arith)) ∙ positive n 128 256 lt), sym (ap (twos_complement 1) (low_1 n lt) ∙ negative n 128 256 lt refl))

signed_is_2 : (n : ℕ) → n < 32768 → (pos n ≡ twos_complement 2 (big_number 2 (big_bytes 2 n))) × (negsuc n ≡ twos_complement 2 (big_number 2 (big_bytes 2 (2 ^ 32 - suc n))))
signed_is_2 n lt =
    (sym (ap (twos_complement 2) (read_back 2 n (omega arith)) ∙ positive n 32768 65536 lt), sym (ap (twos_complement 2) (low_2 n lt) ∙ negative n 32768 65536 lt refl))

signed_is_3 : (n : ℕ) → n < 8388608 → (pos n ≡ twos_complement 3 (big_number 3 (big_bytes 3 n))) × (negsuc n ≡ twos_complement 3 (big_number 3 (big_bytes 3 (2 ^ 32 - suc n))))
signed_is_3 n lt =
    (sym (ap (twos_complement 3) (read_back 3 n (omega arith)) ∙ positive n 8388608 16777216 lt), sym (ap (twos_complement 3) (low_3 n lt) ∙ negative n 8388608 16777216 lt refl))

signed_is_4 : (n : ℕ) → n < 2147483648 → (pos n ≡ twos_complement 4 (big_number 4 (big_bytes 4 n))) × (negsuc n ≡ twos_complement 4 (big_number 4 (big_bytes 4 (2 ^ 32 - suc n))))
signed_is_4 n lt =
    (sym (ap (twos_complement 4) (read_back 4 n (omega arith)) ∙ positive n 2147483648 4294967296 lt), sym (ap (twos_complement 4) (low_4 n lt) ∙ negative n 2147483648 4294967296 lt refl))

abbrev BothSigned : ℕ → ℕ → Type 0
BothSigned size n = (1 ≤ size) × (size ≤ 4) × (pos n ≡ twos_complement size (big_number size (big_bytes size n))) × (negsuc n ≡ twos_complement size (big_number size (big_bytes size (2 ^ 32 - suc n))))

half_size_fits : (n : ℕ) → n < 2147483648 → BothSigned (half_size n) n
half_size_fits n fits =
    elim (cases_lt n 128) [
      | inl lt ↦ let s = signed_is_1 n lt in rw (lt-ltb n 128 lt) (omega arith, omega arith, s.0, s.1)
      | inr le1 ↦ elim (cases_lt n 32768) [
        | inl lt ↦ let s = signed_is_2 n lt in rw (le-ltb n 128 le1, lt-ltb n 32768 lt) (omega arith, omega arith, s.0, s.1)
        | inr le2 ↦ elim (cases_lt n 8388608) [
          | inl lt ↦ let s = signed_is_3 n lt in rw (le-ltb n 128 le1, le-ltb n 32768 le2, lt-ltb n 8388608 lt) (omega arith, omega arith, s.0, s.1)
          | inr le3 ↦ let s = signed_is_4 n fits in rw (le-ltb n 128 le1, le-ltb n 32768 le2, le-ltb n 8388608 le3) (omega arith, omega arith, s.0, s.1)
        ]
      ]
    ]

sized_is : (size x : ℕ) (z : ℤ) → 1 ≤ size → size ≤ 4 → z ≡ twos_complement size (big_number size (big_bytes size x)) → IsSigned (big_bytes size x) z × (length (big_bytes size x) < 2 ^ 32)
sized_is size x z least most e =
    let long = length-bytes_high_first size x in
    (((omega (arith, long, least), omega (arith, long, most)), e ∙ sym (ap (λ (k : ℕ). twos_complement k (big_number k (big_bytes size x))) long)), omega (arith, long, most))

signed_is : (z : ℤ) → FitsSigned w32 z → IsSigned (big_bytes (signed_size z) (cast_unsigned w32 z)) z × (length (big_bytes (signed_size z) (cast_unsigned w32 z)) < 2 ^ 32)
signed_is (pos n) fits = let h = half_size_fits n (omega (arith, ints)) in sized_is (half_size n) n (pos n) h.0 h.1 h.2
signed_is (negsuc n) fits = let h = half_size_fits n (omega (arith, ints)) in sized_is (half_size n) (2 ^ 32 - suc n) (negsuc n) h.0 h.1 h.3

pub signed_written : (context : Option ℕ) (z : ℤ) → FitsSigned w32 z → SpellsSigned context (written_signed context z) z
signed_written context z fits =
    let s = signed_is z fits in
    element_written 3 context IsSigned (big_bytes (signed_size z) (cast_unsigned w32 z)) z s.1 s.0

-- ---- the others

pub object_written : (context : Option ℕ) (id : ObjectIdData) → IsIdentifier id.number id.instance → SpellsObject context (written_object context id) id
object_written context id h =
    let x = id.number * 4194304 + id.instance in
    element_written 12 context IsObject (big_bytes 4 x) id (omega arith) (refl, sym (read_back 4 x (omega (arith, h.0, h.1))), h)

pub boolean_written : (context : Option ℕ) (b : Bool) → SpellsBoolean context (written_boolean context b) b
boolean_written None true = tag_written (element_tag 1 None 1) (omega arith)
boolean_written None false = tag_written (element_tag 1 None 0) (omega arith)
boolean_written (Some number) b = element_written 1 (Some number) IsBoolean (from_bool b ∷ []) b (omega arith) refl

bits_is : (string : BitsData) → IsBitString string.size string.bits → IsBits (unused_of_bits string.size ∷ big_bytes (octets_of_bits string.size) (mirrored string.size string.bits * 2 ^ unused_of_bits string.size)) string
bits_is string h =
    let size = string.size in
    let count = octets_of_bits size in
    let unused = unused_of_bits size in
    let x = mirrored size string.bits * 2 ^ unused in
    let whole : size + unused ≡ 8 * count = omega arith in
    let long : length (big_bytes count x) ≡ count = length-bytes_high_first count x in
    let fits : x < 256 ^ count = subst (λ (k : ℕ). x < k) (ap (λ (k : ℕ). 2 ^ k) whole ∙ sym (pow256 count)) (shl_below (mirrored size string.bits) size unused (mirrored_small size string.bits)) in
    let back : big_number (length (big_bytes count x)) (big_bytes count x) ≡ x = ap (λ (k : ℕ). big_number k (big_bytes count x)) long ∙ read_back count x fits in
    let used : x / 2 ^ unused ≡ mirrored size string.bits = ap (λ (k : ℕ). k / 2 ^ unused) (omega arith) ∙ shr_high (mirrored size string.bits) unused 0 (pow_pos unused) in
    let same : string.bits ≡ mirrored size (big_number (length (big_bytes count x)) (big_bytes count x) / 2 ^ unused) = sym (ap (λ (k : ℕ). mirrored size (k / 2 ^ unused)) back ∙ ap (mirrored size) used ∙ mirrored-mirrored size string.bits h.1) in
    (omega arith, whole ∙ ap (λ (k : ℕ). 8 * k) (sym long), h.0, same)

pub bits_written : (context : Option ℕ) (string : BitsData) → IsBitString string.size string.bits → SpellsBits context (written_bits context string) string
bits_written context string h =
    let count = octets_of_bits string.size in
    let x = mirrored string.size string.bits * 2 ^ unused_of_bits string.size in
    let few : count ≤ 8 = omega (arith, h.0) in
    element_written 8 context IsBits (unused_of_bits string.size ∷ big_bytes count x) string (omega (arith, length-bytes_high_first count x, few)) (bits_is string h)

pub stamp_written : (stamp : Stamp) → length stamp.octets ≡ 8 → SpellsStamp (written_stamp stamp) stamp
stamp_written stamp eight =
    let date = take 4 stamp.octets in
    let time = drop 4 stamp.octets in
    let four : length date ≡ 4 = omega (arith, length-take 4 stamp.octets, eight) in
    let rest : length time ≡ 4 = omega (arith, length-drop 4 stamp.octets, eight) in
    record {
      date_octets = written_element 10 None date;
      time_octets = written_element 11 None time;
      date = date;
      time = time;
      parts = refl;
      dated = element_written 10 None IsFour date date (omega (arith, four)) (four, refl);
      timed = element_written 11 None IsFour time time (omega (arith, rest)) (rest, refl);
      is = sym (take-append-drop 4 stamp.octets);
    }

-- the last octets of a number are those of its low part
pub last_octets : (k m x : ℕ) → drop k (bytes_high_first (k + m) x) ≡ bytes_high_first m x
last_octets zero m x = let e : zero + m ≡ m = omega arith in rw e refl
last_octets (suc k) m x = let e : suc k + m ≡ suc (k + m) = omega arith in rw e (last_octets k m x)

last_of : (width count x : ℕ) → count ≤ width → take (width - (width - count)) (drop (width - count) (bytes_high_first width x)) ≡ bytes_high_first count x
last_of width count x le =
    let whole : width ≡ width - count + count = omega arith in
    let here : width - (width - count) ≡ count = omega arith in
    let dropped : drop (width - count) (bytes_high_first width x) ≡ bytes_high_first count x = ap (λ (w : ℕ). drop (width - count) (bytes_high_first w x)) whole ∙ last_octets (width - count) count x in
    ap (λ (n : ℕ). take n (drop (width - count) (bytes_high_first width x))) here ∙ ap (take count) dropped ∙ take_all count (bytes_high_first count x) (omega (arith, length-bytes_high_first count x))

abbrev bits_content : ℕ → ℕ → List ℕ
bits_content size bits = unused_of_bits size ∷ big_bytes (octets_of_bits size) (mirrored size bits * 2 ^ unused_of_bits size)

-- the content of a string, from the 64 bits that the code shifts
pub bits_from_64 : (size bits s b m count : ℕ) (octets : List ℕ) → s ≡ size → b ≡ bits → m ≡ mirrored s b → count ≡ octets_of_bits s → octets ≡ to_be_bytes w64 (m * 2 ^ unused_of_bits s % 2 ^ 64) → IsBitString size bits
    → unused_of_bits s ∷ take (8 - (8 - count)) (drop (8 - count) octets) ≡ bits_content size bits
bits_from_64 size bits s b m count octets es eb em ec eo h =
    let x = mirrored size bits * 2 ^ unused_of_bits size in
    let few : octets_of_bits size ≤ 8 = omega (arith, h.0) in
    let whole : size + unused_of_bits size ≡ 8 * octets_of_bits size = omega arith in
    let fits : x < 2 ^ (size + unused_of_bits size) = shl_below (mirrored size bits) size (unused_of_bits size) (mirrored_small size bits) in
    let wide : 2 ^ (size + unused_of_bits size) ≤ 2 ^ 64 = pow-le-pow_right {n = 2} (omega arith) {i = size + unused_of_bits size} {j = 64} (omega (arith, whole, few)) in
    let small : x % 2 ^ 64 ≡ x = mod-eq_of_lt (omega arith) in
    let turned : m ≡ mirrored size bits = em ∙ ap (λ (k : ℕ). mirrored k b) es ∙ ap (mirrored size) eb in
    let number : m * 2 ^ unused_of_bits s % 2 ^ 64 ≡ x = ap (λ (k : ℕ). k * 2 ^ unused_of_bits s % 2 ^ 64) turned ∙ ap (λ (k : ℕ). mirrored size bits * 2 ^ unused_of_bits k % 2 ^ 64) es ∙ small in
    let all : octets ≡ bytes_high_first 8 x = eo ∙ ap (to_be_bytes w64) number in
    let many : count ≡ octets_of_bits size = ec ∙ ap octets_of_bits es in
    let last : take (8 - (8 - count)) (drop (8 - count) octets) ≡ big_bytes (octets_of_bits size) x = ap (λ (k : ℕ). take (8 - (8 - k)) (drop (8 - k) octets)) many ∙ ap (λ (o : List ℕ). take (8 - (8 - octets_of_bits size)) (drop (8 - octets_of_bits size) o)) all ∙ last_of 8 (octets_of_bits size) x few in
    ap (λ (k : ℕ). unused_of_bits k ∷ take (8 - (8 - count)) (drop (8 - count) octets)) es ∙ ap (λ (o : List ℕ). unused_of_bits size ∷ o) last

-- ---- values

as_value : {X : Type 0} (type : ℕ) (IsContent : List ℕ → X → Type 0) (octets : List ℕ) (x : X) (value : Value) → ((content : List ℕ) → IsContent content x → IsValue type content value) → SpellsElement type None IsContent octets x → SpellsValue octets value
as_value type IsContent octets x value f s =
    inr (type, record { header = s.header; content = s.content; parts = s.parts; tagged = s.tagged; is = f s.content s.is })

pub value_written : (value : Value) → IsOneElement value → SpellsValue (written_value value) value
value_written values.Null h = inr (0, element_written 0 None (IsValue 0) [] values.Null (omega arith) (refl, refl))
value_written (values.Bool b) h = inl (b, refl, boolean_written None b)
value_written (values.Unsigned n) h = as_value 2 IsUnsigned (written_unsigned None n) n (values.Unsigned n) (λ content is. (refl, is)) (unsigned_written None n h)
value_written (values.Signed z) h = as_value 3 IsSigned (written_signed None z) z (values.Signed z) (λ content is. (refl, is)) (signed_written None z h)
value_written (values.Text text) h = inr (7, element_written 7 None (IsValue 7) (0 ∷ text) (values.Text text) (omega (arith, h.0)) (refl, refl, h.0, h.1))
value_written (values.Bits string) h = as_value 8 IsBits (written_bits None string) string (values.Bits string) (λ content is. (refl, is)) (bits_written None string h)
value_written (values.Enumerated n) h = as_value 9 IsUnsigned (written_enumerated None n) n (values.Enumerated n) (λ content is. (refl, is)) (enumerated_written None n h)
value_written (values.Object id) h = as_value 12 IsObject (written_object None id) id (values.Object id) (λ content is. (refl, is)) (object_written None id h)
value_written (values.DateTime stamp) h = absurd h
value_written (values.Opaque tag why) h = absurd h

abbrev pub IsSpelledBack : Value → Type 0
IsSpelledBack value = SpellsWritten (written_value value) value

pub null_written : IsSpelledBack values.Null
null_written = inl (value_written values.Null tt)

pub text_written : (text : List ℕ) → length text ≤ 256 → IsUtf8 text → IsSpelledBack (values.Text text)
text_written text short utf8 = inl (value_written (values.Text text) (short, utf8))
