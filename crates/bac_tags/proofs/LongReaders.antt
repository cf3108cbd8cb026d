-- Readers of contents of any length: the length in a tag is below 2 ^ 32.
use Rattle.std.proofs.Common.{◌≡◌, ℕ, suc, ◌+◌, ◌-◌, ◌*◌, ◌%◌, ◌^◌, ◌<◌, ◌≤◌, true, ltb, ◌||◌, Option, Some, None, List, [], ◌∷◌, ◌++◌, length, take, drop, Result, Ok, Err, refl, sym, ap, subst, ◌∙◌, arith, inl, inr}
use Rattle.std.specs.Prelude.{◌↔◌, ◌⊎◌, IfOk, IfErr, IsOkAnd, slice_range}
use Rattle.std.proofs.lemmas.Bool.{cases_lt, lt-ltb, le-ltb, ltb-false, or_parts}
use Rattle.std.proofs.lemmas.List.{take_at}
use Rattle.byteorder.specs.Numbers.{big_from-lt}
use Rattle.bac_values.specs.BitString.{BitsData}
use Rattle.bac_tags.specs.declared.fault.TagFault.{TagFault}
use Rattle.bac_tags.specs.declared.fault.TagFault.TheVariants.{Truncated, WrongTag}
use Rattle.bac_tags.specs.declared.tag.Tag.{Tag}
use Rattle.bac_tags.specs.declared.tag.Shape.{Shape}
use Rattle.bac_tags.specs.declared.tag.Shape.TheVariants.{Primitive, Opening, Closing}
use Rattle.bac_tags.specs.Places.{IsSpelledAt}
use Rattle.bac_tags.specs.Tags.{SpellsLength, SpellsShape, SpellsTag, FitsShape}
use Rattle.bac_tags.specs.Elements.{element_tag, SpellsElement, EndsInElement, HasOtherTag, HasOtherLength, HasOtherForm, longest_content}
use Rattle.bac_tags.specs.Contents.{IsUnsigned, SpellsUnsigned, IsBits, IsLongString, IsAnyBits, IsOctetString, SpellsOctetString}
use Rattle.bac_tags.specs.ReadingSteps.{Gives, valued, content_at, unsigned_of, unsigned_at, string_of, string_if_short, any_bits_of, octet_string_at}
use Rattle.bac_tags.proofs.Steps.{chosen, ok_is}
use Rattle.bac_tags.proofs.Standing.{IsBytes, Stands, Stands-from, Stands-front, Stands-back}
use Rattle.bac_tags.proofs.ElementLaws.{content_found, content_err}
use Rattle.bac_tags.proofs.Readers.{part_bytes, Reads, reads, Values, value_again, ReadsForm, Forms}
use Rattle.bac_tags.proofs.Numbers.{unsigned_values, bits_is, bits_one, bits_right}
use Rattle.bac_tags.proofs.ElementReaders.{Reader, read_found, element_some}

-- ---- lengths in tags

tail_bytes : (x : ℕ) (xs : List ℕ) → IsBytes (x ∷ xs) → IsBytes xs
tail_bytes x xs bytes i = bytes (suc i)

back_bytes : (xs ys : List ℕ) → IsBytes (xs ++ ys) → IsBytes ys
back_bytes [] ys bytes = bytes
back_bytes (x ∷ xs) ys bytes = back_bytes xs ys (tail_bytes x (xs ++ ys) bytes)

length_fits : (octets : List ℕ) (n : ℕ) → IsBytes octets → SpellsLength octets n → n < 2 ^ 32
length_fits [] n bytes s = absurd s
length_fits (first ∷ octets) n bytes (inl s) = omega arith
length_fits (first ∷ octets) n bytes (inr (inl s)) = let small = big_from-lt 0 2 octets (tail_bytes first octets bytes) in omega arith
length_fits (first ∷ octets) n bytes (inr (inr s)) = let small = big_from-lt 0 4 octets (tail_bytes first octets bytes) in omega arith

shape_fits : (low : ℕ) (octets : List ℕ) (shape : Shape) → IsBytes octets → SpellsShape low octets shape → FitsShape shape
shape_fits low octets (Primitive n) bytes (inl s) = omega arith
shape_fits low octets (Primitive n) bytes (inr s) = length_fits octets n bytes s.1
shape_fits low octets Opening bytes s = tt
shape_fits low octets Closing bytes s = tt

tag_fits : (octets : List ℕ) (tag : Tag) → IsBytes octets → SpellsTag octets tag → FitsShape tag.shape
tag_fits octets tag bytes s =
    shape_fits (s.initial % 8) s.length tag.shape (back_bytes s.number s.length (tail_bytes s.initial (s.number ++ s.length) (subst IsBytes s.parts bytes))) s.shaped

size_fits : (type : ℕ) (context : Option ℕ) (n : ℕ) → FitsShape (element_tag type context n).shape → n < 2 ^ 32
size_fits type None n fits = fits
size_fits type (Some number) n fits = fits

-- ---- a content that a tag can tell the length of

pub record IsShort {X : Type 0} (IsContent : List ℕ → X → Type 0) (content : List ℕ) (x : X) : Type 0 where
  pub short : length content < 2 ^ 32
  pub is : IsContent content x

pub short_is : {X : Type 0} (type : ℕ) (context : Option ℕ) (IsContent : List ℕ → X → Type 0) (input : List ℕ) (place : ℕ) (x : X) (end : ℕ) → IsBytes input → IsSpelledAt (SpellsElement type context IsContent) input place x end
    → IsSpelledAt (SpellsElement type context (IsShort IsContent)) input place x end
short_is type context IsContent input place x end bytes s =
    let e = s.spelled in
    let stands : Stands input place (e.header ++ e.content) (place + length s.octets) = subst (λ (o : List ℕ). Stands input place o (place + length s.octets)) e.parts (Stands-from input place s.octets s.rest s.there) in
    let front = Stands-front input place e.header e.content (place + length s.octets) stands in
    let header : IsBytes e.header = part_bytes input place [] e.header (place + length e.header) bytes front in
    let fits = size_fits type context (length e.content) (tag_fits e.header (element_tag type context (length e.content)) header e.tagged) in
    record { octets = s.octets; rest = s.rest; spelled = record { header = e.header; content = e.content; parts = e.parts; tagged = e.tagged; is = record { short = fits; is = e.is } }; there = s.there; ends = s.ends }

pub any_is : {X : Type 0} (type : ℕ) (context : Option ℕ) (IsContent : List ℕ → X → Type 0) (input : List ℕ) (place : ℕ) (x : X) (end : ℕ) → IsSpelledAt (SpellsElement type context (IsShort IsContent)) input place x end
    → IsSpelledAt (SpellsElement type context IsContent) input place x end
any_is type context IsContent input place x end s =
    let e = s.spelled in
    record { octets = s.octets; rest = s.rest; spelled = record { header = e.header; content = e.content; parts = e.parts; tagged = e.tagged; is = e.is.is }; there = s.there; ends = s.ends }

if_any : {X : Type 0} (type : ℕ) (context : Option ℕ) (IsContent : List ℕ → X → Type 0) (input : List ℕ) (place : ℕ) (r : Result (X × ℕ) TagFault) → IfOk r (λ x. IsSpelledAt (SpellsElement type context (IsShort IsContent)) input place x.0 x.1)
    → IfOk r (λ x. IsSpelledAt (SpellsElement type context IsContent) input place x.0 x.1)
if_any type context IsContent input place (Ok x) s = any_is type context IsContent input place x.0 x.1 s
if_any type context IsContent input place (Err e) s = tt

-- ---- a bit string of any length

string_short : (unused : ℕ) (octets : List ℕ) (x : Option BitsData) → unused ≤ 7 → unused ≤ 8 * length octets → string_if_short unused octets ≡ x → IsAnyBits (unused ∷ octets) x
string_short unused octets x few there e =
    elim (chosen (ltb 8 (length octets)) None (Some (string_of unused octets)) x e) [
      | inl h ↦ subst (IsAnyBits (unused ∷ octets)) h.1 (record { unused = unused; octets = octets; parts = refl; few = few; long = long h.0 })
      | inr h ↦
          let short : length octets ≤ 8 = ltb-false _ _ h.0 in
          subst (IsAnyBits (unused ∷ octets)) h.1 (bits_is (unused ∷ octets) (string_of unused octets) (omega arith) (rw (le-ltb 7 unused few, le-ltb (8 * length octets) unused there) refl))
    ]
  where
    long : ltb 8 (length octets) ≡ true → 8 < length octets
    long h = elim (cases_lt 8 (length octets)) [ inl lt ↦ lt | inr le ↦ absurd (let not = le-ltb 8 (length octets) le in cc) ]

any_bits_is : (content : List ℕ) (x : Option BitsData) → any_bits_of content ≡ Some x → IsAnyBits content x
any_bits_is [] x e = absurd cc
any_bits_is (unused ∷ octets) x e =
    elim (chosen (ltb 7 unused || ltb (8 * length octets) unused) None (Some (string_if_short unused octets)) (Some x) e) [
      | inl h ↦ absurd (let bad = h.1 in cc)
      | inr h ↦
          let both = or_parts (ltb 7 unused) (ltb (8 * length octets) unused) h.0 in
          string_short unused octets x (ltb-false _ _ both.0) (ltb-false _ _ both.1) (let some = h.1 in cc)
    ]

long_one : (content : List ℕ) → IsLongString content → any_bits_of content ≡ Some None
long_one content h =
    let few : ltb 7 h.unused ≡ _ = le-ltb 7 h.unused h.few in
    let there : ltb (8 * length h.octets) h.unused ≡ _ = le-ltb (8 * length h.octets) h.unused (omega (arith, h.few, h.long)) in
    let long = lt-ltb 8 (length h.octets) h.long in
    ap any_bits_of h.parts ∙ rw (few, there, long) refl

bits_are_short : (content : List ℕ) (string : BitsData) → IsBits content string → any_bits_of content ≡ Some (Some string)
bits_are_short [] string h = absurd h
bits_are_short (unused ∷ octets) string h =
    let size = bits_right (unused ∷ octets) string h in
    let short : ltb 8 (length octets) ≡ _ = le-ltb 8 (length octets) (omega arith) in
    let few : ltb 7 unused ≡ _ = le-ltb 7 unused h.0 in
    let there : ltb (8 * length octets) unused ≡ _ = le-ltb (8 * length octets) unused (omega (arith, h.1)) in
    let one : Some (string_of unused octets) ≡ Some string = sym (rw (few, there) refl) ∙ bits_one (unused ∷ octets) string h in
    rw (few, there, short) (ap Some one)

any_bits_one : (content : List ℕ) (x : Option BitsData) → IsAnyBits content x → any_bits_of content ≡ Some x
any_bits_one content (Some string) h = bits_are_short content string h
any_bits_one content None h = long_one content h

any_bits_some : (content : List ℕ) (x : Option BitsData) → IsAnyBits content x → 1 ≤ length content
any_bits_some content (Some string) h = (bits_right content string h).0
any_bits_some content None h = omega (arith, ap length h.parts)

pub any_bits_forms : Forms 1 longest_content any_bits_of (IsShort IsAnyBits)
any_bits_forms = record {
  is = λ content x bytes right e. record { short = omega (arith, right.1); is = any_bits_is content x e };
  right = λ content x h. (any_bits_some content x h.is, omega (arith, h.short));
  one = λ content x h. any_bits_one content x h.is;
}

other_form : (input : List ℕ) (place : ℕ) → HasOtherForm 8 None 1 longest_content (IsShort IsAnyBits) (drop place input) → HasOtherForm 8 None 1 longest_content IsAnyBits (drop place input)
other_form input place h =
    record { header = h.header; content = h.content; rest = h.rest; parts = h.parts; tagged = h.tagged; right = h.right; wrong = λ x is. h.wrong x (record { short = omega (arith, h.right.1); is = is }) }

short_form : (input : List ℕ) (place : ℕ) → HasOtherForm 8 None 1 longest_content IsAnyBits (drop place input) → HasOtherForm 8 None 1 longest_content (IsShort IsAnyBits) (drop place input)
short_form input place h =
    record { header = h.header; content = h.content; rest = h.rest; parts = h.parts; tagged = h.tagged; right = h.right; wrong = λ x is. h.wrong x is.is }

pub reads_any_bits : (input : List ℕ) (place : ℕ) (answer : Result (Option BitsData × ℕ) TagFault) → IsBytes input → ReadsForm 8 None 1 longest_content (IsShort IsAnyBits) input place answer → ReadsForm 8 None 1 longest_content IsAnyBits input place answer
reads_any_bits input place answer bytes r =
    record {
      found = if_any 8 None IsAnyBits input place answer r.found;
      only = λ x end s. r.only x end (short_is 8 None IsAnyBits input place x end bytes s);
      truncated = r.truncated;
      wrong_tag = r.wrong_tag;
      bad_length = (
        λ h. elim (r.bad_length.0 h) [ inl l ↦ inl l | inr f ↦ inr (other_form input place f) ],
        λ h. r.bad_length.1 (elim h [ inl l ↦ inl l | inr f ↦ inr (short_form input place f) ]),
      );
    }

-- ---- an octet string

pub octet_string_values : Values 0 longest_content (λ content. content) (IsShort IsOctetString)
octet_string_values = record {
  is = λ content bytes right. record { short = omega (arith, right.1); is = refl };
  right = λ content x h. (omega arith, omega (arith, h.short));
  one = λ content x h. sym h.is;
}

-- octets are their own value
pub as_it_is : (r : Result (List ℕ × ℕ) TagFault) → r ≡ valued (λ octets. octets) r
as_it_is (Ok x) = refl
as_it_is (Err e) = refl

-- the content is the end of the element
content_range : (input : List ℕ) (place : ℕ) (header content : List ℕ) (end : ℕ) → Stands input place (header ++ content) end → slice_range input (end - length content) end ≡ content
content_range input place header content end p =
    let back = Stands-back input place header content end p in
    let start : end - length content ≡ place + length header = omega (arith, back.ends) in
    let size : end - (place + length header) ≡ length content = omega (arith, back.ends) in
    ap (λ (s : ℕ). slice_range input s end) start ∙ ap (λ (n : ℕ). take n (drop (place + length header) input)) size ∙ ap (take (length content)) back.parts ∙ take_at content (drop end input) (length content) refl

abbrev read_to : List ℕ → ℕ → Result (List ℕ × ℕ) TagFault
read_to content end = Ok (content, end)

-- where a content stands that was read
pub content_stands : (input : List ℕ) (place : ℕ) (content : List ℕ) (end : ℕ) → IsBytes input → place ≤ length input → content_at input place 6 None 0 longest_content ≡ Ok (content, end) → octet_string_at input place ≡ Ok (slice_range input (end - length content) end, end)
unfolding octet_string_at
content_stands input place content end bytes le e =
    let s = content_found input place 6 None 0 longest_content (content, end) bytes le e in
    e ∙ ap (λ (octets : List ℕ). read_to octets end) (sym (content_range input place s.header content end s.stands))

-- what is known of its reader
pub record ReadsOctetString (input : List ℕ) (place : ℕ) (answer : Result (ℕ × ℕ) TagFault) : Type 0 where
  pub found : IfOk answer (λ x. IsSpelledAt SpellsOctetString input place (slice_range input x.0 x.1) x.1)
  pub only : (octets : List ℕ) (end : ℕ) → IsSpelledAt SpellsOctetString input place octets end → IsOkAnd answer (λ x. (slice_range input x.0 x.1 ≡ octets) × (x.1 ≡ end))
  pub truncated : (answer ≡ Err (Truncated (length input))) ↔ EndsInElement 6 None 0 longest_content (drop place input)
  pub wrong_tag : (answer ≡ Err (WrongTag place)) ↔ HasOtherTag 6 None (drop place input)
  pub no_other : IfErr answer (λ fault. (fault ≡ Truncated (length input)) ⊎ (fault ≡ WrongTag place))

-- no tag tells a length that is too long
no_length : (input : List ℕ) (place : ℕ) → IsBytes input → ¬ HasOtherLength 6 None 0 longest_content (drop place input)
no_length input place bytes h =
    let stands : Stands input place h.header (place + length h.header) = Stands-from input place h.header h.rest h.parts in
    let header : IsBytes h.header = part_bytes input place [] h.header (place + length h.header) bytes stands in
    let fits = size_fits 6 None h.size (tag_fits h.header (element_tag 6 None h.size) header h.tagged) in
    h.wrong (omega arith, omega (arith, fits))

octet_string_reads : (input : List ℕ) (place : ℕ) → IsBytes input → place ≤ length input → Reads 6 None 0 longest_content (IsShort IsOctetString) input place (octet_string_at input place)
unfolding octet_string_at
octet_string_reads input place bytes le =
    reads 6 None 0 longest_content (λ content. content) (IsShort IsOctetString) octet_string_values input place (octet_string_at input place) bytes le (as_it_is (content_at input place 6 None 0 longest_content))

-- with the octets in place of where they stand
abbrev octets_in : List ℕ → ℕ × ℕ → List ℕ × ℕ
octets_in input x = (slice_range input x.0 x.1, x.1)

pub reads_octet_string : (input : List ℕ) (place : ℕ) (answer : Result (ℕ × ℕ) TagFault) → IsBytes input → place ≤ length input → Gives (octets_in input) answer (octet_string_at input place) → ReadsOctetString input place answer
unfolding octet_string_at
reads_octet_string input place answer bytes le g =
    record {
      found = found answer g;
      only = λ octets end s. only answer g octets end (r.only octets end (short_is 6 None IsOctetString input place octets end bytes s));
      truncated = same_err answer (Truncated (length input)) g r.truncated;
      wrong_tag = same_err answer (WrongTag place) g r.wrong_tag;
      no_other = no_other answer g;
    }
  where
    r : Reads 6 None 0 longest_content (IsShort IsOctetString) input place (octet_string_at input place)
    r = octet_string_reads input place bytes le

    read_is : (x : List ℕ × ℕ) (o : Result (List ℕ × ℕ) TagFault) → o ≡ Ok x → IfOk o (λ y. IsSpelledAt (SpellsElement 6 None (IsShort IsOctetString)) input place y.0 y.1) → IsSpelledAt (SpellsElement 6 None (IsShort IsOctetString)) input place x.0 x.1
    read_is x (Ok y) e s = subst (λ (z : List ℕ × ℕ). IsSpelledAt (SpellsElement 6 None (IsShort IsOctetString)) input place z.0 z.1) (ok_is y x e) s
    read_is x (Err d) e s = absurd cc

    found : (a : Result (ℕ × ℕ) TagFault) → Gives (octets_in input) a (octet_string_at input place) → IfOk a (λ x. IsSpelledAt SpellsOctetString input place (slice_range input x.0 x.1) x.1)
    found (Ok x) e = any_is 6 None IsOctetString input place (slice_range input x.0 x.1) x.1 (read_is (octets_in input x) (octet_string_at input place) e r.found)
    found (Err d) e = tt

    only : (a : Result (ℕ × ℕ) TagFault) → Gives (octets_in input) a (octet_string_at input place) → (octets : List ℕ) (end : ℕ) → octet_string_at input place ≡ Ok (octets, end) → IsOkAnd a (λ x. (slice_range input x.0 x.1 ≡ octets) × (x.1 ≡ end))
    only (Ok x) e octets end h = let same = ok_is (octets_in input x) (octets, end) (sym e ∙ h) in (ap (λ (y : List ℕ × ℕ). y.0) same, ap (λ (y : List ℕ × ℕ). y.1) same)
    only (Err d) e octets end h = absurd (let bad = sym e ∙ h in cc)

    same_err : {P : Type 0} (a : Result (ℕ × ℕ) TagFault) (fault : TagFault) → Gives (octets_in input) a (octet_string_at input place) → ((octet_string_at input place ≡ Err fault) ↔ P) → (a ≡ Err fault) ↔ P
    same_err (Ok x) fault e p = (λ h. absurd cc, λ h. absurd (let bad = sym e ∙ p.1 h in cc))
    same_err (Err d) fault e p = (λ h. p.0 (e ∙ (let same : d ≡ fault = cc in ap Err same)), λ h. let bad = sym e ∙ p.1 h in let same : d ≡ fault = cc in ap Err same)

    no_other : (a : Result (ℕ × ℕ) TagFault) → Gives (octets_in input) a (octet_string_at input place) → IfErr a (λ fault. (fault ≡ Truncated (length input)) ⊎ (fault ≡ WrongTag place))
    no_other (Ok x) e = tt
    no_other (Err d) e =
        elim (content_err input place 6 None 0 longest_content d bytes le e) [
          | inl a ↦ inl a.1
          | inr a ↦ elim a [ inl b ↦ inr b.1 | inr b ↦ absurd (no_length input place bytes b.0) ]
        ]

-- ---- as readers

pub octet_string_reader : Reader (SpellsElement 6 None (IsShort IsOctetString)) octet_string_at
unfolding octet_string_at
octet_string_reader = record {
  found = λ input place x bytes le e. read_found (SpellsElement 6 None (IsShort IsOctetString)) input place (octet_string_at input place) x e (octet_string_reads input place bytes le).found;
  again = λ input place octets x end le s p. as_it_is _ ∙ value_again 6 None 0 longest_content (λ content. content) (IsShort IsOctetString) octet_string_values input place le octets x end s p;
  some = λ octets x s. element_some 6 None (IsShort IsOctetString) octets x s;
}

-- an application's Unsigned
pub number_reader : Reader (SpellsUnsigned None) (λ input place. unsigned_at input place None)
unfolding unsigned_at
number_reader = record {
  found = λ input place x bytes le e. read_found (SpellsUnsigned None) input place (unsigned_at input place None) x e (reads 2 None 1 4 unsigned_of IsUnsigned unsigned_values input place (unsigned_at input place None) bytes le refl).found;
  again = λ input place octets x end le s p. value_again 2 None 1 4 unsigned_of IsUnsigned unsigned_values input place le octets x end s p;
  some = λ octets x s. element_some 2 None IsUnsigned octets x s;
}
