-- The value of a content of a type, and the content of a value.
use Rattle.std.proofs.Common.{◌≡◌, ◌≢◌, ℕ, ℤ, suc, ◌*◌, ◌<◌, ◌≤◌, true, false, cond, eqb, ltb, ◌||◌, Some, None, List, [], ◌∷◌, length, refl, sym, ap, subst, ◌∙◌, arith, inl, inr}
use Rattle.std.specs.Prelude.{◌⊎◌}
use Rattle.std.specs.Str.{is_utf8}
use Rattle.std.proofs.lemmas.Bool.{eqb-true, eqb-false, eq-eqb, ne_eqb, ltb-true, ltb-false, lt-ltb, le-ltb, leb-true, or_parts, or_from, le-leb}
use Rattle.std.proofs.lemmas.Str.{is_utf8-from_IsUtf8, IsUtf8-from_is_utf8}
use Rattle.std.proofs.lemmas.List.{nil_from_length}
use Rattle.bac_values.specs.declared.value.Value.{Value}
use Rattle.bac_values.specs.declared.value.Value.TheVariants as values
use Rattle.bac_values.specs.declared.value.Foreign.{Foreign}
use Rattle.bac_values.specs.declared.value.Foreign.TheVariants.{OtherType, CharacterSet, NotUtf8, TooLong, OutOfRange}
use Rattle.bac_values.specs.Identifier.{ObjectIdData}
use Rattle.bac_values.specs.BitString.{BitsData}
use Rattle.bac_tags.specs.Values.{has_length, IsOtherType, IsForeign, IsValue}
use Rattle.bac_tags.specs.ReadingSteps.{unsigned_of, signed_of, identifier_of, string_of, bits_of, number_in, characters_in, text_in, string_in, value_in}
use Rattle.bac_tags.proofs.Steps.{chosen}
use Rattle.bac_tags.proofs.Standing.{IsBytes}
use Rattle.bac_tags.proofs.Texts.{is_text, no_text}
use Rattle.bac_tags.proofs.Numbers.{identifier_values, bits_is, bits_one, bits_right}

some_is : (x y : Value) → Some x ≡ Some y → x ≡ y
some_is x y e = cc

-- ---- a content that has a value

number_cases : (type : ℕ) (value : Value) (content : List ℕ) (v : Value) → Some (number_in type value content) ≡ Some v
    → ((length content ≤ 4) × (value ≡ v)) ⊎ ((4 < length content) × (values.Opaque type OutOfRange ≡ v))
number_cases type value content v e =
    elim (chosen (ltb 4 (length content)) (values.Opaque type OutOfRange) value v (some_is _ _ e)) [
      | inl h ↦ inr (ltb-true _ _ h.0, h.1)
      | inr h ↦ inl (ltb-false _ _ h.0, h.1)
    ]

at_least_one : (type k : ℕ) (n : ℕ) → type ≡ k → (has_length k n ≡ true → 1 ≤ n) → has_length type n ≡ true → 1 ≤ n
at_least_one type k n e f h = f (sym (ap (λ (t : ℕ). has_length t n) e) ∙ h)

unsigned_is : (type : ℕ) (content : List ℕ) (v : Value) → type ≡ 2 → has_length type (length content) ≡ true → Some (number_in 2 (values.Unsigned (unsigned_of content)) content) ≡ Some v → IsValue type content v
unsigned_is type content v two h e =
    elim (number_cases 2 (values.Unsigned (unsigned_of content)) content v e) [
      | inl s ↦ subst (IsValue type content) s.1 (two, ((at_least_one type 2 (length content) two (λ g. leb-true _ _ g) h, s.0), refl))
      | inr s ↦ subst (IsValue type content) s.1 (sym two, inl (inl two, s.0))
    ]

signed_is : (type : ℕ) (content : List ℕ) (v : Value) → type ≡ 3 → has_length type (length content) ≡ true → Some (number_in 3 (values.Signed (signed_of content)) content) ≡ Some v → IsValue type content v
signed_is type content v three h e =
    elim (number_cases 3 (values.Signed (signed_of content)) content v e) [
      | inl s ↦ subst (IsValue type content) s.1 (three, ((at_least_one type 3 (length content) three (λ g. leb-true _ _ g) h, s.0), refl))
      | inr s ↦ subst (IsValue type content) s.1 (sym three, inl (inr (inl three), s.0))
    ]

enumerated_is : (type : ℕ) (content : List ℕ) (v : Value) → type ≡ 9 → has_length type (length content) ≡ true → Some (number_in 9 (values.Enumerated (unsigned_of content)) content) ≡ Some v → IsValue type content v
enumerated_is type content v nine h e =
    elim (number_cases 9 (values.Enumerated (unsigned_of content)) content v e) [
      | inl s ↦ subst (IsValue type content) s.1 (nine, ((at_least_one type 9 (length content) nine (λ g. leb-true _ _ g) h, s.0), refl))
      | inr s ↦ subst (IsValue type content) s.1 (sym nine, inl (inr (inr nine), s.0))
    ]

text_is : (type : ℕ) (content : List ℕ) (v : Value) → type ≡ 7 → has_length type (length content) ≡ true → Some (text_in content) ≡ Some v → IsValue type content v
text_is type [] v seven h e = absurd (omega (arith, at_least_one type 7 0 seven (λ g. leb-true _ _ g) h))
text_is type (set ∷ octets) v seven h e =
    elim (chosen (eqb set 0) (characters_in octets) (values.Opaque 7 CharacterSet) v (some_is _ _ e)) [
      | inl s ↦
          let utf : set ≡ 0 = eqb-true _ _ s.0 in
          elim (chosen (ltb 256 (length octets)) (values.Opaque 7 TooLong) (cond (is_utf8 octets) (values.Text octets) (values.Opaque 7 NotUtf8)) v s.1) [
            | inl long ↦ subst (IsValue type (set ∷ octets)) long.1 (sym seven, (seven, (set, octets, refl, (utf, ltb-true _ _ long.0))))
            | inr short ↦
                let few : length octets ≤ 256 = ltb-false _ _ short.0 in
                elim (chosen (is_utf8 octets) (values.Text octets) (values.Opaque 7 NotUtf8) v short.1) [
                  | inl good ↦ subst (IsValue type (set ∷ octets)) good.1 (seven, ap (λ (n : ℕ). n ∷ octets) utf, few, IsUtf8-from_is_utf8 octets good.0)
                  | inr bad ↦ subst (IsValue type (set ∷ octets)) bad.1 (sym seven, (seven, (set, octets, refl, (utf, few, λ u. let is = is_utf8-from_IsUtf8 octets u in let isnt = bad.0 in cc))))
                ]
          ]
      | inr s ↦ subst (IsValue type (set ∷ octets)) s.1 (sym seven, (seven, (set, octets, refl, eqb-false _ _ s.0)))
    ]

string_is : (type : ℕ) (content : List ℕ) (v : Value) → type ≡ 8 → string_in content ≡ Some v → IsValue type content v
string_is type [] v eight e = absurd cc
string_is type (unused ∷ octets) v eight e =
    elim (chosen (ltb 7 unused || ltb (8 * length octets) unused) None (Some (cond (ltb 8 (length octets)) (values.Opaque 8 OutOfRange) (values.Bits (string_of unused octets)))) (Some v) e) [
      | inl h ↦ absurd (let bad = h.1 in cc)
      | inr h ↦
          let both = or_parts (ltb 7 unused) (ltb (8 * length octets) unused) h.0 in
          elim (chosen (ltb 8 (length octets)) (values.Opaque 8 OutOfRange) (values.Bits (string_of unused octets)) v (some_is _ _ h.1)) [
            | inl long ↦ subst (IsValue type (unused ∷ octets)) long.1 (sym eight, inr (eight, record { unused = unused; octets = octets; parts = refl; few = ltb-false _ _ both.0; long = ltb-true _ _ long.0 }))
            | inr short ↦
                let some : bits_of (unused ∷ octets) ≡ Some (string_of unused octets) = rw h.0 refl in
                let few : length octets ≤ 8 = ltb-false _ _ short.0 in
                subst (IsValue type (unused ∷ octets)) short.1 (eight, bits_is (unused ∷ octets) (string_of unused octets) (omega (arith, few)) some)
          ]
    ]

pub value_is : (type : ℕ) (content : List ℕ) (v : Value) → IsBytes content → has_length type (length content) ≡ true → type ≢ 1 → value_in type content ≡ Some v → IsValue type content v
unfolding value_in
value_is type content v bytes h not1 e =
    elim (chosen (eqb type 0) (Some values.Null) (cond (eqb type 2) (Some (number_in 2 (values.Unsigned (unsigned_of content)) content)) (cond (eqb type 3) (Some (number_in 3 (values.Signed (signed_of content)) content)) (cond (eqb type 7) (Some (text_in content)) (cond (eqb type 8) (string_in content) (cond (eqb type 9) (Some (number_in 9 (values.Enumerated (unsigned_of content)) content)) (cond (eqb type 12) (Some (values.Object (identifier_of content))) (Some (values.Opaque type OtherType)))))))) (Some v) e) [
      | inl a ↦
          let zero_is : type ≡ 0 = eqb-true _ _ a.0 in
          let none : length content ≡ 0 = eqb-true _ _ (sym (ap (λ (t : ℕ). has_length t (length content)) zero_is) ∙ h) in
          subst (IsValue type content) (some_is _ _ a.1) (zero_is, nil_from_length content none)
      | inr a ↦ elim (chosen (eqb type 2) (Some (number_in 2 (values.Unsigned (unsigned_of content)) content)) (cond (eqb type 3) (Some (number_in 3 (values.Signed (signed_of content)) content)) (cond (eqb type 7) (Some (text_in content)) (cond (eqb type 8) (string_in content) (cond (eqb type 9) (Some (number_in 9 (values.Enumerated (unsigned_of content)) content)) (cond (eqb type 12) (Some (values.Object (identifier_of content))) (Some (values.Opaque type OtherType))))))) (Some v) a.1) [
        | inl b ↦ unsigned_is type content v (eqb-true _ _ b.0) h b.1
        | inr b ↦ elim (chosen (eqb type 3) (Some (number_in 3 (values.Signed (signed_of content)) content)) (cond (eqb type 7) (Some (text_in content)) (cond (eqb type 8) (string_in content) (cond (eqb type 9) (Some (number_in 9 (values.Enumerated (unsigned_of content)) content)) (cond (eqb type 12) (Some (values.Object (identifier_of content))) (Some (values.Opaque type OtherType)))))) (Some v) b.1) [
          | inl d ↦ signed_is type content v (eqb-true _ _ d.0) h d.1
          | inr d ↦ elim (chosen (eqb type 7) (Some (text_in content)) (cond (eqb type 8) (string_in content) (cond (eqb type 9) (Some (number_in 9 (values.Enumerated (unsigned_of content)) content)) (cond (eqb type 12) (Some (values.Object (identifier_of content))) (Some (values.Opaque type OtherType))))) (Some v) d.1) [
            | inl f ↦ text_is type content v (eqb-true _ _ f.0) h f.1
            | inr f ↦ elim (chosen (eqb type 8) (string_in content) (cond (eqb type 9) (Some (number_in 9 (values.Enumerated (unsigned_of content)) content)) (cond (eqb type 12) (Some (values.Object (identifier_of content))) (Some (values.Opaque type OtherType)))) (Some v) f.1) [
              | inl g ↦ string_is type content v (eqb-true _ _ g.0) g.1
              | inr g ↦ elim (chosen (eqb type 9) (Some (number_in 9 (values.Enumerated (unsigned_of content)) content)) (cond (eqb type 12) (Some (values.Object (identifier_of content))) (Some (values.Opaque type OtherType))) (Some v) g.1) [
                | inl i ↦ enumerated_is type content v (eqb-true _ _ i.0) h i.1
                | inr i ↦ elim (chosen (eqb type 12) (Some (values.Object (identifier_of content))) (Some (values.Opaque type OtherType)) (Some v) i.1) [
                  | inl j ↦
                      let twelve : type ≡ 12 = eqb-true _ _ j.0 in
                      let four : length content ≡ 4 = eqb-true _ _ (sym (ap (λ (t : ℕ). has_length t (length content)) twelve) ∙ h) in
                      subst (IsValue type content) (some_is _ _ j.1) (twelve, identifier_values.is content bytes (omega (arith, four), omega (arith, four)))
                  | inr j ↦
                      let other : IsOtherType type = record { null = eqb-false _ _ a.0; boolean = not1; unsigned = eqb-false _ _ b.0; signed = eqb-false _ _ d.0; text = eqb-false _ _ f.0; bits = eqb-false _ _ g.0; enumerated = eqb-false _ _ i.0; object = eqb-false _ _ j.0 } in
                      subst (IsValue type content) (some_is _ _ j.1) (refl, (other, h))
                ]
              ]
            ]
          ]
        ]
      ]
    ]

-- ---- the content of a value

abbrev pub Takes : ℕ → List ℕ → Value → Type 0
Takes type content v = (value_in type content ≡ Some v) × (has_length type (length content) ≡ true) × (type ≢ 1)

short_number : (type : ℕ) (value : Value) (content : List ℕ) → length content ≤ 4 → number_in type value content ≡ value
short_number type value content le = rw (le-ltb 4 (length content) le) refl

long_number : (type : ℕ) (value : Value) (content : List ℕ) → 4 < length content → number_in type value content ≡ values.Opaque type OutOfRange
long_number type value content lt = rw (lt-ltb 4 (length content) lt) refl

-- a value of a type that is known
known : (k type : ℕ) (content : List ℕ) (v : Value) → type ≡ k → Takes k content v → Takes type content v
known k type content v e t = subst (λ (m : ℕ). Takes m content v) (sym e) t

null_takes : Takes 0 [] values.Null
unfolding value_in
null_takes = (refl, refl, λ bad. omega arith)

unsigned_takes : (content : List ℕ) (n : ℕ) → 1 ≤ length content → length content ≤ 4 → n ≡ unsigned_of content → Takes 2 content (values.Unsigned n)
unfolding value_in
unsigned_takes content n least most e =
    (ap Some (short_number 2 (values.Unsigned (unsigned_of content)) content most ∙ ap values.Unsigned (sym e)), le-leb 1 (length content) least, λ bad. omega arith)

signed_takes : (content : List ℕ) (z : ℤ) → 1 ≤ length content → length content ≤ 4 → z ≡ signed_of content → Takes 3 content (values.Signed z)
unfolding value_in
signed_takes content z least most e =
    (ap Some (short_number 3 (values.Signed (signed_of content)) content most ∙ ap values.Signed (sym e)), le-leb 1 (length content) least, λ bad. omega arith)

enumerated_takes : (content : List ℕ) (n : ℕ) → 1 ≤ length content → length content ≤ 4 → n ≡ unsigned_of content → Takes 9 content (values.Enumerated n)
unfolding value_in
enumerated_takes content n least most e =
    (ap Some (short_number 9 (values.Enumerated (unsigned_of content)) content most ∙ ap values.Enumerated (sym e)), le-leb 1 (length content) least, λ bad. omega arith)

long_2 : (content : List ℕ) → 4 < length content → Takes 2 content (values.Opaque 2 OutOfRange)
unfolding value_in
long_2 content lt = (ap Some (long_number 2 (values.Unsigned (unsigned_of content)) content lt), le-leb 1 (length content) (omega arith), λ bad. omega arith)

long_3 : (content : List ℕ) → 4 < length content → Takes 3 content (values.Opaque 3 OutOfRange)
unfolding value_in
long_3 content lt = (ap Some (long_number 3 (values.Signed (signed_of content)) content lt), le-leb 1 (length content) (omega arith), λ bad. omega arith)

long_9 : (content : List ℕ) → 4 < length content → Takes 9 content (values.Opaque 9 OutOfRange)
unfolding value_in
long_9 content lt = (ap Some (long_number 9 (values.Enumerated (unsigned_of content)) content lt), le-leb 1 (length content) (omega arith), λ bad. omega arith)

text_takes : (set : ℕ) (octets : List ℕ) (v : Value) → text_in (set ∷ octets) ≡ v → Takes 7 (set ∷ octets) v
unfolding value_in
text_takes set octets v e = (ap Some e, le-leb 1 (suc (length octets)) (omega arith), λ bad. omega arith)

utf8_in : (octets : List ℕ) → text_in (0 ∷ octets) ≡ characters_in octets
utf8_in octets = refl

string_takes : (content : List ℕ) (v : Value) → 1 ≤ length content → string_in content ≡ Some v → Takes 8 content v
unfolding value_in
string_takes content v least e = (e, le-leb 1 (length content) least, λ bad. omega arith)

short_string : (content : List ℕ) (string : BitsData) → length content ≤ 9 → bits_of content ≡ Some string → string_in content ≡ Some (values.Bits string)
short_string [] string le e = absurd cc
short_string (unused ∷ octets) string le e =
    elim (chosen (ltb 7 unused || ltb (8 * length octets) unused) None (Some (string_of unused octets)) (Some string) e) [
      | inl h ↦ absurd (let bad = h.1 in cc)
      | inr h ↦
          let same : string_of unused octets ≡ string = let some = h.1 in cc in
          rw (h.0, le-ltb 8 (length octets) (omega arith)) (ap (λ (s : BitsData). Some (values.Bits s)) same)
    ]

long_string : (unused : ℕ) (octets : List ℕ) → unused ≤ 7 → 8 < length octets → string_in (unused ∷ octets) ≡ Some (values.Opaque 8 OutOfRange)
long_string unused octets few long =
    let fine : (ltb 7 unused || ltb (8 * length octets) unused) ≡ false = or_from _ _ (le-ltb 7 unused few) (le-ltb (8 * length octets) unused (omega arith)) in
    rw (fine, lt-ltb 8 (length octets) long) refl

object_takes : (content : List ℕ) (id : ObjectIdData) → length content ≡ 4 → identifier_of content ≡ id → Takes 12 content (values.Object id)
unfolding value_in
object_takes content id four e = (ap (λ (i : ObjectIdData). Some (values.Object i)) e, eq-eqb (length content) 4 four, λ bad. omega arith)

other_takes : (type : ℕ) (content : List ℕ) → IsOtherType type → has_length type (length content) ≡ true → Takes type content (values.Opaque type OtherType)
unfolding value_in
other_takes type content o h =
    (rw (ne_eqb type 0 o.null, ne_eqb type 2 o.unsigned, ne_eqb type 3 o.signed, ne_eqb type 7 o.text, ne_eqb type 8 o.bits, ne_eqb type 9 o.enumerated, ne_eqb type 12 o.object) refl, h, o.boolean)

at_type : (k type : ℕ) (content : List ℕ) (why : Foreign) → type ≡ k → Takes k content (values.Opaque k why) → Takes type content (values.Opaque type why)
at_type k type content why e t = subst (λ (m : ℕ). Takes m content (values.Opaque m why)) (sym e) t

by_text : (type : ℕ) (content : List ℕ) (why : Foreign) (set : ℕ) (octets : List ℕ) → type ≡ 7 → content ≡ set ∷ octets → text_in (set ∷ octets) ≡ values.Opaque 7 why → Takes type content (values.Opaque type why)
by_text type content why set octets seven parts e =
    at_type 7 type content why seven (subst (λ (c : List ℕ). Takes 7 c (values.Opaque 7 why)) (sym parts) (text_takes set octets (values.Opaque 7 why) e))

foreign_takes : (type : ℕ) (content : List ℕ) (why : Foreign) → IsForeign why type content → Takes type content (values.Opaque type why)
foreign_takes type content OtherType h = other_takes type content h.0 h.1
foreign_takes type content CharacterSet h =
    let set = h.1.0 in
    let octets = h.1.1 in
    let no : text_in (set ∷ octets) ≡ values.Opaque 7 CharacterSet = rw (ne_eqb set 0 h.1.3) refl in
    by_text type content CharacterSet set octets h.0 h.1.2 no
foreign_takes type content TooLong h =
    let octets = h.1.1 in
    let long : characters_in octets ≡ values.Opaque 7 TooLong = rw (lt-ltb 256 (length octets) h.1.3.1) refl in
    by_text type content TooLong 0 octets h.0 (h.1.2 ∙ ap (λ (n : ℕ). n ∷ octets) h.1.3.0) long
foreign_takes type content NotUtf8 h =
    let octets = h.1.1 in
    by_text type content NotUtf8 0 octets h.0 (h.1.2 ∙ ap (λ (n : ℕ). n ∷ octets) h.1.3.0) (no_text octets h.1.3.1 h.1.3.2)
foreign_takes type content OutOfRange (inl h) =
    elim h.0 [
      | inl two ↦ at_type 2 type content OutOfRange two (long_2 content h.1)
      | inr a ↦ elim a [ inl three ↦ at_type 3 type content OutOfRange three (long_3 content h.1) | inr nine ↦ at_type 9 type content OutOfRange nine (long_9 content h.1) ]
    ]
foreign_takes type content OutOfRange (inr h) =
    let s = h.1 in
    let e : string_in content ≡ Some (values.Opaque 8 OutOfRange) = ap string_in s.parts ∙ long_string s.unused s.octets s.few s.long in
    at_type 8 type content OutOfRange h.0 (string_takes content (values.Opaque 8 OutOfRange) (omega (arith, ap length s.parts)) e)

pub value_takes : (type : ℕ) (content : List ℕ) (v : Value) → IsValue type content v → Takes type content v
value_takes type content values.Null h = known 0 type content values.Null h.0 (subst (λ (c : List ℕ). Takes 0 c values.Null) (sym h.1) null_takes)
value_takes type content (values.Bool b) h = absurd h
value_takes type content (values.Unsigned n) h = known 2 type content (values.Unsigned n) h.0 (unsigned_takes content n h.1.0.0 h.1.0.1 h.1.1)
value_takes type content (values.Signed z) h = known 3 type content (values.Signed z) h.0 (signed_takes content z h.1.0.0 h.1.0.1 h.1.1)
value_takes type content (values.Text text) h =
    known 7 type content (values.Text text) h.0 (subst (λ (c : List ℕ). Takes 7 c (values.Text text)) (sym h.1) (text_takes 0 text (values.Text text) (is_text text h.2 h.3)))
value_takes type content (values.Bits string) h =
    let right = bits_right content string h.1 in
    known 8 type content (values.Bits string) h.0 (string_takes content (values.Bits string) right.0 (short_string content string right.1 (bits_one content string h.1)))
value_takes type content (values.Enumerated n) h = known 9 type content (values.Enumerated n) h.0 (enumerated_takes content n h.1.0.0 h.1.0.1 h.1.1)
value_takes type content (values.Object id) h = known 12 type content (values.Object id) h.0 (object_takes content id h.1.0 (identifier_values.one content id h.1))
value_takes type content (values.DateTime stamp) h = absurd h
value_takes type content (values.Opaque tag why) h = subst (λ (t : ℕ). Takes type content (values.Opaque t why)) (sym h.0) (foreign_takes type content why h.1)
