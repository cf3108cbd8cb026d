-- The clauses of the reader of values.
use Rattle.std.proofs.Common.{◌≡◌, ◌≢◌, ℕ, zero, suc, ◌+◌, ◌*◌, ◌<◌, ◌≤◌, Bool, true, false, cond, not, eqb, ltb, ◌||◌, Option, Some, None, List, [], ◌∷◌, ◌++◌, length, drop, Result, Ok, Err, refl, sym, ap, subst, ◌∙◌, arith, inl, inr}
use Rattle.std.specs.Prelude.{◌⊎◌, ◌↔◌, IfOk, IsOkAnd, ok_or}
use Rattle.std.specs.Int.{from_bool}
use Rattle.std.proofs.lemmas.Bool.{eqb-true, eqb-false, ne_eqb, ltb-true, lt-ltb, leb-true, le-leb, or_cases, or_left, or_right, cases_Bool, not-true, not-false}
use Rattle.std.proofs.lemmas.List.{length-append, length-drop}
use Rattle.bac_values.specs.declared.value.Value.{Value}
use Rattle.bac_values.specs.declared.value.Value.TheVariants as values
use Rattle.bac_values.specs.declared.value.Foreign.TheVariants.{OtherType, OutOfRange}
use Rattle.bac_tags.specs.declared.fault.TagFault.{TagFault}
use Rattle.bac_tags.specs.declared.fault.TagFault.TheVariants.{Truncated, WrongTag, BadLength, NoMemory}
use Rattle.bac_tags.specs.declared.tag.Tag.{Tag}
use Rattle.bac_tags.specs.declared.tag.Shape.{Shape}
use Rattle.bac_tags.specs.Places.{IsSpelledAt}
use Rattle.bac_tags.specs.Tags.{SpellsTag, EndsInTag}
use Rattle.bac_tags.specs.Elements.{element_tag, SpellsElement}
use Rattle.bac_tags.specs.Contents.{SpellsBoolean}
use Rattle.bac_tags.specs.Values.{has_length, IsValue, SpellsValue, EndsInValue, HasNoValueTag, HasNoLength, HasNoString}
use Rattle.bac_tags.specs.ReadingSteps.{◌>>=◌, octets_at, tag_at, length_in, application_at, number_in, text_in, string_in, value_in, value_at, unsigned_of, signed_of, identifier_of, string_of, IsText, GivesValue}
use Rattle.bac_tags.proofs.Steps.{bind_ok, bind_err, chosen, ok_is}
use Rattle.bac_tags.proofs.Standing.{IsBytes, Stands, Stands-from, Stands-then, Stands-front, Stands-back, Stands-within, octets_found, octets_again, octets_short, octets_cut}
use Rattle.bac_tags.proofs.Answered.{Spelled, is_only}
use Rattle.bac_tags.proofs.TagLaws.{tag_found, tag_again}
use Rattle.bac_tags.proofs.Cut.{tag_cut, tag_truncated}
use Rattle.bac_tags.proofs.ElementLaws.{some_ok, none_err, shape_is}
use Rattle.bac_tags.proofs.Readers.{part_bytes, ends_at, form_err, form_ok}
use Rattle.bac_tags.proofs.ContentValues.{value_is, value_takes}

-- ---- the tag

abbrev Header : Type 0
Header = ℕ × ℕ × ℕ

abbrev header_ok : ℕ → ℕ → ℕ → Result Header TagFault
header_ok type n end = Ok (type, n, end)

abbrev after_shape : ℕ → Tag × ℕ → ℕ → Result Header TagFault
after_shape place tag n = cond tag.0.context (Err (WrongTag place)) (Ok (tag.0.number, n, tag.1))

abbrev after_tag : ℕ → Tag × ℕ → Result Header TagFault
after_tag place tag = ok_or (length_in tag.0.shape) (WrongTag place) >>= after_shape place tag

abbrev made : ℕ → Bool → Shape → Tag
made number context shape = record { number = number; context = context; shape = shape }

application_tag : (tag : Tag) (n : ℕ) → length_in tag.shape ≡ Some n → tag.context ≡ false → tag ≡ element_tag tag.number None n
application_tag tag n e c =
    ap (λ (b : Bool). made tag.number b tag.shape) c ∙ ap (λ (s : Shape). made tag.number false s) (shape_is tag.shape n e)

-- an application's tag stands there
record SpellsApplication (input : List ℕ) (place : ℕ) (x : Header) : Type 0 where
  octets : List ℕ
  stands : Stands input place octets x.2
  spells : SpellsTag octets (element_tag x.0 None x.1)

application_found : (input : List ℕ) (place : ℕ) (x : Header) → IsBytes input → application_at input place ≡ Ok x → SpellsApplication input place x
unfolding application_at
application_found input place x bytes e =
    let a = bind_ok (tag_at input place) (after_tag place) x e in
    let b = bind_ok (ok_or (length_in a.0.0.shape) (WrongTag place)) (after_shape place a.0) x a.2 in
    let t = tag_found input place a.0 bytes a.1 in
    elim (chosen a.0.0.context (Err (WrongTag place)) (Ok (a.0.0.number, b.0, a.0.1)) (Ok x) b.2) [
      | inl h ↦ absurd (let bad = h.1 in cc)
      | inr h ↦
          let same = application_tag a.0.0 b.0 (some_ok (length_in a.0.0.shape) (WrongTag place) b.0 b.1) h.0 in
          subst (SpellsApplication input place) (ok_is (a.0.0.number, b.0, a.0.1) x h.1) (record { octets = t.octets; stands = t.stands; spells = subst (SpellsTag t.octets) same t.spells })
    ]

application_again : (input : List ℕ) (place : ℕ) (octets : List ℕ) (type n end : ℕ) → SpellsTag octets (element_tag type None n) → Stands input place octets end → application_at input place ≡ Ok (type, n, end)
unfolding application_at
application_again input place octets type n end t p = rw (tag_again input place octets (element_tag type None n) end t p) refl

-- what the tag's reading fails with
application_err : (input : List ℕ) (place : ℕ) (e : TagFault) → IsBytes input → application_at input place ≡ Err e
    → (EndsInTag (drop place input) × (e ≡ Truncated (length input))) ⊎ (HasNoValueTag (drop place input) × (e ≡ WrongTag place))
unfolding application_at
application_err input place e bytes h =
    elim (bind_err (tag_at input place) (after_tag place) e h) [
      | inl t ↦ inl (tag_cut input place e bytes t)
      | inr a ↦
          let t = tag_found input place a.0 bytes a.1 in
          elim (bind_err (ok_or (length_in a.0.0.shape) (WrongTag place)) (after_shape place a.0) e a.2) [
            | inl o ↦
                let none = none_err (length_in a.0.0.shape) (WrongTag place) e o in
                inr (record { header = t.octets; rest = drop a.0.1 input; tag = a.0.0; parts = t.stands.parts; tagged = t.spells; other = λ type n same. let some : length_in a.0.0.shape ≡ Some n = ap (λ (g : Tag). length_in g.shape) same in cc }, none.1)
            | inr b ↦
                elim (chosen a.0.0.context (Err (WrongTag place)) (Ok (a.0.0.number, b.0, a.0.1)) (Err e) b.2) [
                  | inl in_context ↦
                      inr (record { header = t.octets; rest = drop a.0.1 input; tag = a.0.0; parts = t.stands.parts; tagged = t.spells; other = λ type n same. let outside : a.0.0.context ≡ false = ap (λ (g : Tag). g.context) same in cc }, let same = in_context.1 in cc)
                  | inr outside ↦ absurd (let bad = outside.1 in cc)
                ]
          ]
    ]

no_value_tag : (tag : Tag) (end place : ℕ) → ((type n : ℕ) → tag ≢ element_tag type None n) → after_tag place (tag, end) ≡ Err (WrongTag place)
no_value_tag tag end place other = by_length (length_in tag.shape) refl
  where
    by_length : (o : Option ℕ) → length_in tag.shape ≡ o → (ok_or o (WrongTag place) >>= after_shape place (tag, end)) ≡ Err (WrongTag place)
    by_length None e = refl
    by_length (Some n) e = by_class tag.context refl
      where
        by_class : (b : Bool) → tag.context ≡ b → cond b (Err (WrongTag place)) (header_ok tag.number n end) ≡ Err (WrongTag place)
        by_class true c = refl
        by_class false c = absurd (other tag.number n (application_tag tag n e c))

application_other : (input : List ℕ) (place : ℕ) → HasNoValueTag (drop place input) → application_at input place ≡ Err (WrongTag place)
unfolding application_at
application_other input place h =
    rw (tag_again input place h.header h.tag (place + length h.header) h.tagged (Stands-from input place h.header h.rest h.parts)) (no_value_tag h.tag (place + length h.header) place h.other)

-- ---- the whole value

abbrev after_content : ℕ → ℕ → ℕ → List ℕ → Result (Value × ℕ) TagFault
after_content place type end content = ok_or (value_in type content) (BadLength place) >>= ends_at end

abbrev of_content : List ℕ → ℕ → Header → Result (Value × ℕ) TagFault
of_content input place h = octets_at input h.2 h.1 >>= after_content place h.0 (h.2 + h.1)

abbrev of_type : List ℕ → ℕ → Header → Result (Value × ℕ) TagFault
of_type input place h = cond (eqb h.0 1) (Ok (values.Bool (eqb h.1 1), h.2)) (of_content input place h)

abbrev after_application : List ℕ → ℕ → Header → Result (Value × ℕ) TagFault
after_application input place h = cond (not (has_length h.0 h.1)) (Err (BadLength place)) (of_type input place h)

one_or_none : (n : ℕ) → n ≤ 1 → n ≡ from_bool (eqb n 1)
one_or_none zero le = refl
one_or_none (suc zero) le = refl
one_or_none (suc (suc n)) le = absurd (omega arith)

boolean_found : (input : List ℕ) (place : ℕ) (h : Header) (x : Value × ℕ) → SpellsApplication input place h → h.0 ≡ 1 → has_length h.0 h.1 ≡ true → (values.Bool (eqb h.1 1), h.2) ≡ x → Spelled SpellsValue input place x.0 x.1
boolean_found input place h x s one right e =
    let small : h.1 ≤ 1 = leb-true _ _ (sym (ap (λ (t : ℕ). has_length t h.1) one) ∙ right) in
    let tagged : SpellsTag s.octets (element_tag 1 None (from_bool (eqb h.1 1))) = subst (λ (n : ℕ). SpellsTag s.octets (element_tag 1 None n)) (one_or_none h.1 small) (subst (λ (t : ℕ). SpellsTag s.octets (element_tag t None h.1)) one s.spells) in
    subst (λ (y : Value × ℕ). Spelled SpellsValue input place y.0 y.1) e (record { octets = s.octets; stands = s.stands; spells = inl (eqb h.1 1, refl, tagged) })

content_found : (input : List ℕ) (place : ℕ) (h : Header) (x : Value × ℕ) → IsBytes input → place ≤ length input → SpellsApplication input place h → h.0 ≢ 1 → has_length h.0 h.1 ≡ true → of_content input place h ≡ Ok x → Spelled SpellsValue input place x.0 x.1
content_found input place h x bytes le s not1 right e =
    let within : h.2 ≤ length input = Stands-within input place s.octets h.2 le s.stands in
    let b = bind_ok (octets_at input h.2 h.1) (after_content place h.0 (h.2 + h.1)) x e in
    let o = octets_found input h.2 h.1 b.0 within b.1 in
    let f = form_ok (value_in h.0 b.0) place (h.2 + h.1) x b.2 in
    let stands = Stands-then input place s.octets h.2 b.0 (h.2 + h.1) s.stands o.0 in
    let long : has_length h.0 (length b.0) ≡ true = ap (has_length h.0) o.1 ∙ right in
    record {
      octets = s.octets ++ b.0;
      stands = subst (Stands input place (s.octets ++ b.0)) f.1 stands;
      spells = inr (h.0, record { header = s.octets; content = b.0; parts = refl; tagged = subst (λ (n : ℕ). SpellsTag s.octets (element_tag h.0 None n)) (sym o.1) s.spells; is = value_is h.0 b.0 x.0 (part_bytes input place s.octets b.0 (h.2 + h.1) bytes stands) long not1 f.0 });
    }

pub value_found : (input : List ℕ) (place : ℕ) (x : Value × ℕ) → IsBytes input → place ≤ length input → value_at input place ≡ Ok x → Spelled SpellsValue input place x.0 x.1
unfolding value_at
value_found input place x bytes le e =
    let a = bind_ok (application_at input place) (after_application input place) x e in
    let s = application_found input place a.0 bytes a.1 in
    elim (chosen (not (has_length a.0.0 a.0.1)) (Err (BadLength place)) (of_type input place a.0) (Ok x) a.2) [
      | inl h ↦ absurd (let bad = h.1 in cc)
      | inr h ↦
          let right : has_length a.0.0 a.0.1 ≡ true = not-false _ h.0 in
          elim (chosen (eqb a.0.0 1) (Ok (values.Bool (eqb a.0.1 1), a.0.2)) (of_content input place a.0) (Ok x) h.1) [
            | inl one ↦ boolean_found input place a.0 x s (eqb-true _ _ one.0) right (ok_is (values.Bool (eqb a.0.1 1), a.0.2) x one.1)
            | inr other ↦ content_found input place a.0 x bytes le s (eqb-false _ _ other.0) right other.1
          ]
    ]

boolean_again : (input : List ℕ) (place : ℕ) (octets : List ℕ) (b : Bool) (end : ℕ) → SpellsBoolean None octets b → Stands input place octets end → value_at input place ≡ Ok (values.Bool b, end)
unfolding value_at
boolean_again input place octets true end t p = rw (application_again input place octets 1 1 end t p) refl
boolean_again input place octets false end t p = rw (application_again input place octets 1 0 end t p) refl

content_again : (input : List ℕ) (place : ℕ) (octets : List ℕ) (type : ℕ) (v : Value) (end : ℕ) → place ≤ length input → SpellsElement type None (IsValue type) octets v → Stands input place octets end → value_at input place ≡ Ok (v, end)
unfolding value_at
content_again input place octets type v end le s p =
    let q : Stands input place (s.header ++ s.content) end = subst (λ (o : List ℕ). Stands input place o end) s.parts p in
    let front = Stands-front input place s.header s.content end q in
    let back = Stands-back input place s.header s.content end q in
    let within : place + length s.header ≤ length input = Stands-within input place s.header (place + length s.header) le front in
    let t = value_takes type s.content v s.is in
    let ends : place + length s.header + length s.content ≡ end = sym back.ends in
    rw (application_again input place s.header type (length s.content) (place + length s.header) s.tagged front, t.1, ne_eqb type 1 t.2, octets_again input (place + length s.header) s.content end (length s.content) within back refl, t.0, ends) refl

pub value_again : (input : List ℕ) (place : ℕ) → place ≤ length input → (octets : List ℕ) (v : Value) (end : ℕ) → SpellsValue octets v → Stands input place octets end → value_at input place ≡ Ok (v, end)
value_again input place le octets v end (inl s) p = boolean_again input place octets s.0 end s.2 p ∙ ap (λ (w : Value). Ok (w, end)) (sym s.1)
value_again input place le octets v end (inr s) p = content_again input place octets s.0 v end le s.1 p

-- ---- faults

-- a content without a value is a string with a wrong number of unused bits
no_value : (type : ℕ) (content : List ℕ) → has_length type (length content) ≡ true → value_in type content ≡ None → (type ≡ 8) × ((unused : ℕ) × (bits : List ℕ) × (content ≡ unused ∷ bits) × ((7 < unused) ⊎ (8 * length bits < unused)))
unfolding value_in
no_value type content right e =
    elim (cases_Bool (eqb type 8)) [
      | inl eight ↦
          let is : type ≡ 8 = eqb-true _ _ eight in
          (is, string content (leb-true _ _ (sym (ap (λ (t : ℕ). has_length t (length content)) is) ∙ right)) (sym (ap (λ (t : ℕ). value_in t content) is) ∙ e))
      | inr other ↦ absurd (never type content other e)
    ]
  where
    string : (content : List ℕ) → 1 ≤ length content → string_in content ≡ None → (unused : ℕ) × (bits : List ℕ) × (content ≡ unused ∷ bits) × ((7 < unused) ⊎ (8 * length bits < unused))
    string [] least e = absurd (omega arith)
    string (unused ∷ bits) least e =
        elim (chosen (ltb 7 unused || ltb (8 * length bits) unused) None (Some (cond (ltb 8 (length bits)) (values.Opaque 8 OutOfRange) (values.Bits (string_of unused bits)))) None e) [
          | inl h ↦ (unused, bits, refl, elim (or_cases _ _ h.0) [ inl a ↦ inl (ltb-true _ _ a) | inr a ↦ inr (ltb-true _ _ a) ])
          | inr h ↦ absurd (let bad = h.1 in cc)
        ]

    never : (type : ℕ) (content : List ℕ) → eqb type 8 ≡ false → value_in type content ≡ None → ⊥
    never type content not8 e =
        elim (chosen (eqb type 0) (Some values.Null) (cond (eqb type 2) (Some (number_in 2 (values.Unsigned (unsigned_of content)) content)) (cond (eqb type 3) (Some (number_in 3 (values.Signed (signed_of content)) content)) (cond (eqb type 7) (Some (text_in content)) (cond (eqb type 8) (string_in content) (cond (eqb type 9) (Some (number_in 9 (values.Enumerated (unsigned_of content)) content)) (cond (eqb type 12) (Some (values.Object (identifier_of content))) (Some (values.Opaque type OtherType)))))))) None e) [
          | inl a ↦ let bad = a.1 in absurd cc
          | inr a ↦ elim (chosen (eqb type 2) (Some (number_in 2 (values.Unsigned (unsigned_of content)) content)) (cond (eqb type 3) (Some (number_in 3 (values.Signed (signed_of content)) content)) (cond (eqb type 7) (Some (text_in content)) (cond (eqb type 8) (string_in content) (cond (eqb type 9) (Some (number_in 9 (values.Enumerated (unsigned_of content)) content)) (cond (eqb type 12) (Some (values.Object (identifier_of content))) (Some (values.Opaque type OtherType))))))) None a.1) [
            | inl b ↦ let bad = b.1 in absurd cc
            | inr b ↦ elim (chosen (eqb type 3) (Some (number_in 3 (values.Signed (signed_of content)) content)) (cond (eqb type 7) (Some (text_in content)) (cond (eqb type 8) (string_in content) (cond (eqb type 9) (Some (number_in 9 (values.Enumerated (unsigned_of content)) content)) (cond (eqb type 12) (Some (values.Object (identifier_of content))) (Some (values.Opaque type OtherType)))))) None b.1) [
              | inl d ↦ let bad = d.1 in absurd cc
              | inr d ↦ elim (chosen (eqb type 7) (Some (text_in content)) (cond (eqb type 8) (string_in content) (cond (eqb type 9) (Some (number_in 9 (values.Enumerated (unsigned_of content)) content)) (cond (eqb type 12) (Some (values.Object (identifier_of content))) (Some (values.Opaque type OtherType))))) None d.1) [
                | inl f ↦ let bad = f.1 in absurd cc
                | inr f ↦ elim (chosen (eqb type 8) (string_in content) (cond (eqb type 9) (Some (number_in 9 (values.Enumerated (unsigned_of content)) content)) (cond (eqb type 12) (Some (values.Object (identifier_of content))) (Some (values.Opaque type OtherType)))) None f.1) [
                  | inl g ↦ let bad = g.0 in absurd cc
                  | inr g ↦ elim (chosen (eqb type 9) (Some (number_in 9 (values.Enumerated (unsigned_of content)) content)) (cond (eqb type 12) (Some (values.Object (identifier_of content))) (Some (values.Opaque type OtherType))) None g.1) [
                    | inl i ↦ let bad = i.1 in absurd cc
                    | inr i ↦ elim (chosen (eqb type 12) (Some (values.Object (identifier_of content))) (Some (values.Opaque type OtherType)) None i.1) [
                      | inl j ↦ let bad = j.1 in absurd cc
                      | inr j ↦ let bad = j.1 in absurd cc
                    ]
                  ]
                ]
              ]
            ]
          ]
        ]

-- what a value's reading fails with
abbrev Causes : List ℕ → ℕ → TagFault → Type 0
Causes input place e =
    ((EndsInTag (drop place input) ⊎ EndsInValue (drop place input)) × (e ≡ Truncated (length input))) ⊎ ((HasNoValueTag (drop place input) × (e ≡ WrongTag place)) ⊎ ((HasNoLength (drop place input) ⊎ HasNoString (drop place input)) × (e ≡ BadLength place)))

content_err : (input : List ℕ) (place : ℕ) (h : Header) (e : TagFault) → place ≤ length input → SpellsApplication input place h → h.0 ≢ 1 → has_length h.0 h.1 ≡ true → of_content input place h ≡ Err e → Causes input place e
content_err input place h e le s not1 right f =
    let within : h.2 ≤ length input = Stands-within input place s.octets h.2 le s.stands in
    elim (bind_err (octets_at input h.2 h.1) (after_content place h.0 (h.2 + h.1)) e f) [
      | inl o ↦
          let cut = octets_cut input h.2 h.1 e o in
          inl (inr (record { header = s.octets; content = drop h.2 input; type = h.0; size = h.1; parts = s.stands.parts; tagged = s.spells; right = right; some = not1; short = omega (arith, cut.0, within, length-drop h.2 input) }), cut.1)
      | inr b ↦
          let o = octets_found input h.2 h.1 b.0 within b.1 in
          let g = form_err (value_in h.0 b.0) place (h.2 + h.1) e b.2 in
          let long : has_length h.0 (length b.0) ≡ true = ap (has_length h.0) o.1 ∙ right in
          let n = no_value h.0 b.0 long g.0 in
          let stands = Stands-then input place s.octets h.2 b.0 (h.2 + h.1) s.stands o.0 in
          let whole : drop place input ≡ s.octets ++ (n.1.0 ∷ n.1.1) ++ drop (h.2 + h.1) input = stands.parts ∙ ap (λ (c : List ℕ). s.octets ++ c ++ drop (h.2 + h.1) input) n.1.2 in
          let tagged : SpellsTag s.octets (element_tag 8 None (length (n.1.0 ∷ n.1.1))) = subst (λ (c : List ℕ). SpellsTag s.octets (element_tag 8 None (length c))) n.1.2 (subst (λ (m : ℕ). SpellsTag s.octets (element_tag 8 None m)) (sym o.1) (subst (λ (t : ℕ). SpellsTag s.octets (element_tag t None h.1)) n.0 s.spells)) in
          inr (inr (inr (record { header = s.octets; unused = n.1.0; bits = n.1.1; rest = drop (h.2 + h.1) input; parts = whole; tagged = tagged; wrong = n.1.3 }), g.1))
    ]

pub value_err : (input : List ℕ) (place : ℕ) (e : TagFault) → IsBytes input → place ≤ length input → value_at input place ≡ Err e → Causes input place e
unfolding value_at
value_err input place e bytes le f =
    elim (bind_err (application_at input place) (after_application input place) e f) [
      | inl a ↦ elim (application_err input place e bytes a) [ inl cut ↦ inl (inl cut.0, cut.1) | inr other ↦ inr (inl other) ]
      | inr a ↦
          let s = application_found input place a.0 bytes a.1 in
          elim (chosen (not (has_length a.0.0 a.0.1)) (Err (BadLength place)) (of_type input place a.0) (Err e) a.2) [
            | inl h ↦
                let wrong : has_length a.0.0 a.0.1 ≡ false = not-true _ h.0 in
                inr (inr (inl (record { header = s.octets; rest = drop a.0.2 input; type = a.0.0; size = a.0.1; parts = s.stands.parts; tagged = s.spells; wrong = λ right. cc }), let same = h.1 in cc))
            | inr h ↦
                elim (chosen (eqb a.0.0 1) (Ok (values.Bool (eqb a.0.1 1), a.0.2)) (of_content input place a.0) (Err e) h.1) [
                  | inl one ↦ absurd (let bad = one.1 in cc)
                  | inr other ↦ content_err input place a.0 e le s (eqb-false _ _ other.0) (not-false _ h.0) other.1
                ]
          ]
    ]

cut_tag : (input : List ℕ) (place : ℕ) (e : TagFault) → tag_at input place ≡ Err e → value_at input place ≡ Err e
unfolding value_at application_at
cut_tag input place e h = rw h refl

cut_value : (input : List ℕ) (place : ℕ) → place ≤ length input → EndsInValue (drop place input) → value_at input place ≡ Err (Truncated (length input))
unfolding value_at
cut_value input place le h =
    let front = Stands-from input place h.header h.content h.parts in
    let within : place + length h.header ≤ length input = Stands-within input place h.header (place + length h.header) le front in
    let short : length input < place + length h.header + h.size = omega (arith, h.short, within, ap length h.parts, length-append h.header h.content, length-drop place input) in
    rw (application_again input place h.header h.type h.size (place + length h.header) h.tagged front, h.right, ne_eqb h.type 1 h.some, octets_short input (place + length h.header) h.size short) refl

other_value : (input : List ℕ) (place : ℕ) → HasNoValueTag (drop place input) → value_at input place ≡ Err (WrongTag place)
unfolding value_at
other_value input place h = rw (application_other input place h) refl

other_length : (input : List ℕ) (place : ℕ) → HasNoLength (drop place input) → value_at input place ≡ Err (BadLength place)
unfolding value_at
other_length input place h =
    let wrong : has_length h.type h.size ≡ false = elim (cases_Bool (has_length h.type h.size)) [ inl a ↦ absurd (h.wrong a) | inr a ↦ a ] in
    rw (application_again input place h.header h.type h.size (place + length h.header) h.tagged (Stands-from input place h.header h.rest h.parts), wrong) refl

no_string : (unused : ℕ) (bits : List ℕ) → (7 < unused) ⊎ (8 * length bits < unused) → value_in 8 (unused ∷ bits) ≡ None
unfolding value_in
no_string unused bits (inl h) = rw (or_left (ltb 7 unused) (ltb (8 * length bits) unused) (lt-ltb 7 unused h)) refl
no_string unused bits (inr h) = rw (or_right (ltb 7 unused) (ltb (8 * length bits) unused) (lt-ltb (8 * length bits) unused h)) refl

other_string : (input : List ℕ) (place : ℕ) → place ≤ length input → HasNoString (drop place input) → value_at input place ≡ Err (BadLength place)
unfolding value_at
other_string input place le h =
    let content = h.unused ∷ h.bits in
    let stands = Stands-from input place (h.header ++ content) h.rest h.parts in
    let front = Stands-front input place h.header content (place + length (h.header ++ content)) stands in
    let back = Stands-back input place h.header content (place + length (h.header ++ content)) stands in
    let within : place + length h.header ≤ length input = Stands-within input place h.header (place + length h.header) le front in
    rw (application_again input place h.header 8 (length content) (place + length h.header) h.tagged front, le-leb 1 (length content) (omega arith), octets_again input (place + length h.header) content (place + length (h.header ++ content)) (length content) within back refl, no_string h.unused h.bits h.wrong) refl

-- ---- what is known of the reader

pub record ReadsValue (input : List ℕ) (place : ℕ) (answer : Result (Value × ℕ) TagFault) : Type 0 where
  pub found : IfOk answer (λ x. IsSpelledAt SpellsValue input place x.0 x.1)
  pub only : (value : Value) (end : ℕ) → IsSpelledAt SpellsValue input place value end → GivesValue answer (Ok (value, end))
  pub truncated : (answer ≡ Err (Truncated (length input))) ↔ (EndsInTag (drop place input) ⊎ EndsInValue (drop place input))
  pub wrong_tag : (answer ≡ Err (WrongTag place)) ↔ HasNoValueTag (drop place input)
  pub bad_length : (answer ≡ Err (BadLength place)) ↔ (HasNoLength (drop place input) ⊎ HasNoString (drop place input))
  pub no_memory : answer ≡ Err NoMemory → (text : List ℕ) × (end : ℕ) × IsSpelledAt SpellsValue input place (values.Text text) end

spelled_at : (input : List ℕ) (place : ℕ) (x : Value × ℕ) → Spelled SpellsValue input place x.0 x.1 → IsSpelledAt SpellsValue input place x.0 x.1
spelled_at input place x s = record { octets = s.octets; rest = drop x.1 input; spelled = s.spells; there = s.stands.parts; ends = s.stands.ends }

found_by : (input : List ℕ) (place : ℕ) (answer : Result (Value × ℕ) TagFault) → IsBytes input → place ≤ length input → GivesValue answer (value_at input place) → IfOk answer (λ x. IsSpelledAt SpellsValue input place x.0 x.1)
found_by input place (Ok x) bytes le (inl e) = spelled_at input place x (value_found input place x bytes le (sym e))
found_by input place (Ok x) bytes le (inr e) = absurd (let bad = e.0 in cc)
found_by input place (Err d) bytes le e = tt

only_by : (input : List ℕ) (place : ℕ) (answer : Result (Value × ℕ) TagFault) → place ≤ length input → GivesValue answer (value_at input place) → (value : Value) (end : ℕ) → IsSpelledAt SpellsValue input place value end → GivesValue answer (Ok (value, end))
only_by input place answer le g value end s =
    let read = is_only SpellsValue input place (value_at input place) (value_again input place le) value end s in
    subst (GivesValue answer) read g

-- a fault other than NoMemory is that of the reading
fault_is : (answer read : Result (Value × ℕ) TagFault) (e : TagFault) (P : Type 0) → GivesValue answer read → (Err NoMemory ≡ answer → answer ≡ Err e → ⊥) → ((read ≡ Err e) → P) → (P → read ≡ Err e) → (answer ≡ Err e) ↔ P
fault_is answer read e P (inl same) never there back = (λ h. there (sym same ∙ h), λ p. same ∙ back p)
fault_is answer read e P (inr memory) never there back =
    (λ h. absurd (never (sym memory.0) h), λ p. absurd (not_ok read e memory.1 (back p)))
  where
    not_ok : (read : Result (Value × ℕ) TagFault) (e : TagFault) → IsOkAnd read (λ x. IsText x.0) → read ≡ Err e → ⊥
    not_ok (Ok x) e text h = absurd cc
    not_ok (Err d) e text h = text

is_a_text : (v : Value) → IsText v → (text : List ℕ) × (v ≡ values.Text text)
is_a_text (values.Text text) t = (text, refl)
is_a_text values.Null t = absurd t
is_a_text (values.Bool b) t = absurd t
is_a_text (values.Unsigned n) t = absurd t
is_a_text (values.Signed z) t = absurd t
is_a_text (values.Bits string) t = absurd t
is_a_text (values.Enumerated n) t = absurd t
is_a_text (values.Object id) t = absurd t
is_a_text (values.DateTime stamp) t = absurd t
is_a_text (values.Opaque tag why) t = absurd t

memory_by : (input : List ℕ) (place : ℕ) (answer read : Result (Value × ℕ) TagFault) → IsBytes input → place ≤ length input → value_at input place ≡ read → GivesValue answer read → answer ≡ Err NoMemory
    → (text : List ℕ) × (end : ℕ) × IsSpelledAt SpellsValue input place (values.Text text) end
memory_by input place answer (Ok x) bytes le e (inl g) h = absurd (let bad = sym g ∙ h in cc)
memory_by input place answer (Ok x) bytes le e (inr g) h =
    let t = is_a_text x.0 g.1 in
    (t.0, x.1, subst (λ (v : Value). IsSpelledAt SpellsValue input place v x.1) t.1 (spelled_at input place x (value_found input place x bytes le e)))
memory_by input place answer (Err d) bytes le e (inl g) h =
    let same : d ≡ NoMemory = let both = sym g ∙ h in cc in
    absurd (elim (value_err input place NoMemory bytes le (e ∙ ap Err same)) [
      | inl a ↦ let bad = a.1 in cc
      | inr a ↦ elim a [ inl b ↦ let bad = b.1 in cc | inr b ↦ let bad = b.1 in cc ]
    ])
memory_by input place answer (Err d) bytes le e (inr g) h = absurd g.1

pub reads_value : (input : List ℕ) (place : ℕ) (answer : Result (Value × ℕ) TagFault) → IsBytes input → place ≤ length input → GivesValue answer (value_at input place) → ReadsValue input place answer
reads_value input place answer bytes le g =
    record {
      found = found_by input place answer bytes le g;
      only = only_by input place answer le g;
      truncated = fault_is answer (value_at input place) (Truncated (length input)) (EndsInTag (drop place input) ⊎ EndsInValue (drop place input)) g (λ a b. let both = a ∙ b in cc) truncated cut;
      wrong_tag = fault_is answer (value_at input place) (WrongTag place) (HasNoValueTag (drop place input)) g (λ a b. let both = a ∙ b in cc) wrong (other_value input place);
      bad_length = fault_is answer (value_at input place) (BadLength place) (HasNoLength (drop place input) ⊎ HasNoString (drop place input)) g (λ a b. let both = a ∙ b in cc) bad misfit;
      no_memory = λ h. memory_by input place answer (value_at input place) bytes le refl g h;
    }
  where
    truncated : value_at input place ≡ Err (Truncated (length input)) → EndsInTag (drop place input) ⊎ EndsInValue (drop place input)
    truncated h = elim (value_err input place (Truncated (length input)) bytes le h) [
      | inl a ↦ a.0
      | inr a ↦ elim a [ inl b ↦ absurd (let no_way = b.1 in cc) | inr b ↦ absurd (let no_way = b.1 in cc) ]
    ]

    cut : EndsInTag (drop place input) ⊎ EndsInValue (drop place input) → value_at input place ≡ Err (Truncated (length input))
    cut (inl h) = cut_tag input place (Truncated (length input)) ((tag_truncated input place bytes).1 h)
    cut (inr h) = cut_value input place le h

    wrong : value_at input place ≡ Err (WrongTag place) → HasNoValueTag (drop place input)
    wrong h = elim (value_err input place (WrongTag place) bytes le h) [
      | inl a ↦ absurd (let no_way = a.1 in cc)
      | inr a ↦ elim a [ inl b ↦ b.0 | inr b ↦ absurd (let no_way = b.1 in cc) ]
    ]

    bad : value_at input place ≡ Err (BadLength place) → HasNoLength (drop place input) ⊎ HasNoString (drop place input)
    bad h = elim (value_err input place (BadLength place) bytes le h) [
      | inl a ↦ absurd (let no_way = a.1 in cc)
      | inr a ↦ elim a [ inl b ↦ absurd (let no_way = b.1 in cc) | inr b ↦ b.0 ]
    ]

    misfit : HasNoLength (drop place input) ⊎ HasNoString (drop place input) → value_at input place ≡ Err (BadLength place)
    misfit (inl h) = other_length input place h
    misfit (inr h) = other_string input place le h
