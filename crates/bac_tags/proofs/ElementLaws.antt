-- Elements that are read are spelled so, elements that are spelled so are read, and each fault has its cause.
use Rattle.std.proofs.Common.{◌≡◌, ◌≢◌, ℕ, ◌+◌, ◌<◌, ◌≤◌, Bool, true, false, cond, eqb, ltb, ◌&&◌, ◌||◌, Option, Some, None, unwrap_or, List, ◌++◌, length, drop, Result, Ok, Err, refl, sym, ap, subst, ◌∙◌, arith, inl, inr}
use Rattle.std.specs.Prelude.{◌⊎◌, ◌↔◌, is_some, ok_or}
use Rattle.std.specs.Bool.{beq}
use Rattle.std.proofs.lemmas.Bool.{eqb-true, eq-eqb, ltb-false, le-ltb, and_parts, and_from, or_parts, or_from, cases_Bool}
use Rattle.std.proofs.lemmas.List.{length-append, length-drop}
use Rattle.bac_tags.specs.declared.fault.TagFault.{TagFault}
use Rattle.bac_tags.specs.declared.fault.TagFault.TheVariants.{Truncated, WrongTag, BadLength}
use Rattle.bac_tags.specs.declared.tag.Tag.{Tag}
use Rattle.bac_tags.specs.declared.tag.Shape.{Shape}
use Rattle.bac_tags.specs.declared.tag.Shape.TheVariants.{Primitive, Opening, Closing}
use Rattle.bac_tags.specs.Tags.{SpellsTag, EndsInTag}
use Rattle.bac_tags.specs.Elements.{element_tag, IsBetween, EndsInContent, EndsInElement, HasOtherTag, HasOtherLength}
use Rattle.bac_tags.specs.ReadingSteps.{◌>>=◌, octets_at, tag_at, length_in, header_at, content_at}
use Rattle.bac_tags.proofs.Steps.{bind_ok, bind_err, chosen, ok_is}
use Rattle.bac_tags.proofs.Standing.{IsBytes, Stands, Stands-from, Stands-then, Stands-front, Stands-back, Stands-within, octets_found, octets_again, octets_short, octets_cut}
use Rattle.bac_tags.proofs.Answered.{Spelled}
use Rattle.bac_tags.proofs.TagLaws.{tag_found, tag_again}
use Rattle.bac_tags.proofs.Cut.{tag_cut, tag_truncated}

beq-true : (x y : Bool) → beq x y ≡ true → x ≡ y
beq-true true true e = refl
beq-true true false e = absurd cc
beq-true false true e = absurd cc
beq-true false false e = refl

beq-same : (x : Bool) → beq x x ≡ true
beq-same true = refl
beq-same false = refl

pub shape_is : (shape : Shape) (n : ℕ) → length_in shape ≡ Some n → shape ≡ Primitive n
shape_is (Primitive m) n e = let same : m ≡ n = cc in ap Primitive same
shape_is Opening n e = absurd cc
shape_is Closing n e = absurd cc

-- whether a tag is the wanted one
abbrev pub is_wanted : Tag → ℕ → Option ℕ → Bool
is_wanted tag type context = eqb tag.number (unwrap_or context type) && beq tag.context (is_some context)

abbrev made : ℕ → Bool → Shape → Tag
made number context shape = record { number = number; context = context; shape = shape }

wanted_is : (tag : Tag) (type : ℕ) (context : Option ℕ) (n : ℕ) → length_in tag.shape ≡ Some n → is_wanted tag type context ≡ true → tag ≡ element_tag type context n
wanted_is tag type None n e w =
    let both = and_parts (eqb tag.number type) (beq tag.context false) w in
    ap (λ (k : ℕ). made k tag.context tag.shape) (eqb-true _ _ both.0) ∙ ap (λ (b : Bool). made type b tag.shape) (beq-true _ _ both.1) ∙ ap (λ (s : Shape). made type false s) (shape_is tag.shape n e)
wanted_is tag type (Some number) n e w =
    let both = and_parts (eqb tag.number number) (beq tag.context true) w in
    ap (λ (k : ℕ). made k tag.context tag.shape) (eqb-true _ _ both.0) ∙ ap (λ (b : Bool). made number b tag.shape) (beq-true _ _ both.1) ∙ ap (λ (s : Shape). made number true s) (shape_is tag.shape n e)

element_is_wanted : (type : ℕ) (context : Option ℕ) (n : ℕ) → is_wanted (element_tag type context n) type context ≡ true
element_is_wanted type None n = and_from _ _ (eq-eqb type type refl) refl
element_is_wanted type (Some number) n = and_from _ _ (eq-eqb number number refl) refl

element_length : (type : ℕ) (context : Option ℕ) (n : ℕ) → length_in (element_tag type context n).shape ≡ Some n
element_length type None n = refl
element_length type (Some number) n = refl

abbrev pub SpellsHeader : ℕ → Option ℕ → List ℕ → ℕ → Type 0
SpellsHeader type context octets n = SpellsTag octets (element_tag type context n)

pub some_ok : {A : Type 0} (o : Option A) (e : TagFault) (x : A) → ok_or o e ≡ Ok x → o ≡ Some x
some_ok (Some y) e x h = let same : y ≡ x = ok_is y x h in ap Some same
some_ok None e x h = absurd cc

pub none_err : {A : Type 0} (o : Option A) (d e : TagFault) → ok_or o d ≡ Err e → (o ≡ None) × (e ≡ d)
none_err (Some y) d e h = absurd cc
none_err None d e h = (refl, cc)

pub header_found : (input : List ℕ) (place type : ℕ) (context : Option ℕ) (x : ℕ × ℕ) → IsBytes input → header_at input place type context ≡ Ok x → Spelled (SpellsHeader type context) input place x.0 x.1
unfolding header_at
header_found input place type context x bytes e =
    let a = bind_ok (tag_at input place) (λ tag. ok_or (length_in tag.0.shape) (WrongTag place) >>= λ n. cond (is_wanted tag.0 type context) (Ok (n, tag.1)) (Err (WrongTag place))) x e in
    let b = bind_ok (ok_or (length_in a.0.0.shape) (WrongTag place)) (λ n. cond (is_wanted a.0.0 type context) (Ok (n, a.0.1)) (Err (WrongTag place))) x a.2 in
    let t = tag_found input place a.0 bytes a.1 in
    elim (chosen (is_wanted a.0.0 type context) (Ok (b.0, a.0.1)) (Err (WrongTag place)) (Ok x) b.2) [
      | inl h ↦
          let same : a.0.0 ≡ element_tag type context b.0 = wanted_is a.0.0 type context b.0 (some_ok (length_in a.0.0.shape) (WrongTag place) b.0 b.1) h.0 in
          subst (λ (y : ℕ × ℕ). Spelled (SpellsHeader type context) input place y.0 y.1) (ok_is (b.0, a.0.1) x h.1) (record { octets = t.octets; stands = t.stands; spells = subst (SpellsTag t.octets) same t.spells })
      | inr h ↦ absurd (let bad = h.1 in cc)
    ]

pub header_again : (input : List ℕ) (place type : ℕ) (context : Option ℕ) (octets : List ℕ) (n end : ℕ) → SpellsHeader type context octets n → Stands input place octets end → header_at input place type context ≡ Ok (n, end)
unfolding header_at
header_again input place type context octets n end t p =
    rw (tag_again input place octets (element_tag type context n) end t p, element_length type context n, element_is_wanted type context n) refl

abbrev both : ℕ → ℕ → Result (ℕ × ℕ) TagFault
both n end = Ok (n, end)

pub header_other : (input : List ℕ) (place type : ℕ) (context : Option ℕ) → HasOtherTag type context (drop place input) → header_at input place type context ≡ Err (WrongTag place)
unfolding header_at
header_other input place type context h =
    rw (tag_again input place h.header h.tag (place + length h.header) h.tagged (Stands-from input place h.header h.rest h.parts)) (not_wanted (length_in h.tag.shape) h.tag (place + length h.header) place type context refl h.other)
  where
    not_wanted : (o : Option ℕ) (tag : Tag) (end place type : ℕ) (context : Option ℕ) → length_in tag.shape ≡ o → ((n : ℕ) → tag ≢ element_tag type context n)
        → (ok_or o (WrongTag place) >>= λ n. cond (is_wanted tag type context) (both n end) (Err (WrongTag place))) ≡ Err (WrongTag place)
    not_wanted None tag end place type context e other = refl
    not_wanted (Some n) tag end place type context e other =
        elim (cases_Bool (is_wanted tag type context)) [
          | inl holds ↦ absurd (other n (wanted_is tag type context n e holds))
          | inr not ↦ rw not refl
        ]

pub header_err : (input : List ℕ) (place type : ℕ) (context : Option ℕ) (e : TagFault) → IsBytes input → header_at input place type context ≡ Err e
    → (EndsInTag (drop place input) × (e ≡ Truncated (length input))) ⊎ (HasOtherTag type context (drop place input) × (e ≡ WrongTag place))
unfolding header_at
header_err input place type context e bytes h =
    elim (bind_err (tag_at input place) (λ tag. ok_or (length_in tag.0.shape) (WrongTag place) >>= λ n. cond (is_wanted tag.0 type context) (Ok (n, tag.1)) (Err (WrongTag place))) e h) [
      | inl t ↦ inl (tag_cut input place e bytes t)
      | inr a ↦
          let t = tag_found input place a.0 bytes a.1 in
          elim (bind_err (ok_or (length_in a.0.0.shape) (WrongTag place)) (λ n. cond (is_wanted a.0.0 type context) (Ok (n, a.0.1)) (Err (WrongTag place))) e a.2) [
            | inl o ↦
                let none = none_err (length_in a.0.0.shape) (WrongTag place) e o in
                inr (record { header = t.octets; rest = drop a.0.1 input; tag = a.0.0; parts = t.stands.parts; tagged = t.spells; other = λ n same. let some : length_in a.0.0.shape ≡ Some n = ap (λ (g : Tag). length_in g.shape) same ∙ element_length type context n in cc }, none.1)
            | inr b ↦
                elim (chosen (is_wanted a.0.0 type context) (Ok (b.0, a.0.1)) (Err (WrongTag place)) (Err e) b.2) [
                  | inl holds ↦ absurd (let bad = holds.1 in cc)
                  | inr not ↦
                      inr (record { header = t.octets; rest = drop a.0.1 input; tag = a.0.0; parts = t.stands.parts; tagged = t.spells; other = λ n same. let holds : is_wanted a.0.0 type context ≡ true = ap (λ (g : Tag). is_wanted g type context) same ∙ element_is_wanted type context n in cc }, let same = not.1 in cc)
                ]
          ]
    ]

-- ---- contents

inside_false : (least most n : ℕ) → IsBetween least most n → (ltb n least || ltb most n) ≡ false
inside_false least most n h = or_from _ _ (le-ltb n least h.0) (le-ltb most n h.1)

false_inside : (least most n : ℕ) → (ltb n least || ltb most n) ≡ false → IsBetween least most n
false_inside least most n e = let both = or_parts (ltb n least) (ltb most n) e in (ltb-false _ _ both.0, ltb-false _ _ both.1)

outside_true : (least most n : ℕ) → ¬ IsBetween least most n → (ltb n least || ltb most n) ≡ true
outside_true least most n h =
    elim (cases_Bool (ltb n least || ltb most n)) [ inl holds ↦ holds | inr not ↦ absurd (h (false_inside least most n not)) ]

true_outside : (least most n : ℕ) → (ltb n least || ltb most n) ≡ true → ¬ IsBetween least most n
true_outside least most n e h = let not = inside_false least most n h in cc

-- a content behind its tag stands there
pub record StandsContent (input : List ℕ) (place type : ℕ) (context : Option ℕ) (least most : ℕ) (content : List ℕ) (end : ℕ) : Type 0 where
  pub header : List ℕ
  pub stands : Stands input place (header ++ content) end
  pub tagged : SpellsTag header (element_tag type context (length content))
  pub right : IsBetween least most (length content)

pub content_found : (input : List ℕ) (place type : ℕ) (context : Option ℕ) (least most : ℕ) (x : List ℕ × ℕ) → IsBytes input → place ≤ length input
    → content_at input place type context least most ≡ Ok x → StandsContent input place type context least most x.0 x.1
unfolding content_at
content_found input place type context least most x bytes le e =
    let a = bind_ok (header_at input place type context) (λ header. cond (ltb header.0 least || ltb most header.0) (Err (BadLength place)) (octets_at input header.1 header.0 >>= λ content. Ok (content, header.1 + header.0))) x e in
    let t = header_found input place type context a.0 bytes a.1 in
    let within : a.0.1 ≤ length input = Stands-within input place t.octets a.0.1 le t.stands in
    elim (chosen (ltb a.0.0 least || ltb most a.0.0) (Err (BadLength place)) (octets_at input a.0.1 a.0.0 >>= λ content. Ok (content, a.0.1 + a.0.0)) (Ok x) a.2) [
      | inl h ↦ absurd (let bad = h.1 in cc)
      | inr h ↦
          let b = bind_ok (octets_at input a.0.1 a.0.0) (λ content. Ok (content, a.0.1 + a.0.0)) x h.1 in
          let o = octets_found input a.0.1 a.0.0 b.0 within b.1 in
          let right = false_inside least most a.0.0 h.0 in
          subst (λ (y : List ℕ × ℕ). StandsContent input place type context least most y.0 y.1) (ok_is (b.0, a.0.1 + a.0.0) x b.2) (record {
            header = t.octets;
            stands = Stands-then input place t.octets a.0.1 b.0 (a.0.1 + a.0.0) t.stands o.0;
            tagged = subst (λ (n : ℕ). SpellsTag t.octets (element_tag type context n)) (sym o.1) t.spells;
            right = subst (IsBetween least most) (sym o.1) right;
          })
    ]

pub content_again : (input : List ℕ) (place type : ℕ) (context : Option ℕ) (least most : ℕ) (content : List ℕ) (end : ℕ) → place ≤ length input
    → StandsContent input place type context least most content end → content_at input place type context least most ≡ Ok (content, end)
unfolding content_at
content_again input place type context least most content end le s =
    let front = Stands-front input place s.header content end s.stands in
    let back = Stands-back input place s.header content end s.stands in
    let within : place + length s.header ≤ length input = Stands-within input place s.header (place + length s.header) le front in
    let ends : place + length s.header + length content ≡ end = sym back.ends in
    rw (header_again input place type context s.header (length content) (place + length s.header) s.tagged front, inside_false least most (length content) s.right, octets_again input (place + length s.header) content end (length content) within back refl, ends) refl

-- what a content's reading fails with
pub content_err : (input : List ℕ) (place type : ℕ) (context : Option ℕ) (least most : ℕ) (e : TagFault) → IsBytes input → place ≤ length input
    → content_at input place type context least most ≡ Err e
    → (EndsInElement type context least most (drop place input) × (e ≡ Truncated (length input))) ⊎ ((HasOtherTag type context (drop place input) × (e ≡ WrongTag place)) ⊎ (HasOtherLength type context least most (drop place input) × (e ≡ BadLength place)))
unfolding content_at
content_err input place type context least most e bytes le h =
    elim (bind_err (header_at input place type context) (λ header. cond (ltb header.0 least || ltb most header.0) (Err (BadLength place)) (octets_at input header.1 header.0 >>= λ content. Ok (content, header.1 + header.0))) e h) [
      | inl t ↦
          elim (header_err input place type context e bytes t) [
            | inl cut ↦ inl (inl cut.0, cut.1)
            | inr other ↦ inr (inl other)
          ]
      | inr a ↦
          let t = header_found input place type context a.0 bytes a.1 in
          let within : a.0.1 ≤ length input = Stands-within input place t.octets a.0.1 le t.stands in
          elim (chosen (ltb a.0.0 least || ltb most a.0.0) (Err (BadLength place)) (octets_at input a.0.1 a.0.0 >>= λ content. Ok (content, a.0.1 + a.0.0)) (Err e) a.2) [
            | inl bad ↦
                inr (inr (record { header = t.octets; rest = drop a.0.1 input; size = a.0.0; parts = t.stands.parts; tagged = t.spells; wrong = true_outside least most a.0.0 bad.0 }, let same = bad.1 in cc))
            | inr good ↦
                elim (bind_err (octets_at input a.0.1 a.0.0) (λ content. Ok (content, a.0.1 + a.0.0)) e good.1) [
                  | inl o ↦
                      let cut = octets_cut input a.0.1 a.0.0 e o in
                      inl (inr (record { header = t.octets; content = drop a.0.1 input; size = a.0.0; parts = t.stands.parts; tagged = t.spells; right = false_inside least most a.0.0 good.0; short = omega (arith, cut.0, within, length-drop a.0.1 input) }), cut.1)
                  | inr o ↦ absurd (let bad = o.2 in cc)
                ]
          ]
    ]

cut_content : (input : List ℕ) (place type : ℕ) (context : Option ℕ) (least most : ℕ) → place ≤ length input → EndsInContent type context least most (drop place input)
    → content_at input place type context least most ≡ Err (Truncated (length input))
unfolding content_at
cut_content input place type context least most le h =
    let front = Stands-from input place h.header h.content h.parts in
    let within : place + length h.header ≤ length input = Stands-within input place h.header (place + length h.header) le front in
    let short : length input < place + length h.header + h.size = omega (arith, h.short, within, ap length h.parts, length-append h.header h.content, length-drop place input) in
    rw (header_again input place type context h.header h.size (place + length h.header) h.tagged front, inside_false least most h.size h.right, octets_short input (place + length h.header) h.size short) refl

cut_tag : (input : List ℕ) (place type : ℕ) (context : Option ℕ) (least most : ℕ) → tag_at input place ≡ Err (Truncated (length input)) → content_at input place type context least most ≡ Err (Truncated (length input))
unfolding content_at header_at
cut_tag input place type context least most e = rw e refl

other_tag : (input : List ℕ) (place type : ℕ) (context : Option ℕ) (least most : ℕ) → HasOtherTag type context (drop place input) → content_at input place type context least most ≡ Err (WrongTag place)
unfolding content_at
other_tag input place type context least most h = rw (header_other input place type context h) refl

other_length : (input : List ℕ) (place type : ℕ) (context : Option ℕ) (least most : ℕ) → HasOtherLength type context least most (drop place input) → content_at input place type context least most ≡ Err (BadLength place)
unfolding content_at
other_length input place type context least most h =
    rw (header_again input place type context h.header h.size (place + length h.header) h.tagged (Stands-from input place h.header h.rest h.parts), outside_true least most h.size h.wrong) refl

pub content_truncated : (input : List ℕ) (place type : ℕ) (context : Option ℕ) (least most : ℕ) → IsBytes input → place ≤ length input
    → (content_at input place type context least most ≡ Err (Truncated (length input))) ↔ EndsInElement type context least most (drop place input)
content_truncated input place type context least most bytes le = (there, back)
  where
    there : content_at input place type context least most ≡ Err (Truncated (length input)) → EndsInElement type context least most (drop place input)
    there h = elim (content_err input place type context least most (Truncated (length input)) bytes le h) [
      | inl cut ↦ cut.0
      | inr rest ↦ elim rest [ inl other ↦ absurd (let bad = other.1 in cc) | inr other ↦ absurd (let bad = other.1 in cc) ]
    ]

    back : EndsInElement type context least most (drop place input) → content_at input place type context least most ≡ Err (Truncated (length input))
    back (inl cut) = cut_tag input place type context least most ((tag_truncated input place bytes).1 cut)
    back (inr cut) = cut_content input place type context least most le cut

pub content_wrong_tag : (input : List ℕ) (place type : ℕ) (context : Option ℕ) (least most : ℕ) → IsBytes input → place ≤ length input
    → (content_at input place type context least most ≡ Err (WrongTag place)) ↔ HasOtherTag type context (drop place input)
content_wrong_tag input place type context least most bytes le = (there, back)
  where
    there : content_at input place type context least most ≡ Err (WrongTag place) → HasOtherTag type context (drop place input)
    there h = elim (content_err input place type context least most (WrongTag place) bytes le h) [
      | inl cut ↦ absurd (let bad = cut.1 in cc)
      | inr rest ↦ elim rest [ inl other ↦ other.0 | inr other ↦ absurd (let bad = other.1 in cc) ]
    ]

    back : HasOtherTag type context (drop place input) → content_at input place type context least most ≡ Err (WrongTag place)
    back h = other_tag input place type context least most h

pub content_bad_length : (input : List ℕ) (place type : ℕ) (context : Option ℕ) (least most : ℕ) → IsBytes input → place ≤ length input
    → (content_at input place type context least most ≡ Err (BadLength place)) ↔ HasOtherLength type context least most (drop place input)
content_bad_length input place type context least most bytes le = (there, back)
  where
    there : content_at input place type context least most ≡ Err (BadLength place) → HasOtherLength type context least most (drop place input)
    there h = elim (content_err input place type context least most (BadLength place) bytes le h) [
      | inl cut ↦ absurd (let bad = cut.1 in cc)
      | inr rest ↦ elim rest [ inl other ↦ absurd (let bad = other.1 in cc) | inr other ↦ other.0 ]
    ]

    back : HasOtherLength type context least most (drop place input) → content_at input place type context least most ≡ Err (BadLength place)
    back h = other_length input place type context least most h
