-- The clauses of the readers of opening and closing tags.
use Rattle.std.proofs.Common.{◌≡◌, ℕ, ◌+◌, Bool, true, cond, eqb, ◌&&◌, List, length, drop, Result, Ok, Err, refl, sym, ap, subst, ◌∙◌, inl, inr}
use Rattle.std.specs.Prelude.{◌↔◌, ◌⊎◌, IfOk}
use Rattle.std.proofs.lemmas.Bool.{eqb-true, eq-eqb, and_parts, cases_Bool}
use Rattle.bac_tags.specs.declared.fault.TagFault.{TagFault}
use Rattle.bac_tags.specs.declared.fault.TagFault.TheVariants.{Truncated, WrongTag}
use Rattle.bac_tags.specs.declared.tag.Tag.{Tag}
use Rattle.bac_tags.specs.declared.tag.Shape.{Shape}
use Rattle.bac_tags.specs.declared.tag.Shape.TheVariants.{Primitive, Opening, Closing}
use Rattle.bac_tags.specs.Places.{IsSpelledAt}
use Rattle.bac_tags.specs.Tags.{SpellsTag, EndsInTag}
use Rattle.bac_tags.specs.ReadingSteps.{◌>>=◌, tag_at}
use Rattle.bac_tags.proofs.Steps.{bind_ok, bind_err, chosen, ok_is}
use Rattle.bac_tags.proofs.Standing.{IsBytes, Stands, Stands-from}
use Rattle.bac_tags.proofs.TagLaws.{tag_found, tag_again}
use Rattle.bac_tags.proofs.Cut.{tag_cut, tag_truncated}
use Rattle.bac_tags.specs.EnclosingTags.{opening, closing, SpellsOnly, IsOtherTag}
use Rattle.bac_tags.specs.EnclosingSteps.{is_opening, is_closing, opening_at, closing_at}

-- one tag, and the place after it
abbrev pub one_tag : (Tag → Bool) → List ℕ → ℕ → Result ℕ TagFault
one_tag is input place = tag_at input place >>= λ tag. cond (is tag.0) (Ok tag.1) (Err (WrongTag place))

abbrev after_tag : (Tag → Bool) → ℕ → Tag × ℕ → Result ℕ TagFault
after_tag is place tag = cond (is tag.0) (Ok tag.1) (Err (WrongTag place))

pub record ReadsTag (tag : Tag) (input : List ℕ) (place : ℕ) (answer : Result ℕ TagFault) : Type 0 where
  pub found : IfOk answer (λ end. IsSpelledAt (SpellsOnly tag) input place tt end)
  pub only : (end : ℕ) → IsSpelledAt (SpellsOnly tag) input place tt end → answer ≡ Ok end
  pub truncated : (answer ≡ Err (Truncated (length input))) ↔ EndsInTag (drop place input)
  pub wrong_tag : (answer ≡ Err (WrongTag place)) ↔ IsOtherTag tag (drop place input)

-- a test for one tag
pub record Tests (is : Tag → Bool) (tag : Tag) : Type 0 where
  pub one : (t : Tag) → is t ≡ true → t ≡ tag
  pub same : is tag ≡ true

-- the tag stands there
pub record StandsTag (tag : Tag) (input : List ℕ) (place end : ℕ) : Type 0 where
  pub octets : List ℕ
  pub stands : Stands input place octets end
  pub tagged : SpellsTag octets tag

pub one_tag_found : (is : Tag → Bool) (tag : Tag) → Tests is tag → (input : List ℕ) (place end : ℕ) → IsBytes input → one_tag is input place ≡ Ok end → StandsTag tag input place end
one_tag_found is tag t input place end bytes e =
    let a = bind_ok (tag_at input place) (after_tag is place) end e in
    let f = tag_found input place a.0 bytes a.1 in
    elim (chosen (is a.0.0) (Ok a.0.1) (Err (WrongTag place)) (Ok end) a.2) [
      | inl h ↦ record { octets = f.octets; stands = subst (Stands input place f.octets) (ok_is a.0.1 end h.1) f.stands; tagged = subst (SpellsTag f.octets) (t.one a.0.0 h.0) f.spells }
      | inr h ↦ absurd (let bad = h.1 in cc)
    ]

pub one_tag_again : (is : Tag → Bool) (tag : Tag) → Tests is tag → (input : List ℕ) (place : ℕ) (octets : List ℕ) (end : ℕ) → SpellsTag octets tag → Stands input place octets end → one_tag is input place ≡ Ok end
one_tag_again is tag t input place octets end s p = rw (tag_again input place octets tag end s p, t.same) refl

pub one_tag_err : (is : Tag → Bool) (tag : Tag) → Tests is tag → (input : List ℕ) (place : ℕ) (e : TagFault) → IsBytes input → one_tag is input place ≡ Err e
    → (EndsInTag (drop place input) × (e ≡ Truncated (length input))) ⊎ (IsOtherTag tag (drop place input) × (e ≡ WrongTag place))
one_tag_err is tag t input place e bytes h =
    elim (bind_err (tag_at input place) (after_tag is place) e h) [
      | inl cut ↦ inl (tag_cut input place e bytes cut)
      | inr a ↦
          let f = tag_found input place a.0 bytes a.1 in
          elim (chosen (is a.0.0) (Ok a.0.1) (Err (WrongTag place)) (Err e) a.2) [
            | inl holds ↦ absurd (let bad = holds.1 in cc)
            | inr not ↦
                inr (record { header = f.octets; rest = drop a.0.1 input; found = a.0.0; parts = f.stands.parts; tagged = f.spells; other = λ same. let holds : is a.0.0 ≡ true = ap is same ∙ t.same in let fails = not.0 in cc }, let same = not.1 in cc)
          ]
    ]

one_tag_other : (is : Tag → Bool) (tag : Tag) → Tests is tag → (input : List ℕ) (place : ℕ) → IsOtherTag tag (drop place input) → one_tag is input place ≡ Err (WrongTag place)
one_tag_other is tag t input place h =
    elim (cases_Bool (is h.found)) [
      | inl holds ↦ absurd (h.other (t.one h.found holds))
      | inr not ↦ rw (tag_again input place h.header h.found (place + length h.header) h.tagged (Stands-from input place h.header h.rest h.parts), not) refl
    ]

pub reads_tag : (is : Tag → Bool) (tag : Tag) → Tests is tag → (input : List ℕ) (place : ℕ) (answer : Result ℕ TagFault) → IsBytes input → answer ≡ one_tag is input place → ReadsTag tag input place answer
reads_tag is tag t input place answer bytes e =
    record {
      found = found answer (one_tag is input place) e (λ end h. one_tag_found is tag t input place end bytes h);
      only = λ end s. e ∙ one_tag_again is tag t input place s.octets end s.spelled (subst (Stands input place s.octets) (sym s.ends) (Stands-from input place s.octets s.rest s.there));
      truncated = (
        λ h. elim (one_tag_err is tag t input place (Truncated (length input)) bytes (sym e ∙ h)) [ inl a ↦ a.0 | inr a ↦ absurd (let bad = a.1 in cc) ],
        λ cut. e ∙ ap (λ (r : Result (Tag × ℕ) TagFault). r >>= after_tag is place) ((tag_truncated input place bytes).1 cut),
      );
      wrong_tag = (
        λ h. elim (one_tag_err is tag t input place (WrongTag place) bytes (sym e ∙ h)) [ inl a ↦ absurd (let bad = a.1 in cc) | inr a ↦ a.0 ],
        λ other. e ∙ one_tag_other is tag t input place other,
      );
    }
  where
    found : (r read : Result ℕ TagFault) → r ≡ read → ((end : ℕ) → read ≡ Ok end → StandsTag tag input place end) → IfOk r (λ end. IsSpelledAt (SpellsOnly tag) input place tt end)
    found (Ok end) read same f =
        let s = f end (sym same) in
        record { octets = s.octets; rest = drop end input; spelled = s.tagged; there = s.stands.parts; ends = s.stands.ends }
    found (Err d) read same f = tt

-- ---- the two tags

abbrev made : ℕ → Bool → Shape → Tag
made number context shape = record { number = number; context = context; shape = shape }

abbrev pub is_opening_tag : ℕ → Tag → Bool
is_opening_tag number tag = is_opening tag.shape && tag.context && eqb tag.number number

abbrev pub is_closing_tag : ℕ → Tag → Bool
is_closing_tag number tag = is_closing tag.shape && tag.context && eqb tag.number number

opening_shape : (shape : Shape) → is_opening shape ≡ true → shape ≡ Opening
opening_shape (Primitive n) e = absurd cc
opening_shape Opening e = refl
opening_shape Closing e = absurd cc

closing_shape : (shape : Shape) → is_closing shape ≡ true → shape ≡ Closing
closing_shape (Primitive n) e = absurd cc
closing_shape Opening e = absurd cc
closing_shape Closing e = refl

all_three : (tag : Tag) (number : ℕ) (shape : Shape) (b : Bool) → (b ≡ true → tag.shape ≡ shape) → (b && tag.context && eqb tag.number number) ≡ true → tag ≡ made number true shape
all_three tag number shape b right e =
    let outer = and_parts (b && tag.context) (eqb tag.number number) e in
    let inner = and_parts b tag.context outer.0 in
    ap (λ (k : ℕ). made k tag.context tag.shape) (eqb-true _ _ outer.1) ∙ ap (λ (c : Bool). made number c tag.shape) inner.1 ∙ ap (λ (s : Shape). made number true s) (right inner.0)

pub tests_opening : (number : ℕ) → Tests (is_opening_tag number) (opening number)
tests_opening number = record { one = λ t e. all_three t number Opening (is_opening t.shape) (opening_shape t.shape) e; same = eq-eqb number number refl }

pub tests_closing : (number : ℕ) → Tests (is_closing_tag number) (closing number)
tests_closing number = record { one = λ t e. all_three t number Closing (is_closing t.shape) (closing_shape t.shape) e; same = eq-eqb number number refl }

pub reads_opening : (number : ℕ) (input : List ℕ) (place : ℕ) (answer : Result ℕ TagFault) → IsBytes input → answer ≡ opening_at input place number → ReadsTag (opening number) input place answer
unfolding opening_at
reads_opening number input place answer bytes e = reads_tag (is_opening_tag number) (opening number) (tests_opening number) input place answer bytes e

pub reads_closing : (number : ℕ) (input : List ℕ) (place : ℕ) (answer : Result ℕ TagFault) → IsBytes input → answer ≡ closing_at input place number → ReadsTag (closing number) input place answer
unfolding closing_at
reads_closing number input place answer bytes e = reads_tag (is_closing_tag number) (closing number) (tests_closing number) input place answer bytes e
