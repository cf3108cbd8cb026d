-- The clauses of the reader of Booleans.
use Rattle.std.proofs.Common.{◌≡◌, ℕ, zero, suc, ◌+◌, ◌≤◌, Bool, true, false, Option, Some, None, List, [], ◌∷◌, length, drop, Result, Ok, Err, refl, sym, ap, subst, ◌∙◌, arith, inl, inr}
use Rattle.std.specs.Prelude.{◌↔◌, ◌⊎◌, IfOk, ok_or}
use Rattle.std.specs.Int.{from_bool}
use Rattle.bac_tags.specs.declared.fault.TagFault.{TagFault}
use Rattle.bac_tags.specs.declared.fault.TagFault.TheVariants.{Truncated, WrongTag, BadLength}
use Rattle.bac_tags.specs.Places.{IsSpelledAt}
use Rattle.bac_tags.specs.Tags.{SpellsTag, EndsInTag}
use Rattle.bac_tags.specs.Elements.{element_tag, IsBetween, HasOtherTag, HasOtherLength}
use Rattle.bac_tags.specs.Contents.{IsBoolean, SpellsBoolean, EndsInBoolean, IsNoBoolean}
use Rattle.bac_tags.specs.ReadingSteps.{◌>>=◌, tag_at, header_at, boolean_in, boolean_of, boolean_at}
use Rattle.bac_tags.proofs.Steps.{bind_ok, bind_err}
use Rattle.bac_tags.proofs.Standing.{IsBytes, Stands, Stands-from}
use Rattle.bac_tags.proofs.Answered.{Spelled, is_found, is_only}
use Rattle.bac_tags.proofs.Cut.{tag_truncated}
use Rattle.bac_tags.proofs.ElementLaws.{header_found, header_again, header_other, header_err}
use Rattle.bac_tags.proofs.Readers.{Forms, ReadsForm, reads_form, ends_at, form_err, form_ok}

boolean_in_is : (n : ℕ) (b : Bool) → boolean_in n ≡ Some b → n ≡ from_bool b
boolean_in_is zero true e = absurd cc
boolean_in_is zero false e = refl
boolean_in_is (suc zero) true e = refl
boolean_in_is (suc zero) false e = absurd cc
boolean_in_is (suc (suc n)) b e = absurd cc

boolean_in-from_bool : (b : Bool) → boolean_in (from_bool b) ≡ Some b
boolean_in-from_bool true = refl
boolean_in-from_bool false = refl

boolean_in_none : (n : ℕ) → boolean_in n ≡ None → ¬ IsBetween 0 1 n
boolean_in_none zero e = absurd cc
boolean_in_none (suc zero) e = absurd cc
boolean_in_none (suc (suc n)) e = λ h. omega (arith, h.1)

none_from : (n : ℕ) → ¬ IsBetween 0 1 n → boolean_in n ≡ None
none_from zero h = absurd (h (omega arith, omega arith))
none_from (suc zero) h = absurd (h (omega arith, omega arith))
none_from (suc (suc n)) h = refl

boolean_is : (content : List ℕ) (b : Bool) → length content ≤ 1 → boolean_of content ≡ Some b → IsBoolean content b
boolean_is [] b short e = absurd cc
boolean_is (octet ∷ []) b short e = ap (λ (n : ℕ). n ∷ []) (boolean_in_is octet b e)
boolean_is (octet ∷ next ∷ octets) b short e = absurd (omega arith)

pub boolean_forms : Forms 1 1 boolean_of IsBoolean
boolean_forms = record {
  is = λ content x bytes right e. boolean_is content x right.1 e;
  right = λ content x h. let one : length content ≡ 1 = ap length h in (omega (arith, one), omega (arith, one));
  one = λ content x h. ap boolean_of h ∙ boolean_in-from_bool x;
}

pub record ReadsBoolean (context : Option ℕ) (input : List ℕ) (place : ℕ) (answer : Result (Bool × ℕ) TagFault) : Type 0 where
  pub found : IfOk answer (λ x. IsSpelledAt (SpellsBoolean context) input place x.0 x.1)
  pub only : (value : Bool) (end : ℕ) → IsSpelledAt (SpellsBoolean context) input place value end → answer ≡ Ok (value, end)
  pub truncated : (answer ≡ Err (Truncated (length input))) ↔ EndsInBoolean context (drop place input)
  pub wrong_tag : (answer ≡ Err (WrongTag place)) ↔ HasOtherTag 1 context (drop place input)
  pub bad_length : (answer ≡ Err (BadLength place)) ↔ IsNoBoolean context (drop place input)

abbrev after_header : ℕ → ℕ × ℕ → Result (Bool × ℕ) TagFault
after_header place header = ok_or (boolean_in header.0) (BadLength place) >>= ends_at header.1

abbrev pub application_at : List ℕ → ℕ → Result (Bool × ℕ) TagFault
application_at input place = header_at input place 1 None >>= after_header place

application_found : (input : List ℕ) (place : ℕ) (x : Bool × ℕ) → IsBytes input → application_at input place ≡ Ok x → Spelled (SpellsBoolean None) input place x.0 x.1
application_found input place x bytes e =
    let a = bind_ok (header_at input place 1 None) (after_header place) x e in
    let h = header_found input place 1 None a.0 bytes a.1 in
    let f = form_ok (boolean_in a.0.0) place a.0.1 x a.2 in
    record {
      octets = h.octets;
      stands = subst (Stands input place h.octets) f.1 h.stands;
      spells = subst (λ (n : ℕ). SpellsTag h.octets (element_tag 1 None n)) (boolean_in_is a.0.0 x.0 f.0) h.spells;
    }

pub application_again : (input : List ℕ) (place : ℕ) (octets : List ℕ) (b : Bool) (end : ℕ) → SpellsBoolean None octets b → Stands input place octets end → application_at input place ≡ Ok (b, end)
application_again input place octets b end t p =
    rw (header_again input place 1 None octets (from_bool b) end t p, boolean_in-from_bool b) refl

-- what an application's Boolean fails with
application_err : (input : List ℕ) (place : ℕ) (e : TagFault) → IsBytes input → application_at input place ≡ Err e
    → (EndsInTag (drop place input) × (e ≡ Truncated (length input))) ⊎ ((HasOtherTag 1 None (drop place input) × (e ≡ WrongTag place)) ⊎ (HasOtherLength 1 None 0 1 (drop place input) × (e ≡ BadLength place)))
application_err input place e bytes h =
    elim (bind_err (header_at input place 1 None) (after_header place) e h) [
      | inl a ↦ elim (header_err input place 1 None e bytes a) [ inl cut ↦ inl cut | inr other ↦ inr (inl other) ]
      | inr a ↦
          let t = header_found input place 1 None a.0 bytes a.1 in
          let f = form_err (boolean_in a.0.0) place a.0.1 e a.2 in
          inr (inr (record { header = t.octets; rest = drop a.0.1 input; size = a.0.0; parts = t.stands.parts; tagged = t.spells; wrong = boolean_in_none a.0.0 f.0 }, f.1))
    ]

cut_tag : (input : List ℕ) (place : ℕ) (e : TagFault) → tag_at input place ≡ Err e → application_at input place ≡ Err e
unfolding header_at
cut_tag input place e h = rw h refl

other_length : (input : List ℕ) (place : ℕ) → HasOtherLength 1 None 0 1 (drop place input) → application_at input place ≡ Err (BadLength place)
other_length input place h =
    rw (header_again input place 1 None h.header h.size (place + length h.header) h.tagged (Stands-from input place h.header h.rest h.parts), none_from h.size h.wrong) refl

application_reads : (input : List ℕ) (place : ℕ) (answer : Result (Bool × ℕ) TagFault) → IsBytes input → answer ≡ application_at input place → ReadsBoolean None input place answer
application_reads input place answer bytes e =
    record {
      found = is_found (SpellsBoolean None) input place answer (application_at input place) e (λ x h. application_found input place x bytes h);
      only = λ b end s. e ∙ is_only (SpellsBoolean None) input place (application_at input place) (application_again input place) b end s;
      truncated = (
        λ h. elim (application_err input place (Truncated (length input)) bytes (sym e ∙ h)) [
          | inl a ↦ a.0
          | inr a ↦ elim a [ inl b ↦ absurd (let bad = b.1 in cc) | inr b ↦ absurd (let bad = b.1 in cc) ]
        ],
        λ cut. e ∙ cut_tag input place (Truncated (length input)) ((tag_truncated input place bytes).1 cut),
      );
      wrong_tag = (
        λ h. elim (application_err input place (WrongTag place) bytes (sym e ∙ h)) [
          | inl a ↦ absurd (let bad = a.1 in cc)
          | inr a ↦ elim a [ inl b ↦ b.0 | inr b ↦ absurd (let bad = b.1 in cc) ]
        ],
        λ other. e ∙ ap (λ (r : Result (ℕ × ℕ) TagFault). r >>= after_header place) (header_other input place 1 None other),
      );
      bad_length = (
        λ h. elim (application_err input place (BadLength place) bytes (sym e ∙ h)) [
          | inl a ↦ absurd (let bad = a.1 in cc)
          | inr a ↦ elim a [ inl b ↦ absurd (let bad = b.1 in cc) | inr b ↦ b.0 ]
        ],
        λ other. e ∙ other_length input place other,
      );
    }

context_reads : (number : ℕ) (input : List ℕ) (place : ℕ) (answer : Result (Bool × ℕ) TagFault) → ReadsForm 1 (Some number) 1 1 IsBoolean input place answer → ReadsBoolean (Some number) input place answer
context_reads number input place answer r = record { found = r.found; only = r.only; truncated = r.truncated; wrong_tag = r.wrong_tag; bad_length = r.bad_length }

pub reads_boolean : (context : Option ℕ) (input : List ℕ) (place : ℕ) (answer : Result (Bool × ℕ) TagFault) → IsBytes input → place ≤ length input → answer ≡ boolean_at input place context → ReadsBoolean context input place answer
unfolding boolean_at
reads_boolean None input place answer bytes le e = application_reads input place answer bytes e
reads_boolean (Some number) input place answer bytes le e =
    context_reads number input place answer (reads_form 1 (Some number) 1 1 boolean_of IsBoolean boolean_forms input place answer bytes le e)
