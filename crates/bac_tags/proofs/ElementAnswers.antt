-- One parameter as a step of reading.
use Rattle.std.proofs.Common.{◌≡◌, ℕ, ◌<◌, ◌≤◌, Option, Some, None, List, ◌++◌, length, drop, Result, Ok, Err, refl, sym, ap, subst, ◌∙◌, arith, inl, inr}
use Rattle.std.specs.Prelude.{IfOk}
use Rattle.std.proofs.lemmas.Bool.{cases_lt, cases_eq, eq-eqb, ne_eqb}
use Rattle.std.proofs.lemmas.List.{length-append, length-drop}
use Rattle.bac_tags.specs.declared.fault.TagFault.{TagFault}
use Rattle.bac_tags.specs.declared.fault.TagFault.TheVariants.{Truncated, WrongTag, BadLength, NoMemory}
use Rattle.bac_tags.specs.Places.{IsSpelledAt}
use Rattle.bac_tags.specs.Tags.{SpellsTag}
use Rattle.bac_tags.specs.Elements.{SpellsElement}
use Rattle.bac_tags.specs.Contents.{IsUnsigned, IsObject, SpellsUnsigned, SpellsObject}
use Rattle.bac_tags.specs.ReadingSteps.{unsigned_of, identifier_of, unsigned_at, object_at}
use Rattle.bac_tags.proofs.Standing.{IsBytes}
use Rattle.bac_tags.proofs.Readers.{Reads, reads}
use Rattle.bac_tags.proofs.Numbers.{unsigned_values, identifier_values}
use Rattle.bac_tags.specs.declared.malformed.Malformed.{Malformed}
use Rattle.bac_tags.specs.Refusals.{invalid_tag, RefusesRequired, RefusesOptional}
use Rattle.bac_tags.specs.Parameters.{IsThere, IsOptionalAt}
use Rattle.bac_tags.specs.ParameterReadingSteps.{or_invalid, required, or_absent, optional}
use Rattle.bac_tags.proofs.RequiredReaders.{ReadsOptional, reads_optional, required_inside, required_outside, optional_inside, optional_outside}
use Rattle.bac_tags.proofs.ParameterAnswers.{Answers}

-- what is known of a reader of elements at a place
pub record Element {X : Type 0} (Spells : List ℕ → X → Type 0) (input : List ℕ) (place : ℕ) (read : Result (X × ℕ) TagFault) : Type 0 where
  pub found : (x : X × ℕ) → read ≡ Ok x → IsSpelledAt Spells input place x.0 x.1
  pub only : (x : X) (end : ℕ) → IsSpelledAt Spells input place x end → read ≡ Ok (x, end)
  pub some : (x : X) (end : ℕ) → IsSpelledAt Spells input place x end → place < length input

pub if_ok : {X E : Type 0} (P : X → Type 0) (r : Result X E) (x : X) → IfOk r P → r ≡ Ok x → P x
if_ok P (Ok y) x h e = let same : y ≡ x = cc in subst P same h
if_ok P (Err d) x h e = absurd cc

-- what is spelled ends within the octets
pub ends_within : {X : Type 0} (Spells : List ℕ → X → Type 0) (input : List ℕ) (place : ℕ) (x : X) (end : ℕ) → place ≤ length input → IsSpelledAt Spells input place x end → end ≤ length input
ends_within Spells input place x end le s =
    omega (arith, s.ends, ap length s.there, length-append s.octets s.rest, length-drop place input)

-- what is spelled in some octets begins before the end
pub begins_before : (input : List ℕ) (place : ℕ) (octets rest : List ℕ) → drop place input ≡ octets ++ rest → 0 < length octets → place < length input
begins_before input place octets rest e lt =
    omega (arith, ap length e, length-append octets rest, length-drop place input)

pub tag_some : (octets : List ℕ) (tag : _) → SpellsTag octets tag → 0 < length octets
tag_some octets tag s = omega (arith, ap length s.parts)

element_some : {X : Type 0} (type : ℕ) (context : Option ℕ) (IsContent : List ℕ → X → Type 0) (input : List ℕ) (place : ℕ) (x : X) (end : ℕ) → IsSpelledAt (SpellsElement type context IsContent) input place x end → place < length input
element_some type context IsContent input place x end s =
    let e = s.spelled in
    begins_before input place s.octets s.rest s.there (omega (arith, ap length e.parts, length-append e.header e.content, tag_some e.header _ e.tagged))

-- a reader of one element
of_reads : {X : Type 0} (type : ℕ) (context : Option ℕ) (least most : ℕ) (IsContent : List ℕ → X → Type 0) (input : List ℕ) (place : ℕ) (read : Result (X × ℕ) TagFault) → Reads type context least most IsContent input place read → Element (SpellsElement type context IsContent) input place read
of_reads type context least most IsContent input place read r =
    record {
      found = λ x e. if_ok (λ y. IsSpelledAt (SpellsElement type context IsContent) input place y.0 y.1) read x r.found e;
      only = r.only;
      some = λ x end s. element_some type context IsContent input place x end s;
    }

pub unsigned_reads : (input : List ℕ) (place : ℕ) (context : Option ℕ) → IsBytes input → place ≤ length input → Reads 2 context 1 4 IsUnsigned input place (unsigned_at input place context)
unfolding unsigned_at
unsigned_reads input place context bytes le = reads 2 context 1 4 unsigned_of IsUnsigned unsigned_values input place (unsigned_at input place context) bytes le refl

object_reads : (input : List ℕ) (place : ℕ) (context : Option ℕ) → IsBytes input → place ≤ length input → Reads 12 context 4 4 IsObject input place (object_at input place context)
unfolding object_at
object_reads input place context bytes le = reads 12 context 4 4 identifier_of IsObject identifier_values input place (object_at input place context) bytes le refl

pub unsigned_element : (input : List ℕ) (place : ℕ) (context : Option ℕ) → IsBytes input → place ≤ length input → Element (SpellsUnsigned context) input place (unsigned_at input place context)
unsigned_element input place context bytes le = of_reads 2 context 1 4 IsUnsigned input place (unsigned_at input place context) (unsigned_reads input place context bytes le)

pub object_element : (input : List ℕ) (place : ℕ) (context : Option ℕ) → IsBytes input → place ≤ length input → Element (SpellsObject context) input place (object_at input place context)
object_element input place context bytes le = of_reads 12 context 4 4 IsObject input place (object_at input place context) (object_reads input place context bytes le)

-- ---- required

not_there : {X : Type 0} (Spells : List ℕ → X → Type 0) (input : List ℕ) (place : ℕ) (read : Result (X × ℕ) TagFault) (fault : TagFault) → Element Spells input place read → read ≡ Err fault → ¬ IsThere Spells input place
not_there Spells input place read fault e h there = let some = e.only there.value there.end there.spelled in absurd cc

pub invalid_err : {X : Type 0} (place : ℕ) (read : Result X TagFault) (fault : Malformed) → or_invalid place read ≡ Err fault → (fault ≡ invalid_tag place) × ((why : TagFault) × (read ≡ Err why))
invalid_err place (Ok x) fault e = absurd cc
invalid_err place (Err why) fault e = (cc, (why, refl))

pub invalid_ok : {X : Type 0} (place : ℕ) (read : Result X TagFault) (x : X) → or_invalid place read ≡ Ok x → read ≡ Ok x
invalid_ok place (Ok y) x e = let same : y ≡ x = cc in ap Ok same
invalid_ok place (Err why) x e = absurd cc

pub required_answers : {X : Type 0} (Spells : List ℕ → X → Type 0) (input : List ℕ) (place : ℕ) (read : Result (X × ℕ) TagFault) → place ≤ length input → Element Spells input place read
    → Answers (IsSpelledAt Spells input place) (RefusesRequired Spells input place) (required input place read)
required_answers {X = X} Spells input place read le e =
    record {
      found = λ x h.
          elim (cases_lt place (length input)) [
            | inl lt ↦ e.found x (invalid_ok place read x (sym (required_inside input place read lt) ∙ h))
            | inr ge ↦ absurd (let bad = sym (required_outside input place read ge) ∙ h in cc)
          ];
      only = λ x end h. required_inside input place read (e.some x end h) ∙ ap (or_invalid place) (e.only x end h);
      refused = λ fault h.
          elim (cases_lt place (length input)) [
            | inl lt ↦
                let why = invalid_err place read fault (sym (required_inside input place read lt) ∙ h) in
                inr (why.0, lt, not_there Spells input place read why.1.0 e why.1.1)
            | inr ge ↦ inl (let both = sym h ∙ required_outside input place read ge in cc, omega arith)
          ];
      refuses = λ fault h. refuses fault h;
    }
  where
    invalid : (r : Result (X × ℕ) TagFault) → ((x : X × ℕ) → r ≡ Ok x → IsThere Spells input place) → ¬ IsThere Spells input place → or_invalid place r ≡ Err (invalid_tag place)
    invalid (Ok x) there not = absurd (not (there x refl))
    invalid (Err why) there not = refl

    refuses : (fault : Malformed) → RefusesRequired Spells input place fault → required input place read ≡ Err fault
    refuses fault (inl h) = required_outside input place read (omega (arith, h.1)) ∙ ap (λ (f : Malformed). Err f) (sym h.0)
    refuses fault (inr h) =
        required_inside input place read h.1 ∙ invalid read (λ x s. record { value = x.0; end = x.1; spelled = e.found x s }) h.2 ∙ ap (λ (f : Malformed). Err f) (sym h.0)

-- ---- optional

absent_err : {X : Type 0} (place : ℕ) (read : Result (X × ℕ) TagFault) (fault : Malformed) → or_absent place read ≡ Err fault → fault ≡ invalid_tag place
absent_err place (Ok x) fault e = absurd cc
absent_err place (Err (WrongTag other)) fault e =
    elim (cases_eq other place) [
      | inl same ↦ absurd (let bad = rw (eq-eqb other place same) at e in cc)
      | inr not ↦ let same = rw (ne_eqb other place not) at e in cc
    ]
absent_err place (Err (Truncated end)) fault e = cc
absent_err place (Err (BadLength wrong)) fault e = cc
absent_err place (Err NoMemory) fault e = cc

optional_err : {X : Type 0} (input : List ℕ) (place : ℕ) (read : Result (X × ℕ) TagFault) (fault : Malformed) → optional input place read ≡ Err fault → fault ≡ invalid_tag place
optional_err input place read fault e =
    elim (cases_lt place (length input)) [
      | inl lt ↦ absent_err place read fault (sym (optional_inside input place read lt) ∙ e)
      | inr ge ↦ absurd (let bad = sym (optional_outside input place read ge) ∙ e in cc)
    ]

pub of_optional : {X : Type 0} (Spells : List ℕ → X → Type 0) (number : ℕ) (input : List ℕ) (place : ℕ) (read : Result (X × ℕ) TagFault) → ReadsOptional Spells number input place (optional input place read)
    → Answers (IsOptionalAt Spells number input place) (RefusesOptional Spells number input place) (optional input place read)
of_optional {X = X} Spells number input place read r =
    record {
      found = λ x e. if_ok (λ y. IsOptionalAt Spells number input place y.0 y.1) (optional input place read) x r.found e;
      only = r.only;
      refused = λ fault e.
          let same = optional_err input place read fault e in
          let h = r.invalid.0 (e ∙ ap (λ (f : Malformed). Err f) same) in
          (same, h.0, h.1);
      refuses = λ fault h. r.invalid.1 (h.1, h.2) ∙ ap (λ (f : Malformed). Err f) (sym h.0);
    }

pub unsigned_optional : (input : List ℕ) (place number : ℕ) → IsBytes input → place ≤ length input
    → Answers (IsOptionalAt (SpellsUnsigned (Some number)) number input place) (RefusesOptional (SpellsUnsigned (Some number)) number input place) (optional input place (unsigned_at input place (Some number)))
unsigned_optional input place number bytes le =
    let read = unsigned_at input place (Some number) in
    let r = unsigned_reads input place (Some number) bytes le in
    of_optional (SpellsUnsigned (Some number)) number input place read (reads_optional (SpellsUnsigned (Some number)) 2 number input place read (optional input place read) le r.found r.only (unsigned_within read r.found) r.wrong_tag refl)
  where
    unsigned_within : (r : Result (ℕ × ℕ) TagFault) → IfOk r (λ x. IsSpelledAt (SpellsUnsigned (Some number)) input place x.0 x.1) → IfOk r (λ x. (place < x.1) × (x.1 ≤ length input))
    unsigned_within (Ok x) s =
        let some : 0 < length s.octets = omega (arith, ap length s.spelled.parts, length-append s.spelled.header s.spelled.content, tag_some s.spelled.header _ s.spelled.tagged) in
        (omega (arith, s.ends, some), ends_within (SpellsUnsigned (Some number)) input place x.0 x.1 le s)
    unsigned_within (Err e) s = tt

-- what may be absent ends within the octets too
pub optional_ends : {X : Type 0} (Spells : List ℕ → X → Type 0) (number : ℕ) (input : List ℕ) (place : ℕ) (x : Option X) (end : ℕ) → place ≤ length input → IsOptionalAt Spells number input place x end → end ≤ length input
optional_ends Spells number input place None end le h = omega (arith, h.0)
optional_ends Spells number input place (Some x) end le h = ends_within Spells input place x end le h

pub unsigned_required : (input : List ℕ) (place number : ℕ) → IsBytes input → place ≤ length input
    → Answers (IsSpelledAt (SpellsUnsigned (Some number)) input place) (RefusesRequired (SpellsUnsigned (Some number)) input place) (required input place (unsigned_at input place (Some number)))
unsigned_required input place number bytes le =
    required_answers (SpellsUnsigned (Some number)) input place (unsigned_at input place (Some number)) le (unsigned_element input place (Some number) bytes le)

pub object_required : (input : List ℕ) (place number : ℕ) → IsBytes input → place ≤ length input
    → Answers (IsSpelledAt (SpellsObject (Some number)) input place) (RefusesRequired (SpellsObject (Some number)) input place) (required input place (object_at input place (Some number)))
object_required input place number bytes le =
    required_answers (SpellsObject (Some number)) input place (object_at input place (Some number)) le (object_element input place (Some number) bytes le)
