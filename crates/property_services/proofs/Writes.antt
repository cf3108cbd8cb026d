-- The clauses of the reader of WriteProperty.
use Rattle.std.proofs.Common.{◌≡◌, ℕ, ◌+◌, ◌≤◌, eqb, Option, Some, None, List, ◌++◌, length, drop, Result, Ok, Err, refl, sym, ap, subst, ◌∙◌, append_assoc, arith, inl, inr}
use Rattle.std.specs.Prelude.{◌⊎◌, ◌↔◌, IfOk, IsOk, slice_range}
use Rattle.std.proofs.lemmas.Bool.{cases_lt, cases_Bool, eqb-true, eq-eqb}
use Rattle.std.proofs.lemmas.List.{length-append}
use Rattle.bac_values.specs.declared.value.Value.{Value}
use Rattle.bac_values.specs.declared.value.Value.TheVariants as values
use Rattle.bac_values.specs.declared.value.Foreign.TheVariants.{OtherType}
use Rattle.bac_tags.specs.declared.fault.TagFault.{TagFault}
use Rattle.bac_tags.specs.Places.{IsSpelledAt}
use Rattle.bac_tags.specs.Contents.{SpellsUnsigned}
use Rattle.bac_tags.specs.Values.{SpellsValue}
use Rattle.bac_tags.specs.ReadingSteps.{unsigned_at, value_at, ◌>>=◌}
use Rattle.bac_tags.proofs.Steps as tags
use Rattle.bac_tags.proofs.Standing.{IsBytes, Stands, Stands-then, Stands-front, Stands-back}
use Rattle.bac_tags.proofs.Readers.{part_bytes}
use Rattle.bac_tags.proofs.ValueLaws.{value_found, value_again}
use Rattle.bac_tags.specs.declared.malformed.Malformed.{Malformed}
use Rattle.bac_tags.specs.Parameters.{IsOptionalAt, SpellsIfGiven}
use Rattle.bac_tags.specs.EnclosingTags.{SpellsEnclosed}
use Rattle.bac_tags.specs.Balanced.{AreElements, SpellsElements}
use Rattle.bac_tags.specs.BalancedSteps.{elements_at}
use Rattle.bac_tags.specs.ParameterReadingSteps.{or_invalid, required, optional, whole}
use Rattle.bac_tags.proofs.Steps.{bind_ok, bind_err, ok_is}
use Rattle.bac_tags.proofs.RequiredReaders.{required_inside, required_outside}
use Rattle.bac_tags.proofs.Between.{elements_found, elements_again}
use Rattle.property_services.specs.declared.fault.ServiceFault.{ServiceFault}
use Rattle.property_services.specs.declared.fault.ServiceFault.TheVariants as faults
use Rattle.property_services.specs.declared.requests.ReadRequest.{ReadRequest}
use Rattle.property_services.specs.declared.requests.WriteRequest.{WriteRequest}
use Rattle.property_services.specs.Requests.{IsWritten, SpellsWriteProperty, reference_in}
use Rattle.property_services.specs.ReadingSteps.{reference_at, content_at, write_at, value_or_other, value_of, write_request, write_property_of, GivesWrite}
use Rattle.property_services.specs.Refusals.{IsReferenceAt, RefusesReference, IsWriteAt, RefusesWrite, RefusesWriteProperty}
use Rattle.bac_tags.specs.Refusals.{Behind, RefusesRequired, RefusesOptional}
use Rattle.bac_tags.proofs.ParameterAnswers.{Answers, Both, Made, then, mapped, said, Whole, ended}
use Rattle.bac_tags.proofs.ElementAnswers.{Element, ends_within, optional_ends, begins_before, tag_some, required_answers, unsigned_optional}
use Rattle.property_services.proofs.References.{stands, spelled_at, given_of, optional_of, reference_answers, reference_within, refers_of, reference_of_octets, all_of, all_stand}
use Rattle.property_services.proofs.RangeLaws.{opening_is_absent}

-- ---- the elements of the value

abbrev SpellsContent : List ℕ → List ℕ → Type 0
SpellsContent = SpellsEnclosed 3 SpellsElements

-- another value in place of the one that a reader of elements gave
abbrev of_value : {X Y : Type 0} → (X → Y) → Result (X × ℕ) TagFault → Result (Y × ℕ) TagFault
of_value make (Ok x) = Ok (make x.0, x.1)
of_value make (Err fault) = Err fault

abbrev in_range : List ℕ → ℕ × ℕ → List ℕ
in_range input places = slice_range input places.0 places.1

abbrev make_of : {X Y : Type 0} → (X → Y) → X × ℕ → Result (Y × ℕ) Malformed
make_of make x = Ok (make x.0, x.1)

invalid_made : {X Y : Type 0} (place : ℕ) (make : X → Y) (r : Result (X × ℕ) TagFault) → (or_invalid place r >>= make_of make) ≡ or_invalid place (of_value make r)
invalid_made place make (Ok x) = refl
invalid_made place make (Err fault) = refl

required_made : {X Y : Type 0} (input : List ℕ) (place : ℕ) (make : X → Y) (r : Result (X × ℕ) TagFault) → (required input place r >>= make_of make) ≡ required input place (of_value make r)
required_made {X = X} {Y = Y} input place make r =
    elim (cases_lt place (length input)) [
      | inl lt ↦ ap (λ (a : Result (X × ℕ) Malformed). a >>= make_of make) (required_inside input place r lt) ∙ invalid_made place make r ∙ sym (required_inside input place (of_value make r) lt)
      | inr ge ↦ ap (λ (a : Result (X × ℕ) Malformed). a >>= make_of make) (required_outside input place r ge) ∙ sym (required_outside input place (of_value make r) ge)
    ]

content_is : (input : List ℕ) (place : ℕ) → content_at input place ≡ required input place (of_value (in_range input) (elements_at input place 3))
unfolding content_at
content_is input place = required_made input place (in_range input) (elements_at input place 3)

content_found : (input : List ℕ) (place : ℕ) (r : Result ((ℕ × ℕ) × ℕ) TagFault) (x : List ℕ × ℕ) → IsBytes input → place ≤ length input → elements_at input place 3 ≡ r → of_value (in_range input) r ≡ Ok x → IsSpelledAt SpellsContent input place x.0 x.1
content_found input place (Ok y) x bytes le same e =
    let equal : (in_range input y.0, y.1) ≡ x = tags.ok_is (in_range input y.0, y.1) x e in
    subst (λ (z : List ℕ × ℕ). IsSpelledAt SpellsContent input place z.0 z.1) equal (elements_found input place 3 y bytes le same)
content_found input place (Err fault) x bytes le same e = absurd cc

content_element : (input : List ℕ) (place : ℕ) → IsBytes input → place ≤ length input → Element SpellsContent input place (of_value (in_range input) (elements_at input place 3))
content_element input place bytes le =
    record {
      found = λ x e. content_found input place (elements_at input place 3) x bytes le refl e;
      only = λ elements end s.
          let h = elements_again input place 3 elements end bytes le s in
          ap (of_value (in_range input)) h.read ∙ ap (λ (xs : List ℕ). Ok (xs, end)) h.range;
      some = λ elements end s.
          let e = s.spelled in
          begins_before input place s.octets s.rest s.there (omega (arith, ap length e.parts, length-append e.front (e.inside ++ e.back), tag_some e.front _ e.opened));
    }

content_answers : (input : List ℕ) (place : ℕ) → IsBytes input → place ≤ length input → Answers (IsSpelledAt SpellsContent input place) (RefusesRequired SpellsContent input place) (content_at input place)
content_answers input place bytes le =
    subst (Answers (IsSpelledAt SpellsContent input place) (RefusesRequired SpellsContent input place)) (sym (content_is input place)) (required_answers SpellsContent input place (of_value (in_range input) (elements_at input place 3)) le (content_element input place bytes le))

-- ---- all parameters

abbrev Written : Type 0
Written = ReadRequest × List ℕ

abbrev with_priority : ReadRequest → List ℕ → Option ℕ → Written
with_priority reference content priority = (reference, content)

abbrev IsPriority : List ℕ → ReadRequest → List ℕ → ℕ → Written → ℕ → Type 0
IsPriority input reference content place = Made (IsOptionalAt (SpellsUnsigned (Some 4)) 4 input place) (with_priority reference content)

abbrev IsContent : List ℕ → ReadRequest → ℕ → Written → ℕ → Type 0
IsContent input reference place = Both (IsSpelledAt SpellsContent input place) (IsPriority input reference)

abbrev IsChain : List ℕ → Written → ℕ → Type 0
IsChain input = Both (IsReferenceAt input) (IsContent input)

abbrev after_content : List ℕ → ReadRequest → List ℕ × ℕ → Result (Written × ℕ) Malformed
after_content input reference content = optional input content.1 (unsigned_at input content.1 (Some 4)) >>= λ priority. Ok ((reference, content.0), priority.1)

chained : (input : List ℕ) → IsBytes input → Answers (IsChain input) (RefusesWrite input) (write_at input)
unfolding write_at
chained input bytes =
    then (IsReferenceAt input) (RefusesReference input) (reference_at input) (IsContent input)
    (λ reference place fault. RefusesRequired SpellsContent input place fault ⊎ Behind (IsSpelledAt SpellsContent input place) (λ elements place. RefusesOptional (SpellsUnsigned (Some 4)) 4 input place fault))
    (λ reference. content_at input reference.1 >>= after_content input reference.0)
    (reference_answers input bytes) (λ reference place there.
    let within = reference_within input reference place there in
    then (IsSpelledAt SpellsContent input place) (RefusesRequired SpellsContent input place) (content_at input place)
    (IsPriority input reference) (λ content place. RefusesOptional (SpellsUnsigned (Some 4)) 4 input place)
    (after_content input reference)
    (content_answers input place bytes within) (λ content place there.
    let within = ends_within SpellsContent input _ content place within there in
    mapped (IsOptionalAt (SpellsUnsigned (Some 4)) 4 input place) (RefusesOptional (SpellsUnsigned (Some 4)) 4 input place) (optional input place (unsigned_at input place (Some 4))) (with_priority reference content) (unsigned_optional input place 4 bytes within)))

to_write : (input : List ℕ) (x : Written) (end : ℕ) → IsChain input x end → IsWriteAt input x end
to_write input x end h =
    subst (λ (y : Written). IsWriteAt input y end) h.is_next.is_next.made (record {
      value_at = h.place;
      priority_at = h.is_next.place;
      priority = h.is_next.is_next.value;
      reference = h.is_first;
      value = h.is_next.is_first;
      given = h.is_next.is_next.is;
    })

from_write : (input : List ℕ) (x : Written) (end : ℕ) → IsWriteAt input x end → IsChain input x end
from_write input x end h =
    record { first = x.0; place = h.value_at; is_first = h.reference; is_next = record { first = x.1; place = h.priority_at; is_first = h.value; is_next = record { value = h.priority; is = h.given; made = refl } } }

write_answers : (input : List ℕ) → IsBytes input → Answers (IsWriteAt input) (RefusesWrite input) (write_at input)
write_answers input bytes = said (IsChain input) (IsWriteAt input) (RefusesWrite input) (RefusesWrite input) (write_at input) (chained input bytes) (to_write input) (from_write input) (λ fault h. h) (λ fault h. h)

write_within : (input : List ℕ) (x : Written) (end : ℕ) → IsWriteAt input x end → end ≤ length input
write_within input x end h =
    let reference = reference_within input x.0 h.value_at h.reference in
    let value = ends_within SpellsContent input h.value_at x.1 h.priority_at reference h.value in
    optional_ends (SpellsUnsigned (Some 4)) 4 input h.priority_at h.priority end value h.given

pub whole_answers : (input : List ℕ) → IsBytes input → Whole (λ x. IsWriteAt input x (length input)) (RefusesWriteProperty input) (whole input (write_at input))
whole_answers input bytes = ended input (IsWriteAt input) (RefusesWrite input) (write_at input) (write_answers input bytes) (write_within input)

-- ---- the value

abbrev other : Value
other = values.Opaque 0 OtherType

-- a value of all octets
value_of_all : (content : List ℕ) (v : Value) → SpellsValue content v → value_at content 0 ≡ Ok (v, length content)
value_of_all content v s = value_again content 0 (omega arith) content v (length content) s (all_stand content)

value_is : (content : List ℕ) (v : Value) → SpellsValue content v → value_of content ≡ v
unfolding value_of
value_is content v s = ap (value_or_other (length content)) (value_of_all content v s) ∙ rw (eq-eqb (length content) (length content) refl) refl

other_is : (content : List ℕ) → IsBytes content → ((v : Value) → ¬ SpellsValue content v) → value_of content ≡ other
unfolding value_of
other_is content bytes none = go (value_at content 0) refl
  where
    all : (x : Value × ℕ) → value_at content 0 ≡ Ok x → x.1 ≡ length content → SpellsValue content x.0
    all x e same =
        let s = value_found content 0 x bytes (omega arith) e in
        let whole : content ≡ s.octets = all_of content s.octets (subst (λ (n : ℕ). Stands content 0 s.octets n) same s.stands) in
        subst (λ (o : List ℕ). SpellsValue o x.0) (sym whole) s.spells

    go : (r : Result (Value × ℕ) TagFault) → value_at content 0 ≡ r → value_or_other (length content) r ≡ other
    go (Ok x) e =
        elim (cases_Bool (eqb x.1 (length content))) [
          | inl same ↦ absurd (none x.0 (all x e (eqb-true _ _ same)))
          | inr not ↦ rw not refl
        ]
    go (Err fault) e = refl

written_found : (content : List ℕ) → IsBytes content → AreElements content → IsWritten content (value_of content)
unfolding value_of
written_found content bytes elements = (elements, go (value_at content 0) refl)
  where
    go : (r : Result (Value × ℕ) TagFault) → value_at content 0 ≡ r → SpellsValue content (value_or_other (length content) r) ⊎ ((value_or_other (length content) r ≡ other) × ((v : Value) → ¬ SpellsValue content v))
    go (Ok x) e =
        elim (cases_Bool (eqb x.1 (length content))) [
          | inl same ↦
              let s = value_found content 0 x bytes (omega arith) e in
              let whole : content ≡ s.octets = all_of content s.octets (subst (λ (n : ℕ). Stands content 0 s.octets n) (eqb-true _ _ same) s.stands) in
              rw same (inl (subst (λ (o : List ℕ). SpellsValue o x.0) (sym whole) s.spells))
          | inr not ↦ rw not (inr (refl, λ v s. let both = ap ended_at (sym (value_of_all content v s) ∙ e) in let same = eq-eqb x.1 (length content) (sym both) in cc))
        ]
      where
        ended_at : Result (Value × ℕ) TagFault → ℕ
        ended_at (Ok y) = y.1
        ended_at (Err fault) = 0
    go (Err fault) e = inr (refl, λ v s. let both = sym (value_of_all content v s) ∙ e in cc)

written_is : (content : List ℕ) (v : Value) → IsBytes content → IsWritten content v → value_of content ≡ v
written_is content v bytes w = go w.1
  where
    go : SpellsValue content v ⊎ ((v ≡ other) × ((v : Value) → ¬ SpellsValue content v)) → value_of content ≡ v
    go (inl s) = value_is content v s
    go (inr h) = other_is content bytes h.1 ∙ sym h.0

-- ---- the whole request

enclosed_written : (input : List ℕ) (place end : ℕ) (octets elements : List ℕ) → IsBytes input → Stands input place octets end → SpellsContent octets elements → SpellsEnclosed 3 IsWritten octets (value_of elements)
enclosed_written input place end octets elements bytes p e =
    let parts : octets ≡ (e.front ++ e.inside) ++ e.back = e.parts ∙ sym (append_assoc e.front e.inside e.back) in
    let front = Stands-front input place (e.front ++ e.inside) e.back end (subst (λ (o : List ℕ). Stands input place o end) parts p) in
    let inside = part_bytes input place e.front e.inside (place + length (e.front ++ e.inside)) bytes front in
    let written : IsWritten e.inside (value_of elements) = subst (λ (xs : List ℕ). IsWritten e.inside (value_of xs)) (sym e.spelled.0) (written_found e.inside inside e.spelled.1) in
    record { front = e.front; inside = e.inside; back = e.back; parts = e.parts; opened = e.opened; spelled = written; closed = e.closed }

to_whole : (input : List ℕ) (x : Written) → IsBytes input → IsWriteAt input x (length input) → SpellsWriteProperty input (write_request x)
to_whole input x bytes h =
    let r = refers_of input x.0 h.value_at h.reference in
    let v = stands SpellsContent input h.value_at x.1 h.priority_at h.value in
    let g = given_of (SpellsUnsigned (Some 4)) 4 input h.priority_at h.priority (length input) h.given in
    let all = Stands-then input 0 r.octets h.value_at (h.value.octets ++ g.octets) (length input) r.stands (Stands-then input h.value_at h.value.octets h.priority_at g.octets (length input) v g.stands) in
    record {
      reference_octets = r.octets;
      value_octets = h.value.octets;
      priority_octets = g.octets;
      given = h.priority;
      parts = all_of input (r.octets ++ (h.value.octets ++ g.octets)) all;
      reference = r.spelled;
      value = enclosed_written input h.value_at h.priority_at h.value.octets x.1 bytes v h.value.spelled;
      priority = g.spelled;
    }

-- a request that is spelled, as it is read
record Reads (input : List ℕ) (request : WriteRequest) : Type 0 where
  written : Written
  there : IsWriteAt input written (length input)
  is : write_request written ≡ request

abbrev request_of : ReadRequest → Value → WriteRequest
request_of reference value = record { object = reference.object; property = reference.property; index = reference.index; value = value }

from_whole : (input : List ℕ) (request : WriteRequest) → IsBytes input → SpellsWriteProperty input request → Reads input request
from_whole input request bytes s =
    let e = s.value in
    let all : Stands input 0 (s.reference_octets ++ (s.value_octets ++ s.priority_octets)) (length input) = subst (λ (o : List ℕ). Stands input 0 o (length input)) s.parts (all_stand input) in
    let value_at = 0 + length s.reference_octets in
    let front = Stands-front input 0 s.reference_octets (s.value_octets ++ s.priority_octets) (length input) all in
    let behind = Stands-back input 0 s.reference_octets (s.value_octets ++ s.priority_octets) (length input) all in
    let priority_at = value_at + length s.value_octets in
    let value = Stands-front input value_at s.value_octets s.priority_octets (length input) behind in
    let last = Stands-back input value_at s.value_octets s.priority_octets (length input) behind in
    let begins : drop value_at input ≡ e.front ++ ((e.inside ++ e.back) ++ drop priority_at input) = value.parts ∙ ap (λ (o : List ℕ). o ++ drop priority_at input) e.parts ∙ append_assoc e.front (e.inside ++ e.back) (drop priority_at input) in
    let parts : s.value_octets ≡ (e.front ++ e.inside) ++ e.back = e.parts ∙ sym (append_assoc e.front e.inside e.back) in
    let middle = Stands-front input value_at (e.front ++ e.inside) e.back priority_at (subst (λ (o : List ℕ). Stands input value_at o priority_at) parts value) in
    let inside = part_bytes input value_at e.front e.inside (value_at + length (e.front ++ e.inside)) bytes middle in
    let content : SpellsContent s.value_octets e.inside = record { front = e.front; inside = e.inside; back = e.back; parts = e.parts; opened = e.opened; spelled = (refl, e.spelled.0); closed = e.closed } in
    record {
      written = (reference_in request, e.inside);
      there = record {
        value_at = value_at;
        priority_at = priority_at;
        priority = s.given;
        reference = reference_of_octets input (reference_in request) value_at s.reference_octets s.reference front (λ none. opening_is_absent 2 3 input value_at e.front ((e.inside ++ e.back) ++ drop priority_at input) e.opened begins);
        value = spelled_at SpellsContent input value_at e.inside priority_at s.value_octets content value;
        given = optional_of (SpellsUnsigned (Some 4)) 4 input priority_at s.given (length input) (record { octets = s.priority_octets; stands = last; spelled = s.priority }) (λ none. inl (ended_there s.given priority_at s.priority last none));
      };
      is = ap (request_of (reference_in request)) (written_is e.inside request.value inside e.spelled);
    }
  where
    ended_there : (o : Option ℕ) (place : ℕ) → SpellsIfGiven (SpellsUnsigned (Some 4)) s.priority_octets o → Stands input place s.priority_octets (length input) → o ≡ None → place ≡ length input
    ended_there None place given p none = omega (arith, p.ends, ap length given)
    ended_there (Some n) place given p none = absurd cc

abbrev as_request : Written → Result WriteRequest Malformed
as_request written = Ok (write_request written)

pub write_property_answers : (input : List ℕ) → IsBytes input → Whole (SpellsWriteProperty input) (RefusesWriteProperty input) (write_property_of input)
write_property_answers input bytes =
    let w = whole_answers input bytes in
    record {
      found = λ request e.
          let s = bind_ok (whole input (write_at input)) as_request request e in
          subst (SpellsWriteProperty input) (ok_is (write_request s.0) request s.2) (to_whole input s.0 bytes (w.found s.0 s.1));
      only = λ request h.
          let r = from_whole input request bytes h in
          ap (λ (a : Result Written Malformed). a >>= as_request) (w.only r.written r.there) ∙ ap (λ (q : WriteRequest). Ok q) r.is;
      refused = λ fault e. elim (bind_err (whole input (write_at input)) as_request fault e) [ inl here ↦ w.refused fault here | inr later ↦ absurd (let bad = later.2 in cc) ];
      refuses = λ fault h. ap (λ (a : Result Written Malformed). a >>= as_request) (w.refuses fault h);
    }

-- ---- what the call answers

abbrev failed : Malformed → Result WriteRequest Malformed
failed fault = Err fault

fault_is : (a b : Malformed) → failed a ≡ failed b → a ≡ b
fault_is a b e = cc

abbrev made_fault : ℕ → ℕ → Malformed
made_fault reject place = record { reject = reject; at = place }

pub record ReadsWrite (input : List ℕ) (answer : Result WriteRequest ServiceFault) : Type 0 where
  pub found : IfOk answer (λ request. SpellsWriteProperty input request)
  pub only : (request : WriteRequest) → SpellsWriteProperty input request → (answer ≡ Ok request) ⊎ (answer ≡ Err faults.NoMemory)
  pub refused : (reject place : ℕ) → (answer ≡ Err (faults.Malformed reject place)) ↔ RefusesWriteProperty input (record { reject = reject; at = place })

pub reads_write : (input : List ℕ) (answer : Result WriteRequest ServiceFault) → IsBytes input → GivesWrite answer (write_property_of input) → ReadsWrite input answer
reads_write input answer bytes g =
    let w = write_property_answers input bytes in
    record {
      found = found answer g;
      only = λ request s. only answer g request (w.only request s);
      refused = λ reject place. (λ e. w.refused (made_fault reject place) (refused answer g reject place e), λ h. refuses answer g reject place (w.refuses (made_fault reject place) h));
    }
  where
    found : (a : Result WriteRequest ServiceFault) → GivesWrite a (write_property_of input) → IfOk a (λ request. SpellsWriteProperty input request)
    found (Ok request) e = (write_property_answers input bytes).found request e
    found (Err fault) e = tt

    only : (a : Result WriteRequest ServiceFault) → GivesWrite a (write_property_of input) → (request : WriteRequest) → write_property_of input ≡ Ok request → (a ≡ Ok request) ⊎ (a ≡ Err faults.NoMemory)
    only (Ok got) e request r = let same : got ≡ request = ok_is got request (sym e ∙ r) in inl (ap (λ (q : WriteRequest). Ok q) same)
    only (Err (faults.Malformed reject place)) e request r = absurd (let bad = sym e ∙ r in cc)
    only (Err faults.NoMemory) e request r = inr refl

    refused : (a : Result WriteRequest ServiceFault) → GivesWrite a (write_property_of input) → (reject place : ℕ) → a ≡ Err (faults.Malformed reject place) → write_property_of input ≡ Err (made_fault reject place)
    refused (Ok got) e reject place h = absurd cc
    refused (Err (faults.Malformed r p)) e reject place h = let one : r ≡ reject = cc in let two : p ≡ place = cc in e ∙ ap (λ (k : ℕ). Err (made_fault k p)) one ∙ ap (λ (k : ℕ). Err (made_fault reject k)) two
    refused (Err faults.NoMemory) e reject place h = absurd cc

    refuses : (a : Result WriteRequest ServiceFault) → GivesWrite a (write_property_of input) → (reject place : ℕ) → write_property_of input ≡ Err (made_fault reject place) → a ≡ Err (faults.Malformed reject place)
    refuses (Ok got) e reject place h = absurd (let bad = sym e ∙ h in cc)
    refuses (Err (faults.Malformed r p)) e reject place h =
        let same : made_fault r p ≡ made_fault reject place = fault_is (made_fault r p) (made_fault reject place) (sym e ∙ h) in
        ap (λ (f : Malformed). Err (faults.Malformed f.reject f.at)) same
    refuses (Err faults.NoMemory) e reject place h = absurd (let bad = subst IsOk h e in cc)
