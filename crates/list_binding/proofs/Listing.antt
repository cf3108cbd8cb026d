-- The clauses of the reader of AddListElement and RemoveListElement.
use Rattle.std.proofs.Common.{◌≡◌, ℕ, ◌+◌, ◌≤◌, Option, Some, None, List, ◌++◌, length, drop, Result, Ok, Err, refl, sym, ap, subst, ◌∙◌, append_assoc, arith, inl, inr}
use Rattle.std.specs.Prelude.{◌⊎◌, ◌↔◌, IfOk, IsOkAnd, slice_range}
use Rattle.std.proofs.lemmas.Bool.{cases_lt}
use Rattle.std.proofs.lemmas.List.{length-append}
use Rattle.bac_values.specs.Identifier.{ObjectIdData}
use Rattle.bac_tags.specs.declared.fault.TagFault.{TagFault}
use Rattle.bac_tags.specs.declared.malformed.Malformed.{Malformed}
use Rattle.bac_tags.specs.BalancedSteps.{elements_at}
use Rattle.bac_tags.specs.ParameterReadingSteps.{optional, or_invalid, required}
use Rattle.bac_tags.specs.Parameters.{IsAbsent, IsOptionalAt, SpellsIfGiven}
use Rattle.bac_tags.specs.Places.{IsSpelledAt}
use Rattle.bac_tags.specs.ReadingSteps.{◌>>=◌, Gives, object_at, unsigned_at}
use Rattle.bac_tags.specs.Refusals.{Behind, RefusesOptional, RefusesRequired}
use Rattle.bac_tags.proofs.Between.{elements_again, elements_found}
use Rattle.bac_tags.proofs.ElementAnswers.{Element, begins_before, ends_within, object_required, optional_ends, required_answers, tag_some, unsigned_optional, unsigned_required}
use Rattle.bac_tags.proofs.ParameterAnswers.{Answers, Both, Made, Whole, ended, mapped, said, then, whole_said}
use Rattle.bac_tags.proofs.RequiredReaders.{required_inside, required_outside}
use Rattle.bac_tags.proofs.Standing.{IsBytes, Stands, Stands-back, Stands-front, Stands-then}
use Rattle.bac_tags.proofs.Steps.{err_is, ok_is}
use Rattle.list_binding.specs.Refusals.{IsListAt, RefusesList, RefusesListRequest, SpellsIndex, SpellsListObject, SpellsListed, SpellsProperty}
use Rattle.list_binding.specs.declared.request.ListRequest.{ListRequest}
use Rattle.list_binding.specs.Requests.{ListAsked, SpellsListRequest, asked_in}
use Rattle.list_binding.specs.RequestSteps.{asked_of, list_at, list_request_of, listed_at}
use Rattle.list_binding.proofs.Parts.{all_of, all_stand, given_of, opening_is_absent, optional_of, spelled_at, stands}

-- ---- the elements

-- another value in place of the one that a reader of elements gave
abbrev of_value : {X Y : Type 0} → (X → Y) → Result (X × ℕ) TagFault → Result (Y × ℕ) TagFault
of_value make (Ok x) = Ok (make x.0, x.1)
of_value make (Err fault) = Err fault

abbrev in_range : List ℕ → ℕ × ℕ → List ℕ
in_range input places = slice_range input places.0 places.1

abbrev make_of : {X Y : Type 0} → (X → Y) → X × ℕ → Result (Y × ℕ) Malformed
make_of make x = Ok (make x.0, x.1)

invalid_made : {X Y : Type 0} (place : ℕ) (make : X → Y) (r : Result (X × ℕ) TagFault) → (or_invalid place r >>= make_of make) ≡ or_invalid place (of_value make r)
invalid_made place make (Ok x) = refl
invalid_made place make (Err fault) = refl

required_made : {X Y : Type 0} (input : List ℕ) (place : ℕ) (make : X → Y) (r : Result (X × ℕ) TagFault) → (required input place r >>= make_of make) ≡ required input place (of_value make r)
required_made {X = X} {Y = Y} input place make r =
    elim (cases_lt place (length input)) [
      | inl lt ↦ ap (λ (a : Result (X × ℕ) Malformed). a >>= make_of make) (required_inside input place r lt) ∙ invalid_made place make r ∙ sym (required_inside input place (of_value make r) lt)
      | inr ge ↦ ap (λ (a : Result (X × ℕ) Malformed). a >>= make_of make) (required_outside input place r ge) ∙ sym (required_outside input place (of_value make r) ge)
    ]

listed_is : (input : List ℕ) (place : ℕ) → listed_at input place ≡ required input place (of_value (in_range input) (elements_at input place 3))
unfolding listed_at
listed_is input place = required_made input place (in_range input) (elements_at input place 3)

listed_found : (input : List ℕ) (place : ℕ) (r : Result ((ℕ × ℕ) × ℕ) TagFault) (x : List ℕ × ℕ) → IsBytes input → place ≤ length input → elements_at input place 3 ≡ r → of_value (in_range input) r ≡ Ok x → IsSpelledAt SpellsListed input place x.0 x.1
listed_found input place (Ok y) x bytes le same e =
    let equal : (in_range input y.0, y.1) ≡ x = ok_is (in_range input y.0, y.1) x e in
    subst (λ (z : List ℕ × ℕ). IsSpelledAt SpellsListed input place z.0 z.1) equal (elements_found input place 3 y bytes le same)
listed_found input place (Err fault) x bytes le same e = absurd cc

listed_element : (input : List ℕ) (place : ℕ) → IsBytes input → place ≤ length input → Element SpellsListed input place (of_value (in_range input) (elements_at input place 3))
listed_element input place bytes le =
    record {
      found = λ x e. listed_found input place (elements_at input place 3) x bytes le refl e;
      only = λ elements end s.
          let h = elements_again input place 3 elements end bytes le s in
          ap (of_value (in_range input)) h.read ∙ ap (λ (xs : List ℕ). Ok (xs, end)) h.range;
      some = λ elements end s.
          let e = s.spelled in
          begins_before input place s.octets s.rest s.there (omega (arith, ap length e.parts, length-append e.front (e.inside ++ e.back), tag_some e.front _ e.opened));
    }

listed_answers : (input : List ℕ) (place : ℕ) → IsBytes input → place ≤ length input → Answers (IsSpelledAt SpellsListed input place) (RefusesRequired SpellsListed input place) (listed_at input place)
listed_answers input place bytes le =
    subst (Answers (IsSpelledAt SpellsListed input place) (RefusesRequired SpellsListed input place)) (sym (listed_is input place)) (required_answers SpellsListed input place (of_value (in_range input) (elements_at input place 3)) le (listed_element input place bytes le))

-- ---- all parameters

abbrev IsListed : List ℕ → ObjectIdData → ℕ → Option ℕ → ℕ → ListAsked → ℕ → Type 0
IsListed input object property index place = Made (IsSpelledAt SpellsListed input place) (asked_of object property index)

abbrev IsIndexed : List ℕ → ObjectIdData → ℕ → ℕ → ListAsked → ℕ → Type 0
IsIndexed input object property place = Both (IsOptionalAt SpellsIndex 2 input place) (IsListed input object property)

abbrev IsOfProperty : List ℕ → ObjectIdData → ℕ → ListAsked → ℕ → Type 0
IsOfProperty input object place = Both (IsSpelledAt SpellsProperty input place) (IsIndexed input object)

abbrev IsChain : List ℕ → ListAsked → ℕ → Type 0
IsChain input = Both (IsSpelledAt SpellsListObject input 0) (IsOfProperty input)

abbrev RefusesIndexed : List ℕ → ℕ → Malformed → Type 0
RefusesIndexed input place fault =
    RefusesOptional SpellsIndex 2 input place fault ⊎ Behind (IsOptionalAt SpellsIndex 2 input place) (λ index place. RefusesRequired SpellsListed input place fault)

abbrev RefusesOfProperty : List ℕ → ℕ → Malformed → Type 0
RefusesOfProperty input place fault =
    RefusesRequired SpellsProperty input place fault ⊎ Behind (IsSpelledAt SpellsProperty input place) (λ property place. RefusesIndexed input place fault)

abbrev with_elements : List ℕ → ObjectIdData → ℕ → Option ℕ × ℕ → Result (ListAsked × ℕ) Malformed
with_elements input object property index = listed_at input index.1 >>= λ elements. Ok (asked_of object property index.0 elements.0, elements.1)

abbrev with_index : List ℕ → ObjectIdData → ℕ × ℕ → Result (ListAsked × ℕ) Malformed
with_index input object property = optional input property.1 (unsigned_at input property.1 (Some 2)) >>= with_elements input object property.0

abbrev with_property : List ℕ → ObjectIdData × ℕ → Result (ListAsked × ℕ) Malformed
with_property input object = required input object.1 (unsigned_at input object.1 (Some 1)) >>= with_index input object.0

chained : (input : List ℕ) → IsBytes input → Answers (IsChain input) (RefusesList input) (list_at input)
unfolding list_at
chained input bytes =
    then (IsSpelledAt SpellsListObject input 0) (RefusesRequired SpellsListObject input 0) (required input 0 (object_at input 0 (Some 0)))
    (IsOfProperty input) (λ object place. RefusesOfProperty input place) (with_property input)
    (object_required input 0 0 bytes (omega arith)) (λ object place there.
    let within = ends_within SpellsListObject input 0 object place (omega arith) there in
    then (IsSpelledAt SpellsProperty input place) (RefusesRequired SpellsProperty input place) (required input place (unsigned_at input place (Some 1)))
    (IsIndexed input object) (λ property place. RefusesIndexed input place) (with_index input object)
    (unsigned_required input place 1 bytes within) (λ property place there.
    let within = ends_within SpellsProperty input _ property place within there in
    then (IsOptionalAt SpellsIndex 2 input place) (RefusesOptional SpellsIndex 2 input place) (optional input place (unsigned_at input place (Some 2)))
    (IsListed input object property) (λ index place. RefusesRequired SpellsListed input place) (with_elements input object property)
    (unsigned_optional input place 2 bytes within) (λ index place there.
    let within = optional_ends SpellsIndex 2 input _ index place within there in
    mapped (IsSpelledAt SpellsListed input place) (RefusesRequired SpellsListed input place) (listed_at input place) (asked_of object property index) (listed_answers input place bytes within))))

to_list : (input : List ℕ) (x : ListAsked) (end : ℕ) → IsChain input x end → IsListAt input x end
to_list input x end h =
    subst (λ (y : ListAsked). IsListAt input y end) h.is_next.is_next.is_next.made (record {
      property_at = h.place;
      index_at = h.is_next.place;
      elements_at = h.is_next.is_next.place;
      object = h.is_first;
      property = h.is_next.is_first;
      index = h.is_next.is_next.is_first;
      elements = h.is_next.is_next.is_next.is;
    })

from_list : (input : List ℕ) (x : ListAsked) (end : ℕ) → IsListAt input x end → IsChain input x end
from_list input x end h =
    record {
      first = x.object;
      place = h.property_at;
      is_first = h.object;
      is_next = record {
        first = x.property;
        place = h.index_at;
        is_first = h.property;
        is_next = record { first = x.index; place = h.elements_at; is_first = h.index; is_next = record { value = x.elements; is = h.elements; made = refl } };
      };
    }

list_answers : (input : List ℕ) → IsBytes input → Answers (IsListAt input) (RefusesList input) (list_at input)
list_answers input bytes =
    said (IsChain input) (IsListAt input) (RefusesList input) (RefusesList input) (list_at input) (chained input bytes) (to_list input) (from_list input) (λ fault h. h) (λ fault h. h)

list_within : (input : List ℕ) (x : ListAsked) (end : ℕ) → IsListAt input x end → end ≤ length input
list_within input x end h =
    let object = ends_within SpellsListObject input 0 x.object h.property_at (omega arith) h.object in
    let property = ends_within SpellsProperty input h.property_at x.property h.index_at object h.property in
    let index = optional_ends SpellsIndex 2 input h.index_at x.index h.elements_at property h.index in
    ends_within SpellsListed input h.elements_at x.elements end index h.elements

-- ---- all octets

to_whole : (input : List ℕ) (x : ListAsked) → IsListAt input x (length input) → SpellsListRequest input x
to_whole input x h =
    let o = stands SpellsListObject input 0 x.object h.property_at h.object in
    let p = stands SpellsProperty input h.property_at x.property h.index_at h.property in
    let g = given_of SpellsIndex 2 input h.index_at x.index h.elements_at h.index in
    let l = stands SpellsListed input h.elements_at x.elements (length input) h.elements in
    let behind = Stands-then input h.index_at g.octets h.elements_at h.elements.octets (length input) g.stands l in
    let later = Stands-then input h.property_at h.property.octets h.index_at (g.octets ++ h.elements.octets) (length input) p behind in
    let all = Stands-then input 0 h.object.octets h.property_at (h.property.octets ++ (g.octets ++ h.elements.octets)) (length input) o later in
    record {
      object_octets = h.object.octets;
      property_octets = h.property.octets;
      index_octets = g.octets;
      element_octets = h.elements.octets;
      parts = all_of input (h.object.octets ++ (h.property.octets ++ (g.octets ++ h.elements.octets))) all;
      object = h.object.spelled;
      property = h.property.spelled;
      index = g.spelled;
      elements = h.elements.spelled;
    }

from_whole : (input : List ℕ) (x : ListAsked) → SpellsListRequest input x → IsListAt input x (length input)
from_whole input x s =
    let e = s.elements in
    let n = length input in
    let all : Stands input 0 (s.object_octets ++ (s.property_octets ++ (s.index_octets ++ s.element_octets))) n = subst (λ (o : List ℕ). Stands input 0 o n) s.parts (all_stand input) in
    let property_at = 0 + length s.object_octets in
    let object = Stands-front input 0 s.object_octets (s.property_octets ++ (s.index_octets ++ s.element_octets)) n all in
    let later = Stands-back input 0 s.object_octets (s.property_octets ++ (s.index_octets ++ s.element_octets)) n all in
    let index_at = property_at + length s.property_octets in
    let property = Stands-front input property_at s.property_octets (s.index_octets ++ s.element_octets) n later in
    let behind = Stands-back input property_at s.property_octets (s.index_octets ++ s.element_octets) n later in
    let elements_at = index_at + length s.index_octets in
    let index = Stands-front input index_at s.index_octets s.element_octets n behind in
    let last = Stands-back input index_at s.index_octets s.element_octets n behind in
    let begins : drop elements_at input ≡ e.front ++ ((e.inside ++ e.back) ++ drop n input) = last.parts ∙ ap (λ (o : List ℕ). o ++ drop n input) e.parts ∙ append_assoc e.front (e.inside ++ e.back) (drop n input) in
    let absent = opening_is_absent 2 3 input elements_at e.front ((e.inside ++ e.back) ++ drop n input) e.opened begins in
    record {
      property_at = property_at;
      index_at = index_at;
      elements_at = elements_at;
      object = spelled_at SpellsListObject input 0 x.object property_at s.object_octets s.object object;
      property = spelled_at SpellsProperty input property_at x.property index_at s.property_octets s.property property;
      index = optional_of SpellsIndex 2 input index_at x.index elements_at (record { octets = s.index_octets; stands = index; spelled = s.index })
          (λ none. same_place x.index s.index_octets index_at elements_at index s.index none absent);
      elements = spelled_at SpellsListed input elements_at x.elements n s.element_octets s.elements last;
    }
  where
    same_place : (o : Option ℕ) (octets : List ℕ) (a b : ℕ) → Stands input a octets b → SpellsIfGiven SpellsIndex octets o → o ≡ None → IsAbsent 2 input b → IsAbsent 2 input a
    same_place None octets a b p given none absent = let here : b ≡ a = omega (arith, p.ends, ap length given) in subst (IsAbsent 2 input) here absent
    same_place (Some n) octets a b p given none absent = absurd cc

pub list_request_answers : (input : List ℕ) → IsBytes input → Whole (SpellsListRequest input) (RefusesListRequest input) (list_request_of input)
list_request_answers input bytes =
    whole_said (λ x. IsListAt input x (length input)) (SpellsListRequest input) (RefusesListRequest input) (list_request_of input)
    (ended input (IsListAt input) (RefusesList input) (list_at input) (list_answers input bytes) (list_within input)) (to_whole input) (from_whole input)

-- ---- what the call answers

pub record ReadsList (input : List ℕ) (answer : Result ListRequest Malformed) : Type 0 where
  pub found : IfOk answer (λ request. SpellsListRequest input (asked_in input request))
  pub only : (asked : ListAsked) → SpellsListRequest input asked → IsOkAnd answer (λ request. asked_in input request ≡ asked)
  pub refused : (fault : Malformed) → (answer ≡ Err fault) ↔ RefusesListRequest input fault

pub reads_list : (input : List ℕ) (answer : Result ListRequest Malformed) → IsBytes input → Gives (asked_in input) answer (list_request_of input) → ReadsList input answer
reads_list input (Ok request) bytes e =
    let w = list_request_answers input bytes in
    record {
      found = w.found (asked_in input request) e;
      only = λ asked s. ok_is (asked_in input request) asked (sym e ∙ w.only asked s);
      refused = λ fault. (λ h. absurd cc, λ h. absurd (let bad = sym e ∙ w.refuses fault h in cc));
    }
reads_list input (Err why) bytes e =
    let w = list_request_answers input bytes in
    record {
      found = tt;
      only = λ asked s. absurd (let bad = sym e ∙ w.only asked s in cc);
      refused = λ fault. (λ h. w.refused fault (e ∙ (let same : why ≡ fault = cc in ap (λ (f : Malformed). Err f) same)), λ h. let same = err_is {A = ListAsked} why fault (sym e ∙ w.refuses fault h) in ap (λ (f : Malformed). Err f) same);
    }
