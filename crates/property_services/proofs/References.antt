-- The object, the property and the index at the front of a request.
use Rattle.std.proofs.Common.{◌≡◌, ℕ, ◌+◌, ◌≤◌, Option, Some, None, List, [], ◌++◌, length, drop, Result, Ok, refl, sym, ap, subst, ◌∙◌, arith, inl}
use Rattle.std.specs.Prelude.{◌⊎◌}
use Rattle.std.proofs.lemmas.List.{append-nil, drop_all}
use Rattle.bac_values.specs.Identifier.{ObjectIdData}
use Rattle.bac_tags.specs.Places.{IsSpelledAt}
use Rattle.bac_tags.specs.Contents.{SpellsUnsigned, SpellsObject}
use Rattle.bac_tags.specs.ReadingSteps.{unsigned_at, object_at, ◌>>=◌}
use Rattle.bac_tags.proofs.Standing.{IsBytes, Stands, Stands-from, Stands-then, Stands-front, Stands-back}
use Rattle.bac_tags.specs.declared.malformed.Malformed.{Malformed}
use Rattle.bac_tags.specs.Parameters.{IsAbsent, IsOptionalAt, SpellsIfGiven}
use Rattle.bac_tags.specs.ParameterReadingSteps.{required, optional}
use Rattle.property_services.specs.declared.requests.ReadRequest.{ReadRequest}
use Rattle.property_services.specs.Requests.{SpellsReference}
use Rattle.property_services.specs.ReadingSteps.{property_id, reference_at, read_property_of}
use Rattle.property_services.specs.Refusals.{RefusesReference, IsReferenceAt, RefusesReadProperty}
use Rattle.bac_tags.specs.Refusals.{Behind, RefusesRequired, RefusesOptional}
use Rattle.bac_tags.proofs.ParameterAnswers.{Answers, Both, Made, then, mapped, said, Whole, ended, whole_said}
use Rattle.bac_tags.proofs.ElementAnswers.{ends_within, optional_ends, object_required, unsigned_required, unsigned_optional}

abbrev pub made : ObjectIdData → ℕ → Option ℕ → ReadRequest
made object property index = record { object = object; property = property_id property; index = index }

abbrev with_index : List ℕ → ObjectIdData → ℕ → Result (ReadRequest × ℕ) Malformed
with_index input object place = do
  property ← required input place (unsigned_at input place (Some 1))
  index ← optional input property.1 (unsigned_at input property.1 (Some 2))
  Ok (made object property.0 index.0, index.1)

abbrev IsIndex : List ℕ → ObjectIdData → ℕ → ℕ → ReadRequest → ℕ → Type 0
IsIndex input object property place = Made (IsOptionalAt (SpellsUnsigned (Some 2)) 2 input place) (made object property)

abbrev IsProperty : List ℕ → ObjectIdData → ℕ → ReadRequest → ℕ → Type 0
IsProperty input object place = Both (IsSpelledAt (SpellsUnsigned (Some 1)) input place) (IsIndex input object)

abbrev IsRead : List ℕ → ReadRequest → ℕ → Type 0
IsRead input = Both (IsSpelledAt (SpellsObject (Some 0)) input 0) (IsProperty input)

chained : (input : List ℕ) → IsBytes input → Answers (IsRead input) (RefusesReference input) (reference_at input)
unfolding reference_at
chained input bytes =
    then (IsSpelledAt (SpellsObject (Some 0)) input 0) (RefusesRequired (SpellsObject (Some 0)) input 0) (required input 0 (object_at input 0 (Some 0)))
    (IsProperty input) (λ object place fault. RefusesRequired (SpellsUnsigned (Some 1)) input place fault ⊎ Behind (IsSpelledAt (SpellsUnsigned (Some 1)) input place) (λ property place. RefusesOptional (SpellsUnsigned (Some 2)) 2 input place fault))
    (λ object. with_index input object.0 object.1)
    (object_required input 0 0 bytes (omega arith)) (λ object place there.
    let within = ends_within (SpellsObject (Some 0)) input 0 object place (omega arith) there in
    then (IsSpelledAt (SpellsUnsigned (Some 1)) input place) (RefusesRequired (SpellsUnsigned (Some 1)) input place) (required input place (unsigned_at input place (Some 1)))
    (IsIndex input object) (λ property place. RefusesOptional (SpellsUnsigned (Some 2)) 2 input place)
    (λ property. optional input property.1 (unsigned_at input property.1 (Some 2)) >>= λ index. Ok (made object property.0 index.0, index.1))
    (unsigned_required input place 1 bytes within) (λ property place there.
    let within = ends_within (SpellsUnsigned (Some 1)) input _ property place within there in
    mapped (IsOptionalAt (SpellsUnsigned (Some 2)) 2 input place) (RefusesOptional (SpellsUnsigned (Some 2)) 2 input place) (optional input place (unsigned_at input place (Some 2))) (made object property) (unsigned_optional input place 2 bytes within)))

to_reference : (input : List ℕ) (x : ReadRequest) (end : ℕ) → IsRead input x end → IsReferenceAt input x end
to_reference input x end h =
    subst (λ (y : ReadRequest). IsReferenceAt input y end) h.is_next.is_next.made (record {
      property_at = h.place;
      index_at = h.is_next.place;
      object = h.is_first;
      property = h.is_next.is_first;
      index = h.is_next.is_next.is;
    })

from_reference : (input : List ℕ) (x : ReadRequest) (end : ℕ) → IsReferenceAt input x end → IsRead input x end
from_reference input x end h =
    record {
      first = x.object;
      place = h.property_at;
      is_first = h.object;
      is_next = record { first = x.property.0; place = h.index_at; is_first = h.property; is_next = record { value = x.index; is = h.index; made = refl } };
    }

pub reference_answers : (input : List ℕ) → IsBytes input → Answers (IsReferenceAt input) (RefusesReference input) (reference_at input)
reference_answers input bytes =
    said (IsRead input) (IsReferenceAt input) (RefusesReference input) (RefusesReference input) (reference_at input) (chained input bytes) (to_reference input) (from_reference input) (λ fault h. h) (λ fault h. h)

pub reference_within : (input : List ℕ) (x : ReadRequest) (end : ℕ) → IsReferenceAt input x end → end ≤ length input
reference_within input x end h =
    let object = ends_within (SpellsObject (Some 0)) input 0 x.object h.property_at (omega arith) h.object in
    let property = ends_within (SpellsUnsigned (Some 1)) input h.property_at x.property.0 h.index_at object h.property in
    optional_ends (SpellsUnsigned (Some 2)) 2 input h.index_at x.index end property h.index

-- ---- as octets one after the other

-- octets that spell something stand at the place
pub stands : {X : Type 0} (Spells : List ℕ → X → Type 0) (input : List ℕ) (place : ℕ) (x : X) (end : ℕ) (s : IsSpelledAt Spells input place x end) → Stands input place s.octets end
stands Spells input place x end s = subst (λ (e : ℕ). Stands input place s.octets e) (sym s.ends) (Stands-from input place s.octets s.rest s.there)

pub spelled_at : {X : Type 0} (Spells : List ℕ → X → Type 0) (input : List ℕ) (place : ℕ) (x : X) (end : ℕ) (octets : List ℕ) → Spells octets x → Stands input place octets end → IsSpelledAt Spells input place x end
spelled_at Spells input place x end octets s p = record { octets = octets; rest = drop end input; spelled = s; there = p.parts; ends = p.ends }

-- an optional parameter has octets, or none
pub record Given {X : Type 0} (Spells : List ℕ → X → Type 0) (input : List ℕ) (place : ℕ) (x : Option X) (end : ℕ) : Type 0 where
  pub octets : List ℕ
  pub stands : Stands input place octets end
  pub spelled : SpellsIfGiven Spells octets x

pub given_of : {X : Type 0} (Spells : List ℕ → X → Type 0) (number : ℕ) (input : List ℕ) (place : ℕ) (x : Option X) (end : ℕ) → IsOptionalAt Spells number input place x end → Given Spells input place x end
given_of Spells number input place None end h = record { octets = []; stands = record { parts = ap (λ (n : ℕ). drop n input) (sym h.0); ends = omega (arith, h.0) }; spelled = refl }
given_of Spells number input place (Some x) end h = record { octets = h.octets; stands = stands Spells input place x end h; spelled = h.spelled }

pub optional_of : {X : Type 0} (Spells : List ℕ → X → Type 0) (number : ℕ) (input : List ℕ) (place : ℕ) (x : Option X) (end : ℕ) → Given Spells input place x end → (x ≡ None → IsAbsent number input place) → IsOptionalAt Spells number input place x end
optional_of Spells number input place None end g absent = (omega (arith, g.stands.ends, ap length g.spelled), absent refl)
optional_of Spells number input place (Some x) end g absent = spelled_at Spells input place x end g.octets g.spelled g.stands

-- octets that spell what is read stand at the front
pub record Refers (input : List ℕ) (x : ReadRequest) (end : ℕ) : Type 0 where
  pub octets : List ℕ
  pub stands : Stands input 0 octets end
  pub spelled : SpellsReference octets x

pub refers_of : (input : List ℕ) (x : ReadRequest) (end : ℕ) → IsReferenceAt input x end → Refers input x end
refers_of input x end h =
    let o = stands (SpellsObject (Some 0)) input 0 x.object h.property_at h.object in
    let p = stands (SpellsUnsigned (Some 1)) input h.property_at x.property.0 h.index_at h.property in
    let g = given_of (SpellsUnsigned (Some 2)) 2 input h.index_at x.index end h.index in
    record {
      octets = h.object.octets ++ (h.property.octets ++ g.octets);
      stands = Stands-then input 0 h.object.octets h.property_at (h.property.octets ++ g.octets) end o (Stands-then input h.property_at h.property.octets h.index_at g.octets end p g.stands);
      spelled = record { object_octets = h.object.octets; property_octets = h.property.octets; index_octets = g.octets; parts = refl; object = h.object.spelled; property = h.property.spelled; index = g.spelled };
    }

-- and the other way, where what follows is no index
pub reference_of_octets : (input : List ℕ) (x : ReadRequest) (end : ℕ) (octets : List ℕ) → SpellsReference octets x → Stands input 0 octets end → (x.index ≡ None → IsAbsent 2 input end) → IsReferenceAt input x end
reference_of_octets input x end octets s p absent =
    let q : Stands input 0 (s.object_octets ++ (s.property_octets ++ s.index_octets)) end = subst (λ (o : List ℕ). Stands input 0 o end) s.parts p in
    let object = Stands-front input 0 s.object_octets (s.property_octets ++ s.index_octets) end q in
    let behind = Stands-back input 0 s.object_octets (s.property_octets ++ s.index_octets) end q in
    let property_at = 0 + length s.object_octets in
    let property = Stands-front input property_at s.property_octets s.index_octets end behind in
    let index = Stands-back input property_at s.property_octets s.index_octets end behind in
    let index_at = property_at + length s.property_octets in
    record {
      property_at = property_at;
      index_at = index_at;
      object = spelled_at (SpellsObject (Some 0)) input 0 x.object property_at s.object_octets s.object object;
      property = spelled_at (SpellsUnsigned (Some 1)) input property_at x.property.0 index_at s.property_octets s.property property;
      index = optional_of (SpellsUnsigned (Some 2)) 2 input index_at x.index end (record { octets = s.index_octets; stands = index; spelled = s.index }) (λ none. same_place index_at end (empty x.index s.index_octets s.index none) index (absent none));
    }
  where
    empty : (o : Option ℕ) (octets : List ℕ) → SpellsIfGiven (SpellsUnsigned (Some 2)) octets o → o ≡ None → octets ≡ []
    empty None octets s e = s
    empty (Some n) octets s e = absurd cc

    same_place : (a b : ℕ) → s.index_octets ≡ [] → Stands input a s.index_octets b → IsAbsent 2 input b → IsAbsent 2 input a
    same_place a b none p h = let here : b ≡ a = omega (arith, p.ends, ap length none) in subst (IsAbsent 2 input) here h

-- octets that stand from the first place to the end are all
pub all_of : (input octets : List ℕ) → Stands input 0 octets (length input) → input ≡ octets
all_of input octets p = p.parts ∙ ap (λ (r : List ℕ). octets ++ r) (drop_all (length input) input (omega arith)) ∙ append-nil octets

pub all_stand : (input : List ℕ) → Stands input 0 input (length input)
all_stand input = record { parts = sym (ap (λ (r : List ℕ). input ++ r) (drop_all (length input) input (omega arith)) ∙ append-nil input); ends = omega arith }

pub read_to : (input : List ℕ) (x : ReadRequest) → IsReferenceAt input x (length input) → SpellsReference input x
read_to input x h = let r = refers_of input x (length input) h in subst (λ (o : List ℕ). SpellsReference o x) (sym (all_of input r.octets r.stands)) r.spelled

pub read_from : (input : List ℕ) (x : ReadRequest) → SpellsReference input x → IsReferenceAt input x (length input)
read_from input x s = reference_of_octets input x (length input) input s (all_stand input) (λ none. inl refl)

pub read_property_answers : (input : List ℕ) → IsBytes input → Whole (SpellsReference input) (RefusesReadProperty input) (read_property_of input)
read_property_answers input bytes =
    whole_said (λ x. IsReferenceAt input x (length input)) (SpellsReference input) (RefusesReadProperty input) (read_property_of input) (ended input (IsReferenceAt input) (RefusesReference input) (reference_at input) (reference_answers input bytes) (reference_within input)) (read_to input) (read_from input)
