-- Reading the parameters of ReadPropertyMultiple, one after the other: what is asked, or the first refusal.
use Rattle.std.specs.Prelude.{ℕ, zero, suc, ◌+◌, ◌==◌, nat_lt, if◌then◌else◌, Bool, false, Option, Some, None, List, [], ◌∷◌, length, slice_get, Result, Ok, Err}
use Rattle.bac_values.specs.Identifier.{ObjectIdData}
use Rattle.bac_tags.specs.declared.fault.TagFault.{TagFault}
use Rattle.bac_tags.specs.declared.fault.TagFault.TheVariants.{WrongTag}
use Rattle.bac_tags.specs.declared.malformed.Malformed.{Malformed}
use Rattle.bac_tags.specs.EnclosingSteps.{closing_at, opening_at}
use Rattle.bac_tags.specs.ParameterReadingSteps.{or_invalid, optional, required}
use Rattle.bac_tags.specs.ReadingSteps.{◌>>=◌, object_at, unsigned_at}
use Rattle.bac_tags.specs.Refusals.{invalid_tag, missing_parameter, too_many_arguments}
use Rattle.summaries.specs.declared.requested.PropertyAsked.{PropertyAsked}
use Rattle.summaries.specs.declared.requested.Spec.{Spec}
use Rattle.summaries.specs.ManyRequests.{ObjectAsked, index_parameter, object_parameter, properties_parameter, property_parameter, specs_in, specs_of}

-- ---- things one after the other

-- the next thing and those behind it, or the end of the list
abbrev pub each_next : {X : Type 0} → (ℕ → Result (X × ℕ) Malformed) → (ℕ → Result (List X × ℕ) Malformed) → ℕ → Option ℕ → Result (List X × ℕ) Malformed
each_next read more place (Some end) = Ok ([], end)
each_next read more place None = read place >>= λ x. more x.1 >>= λ rest. Ok (x.0 ∷ rest.0, rest.1)

-- those from a place on, of which there are no more than so many
unfoldable pub each_within : {X : Type 0} → (ℕ → Option ℕ) → (ℕ → Result (X × ℕ) Malformed) → ℕ → ℕ → Result (List X × ℕ) Malformed
each_within ends read zero place = Err (invalid_tag place)
each_within ends read (suc more) place = each_next read (λ next. each_within ends read more next) place (ends place)

-- ---- properties

abbrev pub asked_of : ℕ → Option ℕ → PropertyAsked
asked_of property index = record { property = property; index = index }

-- a property, which has to be there, and an index, which may be absent
unfoldable pub property_at : List ℕ → ℕ → Result (PropertyAsked × ℕ) Malformed
property_at input place = do
  property ← or_invalid place (unsigned_at input place (Some property_parameter))
  index ← optional input property.1 (unsigned_at input property.1 (Some index_parameter))
  Ok (asked_of property.0 index.0, index.1)

abbrev pub if_closed : Result ℕ TagFault → Option ℕ
if_closed (Ok end) = Some end
if_closed (Err fault) = None

-- the place behind the closing tag, where it stands
unfoldable pub closes_at : List ℕ → ℕ → Option ℕ
closes_at input place = if_closed (closing_at input place properties_parameter)

-- a list without a property lacks one
abbrev pub one_or_more : ℕ → List PropertyAsked × ℕ → Result (List PropertyAsked × ℕ) Malformed
one_or_more place ([], end) = Err (missing_parameter place)
one_or_more place (property ∷ properties, end) = Ok (property ∷ properties, end)

-- there are no more of them than octets
unfoldable pub properties_at : List ℕ → ℕ → Result (List PropertyAsked × ℕ) Malformed
properties_at input place = each_within (closes_at input) (property_at input) (length input) place >>= one_or_more place

-- ---- objects

abbrev pub group_of : ObjectIdData → List PropertyAsked → ObjectAsked
group_of object properties = record { object = object; properties = properties }

-- the object, and the place at which the properties begin
unfoldable pub entry_at : List ℕ → ℕ → Result (ObjectIdData × ℕ) Malformed
entry_at input place = do
  object ← required input place (object_at input place (Some object_parameter))
  start ← required input object.1 (opening_at input object.1 properties_parameter)
  Ok (object.0, start)

unfoldable pub group_at : List ℕ → ℕ → Result (ObjectAsked × ℕ) Malformed
group_at input place = do
  entry ← entry_at input place
  properties ← properties_at input entry.1
  Ok (group_of entry.0 properties.0, properties.1)

-- another tag where a further object may begin is one argument too many
abbrev pub is_other : {X : Type 0} → ℕ → Result X TagFault → Bool
is_other place (Err (WrongTag other)) = other == place
is_other place read = false

unfoldable pub further_at : List ℕ → ℕ → Result (ObjectAsked × ℕ) Malformed
further_at input place = if is_other place (object_at input place (Some object_parameter)) then Err (too_many_arguments place) else group_at input place

-- the octets end
unfoldable pub ends_at : List ℕ → ℕ → Option ℕ
ends_at input place = if nat_lt place (length input) then None else Some place

-- the first object, and those behind it
unfoldable pub groups_of : List ℕ → Result (List ObjectAsked) Malformed
groups_of input = do
  first ← group_at input 0
  later ← each_within (ends_at input) (further_at input) (length input) first.1
  Ok (first.0 ∷ later.0)

-- the property at an index among all that are asked
abbrev pub many_request_of : List ℕ → ℕ → Result (Option Spec) Malformed
many_request_of input index = groups_of input >>= λ groups. Ok (slice_get (specs_in groups) index)

-- ---- counted

-- the thing with an index among those from a number on
abbrev pub seen : {X : Type 0} → ℕ → List X → ℕ → Option X
seen number [] index = None
seen number (x ∷ xs) index = if number == index then Some x else seen (suc number) xs index

-- that of later things, or else that of earlier ones
abbrev pub or_before : {X : Type 0} → Option X → Option X → Option X
or_before (Some x) before = Some x
or_before None before = before

-- the one with an index among those that are read, how many there are up to their end, and the place behind it
abbrev pub passing : {X : Type 0} → ℕ → ℕ → Result (List X × ℕ) Malformed → Result (Option X × ℕ × ℕ) Malformed
passing before index (Ok x) = Ok (seen before x.0 index, before + length x.0, x.1)
passing before index (Err fault) = Err fault

-- the same of the properties of an object
abbrev pub specs_read : Result (ObjectAsked × ℕ) Malformed → Result (List Spec × ℕ) Malformed
specs_read (Ok x) = Ok (specs_of x.0, x.1)
specs_read (Err fault) = Err fault
