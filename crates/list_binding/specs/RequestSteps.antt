-- Reading the parameters of AddListElement or RemoveListElement, one after the other: what is asked, or the first refusal.
use Rattle.std.specs.Prelude.{ℕ, Option, Some, List, slice_range, Result, Ok}
use Rattle.bac_values.specs.Identifier.{ObjectIdData}
use Rattle.bac_tags.specs.BalancedSteps.{elements_at}
use Rattle.bac_tags.specs.declared.malformed.Malformed.{Malformed}
use Rattle.bac_tags.specs.ParameterReadingSteps.{optional, required, whole}
use Rattle.bac_tags.specs.ReadingSteps.{◌>>=◌, object_at, unsigned_at}
use Rattle.list_binding.specs.Requests.{ListAsked, elements_parameter, index_parameter, object_parameter, property_parameter}

abbrev pub asked_of : ObjectIdData → ℕ → Option ℕ → List ℕ → ListAsked
asked_of object property index elements = record { object = object; property = property; index = index; elements = elements }

-- the octets of the elements
unfoldable pub listed_at : List ℕ → ℕ → Result (List ℕ × ℕ) Malformed
listed_at input place = do
  found ← required input place (elements_at input place elements_parameter)
  Ok (slice_range input found.0.0 found.0.1, found.1)

unfoldable pub list_at : List ℕ → Result (ListAsked × ℕ) Malformed
list_at input = do
  object ← required input 0 (object_at input 0 (Some object_parameter))
  property ← required input object.1 (unsigned_at input object.1 (Some property_parameter))
  index ← optional input property.1 (unsigned_at input property.1 (Some index_parameter))
  elements ← listed_at input index.1
  Ok (asked_of object.0 property.0 index.0 elements.0, elements.1)

abbrev pub list_request_of : List ℕ → Result ListAsked Malformed
list_request_of input = whole input (list_at input)
