-- Reading the elements of an edit, one after the other, and the edit that they make.
use Rattle.std.specs.Prelude.{ℕ, zero, suc, nat_lt, if◌then◌else◌, Bool, true, false, not, Option, Some, None, List, [], ◌∷◌, ◌++◌, length, ◌&&◌, Result, Ok, Err}
use Rattle.bac_values.specs.Errors.{invalid_data_type_error, list_element_not_found_error, no_space_to_add_list_element_error, value_out_of_range_error}
use Rattle.bac_values.specs.declared.service_error.ServiceError.{ServiceError}
use Rattle.bac_tags.specs.declared.fault.TagFault.{TagFault}
use Rattle.bac_tags.specs.ReadingSteps.{◌>>=◌, any_bits_at, boolean_at, time_at, unsigned_at}
use Rattle.notify_class.specs.Edits.{edit_verdict}
use Rattle.notify_class.specs.Recipients.{DestinationData}
use Rattle.notify_class.specs.declared.binding.Binding.{Binding}
use Rattle.recipients.specs.RecipientSteps.{recipient_at}
use Rattle.list_binding.specs.Elements.{ElementData, destination_of}
use Rattle.list_binding.specs.Edits.{EditAnswer, LimitsData, ListError, is_in, list_with, list_without}

-- ---- one element

unfoldable pub element_at : List ℕ → ℕ → Result (ElementData × ℕ) TagFault
element_at input place = do
  days ← any_bits_at input place
  from ← time_at input days.1
  to ← time_at input from.1
  recipient ← recipient_at input to.1
  process ← unsigned_at input recipient.1 None
  confirmed ← boolean_at input process.1 None
  transitions ← any_bits_at input confirmed.1
  Ok (record { days = days.0; from = from.0; to = to.0; recipient = recipient.0; process = process.0; confirmed = confirmed.0; transitions = transitions.0 }, transitions.1)

abbrev pub at_element : ServiceError → ℕ → ListError
at_element error number = record { error = error; element = number }

abbrev pub in_range : ℕ → ℕ → Option DestinationData → Result (DestinationData × ℕ) ListError
in_range number end (Some destination) = Ok (destination, end)
in_range number end None = Err (at_element value_out_of_range_error number)

abbrev pub as_destination : List Binding → ℕ → Result (ElementData × ℕ) TagFault → Result (DestinationData × ℕ) ListError
as_destination bindings number (Ok x) = in_range number x.1 (destination_of bindings x.0)
as_destination bindings number (Err fault) = Err (at_element invalid_data_type_error number)

-- the destination for which the element at a place stands, which is the one with a number
unfoldable pub destination_at : List Binding → List ℕ → ℕ → ℕ → Result (DestinationData × ℕ) ListError
destination_at bindings input number place = as_destination bindings number (element_at input place)

-- ---- all elements

-- those from a place on, of which there are no more than so many
unfoldable pub destinations_within : ℕ → List Binding → List ℕ → ℕ → ℕ → EditAnswer
destinations_within zero bindings input number place = Ok []
destinations_within (suc more) bindings input number place =
    if nat_lt place (length input)
    then (destination_at bindings input number place >>= λ x. destinations_within more bindings input (suc number) x.1 >>= λ later. Ok (x.0 ∷ later))
    else Ok []

-- there are no more of them than octets
abbrev pub destinations_of : List Binding → List ℕ → EditAnswer
destinations_of bindings input = destinations_within (length input) bindings input 1 0

-- ---- adding and removing

abbrev pub unless : ServiceError → Option ℕ → List DestinationData → EditAnswer
unless error (Some number) list = Err (at_element error number)
unless error None list = Ok list

abbrev pub is_ok : {A E : Type 0} → Result A E → Bool
is_ok (Ok x) = true
is_ok (Err fault) = false

abbrev pub has_room : LimitsData → List DestinationData → Bool
has_room limits list = is_ok (edit_verdict limits.known list limits.members limits.room)

-- the number of the first element that fails, of those before it and of itself
unfoldable pub first_failing : (List DestinationData → DestinationData → Bool) → List DestinationData → ℕ → List DestinationData → Option ℕ
first_failing fails before number [] = None
first_failing fails before number (element ∷ later) =
    if fails before element then Some number else first_failing fails (before ++ element ∷ []) (suc number) later

-- the list is longer with it, and above a limit
abbrev pub has_no_space : LimitsData → List DestinationData → List DestinationData → DestinationData → Bool
has_no_space limits list before element =
    not (is_in (list_with list before) element) && not (has_room limits (list_with list before ++ element ∷ []))

abbrev pub added_of : LimitsData → List DestinationData → List DestinationData → EditAnswer
added_of limits list elements = unless no_space_to_add_list_element_error (first_failing (has_no_space limits list) [] 1 elements) (list_with list elements)

abbrev pub is_not_found : List DestinationData → List DestinationData → DestinationData → Bool
is_not_found list before element = not (is_in list element)

abbrev pub removed_of : List DestinationData → List DestinationData → EditAnswer
removed_of list elements = unless list_element_not_found_error (first_failing (is_not_found list) [] 1 elements) (list_without list elements)

abbrev pub changed_of : LimitsData → List DestinationData → Bool → List DestinationData → EditAnswer
changed_of limits list true elements = added_of limits list elements
changed_of limits list false elements = removed_of list elements

-- ---- the edit

unfoldable pub edit_of : LimitsData → List Binding → List DestinationData → Bool → List ℕ → EditAnswer
edit_of limits bindings list adding octets = destinations_of bindings octets >>= changed_of limits list adding
