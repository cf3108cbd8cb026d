-- Reading the parameters of GetEnrollmentSummary, one after the other: the request, or the first refusal.
use Rattle.std.specs.Prelude.{ℕ, ◌==◌, nat_le, nat_lt, if◌then◌else◌, Bool, true, false, Option, Some, None, List, length, Result, Ok, Err}
use Rattle.bac_tags.specs.declared.fault.TagFault.{TagFault}
use Rattle.bac_tags.specs.declared.fault.TagFault.TheVariants.{Truncated, WrongTag, BadLength, NoMemory}
use Rattle.bac_tags.specs.declared.malformed.Malformed.{Malformed}
use Rattle.bac_tags.specs.EnclosingSteps.{closing_at, enclosed_at, opening_at}
use Rattle.bac_tags.specs.ParameterReadingSteps.{or_invalid, required, optional, whole}
use Rattle.bac_tags.specs.ReadingSteps.{◌>>=◌, unsigned_at}
use Rattle.bac_tags.specs.Refusals.{invalid_tag}
use Rattle.recipients.specs.Recipients.{RecipientData}
use Rattle.recipients.specs.RecipientSteps.{recipient_at}
use Rattle.summaries.specs.declared.filter.Asked.{Asked}
use Rattle.summaries.specs.declared.filter.Filter.{Filter}
use Rattle.summaries.specs.Requests.{who_of, acknowledgment_filter, enrollment_filter, event_state_filter, event_type_filter, priority_filter, notification_class_filter, not_acked, active, recipient_parameter, process_parameter, least_parameter, greatest_parameter}

-- ---- numbers that are listed

abbrev pub if_listed : ℕ → ℕ → ℕ × ℕ → Result (ℕ × ℕ) Malformed
if_listed place greatest x = if nat_le x.0 greatest then Ok x else Err (invalid_tag place)

unfoldable pub listed_at : List ℕ → ℕ → ℕ → ℕ → Result (ℕ × ℕ) Malformed
listed_at input place number greatest = required input place (unsigned_at input place (Some number)) >>= if_listed place greatest

abbrev pub if_any_listed : ℕ → ℕ → Option ℕ × ℕ → Result (Option ℕ × ℕ) Malformed
if_any_listed place greatest (None, end) = Ok (None, end)
if_any_listed place greatest (Some number, end) = if nat_le number greatest then Ok (Some number, end) else Err (invalid_tag place)

unfoldable pub any_listed_at : List ℕ → ℕ → ℕ → ℕ → Result (Option ℕ × ℕ) Malformed
any_listed_at input place number greatest = optional input place (unsigned_at input place (Some number)) >>= if_any_listed place greatest

-- ---- between tags

-- whether a tag with the number opens something at the place, and the place behind it
abbrev pub or_other : ℕ → Result ℕ TagFault → Result (Bool × ℕ) Malformed
or_other place (Ok start) = Ok (true, start)
or_other place (Err (WrongTag other)) = if other == place then Ok (false, place) else Err (invalid_tag place)
or_other place (Err (Truncated end)) = Err (invalid_tag place)
or_other place (Err (BadLength wrong)) = Err (invalid_tag place)
or_other place (Err NoMemory) = Err (invalid_tag place)

abbrev pub opens_at : List ℕ → ℕ → ℕ → Result (Bool × ℕ) Malformed
opens_at input place number = if nat_lt place (length input) then or_other place (opening_at input place number) else Ok (false, place)

-- what is opened is read to its closing tag
abbrev pub if_opened : {X : Type 0} → (List ℕ → ℕ → Result (X × ℕ) TagFault) → ℕ → List ℕ → ℕ → Bool × ℕ → Result (Option X × ℕ) Malformed
if_opened read number input place (false, end) = Ok (None, end)
if_opened read number input place (true, start) = or_invalid place (read input start) >>= λ x. or_invalid place (closing_at input x.1 number) >>= λ end. Ok (Some x.0, end)

-- a value between the tags of a number, where such a tag opens it
abbrev pub enclosed_if_given : {X : Type 0} → (List ℕ → ℕ → Result (X × ℕ) TagFault) → ℕ → List ℕ → ℕ → Result (Option X × ℕ) Malformed
enclosed_if_given read number input place = opens_at input place number >>= if_opened read number input place

abbrev pub asked_of : RecipientData → ℕ → Asked
asked_of recipient process = record { who = who_of recipient; process = process }

unfoldable pub asked_at : List ℕ → ℕ → Result (Asked × ℕ) TagFault
asked_at input place = do
  recipient ← enclosed_at recipient_at recipient_parameter input place
  process ← unsigned_at input recipient.1 (Some process_parameter)
  Ok (asked_of recipient.0 process.0, process.1)

unfoldable pub priorities_at : List ℕ → ℕ → Result ((ℕ × ℕ) × ℕ) TagFault
priorities_at input place = do
  least ← unsigned_at input place (Some least_parameter)
  greatest ← unsigned_at input least.1 (Some greatest_parameter)
  Ok ((least.0, greatest.0), greatest.1)

-- ---- the request

abbrev pub filter_of : ℕ → Option Asked → Option ℕ → Option ℕ → Option (ℕ × ℕ) → Option ℕ → Filter
filter_of acked recipient state event_type priorities class = record { acked = acked; recipient = recipient; state = state; event_type = event_type; priorities = priorities; class = class }

unfoldable pub filter_at : List ℕ → Result (Filter × ℕ) Malformed
filter_at input = do
  acked ← listed_at input 0 acknowledgment_filter not_acked
  recipient ← enclosed_if_given asked_at enrollment_filter input acked.1
  state ← any_listed_at input recipient.1 event_state_filter active
  event_type ← optional input state.1 (unsigned_at input state.1 (Some event_type_filter))
  priorities ← enclosed_if_given priorities_at priority_filter input event_type.1
  class ← optional input priorities.1 (unsigned_at input priorities.1 (Some notification_class_filter))
  Ok (filter_of acked.0 recipient.0 state.0 event_type.0 priorities.0 class.0, class.1)

abbrev pub enrollment_request_of : List ℕ → Result Filter Malformed
enrollment_request_of input = whole input (filter_at input)
