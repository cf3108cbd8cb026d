-- What GetAlarmSummary and GetEnrollmentSummary tell of a state (ANSI/ASHRAE 135-2020, 13.10 and 13.11).
use Rattle.std.specs.Prelude.{ℕ, ◌==◌, nat_le, ◌&&◌, Bool, true, false, not, if◌then◌else◌, Option, Some, None, List, [], ◌++◌, filter, length, slice_index_or}
use Rattle.std.specs.List.{flat_map, list_all, list_any}
use Rattle.bac_values.specs.Address.{PeerData}
use Rattle.bac_values.specs.BitString.{string_of_flags}
use Rattle.bac_values.specs.EventStates.{is_fault, is_normal, number_of_state, place_of_transition, transition_to}
use Rattle.bac_values.specs.EventTypes.{alarm_notify_type}
use Rattle.bac_values.specs.Orders.{is_same}
use Rattle.bac_values.specs.declared.event_state.EventState.{EventState}
use Rattle.bac_tags.specs.Writing.{written_bits, written_enumerated, written_object, written_unsigned}
use Rattle.notify_class.specs.Recipients.{DestinationData}
use Rattle.notify_class.specs.declared.class.Class.{Class}
use Rattle.bac_values.specs.declared.alarm_row.AlarmRow.{AlarmRow}
use Rattle.summaries.specs.declared.filter.Asked.{Asked}
use Rattle.summaries.specs.declared.filter.Filter.{Filter}
use Rattle.summaries.specs.declared.filter.Who.{Who}
use Rattle.summaries.specs.declared.filter.Who.TheVariants.{Device, Address, Other}

-- ---- GetAlarmSummary (13.10)

-- an object is told of where its Notify_Type is ALARM and its event state isn't NORMAL
abbrev pub is_in_alarm : AlarmRow → Bool
is_in_alarm row = row.notify == alarm_notify_type && not (is_normal row.state)

-- its identifier, its event state and Acked_Transitions
abbrev pub written_alarm : AlarmRow → List ℕ
written_alarm row = written_object None row.object ++ (written_enumerated None (number_of_state row.state) ++ written_bits None (string_of_flags row.acked))

abbrev pub written_if_in_alarm : AlarmRow → List ℕ
written_if_in_alarm row = if is_in_alarm row then written_alarm row else []

-- those of some objects, in their order
abbrev pub alarm_summary_of : List AlarmRow → List ℕ
alarm_summary_of rows = flat_map written_if_in_alarm rows

-- ---- GetEnrollmentSummary (13.11)

-- Acknowledgment Filter: all; all of whose transitions are acknowledged; and the others
abbrev pub passes_acked : ℕ → List Bool → Bool
passes_acked number acked =
    if number == 0 then true else (if number == 1 then list_all (λ bit. bit) acked else list_any not acked)

-- Event State Filter: offnormal is neither NORMAL nor FAULT, and active is other than NORMAL
abbrev pub passes_state : EventState → ℕ → Bool
passes_state state number =
    if number == 0 then not (is_normal state) && not (is_fault state)
    else (if number == 1 then is_fault state
    else (if number == 2 then is_normal state
    else (if number == 3 then true else not (is_normal state))))

-- Enrollment Filter: the class has a destination with the peer and the process; a device is that of none
abbrev pub is_to : PeerData → ℕ → DestinationData → Bool
is_to peer process recipient = is_same recipient.peer peer && recipient.process == process

abbrev pub tells_who : Who → ℕ → List DestinationData → Bool
tells_who (Address peer) process destinations = list_any (is_to peer process) destinations
tells_who (Device object) process destinations = false
tells_who Other process destinations = false

abbrev pub tells : Class → Asked → Bool
tells class asked = tells_who asked.who asked.process class.destinations

-- the priority of the transition that names the state
abbrev pub priority_of : Class → EventState → ℕ
priority_of class state = slice_index_or class.priority (place_of_transition (transition_to state)) 0

abbrev pub lies_in : ℕ → ℕ × ℕ → Bool
lies_in priority range = nat_le range.0 priority && nat_le priority range.1

-- a parameter that is absent leaves nothing out
abbrev pub if_asked : {A : Type 0} → (A → Bool) → Option A → Bool
if_asked test None = true
if_asked test (Some asked) = test asked

-- all filters
abbrev pub passes : Filter → AlarmRow → Class → Bool
passes filter row class =
    passes_acked filter.acked row.acked
    && (if_asked (passes_state row.state) filter.state
    && (if_asked (λ number. row.event_type == number) filter.event_type
    && (if_asked (λ number. row.class == number) filter.class
    && (if_asked (lies_in (priority_of class row.state)) filter.priorities
    && if_asked (tells class) filter.recipient))))

-- an object's identifier, its event type, its event state, the priority, and its class
abbrev pub written_enrollment : AlarmRow → Class → List ℕ
written_enrollment row class =
    written_object None row.object
    ++ (written_enumerated None row.event_type
    ++ (written_enumerated None (number_of_state row.state)
    ++ (written_unsigned None (priority_of class row.state)
    ++ written_unsigned None row.class)))

-- that of an object with its class; one whose class isn't there isn't told of
abbrev pub enrollment_with : Filter → AlarmRow → Option Class → List ℕ
enrollment_with filter row None = []
enrollment_with filter row (Some class) = if passes filter row class then written_enrollment row class else []

-- those of some objects, in their order
abbrev pub enrollment_summary_of : List AlarmRow → (ℕ → Option Class) → Filter → List ℕ
enrollment_summary_of rows class_of filter = flat_map (λ (row : AlarmRow). enrollment_with filter row (class_of row.class)) rows

-- ---- an answer

-- octets that have room, and nothing where there are more
abbrev pub within_room : ℕ → List ℕ → Option (List ℕ)
within_room room octets = if nat_le (length octets) room then Some octets else None
