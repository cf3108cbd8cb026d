-- What is read of properties that no write changes: by the state that a history leaves, and not by the lists of properties (ANSI/ASHRAE 135-2020, clause 12 and 15.5).
use Rattle.std.specs.Prelude.{◌≡◌, ℕ, suc, ◌==◌, ◌&&◌, Bool, false, not, Option, Some, None, IsSome, is_none, List, [], ◌∷◌, length, map, flat_map, slice_get}
use Rattle.bac_values.specs.BitString.{string_of_flags}
use Rattle.bac_values.specs.EventStates.{is_normal, number_of_state}
use Rattle.bac_values.specs.Identifier.{ObjectIdData}
use Rattle.bac_values.specs.Properties.{acked_transitions_property, event_state_property, event_time_stamps_property, priority_property, status_flags_property, total_record_count_property}
use Rattle.bac_values.specs.Reliabilities.{number_of_reliability}
use Rattle.bac_values.specs.declared.event_state.EventState.{EventState}
use Rattle.bac_values.specs.declared.event_state.EventState.TheVariants.{Normal}
use Rattle.bac_values.specs.declared.reliability.Reliability.TheVariants.{NoFaultDetected}
use Rattle.algorithm_rules.specs.declared.table.Algorithm.{Algorithm}
use Rattle.event_machine.specs.AlarmRecord.{Acked, Entered, Mark, marks_of}
use Rattle.event_machine.specs.Points.{Incident, Point}
use Rattle.event_machine.specs.Summary.{alarm_of}
use Rattle.bac_tags.specs.Writing.{written_bits, written_enumerated, written_unsigned}
use Rattle.event_log.specs.Log.{EventLogState}
use Rattle.event_services.specs.Information.{written_moment}
use Rattle.notify_class.specs.declared.class_site.ClassSite.{ClassSite}
use Rattle.object_table.specs.Rows.{row_of}
use Rattle.enrollment.specs.Enrollments.{site_of}
use Rattle.enrollment.specs.Objects.{reliability_at}
use Rattle.alarm_core.specs.Devices.{listed_class}
use Rattle.alarm_core.specs.Found.{alarm_in}
use Rattle.alarm_core.specs.Logs.{log_in}
use Rattle.alarm_core.specs.State.{CoreState}
use Rattle.profile_laws.specs.FieldRefusals.{is_out_of_service}
use Rattle.profile_laws.specs.ManyLaws.{read_of_one}
use Rattle.profile_laws.specs.PropertyTables.{property_of}
use Rattle.profile_laws.specs.ReadBack.{IsReadAs}

-- where the object has the property, the whole of it is read as these octets
abbrev pub IsToldAs : CoreState → ObjectIdData → ℕ → List ℕ → Type 0
IsToldAs state object property octets = IsSome (property_of state object property) → IsReadAs state (read_of_one object property None) octets

-- where the object has the property, an array of these elements: the whole, their number at index 0, and each by its place, from 1
pub record AreToldAs (state : CoreState) (object : ObjectIdData) (property : ℕ) (elements : List (List ℕ)) : Type 0 where
  pub whole : IsToldAs state object property (flat_map (λ octets. octets) elements)
  pub number : IsSome (property_of state object property) → IsReadAs state (read_of_one object property (Some 0)) (written_unsigned None (length elements))
  pub each : IsSome (property_of state object property) → (before : ℕ) (octets : List ℕ) → slice_get elements before ≡ Some octets → IsReadAs state (read_of_one object property (Some (suc before))) octets

-- Status_Flags (12.8 and 12.12): in alarm where the event state isn't NORMAL; in fault where the reliability isn't NO_FAULT_DETECTED; overridden never; and out of service as a value object is, and an enrollment never
abbrev pub status_flags : CoreState → ObjectIdData → List Bool
status_flags state object =
    not (is_normal (alarm_in state object).state)
    ∷ not (number_of_reliability (reliability_at object state.values) == number_of_reliability NoFaultDetected)
    ∷ false
    ∷ (is_none (site_of object state.values.enrollments) && is_out_of_service (row_of object state.values.rows))
    ∷ []

-- What a state tells of the object's alarm (12.8 and 12.12), of a class of the site (12.21) and of a log (12.27).
pub record TellsTheState : Type 0 where
  pub event_state : (state : CoreState) (object : ObjectIdData) → IsToldAs state object event_state_property (written_enumerated None (number_of_state (alarm_in state object).state))
  pub acked_transitions : (state : CoreState) (object : ObjectIdData) → IsToldAs state object acked_transitions_property (written_bits None (string_of_flags (alarm_in state object).acked))
  pub status : (state : CoreState) (object : ObjectIdData) → IsToldAs state object status_flags_property (written_bits None (string_of_flags (status_flags state object)))
  pub event_time_stamps : (state : CoreState) (object : ObjectIdData) → AreToldAs state object event_time_stamps_property (map written_moment (alarm_in state object).stamps)
  pub priority : (state : CoreState) (object : ObjectIdData) (listed : ClassSite) → listed_class object state.site.classes ≡ Some listed → AreToldAs state object priority_property (map (written_unsigned None) listed.class.priority)
  pub total_record_count : (state : CoreState) (object : ObjectIdData) (log : EventLogState) → log_in object state.logs ≡ Some log → IsToldAs state object total_record_count_property (written_unsigned None log.total)

-- the state that was entered last, and NORMAL where none was
abbrev pub last_entered : List Mark → EventState
last_entered [] = Normal
last_entered (Entered point state ∷ older) = state
last_entered (Acked transition ∷ older) = last_entered older

-- After any course of an object, the event state of its alarm is the one that it entered last.
abbrev pub StatesWereEntered : Type 0
StatesWereEntered = (algorithm : Algorithm) (first : Point) (later : List Incident) → (alarm_of algorithm first later).state ≡ last_entered (marks_of algorithm first later)
