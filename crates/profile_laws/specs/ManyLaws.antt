-- What ReadPropertyMultiple, GetAlarmSummary and GetEnrollmentSummary are answered with (ANSI/ASHRAE 135-2020, 15.7, 13.10 and 13.11), by what ReadProperty and GetEventInformation are (15.5 and 13.12), and by the tables of properties.
use Rattle.std.specs.Prelude.{◌≡◌, ◌≢◌, ◌↔◌, ◌<◌, ℕ, ◌==◌, ◌&&◌, Bool, not, Option, Some, None, IsSome, is_some, List, [], ◌∷◌, ◌++◌, map, filter, AllPairs, Contains}
use Rattle.std.specs.List.{flat_map}
use Rattle.bac_values.specs.BitString.{string_of_flags}
use Rattle.bac_values.specs.Errors.{property_is_not_an_array_error, unknown_object_error}
use Rattle.bac_values.specs.EventStates.{is_normal, number_of_state}
use Rattle.bac_values.specs.EventTypes.{alarm_notify_type}
use Rattle.bac_values.specs.Identifier.{ObjectIdData}
use Rattle.bac_values.specs.Properties.{all_properties}
use Rattle.bac_values.specs.Services.{get_alarm_summary_service, get_enrollment_summary_service, read_property_multiple_service}
use Rattle.bac_values.specs.declared.event_state.EventState.{EventState}
use Rattle.bac_values.specs.declared.service_error.ServiceError.{ServiceError}
use Rattle.bac_tags.specs.ParameterWriting.{written_enclosed}
use Rattle.bac_tags.specs.Parameters.{SpellsEach}
use Rattle.bac_tags.specs.Writing.{written_bits, written_enumerated, written_object, written_unsigned}
use Rattle.event_services.specs.declared.information.EventSummary.{EventSummary}
use Rattle.property_services.specs.declared.requests.ReadRequest.{ReadRequest}
use Rattle.property_services.specs.Requests.{SpellsReadProperty}
use Rattle.object_table.specs.Rows.{Ascends}
use Rattle.summaries.specs.declared.filter.Filter.{Filter}
use Rattle.summaries.specs.declared.part.Part.TheVariants.{Octets}
use Rattle.summaries.specs.declared.requested.PropertyAsked.{PropertyAsked}
use Rattle.summaries.specs.Many.{as_part, object_result, results, written_result}
use Rattle.summaries.specs.ManyRequests.{ObjectAsked, SpellsReadMany}
use Rattle.summaries.specs.Requests.{SpellsFilter}
use Rattle.alarm_core.specs.declared.event.Event.{Event}
use Rattle.alarm_core.specs.Allowed.{Represents}
use Rattle.alarm_core.specs.Information.{active_behind, summary_of}
use Rattle.alarm_core.specs.Sites.{IsSite}
use Rattle.alarm_core.specs.State.{CoreState}
use Rattle.service_desk.specs.declared.decision.Decision.{Decision}
use Rattle.service_desk.specs.declared.decision.Decision.TheVariants.{Reply}
use Rattle.service_desk.specs.Requesters.{requester_of}
use Rattle.service_desk.specs.Replies.{complex_ack}
use Rattle.profile_laws.specs.ErrorTables.{AreOctets, Asker, HasNoError, decision_for, error_to, first_error}
use Rattle.profile_laws.specs.PropertyErrors.{is_unknown_object, read_errors}
use Rattle.profile_laws.specs.PropertyTables.{property_of}
use Rattle.profile_laws.specs.ReadBack.{IsReadAs}

-- a request is answered with these octets as its result, unless they are more than the asker takes (5.4.5.3)
abbrev pub HasResult : Asker → ℕ → List ℕ → Decision → Type 0
HasResult asker service octets decision = decision ≡ Reply (complex_ack (requester_of asker.peer asker.max_apdu asker.invoke service) octets)

-- ---- ReadPropertyMultiple (15.7)

-- a ReadProperty of the same property of the same object, with the same index
abbrev pub read_of_one : ObjectIdData → ℕ → Option ℕ → ReadRequest
read_of_one object property index = record { object = object; property = record { 0 = property }; index = index }

-- the octets tell what the read is answered with: the error, if one applies to it, and else what it is read as
abbrev pub IsResult : CoreState → ReadRequest → Option ServiceError → List ℕ → Type 0
IsResult state read (Some error) octets = octets ≡ written_result read.property.0 read.index (as_part error)
IsResult state read None octets = (value : List ℕ) × (octets ≡ written_result read.property.0 read.index (Octets value)) × IsReadAs state read value

-- all properties of an object are those that it has by the table of its type, by ascending number, each with what it is read as
pub record AllIsTheTable (state : CoreState) (object : ObjectIdData) (octets : List ℕ) : Type 0 where
  pub numbers : List ℕ
  pub ascending : AllPairs (λ earlier later. earlier < later) numbers
  pub table : (number : ℕ) → Contains numbers number ↔ IsSome (property_of state object number)
  pub each : SpellsEach (λ octets number. IsResult state (read_of_one object number None) None octets) octets numbers

-- the errors of ALL in their order: there is no such object; and an index is given, where all properties are no array
abbrev pub all_errors : CoreState → ObjectIdData → Option ℕ → List (Bool × ServiceError)
all_errors state object index = (is_unknown_object state object, unknown_object_error) ∷ (is_some index, property_is_not_an_array_error) ∷ []

abbrev pub IsAll : CoreState → ObjectIdData → Option ℕ → Option ServiceError → List ℕ → Type 0
IsAll state object index (Some error) octets = octets ≡ written_result all_properties index (as_part error)
IsAll state object index None octets = AllIsTheTable state object octets

-- what is told of a property that is asked: the first error of its table whose condition holds, and its octets where none holds
pub record IsTold (state : CoreState) (object : ObjectIdData) (octets : List ℕ) (asked : PropertyAsked) : Type 0 where
  pub one : asked.property ≢ all_properties →
      let read = read_of_one object asked.property asked.index in IsResult state read (first_error (read_errors state read)) octets
  pub all : asked.property ≡ all_properties → IsAll state object asked.index (first_error (all_errors state object asked.index)) octets

-- what is told of an object: its identifier, and between tags what is told of each property that is asked, in their order
pub record IsToldOf (state : CoreState) (octets : List ℕ) (asked : ObjectAsked) : Type 0 where
  pub inside : List ℕ
  pub parts : octets ≡ written_object (Some object_result) asked.object ++ written_enclosed results inside
  pub each : SpellsEach (IsTold state asked.object) inside asked.properties

-- In a state that stands for a history: whatever octets are a request of ReadPropertyMultiple, its result is what is told of each object that is asked, in their order.
abbrev pub EachPartIsARead : Type 0
EachPartIsARead =
    (state : CoreState) (history : List Event) → Represents state history →
    (moment : ℕ) (asker : Asker) (parameters : List ℕ) (asked : List ObjectAsked) → AreOctets parameters → SpellsReadMany parameters asked →
    (octets : List ℕ) × HasResult asker read_property_multiple_service octets (decision_for state moment asker read_property_multiple_service parameters) × SpellsEach (IsToldOf state) octets asked

-- Each property that it asks for can be asked by a ReadProperty, so it is told of by the answer to a request.
abbrev pub EachCanBeRead : Type 0
EachCanBeRead =
    (parameters : List ℕ) (asked : List ObjectAsked) (group : ObjectAsked) (one : PropertyAsked) → AreOctets parameters → SpellsReadMany parameters asked →
    Contains asked group → Contains group.properties one →
    (octets : List ℕ) × AreOctets octets × SpellsReadProperty octets (read_of_one group.object one.property one.index)

-- ---- GetAlarmSummary (13.10) and GetEnrollmentSummary (13.11)

-- there is an answer at once, and it is no Error (20.1.7), of whatever class and code
abbrev pub IsNoErrorAtOnce : Asker → ℕ → Decision → Type 0
IsNoErrorAtOnce asker service (Reply send) = (error : ServiceError) → send ≢ error_to asker service error
IsNoErrorAtOnce asker service decision = ⊥

-- They are answered with no Error in any state, whatever their octets are, and with no Reject either where these are their parameters; GetAlarmSummary has none.
pub record SummariesHaveNoErrors : Type 0 where
  pub alarms : (state : CoreState) (moment : ℕ) (asker : Asker) (parameters : List ℕ) →
      IsNoErrorAtOnce asker get_alarm_summary_service (decision_for state moment asker get_alarm_summary_service parameters)
  pub enrollments : (state : CoreState) (moment : ℕ) (asker : Asker) (parameters : List ℕ) →
      IsNoErrorAtOnce asker get_enrollment_summary_service (decision_for state moment asker get_enrollment_summary_service parameters)
  pub asked_alarms : (state : CoreState) (moment : ℕ) (asker : Asker) →
      HasNoError asker get_alarm_summary_service (decision_for state moment asker get_alarm_summary_service [])
  pub asked_enrollments : (state : CoreState) (moment : ℕ) (asker : Asker) (parameters : List ℕ) (asked : Filter) → AreOctets parameters → SpellsFilter parameters asked →
      HasNoError asker get_enrollment_summary_service (decision_for state moment asker get_enrollment_summary_service parameters)

-- what GetEventInformation tells of the active objects, in as many answers as it takes (13.12)
abbrev pub active_summaries : CoreState → List EventSummary
active_summaries state = map (summary_of state) (active_behind None state)

-- Notify_Type is ALARM, and the event state isn't NORMAL
abbrev pub is_alarm : EventSummary → Bool
is_alarm summary = summary.notify == alarm_notify_type && not (is_normal summary.state)

abbrev pub alarms_among : CoreState → List EventSummary
alarms_among state = filter is_alarm (active_summaries state)

-- the object, its event state and Acked_Transitions
abbrev pub written_alarm_summary : EventSummary → List ℕ
written_alarm_summary summary = written_object None summary.object ++ (written_enumerated None (number_of_state summary.state) ++ written_bits None (string_of_flags summary.acked))

-- what an enrollment summary tells of an object
pub record EnrollmentSummary : Type 0 where
  pub object : ObjectIdData
  pub event_type : ℕ
  pub state : EventState
  pub priority : ℕ
  pub class : ℕ

abbrev pub written_enrollment_summary : EnrollmentSummary → List ℕ
written_enrollment_summary summary =
    written_object None summary.object
    ++ (written_enumerated None summary.event_type
    ++ (written_enumerated None (number_of_state summary.state) ++ (written_unsigned None summary.priority ++ written_unsigned None summary.class)))

-- An alarm summary tells of just those active objects of GetEventInformation that are in alarm; and its objects, and those of an enrollment summary, ascend by their identifiers, so that each is told of once.
pub record SummariesAscend : Type 0 where
  pub alarms : (state : CoreState) (moment : ℕ) (asker : Asker) →
      HasResult asker get_alarm_summary_service (flat_map written_alarm_summary (alarms_among state)) (decision_for state moment asker get_alarm_summary_service [])
  pub ascending : (state : CoreState) (history : List Event) → IsSite state.site → Represents state history → Ascends (map (λ (summary : EventSummary). summary.object) (alarms_among state))
  pub enrollments : (state : CoreState) (history : List Event) → IsSite state.site → Represents state history →
      (moment : ℕ) (asker : Asker) (parameters : List ℕ) (asked : Filter) → AreOctets parameters → SpellsFilter parameters asked →
      (summaries : List EnrollmentSummary)
      × HasResult asker get_enrollment_summary_service (flat_map written_enrollment_summary summaries) (decision_for state moment asker get_enrollment_summary_service parameters)
      × Ascends (map (λ (summary : EnrollmentSummary). summary.object) summaries)
