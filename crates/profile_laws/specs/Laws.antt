-- Laws above the decisions on requests.
use Rattle.std.specs.Prelude.{ℕ, Bool, List}
use Rattle.bac_values.specs.Services.{acknowledge_alarm_service, read_property_service, read_range_service, write_property_service}
use Rattle.event_services.specs.declared.acknowledge.AckRequest.{AckRequest}
use Rattle.event_services.specs.Acknowledgements.{SpellsAcknowledgement}
use Rattle.property_services.specs.declared.requests.RangeRequest.{RangeRequest}
use Rattle.property_services.specs.declared.requests.ReadRequest.{ReadRequest}
use Rattle.property_services.specs.declared.requests.WriteRequest.{WriteRequest}
use Rattle.property_services.specs.Requests.{SpellsReadProperty, SpellsReadRange, SpellsWriteProperty}
use Rattle.list_binding.specs.Requests.{ListAsked, SpellsListRequest}
use Rattle.alarm_core.specs.Allowed.{Represents}
use Rattle.alarm_core.specs.declared.event.Event.{Event}
use Rattle.alarm_core.specs.State.{CoreState}
use Rattle.profile_laws.specs.AcknowledgementErrors.{acknowledgement_errors}
use Rattle.profile_laws.specs.ErrorTables.{AreOctets, Asker, IsAnsweredBy, decision_for, first_error}
use Rattle.profile_laws.specs.ListErrors.{IsListAnswered, editing_service, list_errors}
use Rattle.profile_laws.specs.PropertyErrors.{read_errors, write_errors}
use Rattle.profile_laws.specs.RangeErrors.{range_errors}

-- In a state that stands for a history: whatever octets are a request of WriteProperty (15.9), it is answered by the table of its errors; and so of ReadProperty (15.5), of ReadRange (15.8), of AcknowledgeAlarm (13.5), and of AddListElement (15.1) and RemoveListElement (15.2), whose elements are looked at where no error of that table applies.
abbrev pub AnswersWritesInTurn : Type 0
AnswersWritesInTurn =
    (state : CoreState) (history : List Event) → Represents state history →
    (moment : ℕ) (asker : Asker) (parameters : List ℕ) (request : WriteRequest) → AreOctets parameters → SpellsWriteProperty parameters request →
    IsAnsweredBy asker write_property_service (first_error (write_errors state request)) (decision_for state moment asker write_property_service parameters)

abbrev pub AnswersReadsInTurn : Type 0
AnswersReadsInTurn =
    (state : CoreState) (history : List Event) → Represents state history →
    (moment : ℕ) (asker : Asker) (parameters : List ℕ) (request : ReadRequest) → AreOctets parameters → SpellsReadProperty parameters request →
    IsAnsweredBy asker read_property_service (first_error (read_errors state request)) (decision_for state moment asker read_property_service parameters)

abbrev pub AnswersRangesInTurn : Type 0
AnswersRangesInTurn =
    (state : CoreState) (history : List Event) → Represents state history →
    (moment : ℕ) (asker : Asker) (parameters : List ℕ) (request : RangeRequest) → AreOctets parameters → SpellsReadRange parameters request →
    IsAnsweredBy asker read_range_service (first_error (range_errors state request)) (decision_for state moment asker read_range_service parameters)

abbrev pub AnswersAcknowledgementsInTurn : Type 0
AnswersAcknowledgementsInTurn =
    (state : CoreState) (history : List Event) → Represents state history →
    (moment : ℕ) (asker : Asker) (parameters : List ℕ) (request : AckRequest) → AreOctets parameters → SpellsAcknowledgement parameters request →
    IsAnsweredBy asker acknowledge_alarm_service (first_error (acknowledgement_errors state request)) (decision_for state moment asker acknowledge_alarm_service parameters)

abbrev pub AnswersListsInTurn : Type 0
AnswersListsInTurn =
    (state : CoreState) (history : List Event) → Represents state history →
    (moment : ℕ) (asker : Asker) (adding : Bool) (parameters : List ℕ) (asked : ListAsked) → AreOctets parameters → SpellsListRequest parameters asked →
    IsListAnswered state asker adding asked (first_error (list_errors state asked)) (decision_for state moment asker (editing_service adding) parameters)
