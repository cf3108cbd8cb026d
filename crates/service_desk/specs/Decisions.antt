-- What becomes of an input, by the state of the core alone (ANSI/ASHRAE 135-2020, 5.4.5). What becomes of a request is said service by service, in a file for each.
use Rattle.std.specs.Prelude.{◌≡◌, ℕ, max, ◌==◌, ◌&&◌, Bool, true, false, if◌then◌else◌, Option, Some, None, is_none, Result, Ok, Err, List, [], ◌∷◌, drop}
use Rattle.bac_values.specs.Address.{PeerData}
use Rattle.bac_values.specs.Identifier.{ObjectIdData}
use Rattle.bac_values.specs.Pdus.{abort_pdu, error_pdu, reject_pdu, simple_ack_pdu}
use Rattle.bac_values.specs.Reasons.{segmentation_not_supported_reason, unrecognized_service_reason}
use Rattle.bac_values.specs.Services.{who_is_service}
use Rattle.bac_values.specs.declared.input.Input.{Input}
use Rattle.bac_values.specs.declared.input.Input.TheVariants.{Tick, Pump, Set, Fault, Datagram}
use Rattle.bac_values.specs.declared.input.SetFault.{SetFault}
use Rattle.bac_values.specs.declared.input.SetFault.TheVariants.{WrongKind}
use Rattle.bvlc_npdu.specs.declared.reading.Incoming.{Incoming}
use Rattle.bvlc_npdu.specs.ReadingSteps.{incoming_at}
use Rattle.apdu_frame.specs.declared.apdu.Apdu.{Apdu}
use Rattle.apdu_frame.specs.declared.apdu.Apdu.TheVariants.{Request, Segmented, Unconfirmed, SimpleAck, Error as ErrorAnswer, Reject as RejectAnswer, Abort as AbortAnswer}
use Rattle.apdu_frame.specs.ReadingSteps.{apdu_of}
use Rattle.object_table.specs.declared.change.Change.{Change}
use Rattle.object_table.specs.Rows.{row_of}
use Rattle.object_table.specs.Verdicts.{checked_fault, checked_set}
use Rattle.outbox.specs.Outboxes.{is_idle}
use Rattle.alarm_core.specs.declared.event.Act.TheVariants.{Pump as Pumped}
use Rattle.alarm_core.specs.declared.event.Event.{Event}
use Rattle.alarm_core.specs.Allowed.{IsAllowed}
use Rattle.alarm_core.specs.declared.site.Site.{Site}
use Rattle.alarm_core.specs.Found.{is_other_object}
use Rattle.alarm_core.specs.History.{StateTransition, raised, tick_at}
use Rattle.alarm_core.specs.CoreSteps.{next_transitions}
use Rattle.alarm_core.specs.State.{CoreState}
use Rattle.service_desk.specs.declared.decision.Decision.{Decision}
use Rattle.service_desk.specs.declared.decision.Decision.TheVariants.{Ignore, Idle, Refuse, Reply, Enter}
use Rattle.service_desk.specs.declared.service.Service.TheVariants.{AcknowledgeAlarm, GetAlarmSummary, GetEnrollmentSummary, AddListElement, RemoveListElement, ReadProperty, ReadPropertyMultiple, WriteProperty, ReadRange, GetEventInformation}
use Rattle.service_desk.specs.declared.service.Service.{Service}
use Rattle.service_desk.specs.Requesters.{requester_of, RequesterData}
use Rattle.service_desk.specs.Services.{service_of}
use Rattle.service_desk.specs.Replies.{abort_to, reject}
use Rattle.service_desk.specs.AcknowledgeAlarm.{acknowledge_decision}
use Rattle.service_desk.specs.ListDecisions.{list_decision}
use Rattle.service_desk.specs.SummaryDecisions.{alarm_summary_decision, enrollment_summary_decision, many_decision}
use Rattle.service_desk.specs.ReadProperty.{read_decision}
use Rattle.service_desk.specs.WriteProperty.{write_at, write_decision}
use Rattle.service_desk.specs.Ranges.{range_decision}
use Rattle.service_desk.specs.Information.{information_decision}
use Rattle.service_desk.specs.WhoIs.{who_is_decision}
use Rattle.service_desk.specs.NotificationAnswers.{answer_decision, named_answer_decision}

-- a tick is an event where some object would move
abbrev pub tick_with : List StateTransition → ℕ → Decision
tick_with [] moment = Idle
tick_with (transition ∷ transitions) moment = Enter (tick_at moment) None None

abbrev pub tick_decision : CoreState → ℕ → Decision
tick_decision state moment = tick_with (next_transitions (raised state.last_moment (tick_at moment)) state) moment

-- how many evaluations it takes to decide on an input: as a tick is looked at, that of the object that would move first, where one would
abbrev pub evaluations_before : List StateTransition → ℕ
evaluations_before [] = 0
evaluations_before (transition ∷ transitions) = 1

abbrev pub evaluations_deciding : CoreState → Input → ℕ → ℕ
evaluations_deciding state Tick moment = evaluations_before (next_transitions (raised state.last_moment (tick_at moment)) state)
evaluations_deciding state input moment = 0

-- a pump is an event where a notification would be sent or finished
abbrev pub pump_at : ℕ → Event
pump_at moment = record { moment = moment; act = Pumped }

abbrev pub pump_decision : CoreState → ℕ → Decision
pump_decision state moment = if is_idle (max moment state.last_moment) state.outbox then Idle else Enter (pump_at moment) None None

-- what a value or a fault from the field comes to
abbrev pub field_decision : ℕ → Result Change SetFault → Decision
field_decision moment (Err why) = Refuse why
field_decision moment (Ok change) = Enter (write_at moment change) None None

-- whether an object is of the site and has no value
abbrev pub has_no_value : CoreState → ObjectIdData → Bool
has_no_value state object = is_none (row_of object state.values.rows) && is_other_object state.site object

-- such an object is of the wrong kind
abbrev pub by_kind : CoreState → ObjectIdData → Result Change SetFault → Result Change SetFault
by_kind state object checked = if has_no_value state object then Err WrongKind else checked

-- a confirmed request, by its service
abbrev pub service_decision : CoreState → ℕ → RequesterData → List ℕ → Option Service → Decision
service_decision state moment requester parameters (Some AcknowledgeAlarm) = acknowledge_decision state moment requester parameters
service_decision state moment requester parameters (Some GetAlarmSummary) = alarm_summary_decision state requester parameters
service_decision state moment requester parameters (Some GetEnrollmentSummary) = enrollment_summary_decision state requester parameters
service_decision state moment requester parameters (Some AddListElement) = list_decision state moment requester true parameters
service_decision state moment requester parameters (Some RemoveListElement) = list_decision state moment requester false parameters
service_decision state moment requester parameters (Some ReadProperty) = read_decision state requester parameters
service_decision state moment requester parameters (Some ReadPropertyMultiple) = many_decision state requester parameters
service_decision state moment requester parameters (Some WriteProperty) = write_decision state moment requester parameters
service_decision state moment requester parameters (Some ReadRange) = range_decision state requester parameters
service_decision state moment requester parameters (Some GetEventInformation) = information_decision state requester parameters
service_decision state moment requester parameters None = Reply (reject requester unrecognized_service_reason)

abbrev pub request_decision : CoreState → ℕ → RequesterData → List ℕ → Decision
request_decision state moment requester parameters = service_decision state moment requester parameters (service_of requester.service)

-- an unconfirmed request, by its service
abbrev pub unconfirmed_decision : Site → PeerData → ℕ → List ℕ → Decision
unconfirmed_decision site peer service parameters = if service == who_is_service then who_is_decision site peer parameters else Ignore

-- an APDU, by its header
abbrev pub apdu_decision : CoreState → ℕ → PeerData → List ℕ → Apdu → Decision
apdu_decision state moment peer octets (Request max_apdu invoke service start) = request_decision state moment (requester_of peer max_apdu invoke service) (drop start octets)
apdu_decision state moment peer octets (Segmented invoke) = Reply (abort_to peer invoke segmentation_not_supported_reason)
apdu_decision state moment peer octets (Unconfirmed service start) = unconfirmed_decision state.site peer service (drop start octets)
apdu_decision state moment peer octets (SimpleAck invoke service) = named_answer_decision state moment peer invoke service simple_ack_pdu
apdu_decision state moment peer octets (ErrorAnswer invoke service) = named_answer_decision state moment peer invoke service error_pdu
apdu_decision state moment peer octets (RejectAnswer invoke) = answer_decision state moment peer invoke reject_pdu
apdu_decision state moment peer octets (AbortAnswer invoke) = answer_decision state moment peer invoke abort_pdu
apdu_decision state moment peer octets header = Ignore

abbrev pub incoming_decision : CoreState → ℕ → List ℕ → Option Incoming → Decision
incoming_decision state moment octets None = Ignore
incoming_decision state moment octets (Some incoming) =
    apdu_decision state moment incoming.peer (drop incoming.start octets) (apdu_of (drop incoming.start octets))

-- what becomes of an input at a moment
abbrev pub decision_on : CoreState → Input → ℕ → Decision
decision_on state Tick moment = tick_decision state moment
decision_on state Pump moment = pump_decision state moment
decision_on state (Set object value) moment = field_decision moment (by_kind state object (checked_set state.values.rows object value))
decision_on state (Fault object reliability) moment = field_decision moment (by_kind state object (checked_fault state.values.rows object reliability))
decision_on state (Datagram peer octets) moment = incoming_decision state moment octets (incoming_at peer octets)

-- an event that a decision enters may come after the state, at the moment
abbrev pub EntersAllowed : CoreState → ℕ → Decision → Type 0
EntersAllowed state moment (Enter event reply full) = (event.moment ≡ moment) × IsAllowed state event.act
EntersAllowed state moment decision = Unit {0}
