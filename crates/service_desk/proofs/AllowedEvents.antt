-- What is decided on the state of a history is allowed after it.
use Rattle.std.proofs.Common.{◌≡◌, ◌==◌, ℕ, max, Bool, true, false, Option, Some, None, Result, Ok, Err, List, [], ◌∷◌, drop, if◌then◌else◌, refl}
use Rattle.bac_values.specs.Address.{PeerData}
use Rattle.bac_values.specs.Identifier.{ObjectIdData}
use Rattle.bac_values.specs.Pdus.{abort_pdu, error_pdu, reject_pdu, simple_ack_pdu}
use Rattle.bac_values.specs.Services.{confirmed_event_notification_service, who_is_service}
use Rattle.bac_values.specs.declared.input.Input.{Input}
use Rattle.bac_values.specs.declared.input.Input.TheVariants.{Tick, Pump, Set, Fault, Datagram}
use Rattle.bac_values.specs.declared.input.SetFault.{SetFault}
use Rattle.bac_values.specs.declared.input.SetFault.TheVariants.{WrongKind}
use Rattle.bac_values.specs.declared.value.Value.{Value}
use Rattle.bvlc_npdu.specs.declared.reading.Incoming.{Incoming}
use Rattle.bvlc_npdu.specs.ReadingSteps.{incoming_at}
use Rattle.apdu_frame.specs.declared.apdu.Apdu.{Apdu}
use Rattle.apdu_frame.specs.declared.apdu.Apdu.TheVariants.{Request, Segmented, Unconfirmed, SimpleAck, Error as ErrorAnswer, Reject as RejectAnswer, Abort as AbortAnswer, Other}
use Rattle.apdu_frame.specs.ReadingSteps.{apdu_of}
use Rattle.bac_tags.specs.declared.malformed.Malformed.{Malformed}
use Rattle.event_machine.specs.Finding.{Finding, NoSuchObject, WithoutAlarm, WithAlarm}
use Rattle.event_services.specs.declared.acknowledge.AckRequest.{AckRequest}
use Rattle.event_services.specs.AcknowledgementSteps.{acknowledge_request_of}
use Rattle.event_services.specs.InformationSteps.{information_request_of}
use Rattle.property_services.specs.declared.requests.ReadRequest.{ReadRequest}
use Rattle.property_services.specs.declared.requests.WriteRequest.{WriteRequest}
use Rattle.property_services.specs.ReadingSteps.{read_property_of, who_is_of, write_property_of}
use Rattle.ack_alarm.specs.Verdicts.{AcceptsAllowed, acknowledgement_verdict}
use Rattle.ack_alarm.proofs.Accepting.{accepts}
use Rattle.object_table.specs.declared.change.Change.{Change}
use Rattle.object_table.specs.declared.faults.WriteFault.{WriteFault}
use Rattle.object_table.specs.declared.faults.WriteFault.TheVariants as write_faults
use Rattle.object_table.specs.Verdicts.{checked_fault, checked_set}
use Rattle.outbox.specs.Outboxes.{has_in_flight, is_idle}
use Rattle.alarm_core.specs.declared.event.Act.TheVariants.{Edit, Write}
use Rattle.alarm_core.specs.declared.event.Event.{Event}
use Rattle.alarm_core.specs.declared.site.Site.{Site}
use Rattle.alarm_core.specs.Allowed.{IsAllowed, IsAnswer, IsHistory}
use Rattle.alarm_core.specs.Found.{found_in}
use Rattle.alarm_core.specs.History.{StateTransition, raised, tick_at}
use Rattle.alarm_core.specs.CoreSteps.{next_transitions}
use Rattle.alarm_core.specs.Reading.{write_of}
use Rattle.alarm_core.specs.Sites.{IsSite}
use Rattle.alarm_core.specs.State.{state_of, CoreState}
use Rattle.service_desk.specs.declared.decision.Decision.{Decision}
use Rattle.service_desk.specs.declared.decision.Decision.TheVariants.{Ignore, Idle, Reply, Enter}
use Rattle.service_desk.specs.declared.service.Service.{Service}
use Rattle.service_desk.specs.declared.service.Service.TheVariants.{AcknowledgeAlarm, GetAlarmSummary, GetEnrollmentSummary, AddListElement, RemoveListElement, ReadProperty, ReadPropertyMultiple, WriteProperty, ReadRange, GetEventInformation}
use Rattle.service_desk.specs.Requesters.{RequesterData, requester_of}
use Rattle.service_desk.specs.AcknowledgeAlarm.{acknowledge_with}
use Rattle.service_desk.specs.ReadProperty.{read_with}
use Rattle.service_desk.specs.WriteProperty.{change_decision, write_with}
use Rattle.service_desk.specs.Services.{service_of}
use Rattle.service_desk.specs.Information.{information_with}
use Rattle.service_desk.specs.WhoIs.{names_device, i_am, who_is_decision}
use Rattle.service_desk.specs.NotificationAnswers.{answer_at}
use Rattle.service_desk.specs.Decisions.{EntersAllowed, apdu_decision, by_kind, decision_on, field_decision, has_no_value, incoming_decision, pump_at, service_decision, tick_with, unconfirmed_decision}
use Rattle.bac_values.specs.Reasons.{other_reason}
use Rattle.notify_class.specs.Recipients.{DestinationData}
use Rattle.list_binding.specs.Edits.{EditAnswer, are_same}
use Rattle.list_binding.specs.Requests.{ListAsked}
use Rattle.list_binding.specs.RequestSteps.{list_request_of}
use Rattle.service_desk.specs.ListDecisions.{edit_at, edited_decision, list_answer, list_in, list_with}
use Rattle.service_desk.specs.Replies.{abort, simple_ack}
use Rattle.summaries.specs.ManyRequests.{ObjectAsked}
use Rattle.summaries.specs.ManySteps.{groups_of}
use Rattle.summaries.specs.RequestSteps.{enrollment_request_of}
use Rattle.summaries.specs.declared.filter.Filter.{Filter}
use Rattle.service_desk.specs.SummaryDecisions.{alarm_summary_decision, enrollment_summary_with, many_with}
use Rattle.service_desk.proofs.AllowedEdits.{AllowsEdits, edits_allowed}
use Rattle.service_desk.proofs.AllowedWrites.{fault_allowed, set_allowed, write_allowed}
use Rattle.service_desk.proofs.Entering.{verdict_enters}

-- of two decisions
of_two : (P : Decision → Type 0) (test : Bool) (first second : Decision) → P first → P second → P (if test then first else second)
of_two P true first second p q = p
of_two P false first second p q = q

-- ---- what comes by time, and from the field

tick_enters : (state : CoreState) (transitions : List StateTransition) (moment : ℕ) → EntersAllowed state moment (tick_with transitions moment)
tick_enters state [] moment = tt
tick_enters state (transition ∷ transitions) moment = (refl, tt)

of_kind : (none : Bool) (checked : Result Change SetFault) (change : Change) → (if none then Err WrongKind else checked) ≡ Ok change → checked ≡ Ok change
of_kind true checked change e = absurd cc
of_kind false checked change e = e

field_enters : (state : CoreState) (moment : ℕ) (checked : Result Change SetFault) → ((change : Change) → checked ≡ Ok change → IsAllowed state (Write change)) → EntersAllowed state moment (field_decision moment checked)
field_enters state moment (Err why) allowed = tt
field_enters state moment (Ok change) allowed = (refl, allowed change refl)

-- ---- what a datagram asks for

module _ (state : CoreState) (moment : ℕ) where
  abbrev Enters : Decision → Type 0
  Enters decision = EntersAllowed state moment decision

  judged : (found : Finding) (request : AckRequest) → AcceptsAllowed found (acknowledgement_verdict found request)
  judged NoSuchObject request transition named e = absurd cc
  judged WithoutAlarm request transition named e = absurd cc
  judged (WithAlarm alarm) request transition named e = accepts alarm request transition named e

  acknowledge_enters : (requester : RequesterData) (request : Result AckRequest Malformed) → Enters (acknowledge_with state moment requester request)
  acknowledge_enters requester (Err refusal) = tt
  acknowledge_enters requester (Ok request) =
      let found = found_in state request.object in
      verdict_enters state moment requester request.object (acknowledgement_verdict found request) (judged found request)

  read_enters : (requester : RequesterData) (request : Result ReadRequest Malformed) → Enters (read_with state requester request)
  read_enters requester (Err refusal) = tt
  read_enters requester (Ok request) = tt

  change_enters : (requester : RequesterData) (answer : Result Change WriteFault) → ((change : Change) → answer ≡ Ok change → IsAllowed state (Write change)) → Enters (change_decision moment requester answer)
  change_enters requester (Ok change) allowed = (refl, allowed change refl)
  change_enters requester (Err (write_faults.Error class code)) allowed = tt
  change_enters requester (Err write_faults.NoMemory) allowed = tt

  information_enters : (requester : RequesterData) (request : Result (Option ObjectIdData) Malformed) → Enters (information_with state requester request)
  information_enters requester (Err refusal) = tt
  information_enters requester (Ok last) = tt

  alarm_summary_enters : (requester : RequesterData) (parameters : List ℕ) → Enters (alarm_summary_decision state requester parameters)
  alarm_summary_enters requester [] = tt
  alarm_summary_enters requester (octet ∷ octets) = tt

  enrollment_summary_enters : (requester : RequesterData) (request : Result Filter Malformed) → Enters (enrollment_summary_with state requester request)
  enrollment_summary_enters requester (Err refusal) = tt
  enrollment_summary_enters requester (Ok filter) = tt

  many_enters : (requester : RequesterData) (request : Result (List ObjectAsked) Malformed) → Enters (many_with state requester request)
  many_enters requester (Err refusal) = tt
  many_enters requester (Ok groups) = tt

  answer_enters : (peer : PeerData) (invoke kind : ℕ) → IsAnswer kind → (waits : Bool) → has_in_flight peer invoke state.outbox ≡ waits →
      Enters (if waits then Enter (answer_at moment peer invoke kind) None None else Ignore)
  answer_enters peer invoke kind is true e = (refl, (is, e))
  answer_enters peer invoke kind is false e = tt

  unconfirmed_enters : (peer : PeerData) (service : ℕ) (parameters : List ℕ) → Enters (unconfirmed_decision state.site peer service parameters)
  unconfirmed_enters peer service parameters =
      of_two Enters (service == who_is_service) (who_is_decision state.site peer parameters) Ignore
      (of_two Enters (names_device (who_is_of parameters) state.site.device.instance) (Reply (i_am state.site peer)) Ignore tt tt) tt

  -- what a write makes is allowed
  abbrev AllowsWrites : Type 0
  AllowsWrites = (object : ObjectIdData) (number : ℕ) (index : Option ℕ) (value : Value) (change : Change) → write_of state object number index value ≡ Ok change → IsAllowed state (Write change)

  write_enters : AllowsWrites → (requester : RequesterData) (request : Result WriteRequest Malformed) → Enters (write_with state moment requester request)
  write_enters writes requester (Err refusal) = tt
  write_enters writes requester (Ok request) =
      change_enters requester (write_of state request.object request.property.0 request.index request.value)
      (λ change e. writes request.object request.property.0 request.index request.value change e)

  left_enters : (requester : RequesterData) (number : ℕ) (left : List DestinationData) (same : Bool) → (same ≡ false → IsAllowed state (Edit number left)) →
      Enters (if same then Reply (simple_ack requester) else Enter (edit_at moment number left) (Some (simple_ack requester)) (Some (abort requester other_reason)))
  left_enters requester number left true allowed = tt
  left_enters requester number left false allowed = (refl, allowed refl)

  edit_enters : (requester : RequesterData) (number : ℕ) (list : List DestinationData) (answer : EditAnswer) →
      ((left : List DestinationData) → answer ≡ Ok left → are_same left list ≡ false → IsAllowed state (Edit number left)) → Enters (edited_decision moment requester number list answer)
  edit_enters requester number list (Err refused) allowed = tt
  edit_enters requester number list (Ok left) allowed = left_enters requester number left (are_same left list) (λ other. allowed left refl other)

  list_enters : AllowsEdits state → (requester : RequesterData) (adding : Bool) (request : Result ListAsked Malformed) → Enters (list_with state moment requester adding request)
  list_enters edits requester adding (Err refusal) = tt
  list_enters edits requester adding (Ok asked) = edit_enters requester asked.object.instance (list_in state asked.object.instance) (list_answer state adding asked) (λ left e other. edits adding asked left e other)

  service_enters : AllowsWrites → AllowsEdits state → (requester : RequesterData) (parameters : List ℕ) (service : Option Service) → Enters (service_decision state moment requester parameters service)
  service_enters writes edits requester parameters (Some AcknowledgeAlarm) = acknowledge_enters requester (acknowledge_request_of parameters)
  service_enters writes edits requester parameters (Some GetAlarmSummary) = alarm_summary_enters requester parameters
  service_enters writes edits requester parameters (Some GetEnrollmentSummary) = enrollment_summary_enters requester (enrollment_request_of parameters)
  service_enters writes edits requester parameters (Some AddListElement) = list_enters edits requester true (list_request_of parameters)
  service_enters writes edits requester parameters (Some RemoveListElement) = list_enters edits requester false (list_request_of parameters)
  service_enters writes edits requester parameters (Some ReadProperty) = read_enters requester (read_property_of parameters)
  service_enters writes edits requester parameters (Some ReadPropertyMultiple) = many_enters requester (groups_of parameters)
  service_enters writes edits requester parameters (Some WriteProperty) = write_enters writes requester (write_property_of parameters)
  service_enters writes edits requester parameters (Some ReadRange) = tt
  service_enters writes edits requester parameters (Some GetEventInformation) = information_enters requester (information_request_of parameters)
  service_enters writes edits requester parameters None = tt

  named_enters : (peer : PeerData) (invoke service kind : ℕ) → IsAnswer kind →
      Enters (if service == confirmed_event_notification_service then (if has_in_flight peer invoke state.outbox then Enter (answer_at moment peer invoke kind) None None else Ignore) else Ignore)
  named_enters peer invoke service kind is =
      of_two Enters (service == confirmed_event_notification_service) _ Ignore (answer_enters peer invoke kind is (has_in_flight peer invoke state.outbox) refl) tt

  apdu_enters : AllowsWrites → AllowsEdits state → (peer : PeerData) (octets : List ℕ) (header : Apdu) → Enters (apdu_decision state moment peer octets header)
  apdu_enters writes edits peer octets (Request max_apdu invoke service start) = service_enters writes edits (requester_of peer max_apdu invoke service) (drop start octets) (service_of service)
  apdu_enters writes edits peer octets (Segmented invoke) = tt
  apdu_enters writes edits peer octets (Unconfirmed service start) = unconfirmed_enters peer service (drop start octets)
  apdu_enters writes edits peer octets (SimpleAck invoke service) = named_enters peer invoke service simple_ack_pdu refl
  apdu_enters writes edits peer octets (ErrorAnswer invoke service) = named_enters peer invoke service error_pdu refl
  apdu_enters writes edits peer octets (RejectAnswer invoke) = answer_enters peer invoke reject_pdu refl (has_in_flight peer invoke state.outbox) refl
  apdu_enters writes edits peer octets (AbortAnswer invoke) = answer_enters peer invoke abort_pdu refl (has_in_flight peer invoke state.outbox) refl
  apdu_enters writes edits peer octets Other = tt

  incoming_enters : AllowsWrites → AllowsEdits state → (octets : List ℕ) (incoming : Option Incoming) → Enters (incoming_decision state moment octets incoming)
  incoming_enters writes edits octets None = tt
  incoming_enters writes edits octets (Some incoming) = apdu_enters writes edits incoming.peer (drop incoming.start octets) (apdu_of (drop incoming.start octets))

-- an event that is entered after a history is allowed there
pub decision_enters : (site : Site) → IsSite site → (history : List Event) → IsHistory site history → (input : Input) (moment : ℕ) → EntersAllowed (state_of site history) moment (decision_on (state_of site history) input moment)
decision_enters site is history h Tick moment =
    let state = state_of site history in
    tick_enters state (next_transitions (raised state.last_moment (tick_at moment)) state) moment
decision_enters site is history h Pump moment =
    let state = state_of site history in
    of_two (EntersAllowed state moment) (is_idle (max moment state.last_moment) state.outbox) Idle (Enter (pump_at moment) None None) tt (refl, tt)
decision_enters site is history h (Set object value) moment =
    let state = state_of site history in
    let checked = checked_set state.values.rows object value in
    field_enters state moment (by_kind state object checked) (λ change e. set_allowed state object value change (of_kind (has_no_value state object) checked change e))
decision_enters site is history h (Fault object reliability) moment =
    let state = state_of site history in
    let checked = checked_fault state.values.rows object reliability in
    field_enters state moment (by_kind state object checked) (λ change e. fault_allowed state object reliability change (of_kind (has_no_value state object) checked change e))
decision_enters site is history h (Datagram peer octets) moment =
    incoming_enters (state_of site history) moment (write_allowed site is history) (edits_allowed site is history h) octets (incoming_at peer octets)
