-- Each confirmed request gets one reply.
use Rattle.std.proofs.Common.{ℕ, Bool, true, false, if◌then◌else◌, Option, Some, None, Result, Ok, Err, List, [], ◌∷◌, drop, refl}
use Rattle.bac_values.specs.Identifier.{ObjectIdData}
use Rattle.apdu_frame.specs.declared.apdu.Apdu.TheVariants.{Request, Segmented}
use Rattle.bac_tags.specs.declared.malformed.Malformed.{Malformed}
use Rattle.event_services.specs.declared.acknowledge.AckRequest.{AckRequest}
use Rattle.event_services.specs.AcknowledgementSteps.{acknowledge_request_of}
use Rattle.event_services.specs.InformationSteps.{information_request_of}
use Rattle.property_services.specs.declared.requests.ReadRequest.{ReadRequest}
use Rattle.property_services.specs.declared.requests.WriteRequest.{WriteRequest}
use Rattle.property_services.specs.ReadingSteps.{read_property_of, write_property_of}
use Rattle.ack_alarm.specs.declared.verdict.Verdict.{Verdict}
use Rattle.ack_alarm.specs.declared.verdict.Verdict.TheVariants.{Accept, Already, Error}
use Rattle.ack_alarm.specs.Verdicts.{acknowledgement_verdict}
use Rattle.object_table.specs.declared.change.Change.{Change}
use Rattle.object_table.specs.declared.faults.WriteFault.{WriteFault}
use Rattle.object_table.specs.declared.faults.WriteFault.TheVariants as write_faults
use Rattle.alarm_core.specs.Found.{found_in}
use Rattle.alarm_core.specs.Reading.{write_of}
use Rattle.alarm_core.specs.State.{CoreState}
use Rattle.service_desk.specs.declared.service.Service.{Service}
use Rattle.service_desk.specs.declared.service.Service.TheVariants.{AcknowledgeAlarm, GetAlarmSummary, GetEnrollmentSummary, AddListElement, RemoveListElement, ReadProperty, ReadPropertyMultiple, WriteProperty, ReadRange, GetEventInformation}
use Rattle.service_desk.specs.Requesters.{RequesterData, requester_of}
use Rattle.service_desk.specs.AcknowledgeAlarm.{acknowledge_with, verdict_decision}
use Rattle.service_desk.specs.ReadProperty.{read_with}
use Rattle.service_desk.specs.WriteProperty.{change_decision, write_with}
use Rattle.service_desk.specs.Information.{information_with}
use Rattle.service_desk.specs.Services.{service_of}
use Rattle.service_desk.specs.Decisions.{service_decision}
use Rattle.summaries.specs.ManyRequests.{ObjectAsked}
use Rattle.summaries.specs.ManySteps.{groups_of}
use Rattle.summaries.specs.RequestSteps.{enrollment_request_of}
use Rattle.summaries.specs.declared.filter.Filter.{Filter}
use Rattle.bac_values.specs.Reasons.{other_reason}
use Rattle.notify_class.specs.Recipients.{DestinationData}
use Rattle.list_binding.specs.Edits.{EditAnswer, are_same}
use Rattle.list_binding.specs.Requests.{ListAsked}
use Rattle.list_binding.specs.RequestSteps.{list_request_of}
use Rattle.service_desk.specs.declared.decision.Decision.TheVariants.{Enter, Reply}
use Rattle.service_desk.specs.ListDecisions.{edit_at, edited_decision, list_answer, list_in, list_with}
use Rattle.service_desk.specs.Replies.{abort, simple_ack}
use Rattle.service_desk.specs.SummaryDecisions.{alarm_summary_decision, enrollment_summary_with, many_with}
use Rattle.service_desk.specs.Laws.{EachRequestIsAnswered, HasOneReply}

of_verdict : (moment : ℕ) (requester : RequesterData) (object : ObjectIdData) (verdict : Verdict) → HasOneReply (verdict_decision moment requester object verdict)
of_verdict moment requester object (Accept transition named) = (refl, refl)
of_verdict moment requester object Already = tt
of_verdict moment requester object (Error class code) = tt

of_acknowledgement : (state : CoreState) (moment : ℕ) (requester : RequesterData) (read : Result AckRequest Malformed) → HasOneReply (acknowledge_with state moment requester read)
of_acknowledgement state moment requester (Err refusal) = tt
of_acknowledgement state moment requester (Ok request) = of_verdict moment requester request.object (acknowledgement_verdict (found_in state request.object) request)

of_read : (state : CoreState) (requester : RequesterData) (read : Result ReadRequest Malformed) → HasOneReply (read_with state requester read)
of_read state requester (Err refusal) = tt
of_read state requester (Ok request) = tt

of_change : (moment : ℕ) (requester : RequesterData) (checked : Result Change WriteFault) → HasOneReply (change_decision moment requester checked)
of_change moment requester (Ok change) = (refl, refl)
of_change moment requester (Err (write_faults.Error class code)) = tt
of_change moment requester (Err write_faults.NoMemory) = tt

of_write : (state : CoreState) (moment : ℕ) (requester : RequesterData) (read : Result WriteRequest Malformed) → HasOneReply (write_with state moment requester read)
of_write state moment requester (Err refusal) = tt
of_write state moment requester (Ok request) = of_change moment requester (write_of state request.object request.property.0 request.index request.value)

of_information : (state : CoreState) (requester : RequesterData) (read : Result (Option ObjectIdData) Malformed) → HasOneReply (information_with state requester read)
of_information state requester (Err refusal) = tt
of_information state requester (Ok last) = tt

of_alarm_summary : (state : CoreState) (requester : RequesterData) (parameters : List ℕ) → HasOneReply (alarm_summary_decision state requester parameters)
of_alarm_summary state requester [] = tt
of_alarm_summary state requester (octet ∷ octets) = tt

of_enrollment_summary : (state : CoreState) (requester : RequesterData) (read : Result Filter Malformed) → HasOneReply (enrollment_summary_with state requester read)
of_enrollment_summary state requester (Err refusal) = tt
of_enrollment_summary state requester (Ok filter) = tt

of_many : (state : CoreState) (requester : RequesterData) (read : Result (List ObjectAsked) Malformed) → HasOneReply (many_with state requester read)
of_many state requester (Err refusal) = tt
of_many state requester (Ok groups) = tt

of_left : (moment : ℕ) (requester : RequesterData) (number : ℕ) (left : List DestinationData) (same : Bool) →
    HasOneReply (if same then Reply (simple_ack requester) else Enter (edit_at moment number left) (Some (simple_ack requester)) (Some (abort requester other_reason)))
of_left moment requester number left true = tt
of_left moment requester number left false = (refl, refl)

of_edit : (moment : ℕ) (requester : RequesterData) (number : ℕ) (list : List DestinationData) (answer : EditAnswer) → HasOneReply (edited_decision moment requester number list answer)
of_edit moment requester number list (Err refused) = tt
of_edit moment requester number list (Ok left) = of_left moment requester number left (are_same left list)

of_list : (state : CoreState) (moment : ℕ) (requester : RequesterData) (adding : Bool) (read : Result ListAsked Malformed) → HasOneReply (list_with state moment requester adding read)
of_list state moment requester adding (Err refusal) = tt
of_list state moment requester adding (Ok asked) = of_edit moment requester asked.object.instance (list_in state asked.object.instance) (list_answer state adding asked)

of_service : (state : CoreState) (moment : ℕ) (requester : RequesterData) (parameters : List ℕ) (service : Option Service) → HasOneReply (service_decision state moment requester parameters service)
of_service state moment requester parameters (Some AcknowledgeAlarm) = of_acknowledgement state moment requester (acknowledge_request_of parameters)
of_service state moment requester parameters (Some GetAlarmSummary) = of_alarm_summary state requester parameters
of_service state moment requester parameters (Some GetEnrollmentSummary) = of_enrollment_summary state requester (enrollment_request_of parameters)
of_service state moment requester parameters (Some AddListElement) = of_list state moment requester true (list_request_of parameters)
of_service state moment requester parameters (Some RemoveListElement) = of_list state moment requester false (list_request_of parameters)
of_service state moment requester parameters (Some ReadProperty) = of_read state requester (read_property_of parameters)
of_service state moment requester parameters (Some ReadPropertyMultiple) = of_many state requester (groups_of parameters)
of_service state moment requester parameters (Some WriteProperty) = of_write state moment requester (write_property_of parameters)
of_service state moment requester parameters (Some ReadRange) = tt
of_service state moment requester parameters (Some GetEventInformation) = of_information state requester (information_request_of parameters)
of_service state moment requester parameters None = tt

pub each_answered : EachRequestIsAnswered
each_answered state moment peer octets (Request max_apdu invoke service start) is = of_service state moment (requester_of peer max_apdu invoke service) (drop start octets) (service_of service)
each_answered state moment peer octets (Segmented invoke) is = tt
each_answered state moment peer octets _ is = absurd is
