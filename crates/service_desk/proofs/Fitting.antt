-- No reply is longer than its requester takes.
use Rattle.std.proofs.Common.{ℕ, ◌≤◌, Bool, true, false, if◌then◌else◌, Result, Ok, Err, List, [], ◌∷◌, Option, Some, None, bit_and, ◌==◌, sym, subst, lit≤}
use Rattle.bac_values.specs.Identifier.{ObjectIdData}
use Rattle.apdu_frame.specs.Headers.{max_apdu_of}
use Rattle.bac_tags.specs.declared.malformed.Malformed.{Malformed}
use Rattle.event_services.specs.declared.acknowledge.AckRequest.{AckRequest}
use Rattle.event_services.specs.AcknowledgementSteps.{acknowledge_request_of}
use Rattle.event_services.specs.InformationSteps.{information_request_of}
use Rattle.property_services.specs.declared.requests.ReadRequest.{ReadRequest}
use Rattle.property_services.specs.declared.requests.WriteRequest.{WriteRequest}
use Rattle.property_services.specs.ReadingSteps.{read_property_of, write_property_of}
use Rattle.ack_alarm.specs.declared.verdict.Verdict.{Verdict}
use Rattle.ack_alarm.specs.declared.verdict.Verdict.TheVariants.{Accept, Already, Error}
use Rattle.ack_alarm.specs.Verdicts.{acknowledgement_verdict}
use Rattle.object_table.specs.declared.change.Change.{Change}
use Rattle.object_table.specs.declared.faults.WriteFault.{WriteFault}
use Rattle.object_table.specs.declared.faults.WriteFault.TheVariants as write_faults
use Rattle.property_values.specs.declared.content.ReadFault.{ReadFault}
use Rattle.property_values.specs.declared.content.ReadFault.TheVariants as read_faults
use Rattle.alarm_core.specs.Found.{found_in, has_object}
use Rattle.alarm_core.specs.Information.{has_more, summaries_of}
use Rattle.alarm_core.specs.Logs.{log_in}
use Rattle.alarm_core.specs.Reading.{read_of, write_of}
use Rattle.alarm_core.specs.State.{CoreState}
use Rattle.service_desk.specs.declared.service.Service.{Service}
use Rattle.service_desk.specs.declared.service.Service.TheVariants.{AcknowledgeAlarm, GetAlarmSummary, GetEnrollmentSummary, AddListElement, RemoveListElement, ReadProperty, ReadPropertyMultiple, WriteProperty, ReadRange, GetEventInformation}
use Rattle.service_desk.specs.Requesters.{RequesterData}
use Rattle.service_desk.specs.Services.{service_of}
use Rattle.service_desk.specs.Decisions.{service_decision}
use Rattle.service_desk.specs.AcknowledgeAlarm.{acknowledge_with, verdict_decision}
use Rattle.service_desk.specs.ReadProperty.{read_reply, read_with}
use Rattle.service_desk.specs.WriteProperty.{change_decision, write_with}
use Rattle.service_desk.specs.Information.{information_with, information_room}
use Rattle.bac_values.specs.Reasons.{other_reason, too_many_arguments_reason, unrecognized_service_reason}
use Rattle.summaries.specs.ManyRequests.{ObjectAsked}
use Rattle.summaries.specs.ManySteps.{groups_of}
use Rattle.summaries.specs.RequestSteps.{enrollment_request_of}
use Rattle.summaries.specs.declared.filter.Filter.{Filter}
use Rattle.notify_class.specs.Recipients.{DestinationData}
use Rattle.list_binding.specs.Edits.{EditAnswer, are_same}
use Rattle.list_binding.specs.Requests.{ListAsked}
use Rattle.list_binding.specs.RequestSteps.{list_request_of}
use Rattle.service_desk.specs.declared.decision.Decision.TheVariants.{Enter, Reply}
use Rattle.service_desk.specs.ListDecisions.{edit_at, edited_decision, list_answer, list_in, list_with}
use Rattle.service_desk.specs.Replies.{abort, simple_ack}
use Rattle.service_desk.specs.SummaryDecisions.{alarm_summary_decision, enrollment_summary_with, many_with}
use Rattle.service_desk.specs.Laws.{EachReplyFits, FitsRequester, RepliesFit}
use Rattle.service_desk.specs.Ranges.{rule_zone_of}
use Rattle.service_desk.proofs.ListErrors.{list_error_fits}
use Rattle.service_desk.proofs.Sends.{abort_fits, simple_ack_fits, within_max_apdu_fits, information_reply_fits, range_decided_fits, error_fits, reject_fits}

either : (test : Bool) (m n least : ℕ) → least ≤ m → least ≤ n → least ≤ (if test then m else n)
either true m n least a b = a
either false m n least a b = b

-- every requester takes fifty octets
least_apdu : (second : ℕ) → 50 ≤ max_apdu_of second
least_apdu second =
    let code = bit_and second 0x0f in
    either (code == 0) 50 _ 50 (lit≤ tt) (either (code == 1) 128 _ 50 (lit≤ tt) (either (code == 2) 206 _ 50 (lit≤ tt)
    (either (code == 3) 480 _ 50 (lit≤ tt) (either (code == 4) 1024 1476 50 (lit≤ tt) (lit≤ tt)))))

verdict_fits : (moment : ℕ) (requester : RequesterData) (object : ObjectIdData) (verdict : Verdict) → 50 ≤ requester.max_apdu → RepliesFit requester (verdict_decision moment requester object verdict)
verdict_fits moment requester object (Accept transition named) least = (simple_ack_fits requester least, abort_fits requester 0 least)
verdict_fits moment requester object Already least = simple_ack_fits requester least
verdict_fits moment requester object (Error class code) least = error_fits requester class code least

acknowledge_fits : (state : CoreState) (moment : ℕ) (requester : RequesterData) (read : Result AckRequest Malformed) → 50 ≤ requester.max_apdu → RepliesFit requester (acknowledge_with state moment requester read)
acknowledge_fits state moment requester (Err refusal) least = reject_fits requester refusal.reject least
acknowledge_fits state moment requester (Ok request) least =
    verdict_fits moment requester request.object (acknowledgement_verdict (found_in state request.object) request) least

reply_fits : (requester : RequesterData) (request : ReadRequest) (read : Result (List ℕ) ReadFault) → 50 ≤ requester.max_apdu → FitsRequester requester (read_reply requester request read)
reply_fits requester request (Ok octets) least = within_max_apdu_fits requester _ least
reply_fits requester request (Err (read_faults.Error class code)) least = error_fits requester class code least
reply_fits requester request (Err read_faults.NoMemory) least = abort_fits requester 0 least

read_fits : (state : CoreState) (requester : RequesterData) (read : Result ReadRequest Malformed) → 50 ≤ requester.max_apdu → RepliesFit requester (read_with state requester read)
read_fits state requester (Err refusal) least = reject_fits requester refusal.reject least
read_fits state requester (Ok request) least = reply_fits requester request (read_of state request.object request.property.0 request.index) least

change_fits : (moment : ℕ) (requester : RequesterData) (checked : Result Change WriteFault) → 50 ≤ requester.max_apdu → RepliesFit requester (change_decision moment requester checked)
change_fits moment requester (Ok change) least = (simple_ack_fits requester least, abort_fits requester 0 least)
change_fits moment requester (Err (write_faults.Error class code)) least = error_fits requester class code least
change_fits moment requester (Err write_faults.NoMemory) least = abort_fits requester 0 least

write_fits : (state : CoreState) (moment : ℕ) (requester : RequesterData) (read : Result WriteRequest Malformed) → 50 ≤ requester.max_apdu → RepliesFit requester (write_with state moment requester read)
write_fits state moment requester (Err refusal) least = reject_fits requester refusal.reject least
write_fits state moment requester (Ok request) least =
    change_fits moment requester (write_of state request.object request.property.0 request.index request.value) least

information_fits : (state : CoreState) (requester : RequesterData) (read : Result (Option ObjectIdData) Malformed) → 50 ≤ requester.max_apdu → RepliesFit requester (information_with state requester read)
information_fits state requester (Err refusal) least = reject_fits requester refusal.reject least
information_fits state requester (Ok last) least =
    information_reply_fits requester (summaries_of last (information_room requester) state) (has_more last (information_room requester) state) least

alarm_summary_fits : (state : CoreState) (requester : RequesterData) (parameters : List ℕ) → 50 ≤ requester.max_apdu → RepliesFit requester (alarm_summary_decision state requester parameters)
alarm_summary_fits state requester [] least = within_max_apdu_fits requester _ least
alarm_summary_fits state requester (octet ∷ octets) least = reject_fits requester too_many_arguments_reason least

enrollment_summary_fits : (state : CoreState) (requester : RequesterData) (read : Result Filter Malformed) → 50 ≤ requester.max_apdu → RepliesFit requester (enrollment_summary_with state requester read)
enrollment_summary_fits state requester (Err refusal) least = reject_fits requester refusal.reject least
enrollment_summary_fits state requester (Ok filter) least = within_max_apdu_fits requester _ least

many_fits : (state : CoreState) (requester : RequesterData) (read : Result (List ObjectAsked) Malformed) → 50 ≤ requester.max_apdu → RepliesFit requester (many_with state requester read)
many_fits state requester (Err refusal) least = reject_fits requester refusal.reject least
many_fits state requester (Ok groups) least = within_max_apdu_fits requester _ least

left_fits : (moment : ℕ) (requester : RequesterData) (number : ℕ) (left : List DestinationData) (same : Bool) → 50 ≤ requester.max_apdu →
    RepliesFit requester (if same then Reply (simple_ack requester) else Enter (edit_at moment number left) (Some (simple_ack requester)) (Some (abort requester other_reason)))
left_fits moment requester number left true least = simple_ack_fits requester least
left_fits moment requester number left false least = (simple_ack_fits requester least, abort_fits requester 0 least)

edit_fits : (moment : ℕ) (requester : RequesterData) (number : ℕ) (list : List DestinationData) (answer : EditAnswer) → 50 ≤ requester.max_apdu → RepliesFit requester (edited_decision moment requester number list answer)
edit_fits moment requester number list (Err refused) least = list_error_fits requester refused.error refused.element least
edit_fits moment requester number list (Ok left) least = left_fits moment requester number left (are_same left list) least

list_fits : (state : CoreState) (moment : ℕ) (requester : RequesterData) (adding : Bool) (read : Result ListAsked Malformed) → 50 ≤ requester.max_apdu → RepliesFit requester (list_with state moment requester adding read)
list_fits state moment requester adding (Err refusal) least = reject_fits requester refusal.reject least
list_fits state moment requester adding (Ok asked) least = edit_fits moment requester asked.object.instance (list_in state asked.object.instance) (list_answer state adding asked) least

service_fits : (state : CoreState) (moment : ℕ) (requester : RequesterData) (parameters : List ℕ) (service : Option Service) → 50 ≤ requester.max_apdu → RepliesFit requester (service_decision state moment requester parameters service)
service_fits state moment requester parameters (Some AcknowledgeAlarm) least = acknowledge_fits state moment requester (acknowledge_request_of parameters) least
service_fits state moment requester parameters (Some GetAlarmSummary) least = alarm_summary_fits state requester parameters least
service_fits state moment requester parameters (Some GetEnrollmentSummary) least = enrollment_summary_fits state requester (enrollment_request_of parameters) least
service_fits state moment requester parameters (Some AddListElement) least = list_fits state moment requester true (list_request_of parameters) least
service_fits state moment requester parameters (Some RemoveListElement) least = list_fits state moment requester false (list_request_of parameters) least
service_fits state moment requester parameters (Some ReadProperty) least = read_fits state requester (read_property_of parameters) least
service_fits state moment requester parameters (Some ReadPropertyMultiple) least = many_fits state requester (groups_of parameters) least
service_fits state moment requester parameters (Some WriteProperty) least = write_fits state moment requester (write_property_of parameters) least
service_fits state moment requester parameters (Some ReadRange) least = range_decided_fits requester (rule_zone_of state.site) (has_object state) (λ object. log_in object state.logs) parameters least
service_fits state moment requester parameters (Some GetEventInformation) least = information_fits state requester (information_request_of parameters) least
service_fits state moment requester parameters None least = reject_fits requester unrecognized_service_reason least

pub each_fits : EachReplyFits
each_fits state moment requester parameters second takes =
    let least : 50 ≤ requester.max_apdu = subst (λ most. 50 ≤ most) (sym takes) (least_apdu second) in
    service_fits state moment requester parameters (service_of requester.service) least
