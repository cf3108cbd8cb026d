-- No reply is longer than its requester takes.
use Rattle.std.proofs.Common.{◌≡◌, ℕ, ◌≤◌, ◌&&◌, Bool, true, false, if◌then◌else◌, List, length, refl, arith, Option, Some, None}
use Rattle.std.specs.Prelude.{is_some, nat_eq, nat_lt, Result, Ok, Err}
use Rattle.std.proofs.lemmas.Bool.{ltb-false}
use Rattle.bac_values.specs.Errors.{property_is_not_an_array_error, unknown_object_error, unknown_property_error, value_out_of_range_error}
use Rattle.bac_values.specs.Properties.{log_buffer_property}
use Rattle.bac_values.specs.Reasons.{segmentation_not_supported_reason}
use Rattle.bac_values.specs.Identifier.{ObjectIdData}
use Rattle.bac_values.specs.declared.note.Send.{Send}
use Rattle.apdu_frame.specs.Writing.{written_abort, written_error, written_reject, written_simple_ack}
use Rattle.bac_tags.specs.declared.malformed.Malformed.{Malformed}
use Rattle.property_services.specs.declared.requests.RangeRequest.{RangeRequest}
use Rattle.property_services.specs.ReadingSteps.{read_range_of}
use Rattle.event_log.specs.declared.log_range.LogRange.{LogRange}
use Rattle.event_log.specs.Log.{EventLogState}
use Rattle.event_services.specs.declared.information.EventSummary.{EventSummary}
use Rattle.service_desk.specs.Requesters.{RequesterData}
use Rattle.service_desk.specs.Information.{information_reply}
use Rattle.service_desk.specs.Laws.{FitsRequester}
use Rattle.civil_stamp.specs.LocalTime.{ZoneData}
use Rattle.service_desk.specs.Ranges.{buffer_answer, has_zero_count, object_answer, range_answer, range_decided, range_reply, range_with, records_that_fit, requested_range}
use Rattle.service_desk.specs.Replies.{abort, simple_ack, within_max_apdu, error_numbered, reject, reply_to}

pub simple_ack_fits : (requester : RequesterData) → 50 ≤ requester.max_apdu → FitsRequester requester (simple_ack requester)
simple_ack_fits requester least = record { apdu = written_simple_ack requester.invoke requester.service; framed = refl; short = omega (arith, least) }

pub error_fits : (requester : RequesterData) (class code : ℕ) → 50 ≤ requester.max_apdu → FitsRequester requester (error_numbered requester class code)
error_fits requester class code least = record { apdu = written_error requester.invoke requester.service class code; framed = refl; short = omega (arith, least) }

pub reject_fits : (requester : RequesterData) (reason : ℕ) → 50 ≤ requester.max_apdu → FitsRequester requester (reject requester reason)
reject_fits requester reason least = record { apdu = written_reject requester.invoke reason; framed = refl; short = omega (arith, least) }

pub abort_fits : (requester : RequesterData) (reason : ℕ) → 50 ≤ requester.max_apdu → FitsRequester requester (abort requester reason)
abort_fits requester reason least = record { apdu = written_abort requester.invoke reason; framed = refl; short = omega (arith, least) }

-- an answer is as short, or it is not sent
chosen : (requester : RequesterData) (apdu : List ℕ) (long : Bool) → nat_lt requester.max_apdu (length apdu) ≡ long → 50 ≤ requester.max_apdu →
    FitsRequester requester (if long then abort requester segmentation_not_supported_reason else reply_to requester.peer apdu)
chosen requester apdu true is least = abort_fits requester segmentation_not_supported_reason least
chosen requester apdu false is least = record { apdu = apdu; framed = refl; short = ltb-false requester.max_apdu (length apdu) is }

pub within_max_apdu_fits : (requester : RequesterData) (apdu : List ℕ) → 50 ≤ requester.max_apdu → FitsRequester requester (within_max_apdu requester apdu)
unfolding within_max_apdu
within_max_apdu_fits requester apdu least = chosen requester apdu (nat_lt requester.max_apdu (length apdu)) refl least

either : (requester : RequesterData) (test : Bool) (first second : Send) → FitsRequester requester first → FitsRequester requester second → FitsRequester requester (if test then first else second)
either requester true first second a b = a
either requester false first second a b = b

-- the answer to GetEventInformation
pub information_reply_fits : (requester : RequesterData) (summaries : List EventSummary) (more : Bool) → 50 ≤ requester.max_apdu → FitsRequester requester (information_reply requester summaries more)
information_reply_fits requester summaries more least =
    either requester (more && nat_eq (length summaries) 0) _ _ (abort_fits requester segmentation_not_supported_reason least) (within_max_apdu_fits requester _ least)

-- a range
pub range_reply_fits : (requester : RequesterData) (request : RangeRequest) (log : EventLogState) (range : LogRange) → 50 ≤ requester.max_apdu → FitsRequester requester (range_reply requester request log range)
range_reply_fits requester request log range least =
    either requester (nat_lt 0 range.count && nat_eq (records_that_fit requester request log range) 0) _ _ (abort_fits requester segmentation_not_supported_reason least) (within_max_apdu_fits requester _ least)

buffer_answer_fits : (requester : RequesterData) (zone : Option ZoneData) (request : RangeRequest) (log : EventLogState) → 50 ≤ requester.max_apdu → FitsRequester requester (buffer_answer requester zone request log)
buffer_answer_fits requester zone request log least =
    either requester (is_some request.index) _ _ (error_fits requester property_is_not_an_array_error.class property_is_not_an_array_error.code least)
    (either requester (has_zero_count request.range) _ _ (error_fits requester value_out_of_range_error.class value_out_of_range_error.code least) (range_reply_fits requester request log (requested_range zone request.range log) least))

object_answer_fits : (requester : RequesterData) (zone : Option ZoneData) (request : RangeRequest) (log : Option EventLogState) → 50 ≤ requester.max_apdu → FitsRequester requester (object_answer requester zone request log)
object_answer_fits requester zone request None least = error_fits requester unknown_property_error.class unknown_property_error.code least
object_answer_fits requester zone request (Some log) least =
    either requester (nat_eq request.property.0 log_buffer_property) _ _ (buffer_answer_fits requester zone request log least) (error_fits requester unknown_property_error.class unknown_property_error.code least)

pub range_answer_fits : (requester : RequesterData) (zone : Option ZoneData) (request : RangeRequest) (there : Bool) (log : Option EventLogState) → 50 ≤ requester.max_apdu → FitsRequester requester (range_answer requester zone request there log)
range_answer_fits requester zone request there log least =
    either requester there _ _ (object_answer_fits requester zone request log least) (error_fits requester unknown_object_error.class unknown_object_error.code least)

range_with_fits : (requester : RequesterData) (zone : Option ZoneData) (is_there : ObjectIdData → Bool) (log_of : ObjectIdData → Option EventLogState) (read : Result RangeRequest Malformed) → 50 ≤ requester.max_apdu →
    FitsRequester requester (range_with requester zone is_there log_of read)
range_with_fits requester zone is_there log_of (Err refusal) least = reject_fits requester refusal.reject least
range_with_fits requester zone is_there log_of (Ok request) least = range_answer_fits requester zone request (is_there request.object) (log_of request.object) least

-- the answer to ReadRange
pub range_decided_fits : (requester : RequesterData) (zone : Option ZoneData) (is_there : ObjectIdData → Bool) (log_of : ObjectIdData → Option EventLogState) (parameters : List ℕ) → 50 ≤ requester.max_apdu →
    FitsRequester requester (range_decided requester zone is_there log_of parameters)
range_decided_fits requester zone is_there log_of parameters least = range_with_fits requester zone is_there log_of (read_range_of parameters) least
