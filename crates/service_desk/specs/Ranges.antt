-- What becomes of ReadRange: ranges of a log, as they are answered (ANSI/ASHRAE 135-2020, 15.8).
use Rattle.std.specs.Prelude.{ℕ, zero, suc, ◌+◌, ◌==◌, ◌&&◌, nat_lt, nat_le, Bool, true, false, ℤ, pos, negsuc, if◌then◌else◌, Option, Some, None, option_map, is_some, Result, Ok, Err, List, [], ◌∷◌, ◌++◌, length, take, drop, flat_map, slice_get}
use Rattle.bac_values.specs.Errors.{property_is_not_an_array_error, unknown_object_error, unknown_property_error, value_out_of_range_error}
use Rattle.bac_values.specs.Identifier.{ObjectIdData}
use Rattle.bac_values.specs.Properties.{log_buffer_property}
use Rattle.bac_values.specs.Reasons.{segmentation_not_supported_reason}
use Rattle.bac_values.specs.declared.note.Send.{Send}
use Rattle.bac_values.specs.declared.stamp.Stamp.{Stamp}
use Rattle.civil_stamp.specs.LocalTime.{ZoneData, hundredths_in}
use Rattle.bac_tags.specs.Writing.{written_stamp, written_tag}
use Rattle.apdu_frame.specs.Writing.{written_complex_ack}
use Rattle.bac_tags.specs.declared.malformed.Malformed.{Malformed}
use Rattle.bac_tags.specs.EnclosingTags.{closing, opening}
use Rattle.property_services.specs.declared.requests.RangeBy.{RangeBy}
use Rattle.property_services.specs.declared.requests.RangeBy.TheVariants.{All, Position, Sequence, Time}
use Rattle.property_services.specs.declared.requests.RangeRequest.{RangeRequest}
use Rattle.property_services.specs.ReadingSteps.{read_range_of}
use Rattle.property_services.specs.Writing.{written_range_ack}
use Rattle.event_log.specs.declared.log_range.LogRange.{LogRange}
use Rattle.event_log.specs.declared.log_record.LogRecord.{LogRecord}
use Rattle.event_log.specs.Log.{EventLogState}
use Rattle.event_log.specs.Ranges.{place_by_hundredths, place_by_time, place_of_position, place_of_sequence, range_from, range_of}
use Rattle.alarm_core.specs.declared.site.Site.{Site}
use Rattle.alarm_core.specs.Evaluations.{site_zone}
use Rattle.alarm_core.specs.Found.{has_object}
use Rattle.alarm_core.specs.Logs.{log_in}
use Rattle.alarm_core.specs.State.{CoreState}
use Rattle.service_desk.specs.declared.decision.Decision.{Decision}
use Rattle.service_desk.specs.declared.decision.Decision.TheVariants.{Reply}
use Rattle.service_desk.specs.Requesters.{RequesterData}
use Rattle.service_desk.specs.Replies.{abort, complex_ack, error, reject}

-- the octets of a log record (BACnetEventLogRecord, 12.27.13): [0] its date and time, [1] the notification that it records
unfoldable pub written_item : LogRecord → List ℕ
written_item entry =
    written_tag (opening 0) ++ written_stamp entry.stamp ++ written_tag (closing 0) ++ written_tag (opening 1) ++ written_tag (opening 1) ++ entry.body ++ written_tag (closing 1) ++ written_tag (closing 1)

-- the zone of a site with a zone rule
abbrev pub rule_zone_of : Site → Option ZoneData
rule_zone_of site = option_map (λ rule. site_zone site) site.device.zone_rule

-- where a range by hundredths begins or ends; nowhere where a stamp is no civil date and time, and so has none
abbrev pub place_if_civil : ℤ → Option ℤ → List LogRecord → Option ℕ
place_if_civil count None records = None
place_if_civil count (Some hundredths) records = place_by_hundredths count hundredths records

-- where a range by time begins or ends: where there is a zone rule, a local time may come twice, and it is when the clock showed the reference that is looked for; everywhere else it is the reference itself
abbrev pub place_by_clock : Option ZoneData → ℤ → Stamp → List LogRecord → Option ℕ
place_by_clock None count reference records = place_by_time count reference records
place_by_clock (Some zone) count reference records = place_if_civil count (hundredths_in zone reference) records

-- the records that a request asks for, at a site with this zone by a rule, if it has one
abbrev pub requested_range : Option ZoneData → RangeBy → EventLogState → LogRange
requested_range clock All log = range_of 0 (length log.records)
requested_range clock (Position reference count) log = range_from count (length log.records) (place_of_position reference (length log.records))
requested_range clock (Sequence reference count) log = range_from count (length log.records) (place_of_sequence reference log.records)
requested_range clock (Time reference count) log = range_from count (length log.records) (place_by_clock clock count reference log.records)

-- so many records from a place on
abbrev pub items_from : ℕ → ℕ → EventLogState → List LogRecord
items_from first count log = take count (drop first log.records)

-- First Item, Last Item, More Items (BACnetResultFlags), where so many of the records are sent; of no records none is set
abbrev pub range_flags : EventLogState → LogRange → ℕ → List Bool
range_flags log range sent =
    if sent == 0 then false ∷ false ∷ false ∷ [] else ((range.first == 0) ∷ (range.first + sent == length log.records) ∷ nat_lt sent range.count ∷ [])

-- whether the first sequence number is told: in ranges by sequence number and by time
abbrev pub names_sequence : RangeBy → Bool
names_sequence All = false
names_sequence (Position reference count) = false
names_sequence (Sequence reference count) = true
names_sequence (Time reference count) = true

abbrev pub sequence_of : Option LogRecord → Option ℕ
sequence_of None = None
sequence_of (Some entry) = Some entry.sequence

-- the sequence number of the first record that is sent, where it is told
abbrev pub first_sequence : RangeRequest → EventLogState → LogRange → ℕ → Option ℕ
first_sequence request log range sent = if sent == 0 then None else (if names_sequence request.range then sequence_of (slice_get log.records range.first) else None)

-- the result with so many leading records
abbrev pub range_body : RangeRequest → EventLogState → LogRange → ℕ → List ℕ
range_body request log range sent =
    written_range_ack request (range_flags log range sent) sent (flat_map written_item (items_from range.first sent log)) (first_sequence request log range sent)

-- whether a requester takes the answer with so many leading records
abbrev pub range_fits : RequesterData → RangeRequest → EventLogState → LogRange → ℕ → Bool
range_fits requester request log range sent = nat_le (length (written_complex_ack requester.invoke requester.service (range_body request log range sent))) requester.max_apdu

-- the greatest number up to a count for which a test passes, or 0
unfoldable pub greatest : (ℕ → Bool) → ℕ → ℕ
greatest test zero = 0
greatest test (suc n) = if test (suc n) then suc n else greatest test n

-- how many leading records are sent: as many as fit
abbrev pub records_that_fit : RequesterData → RangeRequest → EventLogState → LogRange → ℕ
records_that_fit requester request log range = greatest (range_fits requester request log range) range.count

-- a range, where so many of its records are sent; where there are some and none fits, the device would have to send segments
abbrev pub range_sent : RequesterData → RangeRequest → EventLogState → LogRange → ℕ → Send
range_sent requester request log range sent =
    if nat_lt 0 range.count && sent == 0 then abort requester segmentation_not_supported_reason else complex_ack requester (range_body request log range sent)

-- a range, as it is answered
abbrev pub range_reply : RequesterData → RangeRequest → EventLogState → LogRange → Send
range_reply requester request log range = range_sent requester request log range (records_that_fit requester request log range)

-- how many records a request asks for, where it says so
abbrev pub count_of : RangeBy → Option ℤ
count_of All = None
count_of (Position reference count) = Some count
count_of (Sequence reference count) = Some count
count_of (Time reference count) = Some count

abbrev pub is_zero_count : Option ℤ → Bool
is_zero_count None = false
is_zero_count (Some (pos zero)) = true
is_zero_count (Some (pos (suc n))) = false
is_zero_count (Some (negsuc n)) = false

abbrev pub has_zero_count : RangeBy → Bool
has_zero_count range = is_zero_count (count_of range)

-- of a log: Log_Buffer is no array, and a count isn't 0
abbrev pub buffer_answer : RequesterData → Option ZoneData → RangeRequest → EventLogState → Send
buffer_answer requester clock request log =
    if is_some request.index then error requester property_is_not_an_array_error
    else (if has_zero_count request.range then error requester value_out_of_range_error
    else range_reply requester request log (requested_range clock request.range log))

-- of an object: only the Log_Buffer of a log has a range
abbrev pub object_answer : RequesterData → Option ZoneData → RangeRequest → Option EventLogState → Send
object_answer requester clock request None = error requester unknown_property_error
object_answer requester clock request (Some log) = if request.property.0 == log_buffer_property then buffer_answer requester clock request log else error requester unknown_property_error

-- by whether there is such an object, and its log, where it is one
abbrev pub range_answer : RequesterData → Option ZoneData → RangeRequest → Bool → Option EventLogState → Send
range_answer requester clock request there log = if there then object_answer requester clock request log else error requester unknown_object_error

-- ReadRange (15.8), by the zone of the site's rule, which objects there are, and their logs
abbrev pub range_with : RequesterData → Option ZoneData → (ObjectIdData → Bool) → (ObjectIdData → Option EventLogState) → Result RangeRequest Malformed → Send
range_with requester clock is_there log_of (Err refusal) = reject requester refusal.reject
range_with requester clock is_there log_of (Ok request) = range_answer requester clock request (is_there request.object) (log_of request.object)

abbrev pub range_decided : RequesterData → Option ZoneData → (ObjectIdData → Bool) → (ObjectIdData → Option EventLogState) → List ℕ → Send
range_decided requester clock is_there log_of parameters = range_with requester clock is_there log_of (read_range_of parameters)

-- at a state: the zone of the site's rule, whether there is such an object, and its log, where it is one
abbrev pub range_decision : CoreState → RequesterData → List ℕ → Decision
range_decision state requester parameters = Reply (range_decided requester (rule_zone_of state.site) (has_object state) (λ object. log_in object state.logs) parameters)
