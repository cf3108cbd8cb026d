-- When an answer is too long for who asked: the device sends no segments, so it aborts (ANSI/ASHRAE 135-2020, 5.4.5.3 and 20.1.9). Octets of an answer are those of its APDU.
use Rattle.std.specs.Prelude.{◌≡◌, ◌↔◌, ◌⊎◌, ◌<◌, ◌≤◌, ◌+◌, ◌*◌, ℕ, All, None, Option, Some, List, [], ◌∷◌, length}
use Rattle.bac_tags.specs.Parameters.{SpellsEach}
use Rattle.bac_values.specs.Identifier.{ObjectIdData}
use Rattle.bac_values.specs.Reasons.{segmentation_not_supported_reason}
use Rattle.bac_values.specs.Services.{get_alarm_summary_service, get_enrollment_summary_service, get_event_information_service, read_property_multiple_service, read_property_service, read_range_service}
use Rattle.bac_values.specs.declared.note.Send.{Send}
use Rattle.apdu_frame.specs.Writing.{written_abort, written_complex_ack}
use Rattle.apdu_frame.specs.declared.apdu.Apdu.TheVariants.{Segmented}
use Rattle.event_log.specs.Log.{EventLogState}
use Rattle.event_log.specs.declared.log_range.LogRange.{LogRange}
use Rattle.event_services.specs.Information.{SpellsInformationRequest, written_summary}
use Rattle.property_services.specs.Requests.{SpellsReadProperty, SpellsReadRange}
use Rattle.property_services.specs.declared.requests.RangeRequest.{RangeRequest}
use Rattle.property_services.specs.declared.requests.ReadRequest.{ReadRequest}
use Rattle.summaries.specs.ManyRequests.{ObjectAsked, SpellsReadMany}
use Rattle.summaries.specs.Requests.{SpellsFilter}
use Rattle.summaries.specs.declared.filter.Filter.{Filter}
use Rattle.alarm_core.specs.Allowed.{Represents}
use Rattle.alarm_core.specs.Information.{active_behind, summary_of}
use Rattle.alarm_core.specs.Logs.{log_in}
use Rattle.alarm_core.specs.State.{CoreState, DetectedObjectState}
use Rattle.alarm_core.specs.declared.event.Event.{Event}
use Rattle.bac_values.specs.Address.{PeerData}
use Rattle.service_desk.specs.Decisions.{apdu_decision}
use Rattle.service_desk.specs.Ranges.{range_body, requested_range, rule_zone_of}
use Rattle.service_desk.specs.Replies.{abort_to, reply_to}
use Rattle.service_desk.specs.declared.decision.Decision.{Decision}
use Rattle.service_desk.specs.declared.decision.Decision.TheVariants.{Reply}
use Rattle.profile_laws.specs.ErrorTables.{AreOctets, Asker, decision_for, first_error}
use Rattle.profile_laws.specs.ManyLaws.{EnrollmentSummary, HasResult, IsToldOf, alarms_among, written_enrollment_summary}
use Rattle.profile_laws.specs.RangeErrors.{range_errors}
use Rattle.profile_laws.specs.ReadBack.{IsReadAs, read_ack}

-- the Abort that the answer would have to be segmented
abbrev pub too_long_for : Asker → Send
too_long_for asker = reply_to asker.peer (written_abort asker.invoke segmentation_not_supported_reason)

-- that is the answer exactly where the asker doesn't take so many octets
abbrev pub IsAbortedBelow : Asker → ℕ → Decision → Type 0
IsAbortedBelow asker octets decision = (decision ≡ Reply (too_long_for asker)) ↔ (asker.max_apdu < octets)

-- ---- results that are answered whole (15.5, 15.7, 13.10 and 13.11)

-- In a state that stands for a history, a ReadProperty in its grammar is aborted exactly where the property is read as more octets than have room in what the asker takes; so none is to which an error applies.
abbrev pub AbortsLongReads : Type 0
AbortsLongReads =
    (state : CoreState) (history : List Event) → Represents state history →
    (moment : ℕ) (asker : Asker) (parameters : List ℕ) (request : ReadRequest) → AreOctets parameters → SpellsReadProperty parameters request →
    (decision_for state moment asker read_property_service parameters ≡ Reply (too_long_for asker))
    ↔ ((value : List ℕ) × IsReadAs state request value × (asker.max_apdu < length (read_ack asker request value)))

-- A ReadPropertyMultiple is aborted exactly where what is told of all objects that are asked has no room behind the three octets of its header.
abbrev pub AbortsLongLists : Type 0
AbortsLongLists =
    (state : CoreState) (history : List Event) → Represents state history →
    (moment : ℕ) (asker : Asker) (parameters : List ℕ) (asked : List ObjectAsked) → AreOctets parameters → SpellsReadMany parameters asked →
    (octets : List ℕ) × SpellsEach (IsToldOf state) octets asked × IsAbortedBelow asker (3 + length octets) (decision_for state moment asker read_property_multiple_service parameters)

-- A summary of alarms has ten octets for each object, behind those three; and one of enrollments those of each of its objects.
pub record AbortsLongSummaries : Type 0 where
  pub alarms : (state : CoreState) (history : List Event) → Represents state history → (moment : ℕ) (asker : Asker) →
      IsAbortedBelow asker (3 + 10 * length (alarms_among state)) (decision_for state moment asker get_alarm_summary_service [])
  pub enrollments : (state : CoreState) (moment : ℕ) (asker : Asker) (parameters octets : List ℕ) →
      HasResult asker get_enrollment_summary_service octets (decision_for state moment asker get_enrollment_summary_service parameters) →
      IsAbortedBelow asker (3 + length octets) (decision_for state moment asker get_enrollment_summary_service parameters)

-- ---- results that are answered in parts (13.12 and 15.8)

-- the octets of the shortest answer of GetEventInformation that tells of one object, where there is one to tell of: 61 for it, and seven for the header, the tags of the list and More Events
abbrev pub least_information : List DetectedObjectState → ℕ
least_information [] = 7
least_information (first ∷ others) = 68

-- A GetEventInformation is aborted exactly where there is no room for the first active object behind the last one that was received. A summary is written in 61 octets.
abbrev pub AbortsLongInformation : Type 0
AbortsLongInformation =
    (state : CoreState) (moment : ℕ) (asker : Asker) (parameters : List ℕ) (last : Option ObjectIdData) → AreOctets parameters → SpellsInformationRequest parameters last →
    All (λ (detected : DetectedObjectState). length (written_summary (summary_of state detected)) ≡ 61) (active_behind last state) →
    IsAbortedBelow asker (least_information (active_behind last state)) (decision_for state moment asker get_event_information_service parameters)

-- the octets of an answer of ReadRange with so many leading records of a range
abbrev pub range_octets : Asker → RangeRequest → EventLogState → LogRange → ℕ → ℕ
range_octets asker request log range sent = length (written_complex_ack asker.invoke read_range_service (range_body request log range sent))

-- there are records to tell, and not even one of them has room, nor have any more; or there are none, and the answer that says so has no room
abbrev pub HasNoRoomForRange : Asker → RangeRequest → EventLogState → LogRange → Type 0
HasNoRoomForRange asker request log range =
    ((0 < range.count) × ((sent : ℕ) → 0 < sent → sent ≤ range.count → asker.max_apdu < range_octets asker request log range sent))
    ⊎ ((range.count ≡ 0) × (asker.max_apdu < range_octets asker request log range 0))

-- A ReadRange to which no error applies is aborted exactly so.
abbrev pub AbortsLongRanges : Type 0
AbortsLongRanges =
    (state : CoreState) (history : List Event) → Represents state history →
    (moment : ℕ) (asker : Asker) (parameters : List ℕ) (request : RangeRequest) → AreOctets parameters → SpellsReadRange parameters request → first_error (range_errors state request) ≡ None →
    (log : EventLogState) → log_in request.object state.logs ≡ Some log →
    (decision_for state moment asker read_range_service parameters ≡ Reply (too_long_for asker))
    ↔ HasNoRoomForRange asker request log (requested_range (rule_zone_of state.site) request.range log)

-- ---- requests in segments (20.1.2)

-- A segment of a request is aborted, whatever the request is.
abbrev pub AbortsSegments : Type 0
AbortsSegments = (state : CoreState) (moment : ℕ) (peer : PeerData) (octets : List ℕ) (invoke : ℕ) → apdu_decision state moment peer octets (Segmented invoke) ≡ Reply (abort_to peer invoke segmentation_not_supported_reason)
