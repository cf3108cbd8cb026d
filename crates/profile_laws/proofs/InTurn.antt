-- The answers to requests, by the tables of their errors.
use Rattle.std.proofs.Common.{◌≡◌, ℕ, Bool, true, false, ◌||◌, Option, Some, None, is_some, Result, List, refl, sym, ap, ◌∙◌, subst}
use Rattle.std.specs.List.{list_any}
use Rattle.std.specs.Option.{option_map}
use Rattle.event_log.specs.declared.log_site.LogSite.{LogSite}
use Rattle.bac_values.specs.Identifier.{ObjectIdData}
use Rattle.bac_values.specs.declared.service_error.ServiceError.{ServiceError}
use Rattle.bac_tags.proofs.Standing.{IsBytes}
use Rattle.bac_tags.specs.declared.malformed.Malformed.{Malformed}
use Rattle.event_services.specs.declared.acknowledge.AckRequest.{AckRequest}
use Rattle.event_services.specs.AcknowledgementSteps.{acknowledge_request_of}
use Rattle.event_services.proofs.AckLaws.{acknowledges}
use Rattle.property_services.specs.declared.requests.ReadRequest.{ReadRequest}
use Rattle.property_services.specs.declared.requests.WriteRequest.{WriteRequest}
use Rattle.property_services.specs.Writing.{written_read_ack}
use Rattle.property_services.specs.declared.requests.RangeRequest.{RangeRequest}
use Rattle.property_services.proofs.RangeLaws.{read_range_answers}
use Rattle.property_services.proofs.References.{read_property_answers}
use Rattle.property_services.proofs.Writes.{write_property_answers}
use Rattle.ack_alarm.specs.declared.verdict.Verdict.{Verdict}
use Rattle.ack_alarm.specs.declared.verdict.Verdict.TheVariants.{Accept, Already, Error}
use Rattle.ack_alarm.specs.Verdicts.{acknowledgement_verdict}
use Rattle.object_table.specs.declared.change.Change.{Change}
use Rattle.object_table.specs.declared.faults.WriteFault.{WriteFault}
use Rattle.object_table.specs.Rows.{is_object, row_of}
use Rattle.enrollment.specs.Enrollments.{site_of}
use Rattle.property_values.specs.declared.content.ReadFault.{ReadFault}
use Rattle.alarm_core.specs.Allowed.{Represents}
use Rattle.alarm_core.specs.declared.event.Event.{Event}
use Rattle.alarm_core.specs.Devices.{device_object, identifiers_of, listed_class}
use Rattle.alarm_core.specs.Found.{detected_object_in, found_in, has_object}
use Rattle.alarm_core.specs.Logs.{SiteLogState, kept_log, log_in, log_of}
use Rattle.alarm_core.specs.Reading.{read_of, write_of}
use Rattle.alarm_core.specs.State.{CoreState}
use Rattle.service_desk.specs.Requesters.{requester_of}
use Rattle.service_desk.specs.AcknowledgeAlarm.{acknowledge_with, verdict_decision}
use Rattle.service_desk.specs.ReadProperty.{read_reply, read_with}
use Rattle.service_desk.specs.WriteProperty.{change_decision, write_with}
use Rattle.service_desk.specs.declared.decision.Decision.TheVariants.{Reply}
use Rattle.profile_laws.specs.AcknowledgementErrors.{acknowledgement_errors, has_event_detection}
use Rattle.profile_laws.specs.ErrorTables.{AreOctets, Asker, IsAnsweredBy, first_error}
use Rattle.profile_laws.specs.Laws.{AnswersAcknowledgementsInTurn, AnswersRangesInTurn, AnswersReadsInTurn, AnswersWritesInTurn}
use Rattle.profile_laws.specs.PropertyErrors.{read_errors, write_errors}
use Rattle.profile_laws.specs.RangeErrors.{range_errors}
use Rattle.profile_laws.proofs.RangeTables.{range_says}
use Rattle.service_desk.specs.Ranges.{range_with, rule_zone_of}
use Rattle.profile_laws.proofs.AcknowledgementTables.{VerdictSays, verdict_says}
use Rattle.profile_laws.proofs.Identified.{Identifies, identifies}
use Rattle.profile_laws.proofs.NoErrors.{abort_is_none, result_is_none, simple_ack_is_none}
use Rattle.profile_laws.proofs.ReadTables.{ReadSays, read_says}
use Rattle.profile_laws.proofs.WriteTables.{WriteSays, write_says}

pub identified : (state : CoreState) (history : List Event) → Represents state history → (object : ObjectIdData) → Identifies state object
identified state history represents object = subst (λ (s : CoreState). Identifies s object) (sym represents.shows) (identifies state.site history object)

pub bytes : (parameters : List ℕ) → AreOctets parameters → IsBytes parameters
bytes parameters octets = λ i. octets i

-- ---- WriteProperty

write_answered : (moment : ℕ) (asker : Asker) (first : Option ServiceError) (answer : Result Change WriteFault) → WriteSays first answer →
    IsAnsweredBy asker 15 first (change_decision moment (requester_of asker.peer asker.max_apdu asker.invoke 15) answer)
write_answered moment asker (Some error) answer h = ap (λ (a : Result Change WriteFault). change_decision moment (requester_of asker.peer asker.max_apdu asker.invoke 15) a) h
write_answered moment asker None answer h =
    subst (λ (a : Result Change WriteFault). IsAnsweredBy asker 15 None (change_decision moment (requester_of asker.peer asker.max_apdu asker.invoke 15) a)) (sym h.1)
    (simple_ack_is_none asker 15, abort_is_none asker 15 0)

pub writes_in_turn : AnswersWritesInTurn
writes_in_turn state history represents moment asker parameters request octets spelled =
    let read = (write_property_answers parameters (bytes parameters octets)).only request spelled in
    let is = identified state history represents request.object in
    let first = first_error (write_errors state request) in
    let says = write_says state request.object request.property.0 request.index request.value (site_of request.object state.values.enrollments) (row_of request.object state.values.rows) (kept_log request.object state.logs)
    (list_any (is_object request.object) (identifiers_of state.site)) is.known is.other in
    subst (λ (r : Result WriteRequest Malformed). IsAnsweredBy asker 15 first (write_with state moment (requester_of asker.peer asker.max_apdu asker.invoke 15) r)) (sym read)
    (write_answered moment asker first (write_of state request.object request.property.0 request.index request.value) says)

-- ---- ReadProperty

read_answered : (asker : Asker) (request : ReadRequest) (first : Option ServiceError) (answer : Result (List ℕ) ReadFault) → ReadSays first answer →
    IsAnsweredBy asker 12 first (Reply (read_reply (requester_of asker.peer asker.max_apdu asker.invoke 12) request answer))
read_answered asker request (Some error) answer h = ap (λ (a : Result (List ℕ) ReadFault). Reply (read_reply (requester_of asker.peer asker.max_apdu asker.invoke 12) request a)) h
read_answered asker request None answer h =
    subst (λ (a : Result (List ℕ) ReadFault). IsAnsweredBy asker 12 None (Reply (read_reply (requester_of asker.peer asker.max_apdu asker.invoke 12) request a))) (sym h.1)
    (result_is_none asker 12 (written_read_ack request h.0))

-- what is read of a property, by the first error of its table
pub reads_say : (state : CoreState) (history : List Event) → Represents state history → (request : ReadRequest) →
    ReadSays (first_error (read_errors state request)) (read_of state request.object request.property.0 request.index)
reads_say state history represents request =
    let is = identified state history represents request.object in
    read_says state request.object request.property.0 request.index (site_of request.object state.values.enrollments) (row_of request.object state.values.rows) (kept_log request.object state.logs)
    (list_any (is_object request.object) (identifiers_of state.site)) is.stamps is.known is.other

pub reads_in_turn : AnswersReadsInTurn
reads_in_turn state history represents moment asker parameters request octets spelled =
    let read = (read_property_answers parameters (bytes parameters octets)).only request spelled in
    let first = first_error (read_errors state request) in
    subst (λ (r : Result ReadRequest Malformed). IsAnsweredBy asker 12 first (read_with state (requester_of asker.peer asker.max_apdu asker.invoke 12) r)) (sym read)
    (read_answered asker request first (read_of state request.object request.property.0 request.index) (reads_say state history represents request))

-- ---- the identifier

in_turn : (device row later : Bool) → (device || (row || later)) ≡ (row || (device || later))
in_turn true true later = refl
in_turn true false later = refl
in_turn false true later = refl
in_turn false false later = refl

-- the device has the object
pub has_it : (state : CoreState) (object : ObjectIdData) → Identifies state object → list_any (is_object object) (identifiers_of state.site) ≡ has_object state object
has_it state object is =
    let row = is_some (row_of object state.values.rows) in
    is.known
    ∙ (in_turn (is_object object (device_object state.site)) row
    (is_some (listed_class object state.site.classes) || (is_some (site_of object state.values.enrollments) || is_some (kept_log object state.logs)))
    ∙ ap (λ b. row || b) (sym is.other))

-- ---- ReadRange

log_found : (found : Option SiteLogState) → is_some found ≡ is_some (option_map log_of found)
log_found None = refl
log_found (Some kept) = refl

pub ranges_in_turn : AnswersRangesInTurn
ranges_in_turn state history represents moment asker parameters request octets spelled =
    let read = (read_range_answers parameters (bytes parameters octets)).only request spelled in
    let is = identified state history represents request.object in
    let first = first_error (range_errors state request) in
    subst (λ (r : Result RangeRequest Malformed). IsAnsweredBy asker 26 first (Reply (range_with (requester_of asker.peer asker.max_apdu asker.invoke 26) (rule_zone_of state.site) (has_object state) (λ object. log_in object state.logs) r))) (sym read)
    (range_says asker state.site request (list_any (is_object request.object) (identifiers_of state.site)) (has_object state request.object)
    (list_any (λ (log : LogSite). is_object request.object log.object) state.site.logs) (log_in request.object state.logs)
    (has_it state request.object is) (is.logged ∙ log_found (kept_log request.object state.logs)))

-- ---- AcknowledgeAlarm

verdict_answered : (moment : ℕ) (asker : Asker) (object : ObjectIdData) (first : Option ServiceError) (verdict : Verdict) → VerdictSays first verdict →
    IsAnsweredBy asker 0 first (verdict_decision moment (requester_of asker.peer asker.max_apdu asker.invoke 0) object verdict)
verdict_answered moment asker object (Some error) verdict h = ap (λ (v : Verdict). verdict_decision moment (requester_of asker.peer asker.max_apdu asker.invoke 0) object v) h
verdict_answered moment asker object None (Accept transition named) h = (simple_ack_is_none asker 0, abort_is_none asker 0 0)
verdict_answered moment asker object None Already h = simple_ack_is_none asker 0
verdict_answered moment asker object None (Error class code) h = absurd h

pub acknowledgements_in_turn : AnswersAcknowledgementsInTurn
acknowledgements_in_turn state history represents moment asker parameters request octets spelled =
    let read = (acknowledges parameters (acknowledge_request_of parameters) (bytes parameters octets) refl).only request spelled in
    let is = identified state history represents request.object in
    let first = first_error (acknowledgement_errors state request) in
    let says = verdict_says request (detected_object_in request.object state.alarms) (list_any (is_object request.object) (identifiers_of state.site)) (has_event_detection state.site request.object)
    (has_object state request.object) is.detection is.there (has_it state request.object is) in
    subst (λ (r : Result AckRequest Malformed). IsAnsweredBy asker 0 first (acknowledge_with state moment (requester_of asker.peer asker.max_apdu asker.invoke 0) r)) (sym read)
    (verdict_answered moment asker request.object first (acknowledgement_verdict (found_in state request.object) request) says)
