-- A read of a range is answered with the first error of its table.
use Rattle.std.proofs.Common.{◌≡◌, ℕ, zero, suc, ℤ, pos, negsuc, nat_lt, ◌==◌, Bool, true, false, not, ◌&&◌, if◌then◌else◌, Option, Some, None, is_some, List, [], ◌∷◌, refl, sym, subst}
use Rattle.bac_values.specs.Errors.{property_is_not_an_array_error, unknown_object_error, unknown_property_error, value_out_of_range_error}
use Rattle.bac_values.specs.Reasons.{segmentation_not_supported_reason}
use Rattle.bac_values.specs.declared.note.Send.{Send}
use Rattle.bac_values.specs.declared.service_error.ServiceError.{ServiceError}
use Rattle.alarm_core.specs.declared.site.Site.{Site}
use Rattle.event_log.specs.Log.{EventLogState}
use Rattle.property_services.specs.declared.requests.RangeBy.{RangeBy}
use Rattle.property_services.specs.declared.requests.RangeBy.TheVariants.{All, Position, Sequence, Time}
use Rattle.property_services.specs.declared.requests.RangeRequest.{RangeRequest}
use Rattle.service_desk.specs.declared.decision.Decision.TheVariants.{Reply}
use Rattle.service_desk.specs.Requesters.{requester_of}
use Rattle.service_desk.specs.Ranges.{buffer_answer, has_zero_count, is_zero_count, object_answer, range_answer, range_body, range_reply, records_that_fit, requested_range, rule_zone_of}
use Rattle.service_desk.specs.Replies.{abort, complex_ack, error}
use Rattle.profile_laws.specs.ErrorTables.{Asker, IsAnsweredBy, IsNoError, first_error}
use Rattle.profile_laws.specs.RangeErrors.{asks_for_nothing, is_no_count}
use Rattle.profile_laws.proofs.NoErrors.{abort_is_none, result_is_none}

zero_count : (count : ℤ) → is_no_count count ≡ is_zero_count (Some count)
zero_count (pos zero) = refl
zero_count (pos (suc n)) = refl
zero_count (negsuc n) = refl

pub zero_range : (range : RangeBy) → asks_for_nothing range ≡ has_zero_count range
zero_range All = refl
zero_range (Position reference count) = zero_count count
zero_range (Sequence reference count) = zero_count count
zero_range (Time reference count) = zero_count count

module _ (asker : Asker) (site : Site) (request : RangeRequest) where
  -- a range with no error, or the Abort that none of its records fits
  sent_is_none : (long : Bool) (body : List ℕ) →
      IsNoError asker 26 (if long then abort (requester_of asker.peer asker.max_apdu asker.invoke 26) segmentation_not_supported_reason else complex_ack (requester_of asker.peer asker.max_apdu asker.invoke 26) body)
  sent_is_none true body = abort_is_none asker 26 4
  sent_is_none false body = result_is_none asker 26 body

  abbrev reply : EventLogState → Send
  reply log = range_reply (requester_of asker.peer asker.max_apdu asker.invoke 26) request log (requested_range (rule_zone_of site) request.range log)

  reply_is_none : (log : EventLogState) → IsNoError asker 26 (reply log)
  reply_is_none log =
      let range = requested_range (rule_zone_of site) request.range log in
      let sent = records_that_fit (requester_of asker.peer asker.max_apdu asker.invoke 26) request log range in
      sent_is_none (nat_lt 0 range.count && (sent == 0)) (range_body request log range sent)

  abbrev with_error : ServiceError → Send
  with_error named = error (requester_of asker.peer asker.max_apdu asker.invoke 26) named

  buffer_says : (log : EventLogState) (indexed nothing : Bool) →
      IsAnsweredBy asker 26 (if indexed then Some property_is_not_an_array_error else (if nothing then Some value_out_of_range_error else None))
      (Reply (if indexed then with_error property_is_not_an_array_error else (if nothing then with_error value_out_of_range_error else reply log)))
  buffer_says log true nothing = refl
  buffer_says log false true = refl
  buffer_says log false false = reply_is_none log

  -- the rows behind the object
  abbrev rest : Bool → Option ServiceError
  rest nothing = if is_some request.index then Some property_is_not_an_array_error else (if nothing then Some value_out_of_range_error else None)

  whole_buffer_says : (log : EventLogState) → IsAnsweredBy asker 26 (rest (asks_for_nothing request.range)) (Reply (buffer_answer (requester_of asker.peer asker.max_apdu asker.invoke 26) (rule_zone_of site) request log))
  whole_buffer_says log =
      subst (λ (b : Bool). IsAnsweredBy asker 26 (rest b) (Reply (buffer_answer (requester_of asker.peer asker.max_apdu asker.invoke 26) (rule_zone_of site) request log))) (sym (zero_range request.range))
      (buffer_says log (is_some request.index) (has_zero_count request.range))

  property_says : (log : EventLogState) (buffer : Bool) →
      IsAnsweredBy asker 26 (if not buffer then Some unknown_property_error else rest (asks_for_nothing request.range))
      (Reply (if buffer then buffer_answer (requester_of asker.peer asker.max_apdu asker.invoke 26) (rule_zone_of site) request log else with_error unknown_property_error))
  property_says log true = whole_buffer_says log
  property_says log false = refl

  abbrev pub rows : Bool → Bool → List (Bool × ServiceError)
  rows known logged =
      (not known, unknown_object_error)
      ∷ (not (logged && (request.property.0 == 131)), unknown_property_error)
      ∷ (is_some request.index, property_is_not_an_array_error)
      ∷ (asks_for_nothing request.range, value_out_of_range_error)
      ∷ []

  log_says : (log : Option EventLogState) → IsAnsweredBy asker 26 (first_error (rows true (is_some log))) (Reply (object_answer (requester_of asker.peer asker.max_apdu asker.invoke 26) (rule_zone_of site) request log))
  log_says None = refl
  log_says (Some log) = property_says log (request.property.0 == 131)

  object_says : (there : Bool) (log : Option EventLogState) → IsAnsweredBy asker 26 (first_error (rows there (is_some log))) (Reply (range_answer (requester_of asker.peer asker.max_apdu asker.invoke 26) (rule_zone_of site) request there log))
  object_says true log = log_says log
  object_says false log = refl

  pub range_says : (known there logged : Bool) (log : Option EventLogState) → known ≡ there → logged ≡ is_some log →
      IsAnsweredBy asker 26 (first_error (rows known logged)) (Reply (range_answer (requester_of asker.peer asker.max_apdu asker.invoke 26) (rule_zone_of site) request there log))
  range_says known there logged log k l =
      subst (λ (b : Bool). IsAnsweredBy asker 26 (first_error (rows b logged)) (Reply (range_answer (requester_of asker.peer asker.max_apdu asker.invoke 26) (rule_zone_of site) request there log))) (sym k)
      (subst (λ (b : Bool). IsAnsweredBy asker 26 (first_error (rows there b)) (Reply (range_answer (requester_of asker.peer asker.max_apdu asker.invoke 26) (rule_zone_of site) request there log))) (sym l)
      (object_says there log))
