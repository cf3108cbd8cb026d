-- An answer is aborted exactly where it is too long for who asked.
use Rattle.std.proofs.Common.{◌≡◌, ◌≢◌, ℕ, zero, suc, ◌+◌, ◌-◌, ◌*◌, ◌/◌, ◌<◌, ◌≤◌, ◌==◌, ◌&&◌, nat_lt, nat_le, Bool, true, false, true≢false, not, cond, if◌then◌else◌, Option, Some, None, is_some, Result, Ok, Err, List, [], ◌∷◌, ◌++◌, length, map, filter, take, refl, sym, ap, ◌∙◌, subst, arith, inl, inr}
use Rattle.std.specs.Prelude.{◌⊎◌, ◌↔◌, All}
use Rattle.std.specs.List.{flat_map, list_any}
use Rattle.std.proofs.lemmas.Bool.{cases_Bool, le-ltb, lt-ltb, ltb-false, ltb-true}
use Rattle.std.proofs.lemmas.List.{length-append}
use Rattle.std.proofs.lemmas.List.Elements.{All-cons, All-filter, All-head, All-nil, All-tail}
use Rattle.bac_values.specs.Address.{PeerData}
use Rattle.bac_values.specs.BitString.{string_of_flags}
use Rattle.bac_values.specs.EventStates.{number_of_state}
use Rattle.bac_values.specs.declared.event_state.EventState.{EventState}
use Rattle.bac_values.specs.declared.event_state.EventState.TheVariants.{Fault, HighLimit, LowLimit, Normal, Offnormal}
use Rattle.bac_values.specs.Identifier.{ObjectIdData}
use Rattle.bac_values.specs.declared.note.Send.{Send}
use Rattle.bac_values.specs.declared.service_error.ServiceError.{ServiceError}
use Rattle.bac_tags.specs.Writing.{written_bits, written_enumerated, written_object, written_tag}
use Rattle.bac_tags.specs.declared.malformed.Malformed.{Malformed}
use Rattle.apdu_frame.specs.Writing.{written_abort, written_complex_ack, written_error}
use Rattle.event_services.specs.declared.information.EventSummary.{EventSummary}
use Rattle.property_services.specs.Requests.{SpellsReadProperty}
use Rattle.property_services.specs.Writing.{written_read_ack}
use Rattle.property_services.specs.declared.requests.ReadRequest.{ReadRequest}
use Rattle.property_services.proofs.References.{read_property_answers}
use Rattle.property_values.specs.declared.content.ReadFault.{ReadFault}
use Rattle.property_values.specs.Properties.{error_of}
use Rattle.alarm_core.specs.Allowed.{Represents}
use Rattle.alarm_core.specs.History.{Occurrence, occurrences_of}
use Rattle.alarm_core.specs.Information.{active_behind, is_told, summary_of}
use Rattle.alarm_core.specs.Reading.{read_of}
use Rattle.alarm_core.specs.State.{CoreState, DetectedObjectState, alarms_of, detected_object_of}
use Rattle.alarm_core.specs.Subjects.{detecting_subjects}
use Rattle.alarm_core.specs.declared.event.Event.{Event}
use Rattle.alarm_core.specs.declared.site.Site.{Site}
use Rattle.enrollment.specs.declared.subject.Subject.{Subject}
use Rattle.service_desk.specs.ReadProperty.{read_reply, read_with}
use Rattle.service_desk.specs.Replies.{complex_ack, reply_to, within_max_apdu}
use Rattle.service_desk.specs.Requesters.{RequesterData, requester_of}
use Rattle.service_desk.specs.declared.decision.Decision.{Decision}
use Rattle.service_desk.specs.declared.decision.Decision.TheVariants.{Reply}
use Rattle.profile_laws.specs.ErrorTables.{AreOctets, Asker, decision_for, error_to, first_error}
use Rattle.profile_laws.specs.ManyLaws.{alarms_among, is_alarm, written_alarm_summary}
use Rattle.profile_laws.specs.PropertyErrors.{read_errors}
use Rattle.profile_laws.specs.ReadBack.{IsReadAs, read_ack}
use Rattle.profile_laws.specs.TooLong.{AbortsLongLists, AbortsLongReads, AbortsLongSummaries, AbortsSegments, IsAbortedBelow, too_long_for}
use Rattle.profile_laws.proofs.InTurn.{reads_say}
use Rattle.profile_laws.proofs.ManyReads.{each_part_is_a_read}
use Rattle.profile_laws.proofs.NoErrors.{first_of, same_apdu}
use Rattle.profile_laws.proofs.ReadTables.{ReadSays}
use Rattle.profile_laws.proofs.ReadingBack.{read_as}
use Rattle.profile_laws.proofs.SummaryRows.{summaries_ascend}

reply_is : (a b : Send) → Reply a ≡ Reply b → a ≡ b
reply_is a b e = cc

-- an APDU of another type is no Abort
pub no_abort : (asker : Asker) (apdu : List ℕ) → (first_of apdu ≡ 113 → ⊥) → Reply (reply_to asker.peer apdu) ≡ Reply (too_long_for asker) → ⊥
no_abort asker apdu other e = other (ap first_of (same_apdu asker.peer apdu (written_abort asker.invoke 4) (reply_is (reply_to asker.peer apdu) (too_long_for asker) e)))

pub result_is_no_abort : (asker : Asker) (service : ℕ) (body : List ℕ) → Reply (reply_to asker.peer (written_complex_ack asker.invoke service body)) ≡ Reply (too_long_for asker) → ⊥
result_is_no_abort asker service body = no_abort asker (written_complex_ack asker.invoke service body) (λ (wrong : 48 ≡ 113). omega (arith, wrong))

result_by : (asker : Asker) (service : ℕ) (body : List ℕ) (long : Bool) → nat_lt asker.max_apdu (length (written_complex_ack asker.invoke service body)) ≡ long →
    IsAbortedBelow asker (length (written_complex_ack asker.invoke service body)) (Reply (if long then too_long_for asker else reply_to asker.peer (written_complex_ack asker.invoke service body)))
result_by asker service body true e = (λ h. ltb-true asker.max_apdu (length (written_complex_ack asker.invoke service body)) e, λ h. refl)
result_by asker service body false e = (
  λ h. absurd (result_is_no_abort asker service body h),
  λ h. absurd (let most = ltb-false asker.max_apdu (length (written_complex_ack asker.invoke service body)) e in omega (arith, h, most)),
)

-- a result is aborted exactly where its APDU is too long
pub result_aborts : (asker : Asker) (service : ℕ) (body : List ℕ) → IsAbortedBelow asker (length (written_complex_ack asker.invoke service body)) (Reply (complex_ack (requester_of asker.peer asker.max_apdu asker.invoke service) body))
unfolding within_max_apdu
result_aborts asker service body = result_by asker service body (nat_lt asker.max_apdu (length (written_complex_ack asker.invoke service body))) refl

pub ack_octets : (invoke service : ℕ) (body : List ℕ) → length (written_complex_ack invoke service body) ≡ 3 + length body
ack_octets invoke service body = omega arith

pub aborts_behind : (asker : Asker) (service : ℕ) (body : List ℕ) (decision : Decision) → decision ≡ Reply (complex_ack (requester_of asker.peer asker.max_apdu asker.invoke service) body) → IsAbortedBelow asker (3 + length body) decision
aborts_behind asker service body decision e =
    subst (λ (d : Decision). IsAbortedBelow asker (3 + length body) d) (sym e)
    (subst (λ (n : ℕ). IsAbortedBelow asker n (Reply (complex_ack (requester_of asker.peer asker.max_apdu asker.invoke service) body))) (ack_octets asker.invoke service body) (result_aborts asker service body))

-- ---- ReadProperty

module _ (state : CoreState) (moment : ℕ) (asker : Asker) (parameters : List ℕ) (request : ReadRequest) (octets : AreOctets parameters) (spelled : SpellsReadProperty parameters request) where
  abbrev answer : Result (List ℕ) ReadFault
  answer = read_of state request.object request.property.0 request.index

  abbrev decided : Asker → Decision
  decided who = decision_for state moment who 12 parameters

  by_answer : (who : Asker) (is : Result (List ℕ) ReadFault) → answer ≡ is → decided who ≡ Reply (read_reply (requester_of who.peer who.max_apdu who.invoke 12) request is)
  by_answer who is e =
      let read = (read_property_answers parameters (λ i. octets i)).only request spelled in
      ap (λ (r : Result ReadRequest Malformed). read_with state (requester_of who.peer who.max_apdu who.invoke 12) r) read
      ∙ ap (λ (a : Result (List ℕ) ReadFault). Reply (read_reply (requester_of who.peer who.max_apdu who.invoke 12) request a)) e

  abbrev ack : List ℕ → List ℕ
  ack value = read_ack asker request value

  -- one who takes longer answers
  abbrev patient : ℕ → Asker
  patient most = record { peer = asker.peer; max_apdu = most; invoke = asker.invoke }

  abbrev IsLong : Type 0
  IsLong = (value : List ℕ) × IsReadAs state request value × (asker.max_apdu < length (ack value))

  error_is_no_abort : (error : ServiceError) → Reply (error_to asker 12 error) ≡ Reply (too_long_for asker) → ⊥
  error_is_no_abort error = no_abort asker (written_error asker.invoke 12 error.class error.code) (λ (wrong : 80 ≡ 113). omega (arith, wrong))

  error_is_no_result : (error : ServiceError) (value : List ℕ) → Reply (error_to asker 12 error) ≡ Reply (reply_to asker.peer (ack value)) → ⊥
  error_is_no_result error value e =
      let wrong : 80 ≡ 48 = ap first_of (same_apdu asker.peer (written_error asker.invoke 12 error.class error.code) (ack value) (reply_is (error_to asker 12 error) (reply_to asker.peer (ack value)) e)) in omega (arith, wrong)

  told_by : (first : Option ServiceError) → ReadSays first answer → (decided asker ≡ Reply (too_long_for asker)) ↔ IsLong
  told_by (Some error) says = (
    λ h. absurd (error_is_no_abort error (sym (by_answer asker (Err (error_of error)) says) ∙ h)),
    λ long.
        let most = length (ack long.0) in
        absurd (error_is_no_result error long.0 (sym (by_answer (patient most) (Err (error_of error)) says) ∙ long.1 moment (patient most) parameters octets spelled (omega arith))),
  )
  told_by None says =
      let value = says.0 in
      let body = written_read_ack request value in
      let aborts = result_aborts asker 12 body in
      let is = by_answer asker (Ok value) says.1 in (
        λ h. (value, read_as state request value says.1, aborts.0 (sym is ∙ h)),
        λ long.
            let most = length (ack value) + length (ack long.0) in
            let one = read_as state request value says.1 moment (patient most) parameters octets spelled (omega arith) in
            let other = long.1 moment (patient most) parameters octets spelled (omega arith) in
            let same = same_apdu asker.peer (ack value) (ack long.0) (reply_is (reply_to asker.peer (ack value)) (reply_to asker.peer (ack long.0)) (sym one ∙ other)) in
            is ∙ aborts.1 (subst (λ (apdu : List ℕ). asker.max_apdu < length apdu) (sym same) long.2),
      )

pub aborts_long_reads : AbortsLongReads
aborts_long_reads state history represents moment asker parameters request octets spelled =
    told_by state moment asker parameters request octets spelled (first_error (read_errors state request)) (reads_say state history represents request)

-- ---- ReadPropertyMultiple

pub aborts_long_lists : AbortsLongLists
aborts_long_lists state history represents moment asker parameters asked octets spelled =
    let told = each_part_is_a_read state history represents moment asker parameters asked octets spelled in
    (told.0, told.2, aborts_behind asker 14 told.0 (decision_for state moment asker 14 parameters) told.1)

-- ---- summaries

object_octets : (object : ObjectIdData) → length (written_object None object) ≡ 5
unfolding written_tag
object_octets object = refl

state_octets : (state : EventState) → length (written_enumerated None (number_of_state state)) ≡ 2
unfolding written_tag
state_octets Normal = refl
state_octets Fault = refl
state_octets Offnormal = refl
state_octets HighLimit = refl
state_octets LowLimit = refl

flag_octets : (flags : List Bool) → length flags ≡ 3 → length (written_bits None (string_of_flags flags)) ≡ 3
unfolding written_tag
flag_octets flags three = rw three refl

alarm_octets : (summary : EventSummary) → length summary.acked ≡ 3 → length (written_alarm_summary summary) ≡ 10
alarm_octets summary three =
    let object = written_object None summary.object in
    let state = written_enumerated None (number_of_state summary.state) in
    let acked = written_bits None (string_of_flags summary.acked) in
    omega (arith, length-append object (state ++ acked), length-append state acked, object_octets summary.object, state_octets summary.state, flag_octets summary.acked three)

pub all_octets : {X : Type 0} (f : X → List ℕ) (n : ℕ) (xs : List X) → All (λ x. length (f x) ≡ n) xs → length (flat_map f xs) ≡ n * length xs
all_octets f n [] all = omega arith
all_octets {X} f n (x ∷ xs) all =
    let rest = all_octets f n xs (All-tail (λ (y : X). length (f y) ≡ n) x xs all) in
    let first = All-head (λ (y : X). length (f y) ≡ n) x xs all in
    let more : n * suc (length xs) ≡ n + n * length xs = grind arith in
    omega (arith, length-append (f x) (flat_map f xs), rest, first, more)

abbrev HasThree : EventSummary → Type 0
HasThree summary = length (written_alarm_summary summary) ≡ 10

module _ (state : CoreState) where
  abbrev told_of : Site → List Occurrence → List Subject → List EventSummary
  told_of site occurrences subjects = map (summary_of state) (filter (is_told None) (map (detected_object_of site occurrences) subjects))

  one_more : (detected : DetectedObjectState) (others : List DetectedObjectState) (told : Bool) → length detected.alarm.acked ≡ 3 → All HasThree (map (summary_of state) others) → All HasThree (map (summary_of state) (cond told (detected ∷ others) others))
  one_more detected others true three all = All-cons HasThree (summary_of state detected) (map (summary_of state) others) (alarm_octets (summary_of state detected) three) all
  one_more detected others false three all = all

  three_of : (site : Site) (occurrences : List Occurrence) (subjects : List Subject) → All HasThree (told_of site occurrences subjects)
  three_of site occurrences [] = All-nil HasThree
  three_of site occurrences (subject ∷ subjects) =
      let detected = detected_object_of site occurrences subject in
      one_more detected (filter (is_told None) (map (detected_object_of site occurrences) subjects)) (is_told None detected) refl (three_of site occurrences subjects)

alarm_lengths : (state : CoreState) (history : List Event) → Represents state history → length (flat_map written_alarm_summary (alarms_among state)) ≡ 10 * length (alarms_among state)
alarm_lengths state history represents =
    let occurrences = occurrences_of state.site history in
    let alarms_are : state.alarms ≡ alarms_of state.site occurrences = ap (λ (s : CoreState). s.alarms) represents.shows in
    let chosen = λ (alarms : List DetectedObjectState). filter is_alarm (map (summary_of state) (filter (is_told None) alarms)) in
    subst (λ (alarms : List DetectedObjectState). length (flat_map written_alarm_summary (chosen alarms)) ≡ 10 * length (chosen alarms)) (sym alarms_are)
    (all_octets written_alarm_summary 10 (chosen (alarms_of state.site occurrences))
    (All-filter is_alarm HasThree (map (summary_of state) (filter (is_told None) (alarms_of state.site occurrences))) (three_of state state.site occurrences (detecting_subjects state.site))))

pub aborts_long_summaries : AbortsLongSummaries
aborts_long_summaries = record {
  alarms = λ state history represents moment asker.
      let octets = flat_map written_alarm_summary (alarms_among state) in
      subst (λ (n : ℕ). IsAbortedBelow asker (3 + n) (decision_for state moment asker 3 [])) (alarm_lengths state history represents)
      (aborts_behind asker 3 octets (decision_for state moment asker 3 []) (summaries_ascend.alarms state moment asker));
  enrollments = λ state moment asker parameters octets is. aborts_behind asker 4 octets (decision_for state moment asker 4 parameters) is;
}

-- ---- segments

pub aborts_segments : AbortsSegments
aborts_segments state moment peer octets invoke = refl
