-- A result that is answered in parts is aborted exactly where there is no room for the first of them.
use Rattle.std.proofs.Common.{◌≡◌, ◌≢◌, ℕ, zero, suc, ◌+◌, ◌-◌, ◌*◌, ◌/◌, ◌<◌, ◌≤◌, ◌==◌, ◌&&◌, nat_lt, nat_le, Bool, true, false, true≢false, not, if◌then◌else◌, Option, Some, None, is_some, Result, Ok, Err, List, [], ◌∷◌, length, map, take, refl, sym, ap, ◌∙◌, subst, arith, inl, inr}
use Rattle.std.specs.Prelude.{◌⊎◌, ◌↔◌, All}
use Rattle.std.specs.List.{flat_map, list_any}
use Rattle.std.proofs.Math.Seq.{take-nil}
use Rattle.std.proofs.Math.Nat.{le-div_iff_mul-le, mul-div-le}
use Rattle.std.proofs.lemmas.Bool.{cases_Bool, cases_lt, eqb-true, le-ltb, leb-false, leb-true, lt-ltb, ne_eqb}
use Rattle.std.proofs.lemmas.List.{length-map, length-take}
use Rattle.std.proofs.lemmas.List.Elements.{All-map, All-take}
use Rattle.bac_values.specs.Identifier.{ObjectIdData}
use Rattle.bac_values.specs.declared.note.Send.{Send}
use Rattle.bac_values.specs.declared.service_error.ServiceError.{ServiceError}
use Rattle.bac_tags.specs.declared.malformed.Malformed.{Malformed}
use Rattle.bac_values.specs.Errors.{property_is_not_an_array_error, unknown_object_error, unknown_property_error, value_out_of_range_error}
use Rattle.apdu_frame.specs.Writing.{written_complex_ack}
use Rattle.civil_stamp.specs.LocalTime.{ZoneData}
use Rattle.event_log.specs.Log.{EventLogState}
use Rattle.event_log.specs.declared.log_range.LogRange.{LogRange}
use Rattle.event_log.specs.declared.log_site.LogSite.{LogSite}
use Rattle.event_services.specs.Information.{written_information, written_summary}
use Rattle.event_services.specs.InformationSteps.{information_request_of}
use Rattle.event_services.specs.declared.information.EventSummary.{EventSummary}
use Rattle.event_services.proofs.InformationLaws.{asks}
use Rattle.event_services.proofs.SummaryLengths.{information_part}
use Rattle.property_services.proofs.RangeLaws.{read_range_answers}
use Rattle.property_services.specs.declared.requests.RangeRequest.{RangeRequest}
use Rattle.object_table.specs.Rows.{is_object}
use Rattle.alarm_core.specs.Devices.{identifiers_of}
use Rattle.alarm_core.specs.Found.{has_object}
use Rattle.alarm_core.specs.Information.{active_behind, most_summaries, summary_of}
use Rattle.alarm_core.specs.Logs.{log_in}
use Rattle.alarm_core.specs.State.{CoreState, DetectedObjectState}
use Rattle.service_desk.specs.Information.{information_reply, information_room, information_with}
use Rattle.service_desk.specs.Ranges.{buffer_answer, greatest, has_zero_count, object_answer, range_answer, range_body, range_fits, range_reply, range_sent, range_with, records_that_fit, requested_range, rule_zone_of}
use Rattle.service_desk.specs.Replies.{complex_ack, error}
use Rattle.service_desk.specs.Requesters.{RequesterData, requester_of}
use Rattle.service_desk.specs.declared.decision.Decision.{Decision}
use Rattle.service_desk.specs.declared.decision.Decision.TheVariants.{Reply}
use Rattle.service_desk.proofs.Greatest.{greatest_within}
use Rattle.profile_laws.specs.ErrorTables.{AreOctets, Asker, decision_for, first_error}
use Rattle.profile_laws.specs.RangeErrors.{asks_for_nothing, is_log_buffer, range_errors}
use Rattle.profile_laws.specs.TooLong.{AbortsLongInformation, AbortsLongRanges, HasNoRoomForRange, IsAbortedBelow, least_information, range_octets, too_long_for}
use Rattle.profile_laws.proofs.InTurn.{has_it, identified}
use Rattle.profile_laws.proofs.LongAnswers.{aborts_behind, all_octets, result_aborts, result_is_no_abort}
use Rattle.profile_laws.proofs.RangeTables.{zero_range}

-- ---- GetEventInformation

information_octets : (summaries : List EventSummary) (more : Bool) → All (λ summary. length (written_summary summary) ≡ 61) summaries → length (written_information summaries more) ≡ 4 + 61 * length summaries
unfolding written_information
information_octets summaries more all = information_part summaries more (all_octets written_summary 61 summaries all)

and_false : (a b : Bool) → b ≡ false → (a && b) ≡ false
and_false true b e = e
and_false false b e = refl

module _ (state : CoreState) (asker : Asker) where
  abbrev informed : RequesterData
  informed = requester_of asker.peer asker.max_apdu asker.invoke 29

  abbrev IsWhole : DetectedObjectState → Type 0
  IsWhole detected = length (written_summary (summary_of state detected)) ≡ 61

  abbrev summaries : ℕ → List DetectedObjectState → List EventSummary
  summaries most active = map (summary_of state) (take most active)

  all_whole : (active : List DetectedObjectState) → All IsWhole active → All (λ summary. length (written_summary summary) ≡ 61) (map (summary_of state) active)
  all_whole active all = All-map (λ (summary : EventSummary). length (written_summary summary) ≡ 61) (summary_of state) active all

  -- a reply that tells of so many, and not less than one where there is one
  told_aborts : (told : List EventSummary) (more : Bool) → All (λ summary. length (written_summary summary) ≡ 61) told → (more && (length told == 0)) ≡ false →
      IsAbortedBelow asker (7 + 61 * length told) (Reply (information_reply informed told more))
  told_aborts told more all none =
      subst (λ (b : Bool). IsAbortedBelow asker (7 + 61 * length told) (Reply (if b then too_long_for asker else complex_ack informed (written_information told more)))) (sym none)
      (subst (λ (n : ℕ). IsAbortedBelow asker n (Reply (complex_ack informed (written_information told more)))) (omega (arith, information_octets told more all))
      (aborts_behind asker 29 (written_information told more) (Reply (complex_ack informed (written_information told more))) refl))

  -- there is room for the first one, and for all that are told
  roomy : (most : ℕ) (first : DetectedObjectState) (others : List DetectedObjectState) → All IsWhole (first ∷ others) → 1 ≤ most → 61 * most ≤ asker.max_apdu - 7 → 68 ≤ asker.max_apdu →
      IsAbortedBelow asker 68 (Reply (information_reply informed (summaries most (first ∷ others)) (nat_lt most (length (first ∷ others)))))
  roomy most first others all one fits enough =
      let active = first ∷ others in
      let told = summaries most active in
      let many : length told ≡ length (take most active) = length-map (take most active) (summary_of state) in
      let taken = length-take most active in
      let some : length told ≢ 0 = λ none. omega (arith, none, many, taken, one) in
      let aborts = told_aborts told (nat_lt most (length active)) (all_whole (take most active) (All-take IsWhole most active all)) (and_false (nat_lt most (length active)) (length told == 0) (ne_eqb (length told) 0 some)) in (
        λ h. absurd (let long = aborts.0 h in omega (arith, long, many, taken, fits, enough)),
        λ h. absurd (omega (arith, h, enough)),
      )

  information_by : (active : List DetectedObjectState) → All IsWhole active →
      IsAbortedBelow asker (least_information active) (Reply (information_reply informed (summaries (most_summaries (information_room informed)) active) (nat_lt (most_summaries (information_room informed)) (length active))))
  information_by [] all =
      let most = most_summaries (information_room informed) in
      let none : nat_lt most 0 ≡ false = le-ltb most 0 (omega arith) in
      subst (λ (b : Bool). IsAbortedBelow asker 7 (Reply (information_reply informed (summaries most []) b))) (sym none)
      (subst (λ (active : List DetectedObjectState). IsAbortedBelow asker 7 (Reply (information_reply informed (map (summary_of state) active) false))) (sym (take-nil most))
      (told_aborts [] false (λ i d within. absurd (omega (arith, within))) refl))
  information_by (first ∷ others) all =
      let most = most_summaries (information_room informed) in
      let fits : 61 * most ≤ asker.max_apdu - 7 = mul-div-le (asker.max_apdu - 7) 61 in
      elim (cases_lt asker.max_apdu 68) [
        | inl short ↦
            let no_room : most ≡ 0 = omega (arith, fits, short) in
            let aborted : information_reply informed (summaries 0 (first ∷ others)) (nat_lt 0 (length (first ∷ others))) ≡ too_long_for asker =
            ap (λ (b : Bool). if b && true then too_long_for asker else complex_ack informed (written_information [] b)) (lt-ltb 0 (length (first ∷ others)) (omega arith)) in
            (λ h. short, λ h. ap (λ (n : ℕ). Reply (information_reply informed (summaries n (first ∷ others)) (nat_lt n (length (first ∷ others))))) no_room ∙ ap (λ (send : Send). Reply send) aborted)
        | inr long ↦
            let one : 1 ≤ most = (le-div_iff_mul-le {k = 61} {x = 1} {y = asker.max_apdu - 7} (omega arith)).1 (omega (arith, long)) in
            roomy most first others all one fits long
      ]

pub aborts_long_information : AbortsLongInformation
aborts_long_information state moment asker parameters last octets spelled all =
    let read = (asks parameters (information_request_of parameters) (λ i. octets i) refl).only last spelled in
    subst (λ (r : Result (Option ObjectIdData) Malformed). IsAbortedBelow asker (least_information (active_behind last state)) (information_with state (requester_of asker.peer asker.max_apdu asker.invoke 29) r)) (sym read)
    (information_by state asker (active_behind last state) all)

-- ---- ReadRange

none_by : (test : ℕ → Bool) (m n : ℕ) (b : Bool) → test (suc m) ≡ b → (if b then suc m else greatest test m) ≡ 0 → n ≤ suc m → (greatest test m ≡ 0 → n ≤ m → test n ≡ false) → test n ≡ false
none_by test m n true t wrong within before = absurd (omega (arith, wrong))
none_by test m n false t rest within before =
    elim (cases_lt n (suc m)) [
      | inl less ↦ before rest (omega (arith, less))
      | inr most ↦ let same : n ≡ suc m = omega (arith, most, within) in ap test same ∙ t
    ]

none_passes : (test : ℕ → Bool) (count : ℕ) → greatest test count ≡ 0 → (n : ℕ) → 0 < n → n ≤ count → test n ≡ false
unfolding greatest
none_passes test zero e n some within = absurd (omega (arith, some, within))
none_passes test (suc m) e n some within = none_by test m n (test (suc m)) refl e within (λ none less. none_passes test m none n some less)

itself_by : (test : ℕ → Bool) (m : ℕ) (b : Bool) → test (suc m) ≡ b → (if b then suc m else greatest test m) ≢ 0 → (greatest test m ≢ 0 → test (greatest test m) ≡ true) → test (if b then suc m else greatest test m) ≡ true
itself_by test m true t more before = t
itself_by test m false t more before = before more

greatest_itself : (test : ℕ → Bool) (count : ℕ) → greatest test count ≢ 0 → test (greatest test count) ≡ true
unfolding greatest
greatest_itself test zero some = absurd (some refl)
greatest_itself test (suc m) some = itself_by test m (test (suc m)) refl some (greatest_itself test m)

module _ (asker : Asker) (request : RangeRequest) (log : EventLogState) (range : LogRange) where
  abbrev ranging : RequesterData
  ranging = requester_of asker.peer asker.max_apdu asker.invoke 26

  abbrev body : ℕ → List ℕ
  body sent = range_body request log range sent

  abbrev fits : ℕ → Bool
  fits sent = range_fits ranging request log range sent

  abbrev IsAborted : Send → Type 0
  IsAborted send = (Reply send ≡ Reply (too_long_for asker)) ↔ HasNoRoomForRange asker request log range

  nothing_asked : range.count ≡ 0 → IsAborted (complex_ack ranging (body 0))
  nothing_asked none =
      let aborts = result_aborts asker 26 (body 0) in (
        λ h. inr (none, aborts.0 h),
        λ h. elim h [
          | inl some ↦ absurd (omega (arith, some.0, none))
          | inr long ↦ aborts.1 long.1
        ],
      )

  some_sent : (sent : ℕ) → 0 < sent → sent ≤ range.count → fits sent ≡ true → IsAborted (complex_ack ranging (body sent))
  some_sent sent some within passes =
      let short = leb-true (range_octets asker request log range sent) asker.max_apdu passes in
      let aborts = result_aborts asker 26 (body sent) in (
        λ h. absurd (let long = aborts.0 h in omega (arith, long, short)),
        λ h. absurd (elim h [
          | inl none ↦ let long = none.1 sent some within in omega (arith, long, short)
          | inr empty ↦ omega (arith, empty.0, some, within)
        ]),
      )

  none_sent : 0 < range.count → ((n : ℕ) → 0 < n → n ≤ range.count → fits n ≡ false) → IsAborted (too_long_for asker)
  none_sent some fails =
      (λ h. inl (some, λ n more within. leb-false (range_octets asker request log range n) asker.max_apdu (fails n more within)), λ h. refl)

  by_count : (b none : Bool) (sent : ℕ) → (0 < range.count → b ≡ true) → (range.count ≡ 0 → b ≡ false) → (none ≡ true → sent ≡ 0) → (none ≡ false → 0 < sent) → sent ≤ range.count →
      (sent ≡ 0 → (n : ℕ) → 0 < n → n ≤ range.count → fits n ≡ false) → (0 < sent → fits sent ≡ true) → IsAborted (if b && none then too_long_for asker else complex_ack ranging (body sent))
  by_count true true sent must cannot zeroes more within fails passes =
      elim (cases_lt 0 range.count) [
        | inl some ↦ none_sent some (fails (zeroes refl))
        | inr empty ↦ absurd (true≢false (cannot (omega (arith, empty))))
      ]
  by_count true false sent must cannot zeroes more within fails passes = some_sent sent (more refl) within (passes (more refl))
  by_count false none sent must cannot zeroes more within fails passes =
      elim (cases_lt 0 range.count) [
        | inl some ↦ absurd (true≢false (sym (must some)))
        | inr empty ↦
            let nothing : range.count ≡ 0 = omega (arith, empty) in
            let no_record : sent ≡ 0 = omega (arith, within, nothing) in
            subst (λ (n : ℕ). IsAborted (complex_ack ranging (body n))) (sym no_record) (nothing_asked nothing)
      ]

  positive : (n : ℕ) → (n == 0) ≡ false → 0 < n
  positive zero e = absurd (true≢false e)
  positive (suc n) e = omega arith

  pub range_aborts : IsAborted (range_reply ranging request log range)
  range_aborts =
      let sent = records_that_fit ranging request log range in
      by_count (nat_lt 0 range.count) (sent == 0) sent (λ some. lt-ltb 0 range.count some) (λ none. le-ltb 0 range.count (omega (arith, none))) (λ none. eqb-true sent 0 none) (positive sent)
      (greatest_within fits range.count) (none_passes fits range.count) (λ some. greatest_itself fits range.count (λ none. omega (arith, none, some)))

-- no row of the table holds
record NoneHolds (unknown wrong indexed nothing : Bool) : Type 0 where
  known : unknown ≡ false
  right : wrong ≡ false
  whole : indexed ≡ false
  some : nothing ≡ false

none_holds : (unknown wrong indexed nothing : Bool) →
    first_error ((unknown, unknown_object_error) ∷ (wrong, unknown_property_error) ∷ (indexed, property_is_not_an_array_error) ∷ (nothing, value_out_of_range_error) ∷ []) ≡ None → NoneHolds unknown wrong indexed nothing
none_holds false false false false e = record { known = refl; right = refl; whole = refl; some = refl }
none_holds true wrong indexed nothing e = absurd cc
none_holds false true indexed nothing e = absurd cc
none_holds false false true nothing e = absurd cc
none_holds false false false true e = absurd cc

holds : (b : Bool) → not b ≡ false → b ≡ true
holds true e = refl
holds false e = absurd (true≢false e)

second : (a b : Bool) → (a && b) ≡ true → b ≡ true
second true b e = e
second false b e = absurd (true≢false (sym e))

pub aborts_long_ranges : AbortsLongRanges
aborts_long_ranges state history represents moment asker parameters request octets spelled first log found =
    let read = (read_range_answers parameters (λ i. octets i)).only request spelled in
    let is = identified state history represents request.object in
    let who = requester_of asker.peer asker.max_apdu asker.invoke 26 in
    let clock = rule_zone_of state.site in
    let known = list_any (is_object request.object) (identifiers_of state.site) in
    let logged = list_any (λ (listed : LogSite). is_object request.object listed.object) state.site.logs in
    let n = none_holds (not known) (not (logged && (request.property.0 == 131))) (is_some request.index) (asks_for_nothing request.range) first in
    let there : has_object state request.object ≡ true = sym (has_it state request.object is) ∙ holds known n.known in
    let buffer : (request.property.0 == 131) ≡ true = second logged (request.property.0 == 131) (holds (logged && (request.property.0 == 131)) n.right) in
    let counted : has_zero_count request.range ≡ false = sym (zero_range request.range) ∙ n.some in
    let range = requested_range clock request.range log in
    let is_range : decision_for state moment asker 26 parameters ≡ Reply (range_reply who request log range) =
    ap (λ (r : Result RangeRequest Malformed). Reply (range_with who clock (has_object state) (λ object. log_in object state.logs) r)) read
    ∙ ap (λ (send : Send). Reply send)
    (ap (λ (l : Option EventLogState). range_answer who clock request (has_object state request.object) l) found
    ∙ (ap (λ (b : Bool). if b then object_answer who clock request (Some log) else error who unknown_object_error) there
    ∙ (ap (λ (b : Bool). if b then buffer_answer who clock request log else error who unknown_property_error) buffer
    ∙ (ap (λ (b : Bool). if b then error who property_is_not_an_array_error else (if has_zero_count request.range then error who value_out_of_range_error else range_reply who request log range)) n.whole
    ∙ ap (λ (b : Bool). if b then error who value_out_of_range_error else range_reply who request log range) counted)))) in
    subst (λ (decision : Decision). (decision ≡ Reply (too_long_for asker)) ↔ HasNoRoomForRange asker request log range) (sym is_range) (range_aborts asker request log range)
