-- What is written is read back in the state behind the event.
use Rattle.std.proofs.Common.{◌≡◌, ◌≢◌, ◌≤◌, ℕ, Bool, true, nat_lt, Option, Some, None, Result, Ok, Err, List, [], ◌∷◌, ◌++◌, length, refl, sym, ap, ◌∙◌, subst}
use Rattle.std.specs.Option.{option_map}
use Rattle.std.proofs.lemmas.Bool.{cond-false, le-ltb}
use Rattle.bac_values.specs.Identifier.{ObjectIdData}
use Rattle.bac_values.specs.declared.note.Send.{Send}
use Rattle.bac_values.specs.declared.value.Value.{Value}
use Rattle.bac_values.specs.declared.value.Value.TheVariants.{Unsigned}
use Rattle.bac_tags.specs.declared.malformed.Malformed.{Malformed}
use Rattle.bac_tags.specs.Writing.{written_value}
use Rattle.apdu_frame.specs.Writing.{written_abort}
use Rattle.event_log.specs.Log.{EventLogState}
use Rattle.event_log.specs.declared.log_record.LogRecord.{LogRecord}
use Rattle.property_services.specs.declared.requests.ReadRequest.{ReadRequest}
use Rattle.property_services.specs.declared.requests.WriteRequest.{WriteRequest}
use Rattle.property_services.specs.Requests.{reference_in}
use Rattle.property_services.proofs.References.{read_property_answers}
use Rattle.property_services.proofs.Writes.{write_property_answers}
use Rattle.object_table.specs.declared.change.Change.{Change}
use Rattle.object_table.specs.declared.faults.WriteFault.{WriteFault}
use Rattle.object_table.specs.declared.faults.WriteFault.TheVariants as write_faults
use Rattle.object_table.specs.declared.row.Row.{Row}
use Rattle.object_table.specs.declared.object_property.ObjectProperty.{ObjectProperty}
use Rattle.object_table.specs.Properties.{kind_in, property_of}
use Rattle.object_table.specs.Rows.{is_object, row_of}
use Rattle.object_table.specs.Verdicts.{index_verdict, known_verdict, property_change, write_verdict}
use Rattle.enrollment.specs.declared.enrollment_site.EnrollmentSite.{EnrollmentSite}
use Rattle.enrollment.specs.Enrollments.{site_of}
use Rattle.enrollment.specs.Objects.{written}
use Rattle.enrollment.specs.declared.enrollment_property.EnrollmentProperty.{EnrollmentProperty}
use Rattle.enrollment.specs.Properties.{property_of as enrollment_property_of}
use Rattle.enrollment.specs.Subjects.{inhibited_by, inhibited_with, is_inhibited, subject_by}
use Rattle.enrollment.specs.Verdicts as enrollment_values
use Rattle.property_values.specs.declared.content.Content.{Content}
use Rattle.property_values.specs.declared.content.ReadFault.{ReadFault}
use Rattle.property_values.specs.LogProperties.{log_content, takes_value, write_with}
use Rattle.property_values.specs.Properties.{row_content}
use Rattle.property_values.specs.Reading.{part_in, size_of}
use Rattle.alarm_core.specs.declared.event.Act.TheVariants.{Write}
use Rattle.alarm_core.specs.declared.event.Event.{Event}
use Rattle.alarm_core.specs.declared.event.StepFault.{StepFault}
use Rattle.alarm_core.specs.declared.event.StepFault.TheVariants.{Full as TooMany, NoMemory}
use Rattle.alarm_core.specs.Contents.{content_by, other_content}
use Rattle.alarm_core.specs.CoreSteps.{after_calls, evaluated_all, next_state, next_transitions, transitions_all, transitions_of_looks}
use Rattle.alarm_core.specs.EnrollmentProperties.{enrollment_content}
use Rattle.alarm_core.specs.Evaluations.{site_moment}
use Rattle.alarm_core.specs.Found.{alarm_in}
use Rattle.alarm_core.specs.History.{StateTransition, joined, raised}
use Rattle.alarm_core.specs.Logs.{SiteLogState, calls_by, kept_log, log_in, log_of}
use Rattle.alarm_core.specs.Reading.{denied, denied_by, read_of, write_by, write_of}
use Rattle.alarm_core.specs.State.{CoreState}
use Rattle.alarm_core.specs.Verdicts.{step_verdict}
use Rattle.alarm_core.proofs.Searches.{find_map, passes as found_passes}
use Rattle.alarm_core.proofs.Stays.{row_of-written, site_of-written, written_row, written_site}
use Rattle.service_desk.specs.declared.decision.Decision.TheVariants.{Reply}
use Rattle.service_desk.specs.Answers.{Entered, answer_of, entering}
use Rattle.service_desk.specs.Requesters.{requester_of}
use Rattle.service_desk.specs.ReadProperty.{read_reply, read_with}
use Rattle.service_desk.specs.WriteProperty.{change_decision, write_at, write_with as decision_with}
use Rattle.service_desk.specs.Replies.{reply_to, within_max_apdu}
use Rattle.profile_laws.specs.ErrorTables.{Asker}
use Rattle.profile_laws.specs.ReadBack.{IsReadAs, IsWritten, ReadsBackWrites, read_ack}
use Rattle.profile_laws.proofs.EnrollmentBack.{enrollment_back}
use Rattle.profile_laws.proofs.LogBack.{emptied, enable_back, log_behind, log_passes, read_count, takes_enable, takes_zero}
use Rattle.profile_laws.proofs.PassedTests.{allowed}
use Rattle.profile_laws.proofs.RowBack.{row_back}
use Rattle.profile_laws.proofs.SoundValues.{IsSound, sound_request}

-- ---- a read that is answered

short_enough : (asker : Asker) (apdu : List ℕ) → length apdu ≤ asker.max_apdu → within_max_apdu (requester_of asker.peer asker.max_apdu asker.invoke 12) apdu ≡ reply_to asker.peer apdu
unfolding within_max_apdu
short_enough asker apdu short =
    cond-false (nat_lt asker.max_apdu (length apdu)) (reply_to asker.peer (written_abort asker.invoke 4)) (reply_to asker.peer apdu) (le-ltb asker.max_apdu (length apdu) short)

pub read_as : (state : CoreState) (reference : ReadRequest) (octets : List ℕ) → read_of state reference.object reference.property.0 reference.index ≡ Ok octets → IsReadAs state reference octets
read_as state reference octets h moment asker parameters are spelled short =
    let read = (read_property_answers parameters (λ i. are i)).only reference spelled in
    ap (λ (r : Result ReadRequest Malformed). read_with state (requester_of asker.peer asker.max_apdu asker.invoke 12) r) read
    ∙ (ap (λ (a : Result (List ℕ) ReadFault). Reply (read_reply (requester_of asker.peer asker.max_apdu asker.invoke 12) reference a)) h
    ∙ ap (λ (send : Send). Reply send) (short_enough asker (read_ack asker reference octets) short))

-- ---- a write that is entered

pub entered_is : (event other : Event) (reply full acknowledgement : Option Send) (verdict : Result (Unit {0}) StepFault) → entering event reply full verdict ≡ Entered other acknowledgement → event ≡ other
entered_is event other reply full acknowledgement (Ok fits) h = cc
entered_is event other reply full acknowledgement (Err (TooMany would limit)) h = absurd cc
entered_is event other reply full acknowledgement (Err NoMemory) h = absurd cc

-- the change of a write, and the event that it is
record Changes (state : CoreState) (request : WriteRequest) (event : Event) : Type 0 where
  change : Change
  moment : ℕ
  checked : write_of state request.object request.property.0 request.index request.value ≡ Ok change
  event_is : raised state.last_moment (write_at moment change) ≡ event

changes_by : (state : CoreState) (request : WriteRequest) (event : Event) (moment : ℕ) (asker : Asker) (acknowledgement : Option Send) (answer : Result Change WriteFault) →
    write_of state request.object request.property.0 request.index request.value ≡ answer →
    answer_of state (change_decision moment (requester_of asker.peer asker.max_apdu asker.invoke 15) answer) ≡ Entered event acknowledgement → Changes state request event
changes_by state request event moment asker acknowledgement (Ok change) e h =
    record { change = change; moment = moment; checked = e; event_is = entered_is (raised state.last_moment (write_at moment change)) event _ _ acknowledgement (step_verdict (raised state.last_moment (write_at moment change)) state) h }
changes_by state request event moment asker acknowledgement (Err (write_faults.Error class code)) e h = absurd cc
changes_by state request event moment asker acknowledgement (Err write_faults.NoMemory) e h = absurd cc

changes : (state : CoreState) (request : WriteRequest) (event : Event) → IsWritten state request event → Changes state request event
changes state request event w =
    let read = (write_property_answers w.parameters (λ i. w.octets i)).only request w.spelled in
    changes_by state request event w.moment w.asker w.acknowledgement (write_of state request.object request.property.0 request.index request.value) refl
    (sym (ap (λ (r : Result WriteRequest Malformed). answer_of state (decision_with state w.moment (requester_of w.asker.peer w.asker.max_apdu w.asker.invoke 15) r)) read) ∙ w.entered)

-- ---- behind it

by_verdict : (verdict : Result (Unit {0}) WriteFault) (change : Change) → denied_by verdict ≡ Ok change → ⊥
by_verdict (Ok passed) change h = cc
by_verdict (Err fault) change h = cc

never_denied : (content : Result Content ReadFault) (index : Option ℕ) (change : Change) → denied content index ≡ Ok change → ⊥
never_denied (Err fault) index change h = cc
never_denied (Ok content) index change h = by_verdict (index_verdict (size_of content) index) change h

nil_behind : {X : Type 0} (xs ys : List X) → xs ++ ys ≡ [] → ys ≡ []
nil_behind [] ys h = h
nil_behind (x ∷ xs) ys h = absurd cc

no_count_of_objects : property_of 141 ≡ None
unfolding property_of
no_count_of_objects = refl

no_count_of_enrollments : enrollment_property_of 141 ≡ None
unfolding enrollment_property_of
no_count_of_enrollments = refl

module _ (state : CoreState) (moment : ℕ) (change : Change) (object : ObjectIdData) (number : ℕ) (index : Option ℕ) (value : Value) where
  abbrev event : Event
  event = raised state.last_moment (write_at moment change)

  abbrev next : CoreState
  next = next_state event state

  -- the look with the properties before the write, and the later one
  abbrev first : List StateTransition
  first = transitions_all (site_moment state.site event.moment) state.values state.alarms

  abbrev later : List (List StateTransition)
  later = transitions_of_looks (site_moment state.site event.moment) (written change state.values ∷ []) (evaluated_all (site_moment state.site event.moment) state.values state.alarms)

  -- a log behind it
  abbrev log_then : SiteLogState → Change → EventLogState
  log_then kept made = after_calls (calls_by state.site state.classes kept.site (Write made) (first ∷ later)) kept.log

  abbrev kept_then : SiteLogState → SiteLogState
  kept_then kept = record kept { log = log_then kept change }

  -- what is read then, by what is found
  abbrev read_by : Option EnrollmentSite → Option Row → Option SiteLogState → Result (List ℕ) ReadFault
  read_by enrollment row kept = part_in (content_by next object number enrollment row kept) index

  logs_then : kept_log object next.logs ≡ option_map kept_then (kept_log object state.logs)
  logs_then = find_map kept_then (λ (kept : SiteLogState). is_object object kept.site.object) state.logs

  abbrev enrollment_of : Option EnrollmentSite
  enrollment_of = site_of object state.values.enrollments

  abbrev row_is : Option Row
  row_is = row_of object state.values.rows

  read_then : read_of next object number index ≡ read_by (option_map (written_site change) enrollment_of) (option_map (written_row change) row_is) (option_map kept_then (kept_log object state.logs))
  read_then =
      ap (λ (e : Option EnrollmentSite). read_by e (row_of object next.values.rows) (kept_log object next.logs)) (site_of-written object change state.values.enrollments)
      ∙ (ap (λ (r : Option Row). read_by (option_map (written_site change) enrollment_of) r (kept_log object next.logs)) (row_of-written object change state.values.rows)
      ∙ ap (λ (k : Option SiteLogState). read_by (option_map (written_site change) enrollment_of) (option_map (written_row change) row_is) k) logs_then)

  same_enrollment : (site : EnrollmentSite) → enrollment_of ≡ Some site → is_object object site.object ≡ true
  same_enrollment site e = found_passes (λ (s : EnrollmentSite). is_object object s.object) site state.values.enrollments e

  same_row : (row : Row) → row_is ≡ Some row → is_object object row.site.object ≡ true
  same_row row e = found_passes (λ (r : Row). is_object object r.site.object) row state.values.rows e

  -- whether the object is inhibited then, by what is found
  abbrev inhibited_with_these : Option EnrollmentSite → Option Row → Bool
  inhibited_with_these enrollment row = inhibited_with (subject_by enrollment row) next.values.rows

  inhibited_then : (enrollment : Option EnrollmentSite) (row : Option Row) → enrollment_of ≡ enrollment → row_is ≡ row →
      is_inhibited object next.values ≡ inhibited_with_these (option_map (written_site change) enrollment) (option_map (written_row change) row)
  inhibited_then enrollment row e r =
      ap (λ (s : Option EnrollmentSite). inhibited_with_these s (row_of object next.values.rows)) (site_of-written object change state.values.enrollments ∙ ap (option_map (written_site change)) e)
      ∙ ap (λ (s : Option Row). inhibited_with_these (option_map (written_site change) enrollment) s) (row_of-written object change state.values.rows ∙ ap (option_map (written_row change)) r)

  back : (enrollment : Option EnrollmentSite) (row : Option Row) (kept : Option SiteLogState) → enrollment_of ≡ enrollment → row_is ≡ row →
      write_by state enrollment row kept object number index value ≡ Ok change → (number ≡ 141 → ⊥) → IsSound value →
      read_by (option_map (written_site change) enrollment) (option_map (written_row change) row) (option_map kept_then kept) ≡ Ok (written_value value)
  back (Some site) row kept e r h other sound =
      let a = allowed (enrollment_values.write_verdict site number index value) (property_change object number value) change h in
      subst (λ (b : Bool). part_in (enrollment_content (alarm_in next object) b (written_site change site) next.values.rows number) index ≡ Ok (written_value value)) (sym (inhibited_then (Some site) row e r))
      (subst (λ (c : Change). let after = written_site c site in part_in (enrollment_content (alarm_in next object) (inhibited_by after.inhibit_ref after.inhibit next.values.rows) after next.values.rows number) index ≡ Ok (written_value value)) a.1
      (enrollment_back (alarm_in next object) next.values.rows site object number index value (same_enrollment site e) a.0 sound))
  back None (Some row) kept e r h other sound =
      let a = allowed (write_verdict row.site number index value) (property_change object number value) change h in
      subst (λ (b : Bool). part_in (row_content (alarm_in next object) b (written_row change row) number) index ≡ Ok (written_value value)) (sym (inhibited_then None (Some row) e r))
      (subst (λ (c : Change). let after = written_row c row in part_in (row_content (alarm_in next object) (inhibited_by after.site.inhibit_ref after.site.inhibit next.values.rows) after number) index ≡ Ok (written_value value)) a.1
      (row_back (alarm_in next object) next.values.rows row object number index value (same_row row r) a.0 sound))
  back None None (Some kept) e r h other sound =
      let a = allowed (write_with (log_content kept.site kept.log number) number index value) (property_change kept.site.object number value) change h in
      let p = log_passes kept.site kept.log number index value a.0 in
      subst (λ (c : Change). part_in (log_content kept.site (log_then kept c) number) index ≡ Ok (written_value value)) a.1
      (enable_back state.site state.classes kept.site first later kept.log number index value p.0 (takes_enable number value p.1 other))
  back None None None e r h other sound = absurd (never_denied (other_content state.site state.classes object number) index change h)

  abbrev IsChecked : Type 0
  IsChecked = write_of state object number index value ≡ Ok change

  value_back : IsChecked → (number ≡ 141 → ⊥) → IsSound value → read_of next object number index ≡ Ok (written_value value)
  value_back h other sound = read_then ∙ back enrollment_of row_is (kept_log object state.logs) refl refl h other sound

  -- ---- Record_Count

  record CountBack : Type 0 where
    pub log : EventLogState
    pub found : log_in object next.logs ≡ Some log
    pub read : read_of next object number index ≡ Ok (written_value (Unsigned (length log.records)))
    pub zero : value ≡ Unsigned 0
    pub none : joined later ≡ [] → log.records ≡ []

  count_by : (enrollment : Option EnrollmentSite) (row : Option Row) (kept : Option SiteLogState) → enrollment_of ≡ enrollment → row_is ≡ row → kept_log object state.logs ≡ kept →
      write_by state enrollment row kept object number index value ≡ Ok change → number ≡ 141 → CountBack
  count_by (Some site) row kept e r k h count =
      let a = allowed (enrollment_values.write_verdict site number index value) (property_change object number value) change h in
      let p : enrollment_property_of number ≡ None = ap enrollment_property_of count ∙ no_count_of_enrollments in
      absurd (let bad = sym (ap (λ (o : Option EnrollmentProperty). enrollment_values.known_verdict site o index value) p) ∙ a.0 in cc)
  count_by None (Some row) kept e r k h count =
      let a = allowed (write_verdict row.site number index value) (property_change object number value) change h in
      let p : property_of number ≡ None = ap property_of count ∙ no_count_of_objects in
      absurd (let bad = sym (ap (λ (o : Option ObjectProperty). known_verdict (kind_in row.site) row.site o index value) p) ∙ a.0 in cc)
  count_by None None (Some kept) e r k h count =
      let a = allowed (write_with (log_content kept.site kept.log number) number index value) (property_change kept.site.object number value) change h in
      let p = log_passes kept.site kept.log number index value a.0 in
      let zero = takes_zero value (subst (λ (n : ℕ). takes_value n value ≡ true) count p.1) in
      record {
        log = log_then kept change;
        found = ap (option_map log_of) logs_then ∙ ap (λ (o : Option SiteLogState). option_map log_of (option_map kept_then o)) k;
        read = read_then
            ∙ (ap (λ (s : Option EnrollmentSite). read_by (option_map (written_site change) s) (option_map (written_row change) row_is) (option_map kept_then (kept_log object state.logs))) e
            ∙ (ap (λ (s : Option Row). read_by None (option_map (written_row change) s) (option_map kept_then (kept_log object state.logs))) r
            ∙ (ap (λ (s : Option SiteLogState). read_by None None (option_map kept_then s)) k
            ∙ (ap (λ (n : ℕ). part_in (log_content kept.site (log_then kept change) n) index) count
            ∙ (ap (λ (i : Option ℕ). part_in (log_content kept.site (log_then kept change) 141) i) p.0
            ∙ read_count kept.site (log_then kept change))))));
        zero = zero;
        none = λ quiet.
            ap (λ (c : Change). (log_then kept c).records) (sym a.1)
            ∙ (ap (λ (n : ℕ). (log_behind state.site state.classes kept.site n value first later kept.log).records) count
            ∙ (ap (λ (v : Value). (log_behind state.site state.classes kept.site 141 v first later kept.log).records) zero
            ∙ emptied state.site state.classes kept.site first later kept.log quiet));
      }
  count_by None None None e r k h count = absurd (never_denied (other_content state.site state.classes object number) index change h)

  count_back : IsChecked → number ≡ 141 → CountBack
  count_back h count = count_by enrollment_of row_is (kept_log object state.logs) refl refl refl h count

-- ---- all of it

abbrev number_of : WriteRequest → ℕ
number_of request = request.property.0

value : (state : CoreState) (request : WriteRequest) (event : Event) → IsWritten state request event → number_of request ≢ 141 → IsReadAs (next_state event state) (reference_in request) (written_value request.value)
value state request event w other =
    let c = changes state request event w in
    subst (λ (e : Event). IsReadAs (next_state e state) (reference_in request) (written_value request.value)) c.event_is
    (read_as (next_state (raised state.last_moment (write_at c.moment c.change)) state) (reference_in request) (written_value request.value)
    (value_back state c.moment c.change request.object (number_of request) request.index request.value c.checked other (sound_request w.parameters request w.spelled)))

octets : (state : CoreState) (request : WriteRequest) (event : Event) (w : IsWritten state request event) → number_of request ≢ 141 → w.spelled.value.inside ≡ written_value request.value →
    IsReadAs (next_state event state) (reference_in request) w.spelled.value.inside
octets state request event w other same = subst (IsReadAs (next_state event state) (reference_in request)) (sym same) (value state request event w other)

abbrev Counts : CoreState → WriteRequest → Event → Type 0
Counts state request event =
    (log : EventLogState) × (log_in request.object (next_state event state).logs ≡ Some log) × IsReadAs (next_state event state) (reference_in request) (written_value (Unsigned (length log.records)))

record_count : (state : CoreState) (request : WriteRequest) (event : Event) → IsWritten state request event → number_of request ≡ 141 → Counts state request event
record_count state request event w count =
    let c = changes state request event w in
    let b = count_back state c.moment c.change request.object (number_of request) request.index request.value c.checked count in
    subst (Counts state request) c.event_is
    (b.log, b.found, read_as (next_state (raised state.last_moment (write_at c.moment c.change)) state) (reference_in request) (written_value (Unsigned (length b.log.records))) b.read)

cleared : (state : CoreState) (request : WriteRequest) (event : Event) → IsWritten state request event → number_of request ≡ 141 → next_transitions event state ≡ [] →
    IsReadAs (next_state event state) (reference_in request) (written_value request.value)
cleared state request event w count quiet =
    let c = changes state request event w in
    let happened = raised state.last_moment (write_at c.moment c.change) in
    let b = count_back state c.moment c.change request.object (number_of request) request.index request.value c.checked count in
    let none : next_transitions happened state ≡ [] = subst (λ (e : Event). next_transitions e state ≡ []) (sym c.event_is) quiet in
    let empty = b.none (nil_behind _ _ none) in
    let octets : written_value (Unsigned (length b.log.records)) ≡ written_value request.value =
    ap (λ (records : List LogRecord). written_value (Unsigned (length records))) empty ∙ ap written_value (sym b.zero) in
    subst (λ (e : Event). IsReadAs (next_state e state) (reference_in request) (written_value request.value)) c.event_is
    (read_as (next_state happened state) (reference_in request) (written_value request.value) (b.read ∙ ap (λ (o : List ℕ). Ok o) octets))

pub reads_back_writes : ReadsBackWrites
reads_back_writes = record { value = value; octets = octets; record_count = record_count; cleared = cleared }
