-- Summaries are answered with no error, and tell of each object once, in the order of their identifiers.
use Rattle.std.proofs.Common.{◌≡◌, ℕ, ◌==◌, Bool, true, false, not, ◌||◌, if◌then◌else◌, Option, Some, None, Result, Ok, Err, List, [], ◌∷◌, map, filter, refl, sym, ap, ◌∙◌, subst}
use Rattle.std.specs.List.{flat_map, list_any}
use Rattle.std.proofs.lemmas.Simd.{map-map}
use Rattle.bac_values.specs.EventStates.{is_normal}
use Rattle.bac_values.specs.declared.alarm_row.AlarmRow.{AlarmRow}
use Rattle.bac_values.specs.declared.event_state.EventState.{EventState}
use Rattle.bac_tags.specs.declared.malformed.Malformed.{Malformed}
use Rattle.event_services.specs.declared.information.EventSummary.{EventSummary}
use Rattle.notify_class.specs.declared.class.Class.{Class}
use Rattle.object_table.specs.Rows.{Ascends}
use Rattle.enrollment.specs.declared.subject.Subject.{Subject}
use Rattle.enrollment.specs.Subjects.{is_detecting, subject_in}
use Rattle.summaries.specs.declared.filter.Filter.{Filter}
use Rattle.summaries.specs.RequestSteps.{enrollment_request_of}
use Rattle.summaries.specs.Summaries.{alarm_summary_of, enrollment_summary_of, enrollment_with, passes, priority_of, written_if_in_alarm}
use Rattle.summaries.proofs.Filters.{request_answers}
use Rattle.alarm_core.specs.declared.event.Event.{Event}
use Rattle.alarm_core.specs.AlarmRows.{alarm_row_of, alarm_rows}
use Rattle.alarm_core.specs.Allowed.{Represents}
use Rattle.alarm_core.specs.History.{Occurrence, occurrences_of}
use Rattle.alarm_core.specs.Information.{is_told, notify_of, summary_of}
use Rattle.alarm_core.specs.Sites.{IsSite}
use Rattle.alarm_core.specs.State.{CoreState, DetectedObjectState, alarms_of as alarms_after, detected_object_of}
use Rattle.alarm_core.specs.Subjects.{detecting_subjects, subjects_of}
use Rattle.alarm_core.specs.declared.site.Site.{Site}
use Rattle.alarm_core.proofs.Places.{some_ascend}
use Rattle.alarm_core.proofs.Standing.{stands}
use Rattle.service_desk.specs.declared.decision.Decision.TheVariants.{Reply}
use Rattle.service_desk.specs.Requesters.{requester_of}
use Rattle.service_desk.specs.Replies.{complex_ack}
use Rattle.service_desk.specs.SummaryDecisions.{classes_in, enrollment_summary_with}
use Rattle.profile_laws.specs.ErrorTables.{Asker, HasNoError, decision_for}
use Rattle.profile_laws.specs.ManyLaws.{EnrollmentSummary, IsNoErrorAtOnce, SummariesAscend, SummariesHaveNoErrors, alarms_among, is_alarm, written_alarm_summary, written_enrollment_summary}
use Rattle.profile_laws.proofs.Listed.{flat_map_map, picked, picked_among}
use Rattle.profile_laws.proofs.NoErrors.{reject_is_no_error, result_is_none}
use Rattle.profile_laws.proofs.PassedTests.{second_true}

-- ---- no errors

no_error_of_alarms : (state : CoreState) (moment : ℕ) (asker : Asker) (parameters : List ℕ) → IsNoErrorAtOnce asker 3 (decision_for state moment asker 3 parameters)
no_error_of_alarms state moment asker [] = (result_is_none asker 3 (alarm_summary_of (alarm_rows state))).error
no_error_of_alarms state moment asker (octet ∷ octets) = reject_is_no_error asker 3 7

no_error_of_enrollments : (state : CoreState) (asker : Asker) (read : Result Filter Malformed) → IsNoErrorAtOnce asker 4 (enrollment_summary_with state (requester_of asker.peer asker.max_apdu asker.invoke 4) read)
no_error_of_enrollments state asker (Ok asked) = (result_is_none asker 4 (enrollment_summary_of (alarm_rows state) (classes_in state) asked)).error
no_error_of_enrollments state asker (Err fault) = reject_is_no_error asker 4 fault.reject

pub summaries_have_no_errors : SummariesHaveNoErrors
summaries_have_no_errors = record {
  alarms = no_error_of_alarms;
  enrollments = λ state moment asker parameters. no_error_of_enrollments state asker (enrollment_request_of parameters);
  asked_alarms = λ state moment asker. result_is_none asker 3 (alarm_summary_of (alarm_rows state));
  asked_enrollments = λ state moment asker parameters asked octets spelled.
      subst (λ (r : Result Filter Malformed). HasNoError asker 4 (enrollment_summary_with state (requester_of asker.peer asker.max_apdu asker.invoke 4) r))
      (sym ((request_answers parameters (λ i. octets i)).only asked spelled)) (result_is_none asker 4 (enrollment_summary_of (alarm_rows state) (classes_in state) asked));
}

-- ---- in order

-- the objects of a state's alarms
alarms_ascend : (site : Site) → IsSite site → (w : List Occurrence) → Ascends (map (λ (detected : DetectedObjectState). detected.object) (alarms_after site w))
alarms_ascend site is w =
    subst Ascends (sym (map-map (λ (detected : DetectedObjectState). detected.object) (detected_object_of site w) (detecting_subjects site)))
    (some_ascend (λ (subject : Subject). subject.object) is_detecting (subjects_of site) (stands.ascending site is))

module _ (state : CoreState) where
  abbrev Ascending : Type 0
  Ascending = Ascends (map (λ (detected : DetectedObjectState). detected.object) state.alarms)

  -- an object in alarm is active
  is_active_too : (detected : DetectedObjectState) → is_alarm (summary_of state detected) ≡ true → is_told None detected ≡ true
  is_active_too detected h =
      ap (λ (b : Bool). b || list_any not detected.alarm.acked) (second_true (notify_of (subject_in detected.object state.values) == 0) (not (is_normal detected.alarm.state)) h)

  alarms_are : alarm_summary_of (alarm_rows state) ≡ flat_map written_alarm_summary (alarms_among state)
  alarms_are =
      flat_map_map written_if_in_alarm (alarm_row_of state) state.alarms
      ∙ picked_among (summary_of state) (is_told None) is_alarm written_alarm_summary (λ detected. written_if_in_alarm (alarm_row_of state detected)) (λ detected. refl) is_active_too state.alarms

  alarms_in_order : Ascending → Ascends (map (λ (summary : EventSummary). summary.object) (alarms_among state))
  alarms_in_order ascending =
      let active = filter (is_told None) state.alarms in
      some_ascend (λ (summary : EventSummary). summary.object) is_alarm (map (summary_of state) active)
      (subst Ascends (sym (map-map (λ (summary : EventSummary). summary.object) (summary_of state) active)) (some_ascend (λ (detected : DetectedObjectState). detected.object) (is_told None) state.alarms ascending))

  -- what an enrollment summary tells of an object, and whether it does
  abbrev priority_in : Option Class → EventState → ℕ
  priority_in None event_state = 0
  priority_in (Some class) event_state = priority_of class event_state

  abbrev summary_with : AlarmRow → Option Class → EnrollmentSummary
  summary_with row class = record { object = row.object; event_type = row.event_type; state = row.state; priority = priority_in class row.state; class = row.class }

  abbrev passes_with : Filter → AlarmRow → Option Class → Bool
  passes_with asked row None = false
  passes_with asked row (Some class) = passes asked row class

  told_with : (asked : Filter) (row : AlarmRow) (class : Option Class) →
      enrollment_with asked row class ≡ (if passes_with asked row class then written_enrollment_summary (summary_with row class) else [])
  told_with asked row None = refl
  told_with asked row (Some class) = refl

  module _ (asked : Filter) where
    abbrev passing : AlarmRow → Bool
    passing row = passes_with asked row (classes_in state row.class)

    abbrev summary : AlarmRow → EnrollmentSummary
    summary row = summary_with row (classes_in state row.class)

    abbrev enrollments : List EnrollmentSummary
    enrollments = map summary (filter passing (alarm_rows state))

    enrollments_are : enrollment_summary_of (alarm_rows state) (classes_in state) asked ≡ flat_map written_enrollment_summary enrollments
    enrollments_are =
        picked summary passing written_enrollment_summary (λ (row : AlarmRow). enrollment_with asked row (classes_in state row.class)) (λ (row : AlarmRow). told_with asked row (classes_in state row.class)) (alarm_rows state)

    enrollments_in_order : Ascending → Ascends (map (λ (s : EnrollmentSummary). s.object) enrollments)
    enrollments_in_order ascending =
        subst Ascends (sym (map-map (λ (s : EnrollmentSummary). s.object) summary (filter passing (alarm_rows state))))
        (some_ascend (λ (row : AlarmRow). row.object) passing (alarm_rows state)
        (subst Ascends (sym (map-map (λ (row : AlarmRow). row.object) (alarm_row_of state) state.alarms)) ascending))

represented : (state : CoreState) (history : List Event) → IsSite state.site → Represents state history → Ascending state
represented state history is represents = subst Ascending (sym represents.shows) (alarms_ascend state.site is (occurrences_of state.site history))

pub summaries_ascend : SummariesAscend
summaries_ascend = record {
  alarms = λ state moment asker. ap (λ (octets : List ℕ). Reply (complex_ack (requester_of asker.peer asker.max_apdu asker.invoke 3) octets)) (alarms_are state);
  ascending = λ state history is represents. alarms_in_order state (represented state history is represents);
  enrollments = λ state history is represents moment asker parameters asked octets spelled. (
    enrollments state asked,
    ap (λ (r : Result Filter Malformed). enrollment_summary_with state (requester_of asker.peer asker.max_apdu asker.invoke 4) r) ((request_answers parameters (λ i. octets i)).only asked spelled)
        ∙ ap (λ (o : List ℕ). Reply (complex_ack (requester_of asker.peer asker.max_apdu asker.invoke 4) o)) (enrollments_are state asked),
    enrollments_in_order state asked (represented state history is represents),
  );
}
