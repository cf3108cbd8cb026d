-- The next state is that of the longer history.
use Rattle.std.proofs.Common.{◌≡◌, ℕ, ◌+◌, ◌≤◌, IsTrue, ◌↔◌, Bool, true, false, if◌then◌else◌, Option, Some, None, List, [], ◌∷◌, ◌++◌, length, map, Ok, refl, ap, ◌∙◌, sym, arith, subst}
use Rattle.std.proofs.Math.Path.{fun_ext}
use Rattle.std.proofs.lemmas.List.{append-nil, length-append}
use Rattle.std.specs.List.{flat_map}
use Rattle.std.specs.Option.{option_map, option_map_or, option_to_list}
use Rattle.std.proofs.lemmas.Simd.{map-map}
use Rattle.std.proofs.lemmas.List.Folds.{flat_map-map}
use Rattle.bac_values.specs.Identifier.{ObjectIdData}
use Rattle.bac_values.specs.declared.transition.Transition.{Transition}
use Rattle.event_machine.specs.Detection.{moves_at}
use Rattle.event_machine.specs.Points.{Incident, Looked, Acknowledged, IsCourse, Point}
use Rattle.event_machine.specs.Summary.{AlarmState, alarm_of}
use Rattle.event_machine.specs.AlarmSteps.{acknowledged}
use Rattle.event_machine.proofs.Keeping.{keeps_course}
use Rattle.object_table.specs.Rows.{Ascends, is_object}
use Rattle.enrollment.specs.declared.subject.Subject.{Subject}
use Rattle.enrollment.specs.Objects.{ObjectsState}
use Rattle.enrollment.specs.Subjects.{object_of}
use Rattle.enrollment.proofs.SubjectOrder.{ascends}
use Rattle.alarm_core.specs.declared.event.Act.{Act}
use Rattle.alarm_core.specs.declared.event.Act.TheVariants.{Tick, Write, Ack, Pump, Answer, Edit}
use Rattle.alarm_core.specs.declared.event.Event.{Event}
use Rattle.alarm_core.specs.declared.site.Site.{Site}
use Rattle.alarm_core.specs.Subjects.{ack_required_of, detecting_subjects, subjects_of}
use Rattle.alarm_core.specs.Evaluations.{first_point, point_of, site_moment}
use Rattle.alarm_core.specs.History.{Occurrence, AllEvaluated, OneAcknowledged, detection_of, event_looks, incidents_of, joined, look_transitions, looks_of, looks_over, looks_transitions, object_transition, object_transitions, occurrences_of, occurrences_with, states_over, tick_at, transition_of, transitions_of, values_after, values_with}
use Rattle.outbox.specs.Outboxes.{OutboxState, unfinished_in}
use Rattle.alarm_core.specs.Classes.{classes_after, classes_with}
use Rattle.alarm_core.specs.Deliveries.{event_notes, notes_by, notifications_of, outbox_after}
use Rattle.alarm_core.specs.Logs.{logs_after, SiteLogState}
use Rattle.alarm_core.specs.State.{DetectedObjectState, alarms_of, state_of, detected_object_of, CoreState}
use Rattle.alarm_core.specs.Allowed.{Comes, IsAllowed, IsHistory, Represents}
use Rattle.alarm_core.specs.CoreSteps.{acked, after_looks, alarms_with, change_by, evaluated, evaluated_all, first_detected, first_state, logs_with, next_looks, next_notes, next_state, next_transitions, outbox_with, state_of_detected, states_of, transitions_all, transitions_by, transitions_of_looks}
use Rattle.alarm_core.specs.Laws.{StandsForItsHistory}
use Rattle.alarm_core.specs.RunStarts.{run_starts_in, run_starts_of, runs_in}
use Rattle.alarm_core.specs.Sites.{IsSite}
use Rattle.alarm_core.specs.Verdicts.{step_verdict}
use Rattle.alarm_core.proofs.Agreeing.{flat_map_agree, map_agree}
use Rattle.alarm_core.proofs.Courses.{HaveCourses, courses_before, have_courses}
use Rattle.alarm_core.proofs.Delivering.{first_outbox, outbox_more, sends_more}
use Rattle.alarm_core.proofs.Queued.{within_verdict}
use Rattle.alarm_core.proofs.Room.{tick_fits}
use Rattle.alarm_core.proofs.Logging.{first_logs_same, logs_more}

-- an object with an alarm
abbrev detected_as : Site → Subject → AlarmState → DetectedObjectState
detected_as site subject alarm = record {
  object = subject.object;
  algorithm = subject.algorithm;
  ack_required = ack_required_of site subject;
  alarm = alarm;
}

-- an object after a course
abbrev detected_after : Site → Subject → List Incident → DetectedObjectState
detected_after site subject incidents = detected_as site subject (alarm_of subject.algorithm (first_point site subject) incidents)

-- one more look
looked_by : (site : Site) (point : Option Point) (subject : Subject) (w : List Occurrence) → IsCourse (first_point site subject) (option_to_list (option_map Looked point) ++ incidents_of site subject w) →
    let detected = detected_object_of site w subject in
    record detected { alarm = (change_by detected.algorithm point detected.alarm).alarm } ≡ detected_after site subject (option_to_list (option_map Looked point) ++ incidents_of site subject w)
looked_by site None subject w course = refl
looked_by site (Some point) subject w course =
    ap (detected_as site subject)
    (keeps_course.looks subject.algorithm (first_point site subject) (incidents_of site subject w) point (detected_object_of site w subject).alarm course refl)

looked_one : (site : Site) (moment : ℕ) (values : ObjectsState) (w : List Occurrence) (subject : Subject) → IsCourse (first_point site subject) (incidents_of site subject (AllEvaluated moment values ∷ w)) →
    evaluated (site_moment site moment) values (detected_object_of site w subject) ≡ detected_object_of site (AllEvaluated moment values ∷ w) subject
looked_one site moment values w subject course = looked_by site (point_of site subject moment values) subject w course

pub look_stands : (site : Site) (moment : ℕ) (values : ObjectsState) (w : List Occurrence) → HaveCourses site (AllEvaluated moment values ∷ w) →
    evaluated_all (site_moment site moment) values (alarms_of site w) ≡ alarms_of site (AllEvaluated moment values ∷ w)
look_stands site moment values w courses =
    let now = AllEvaluated moment values ∷ w in
    let at = site_moment site moment in
    map-map (evaluated at values) (detected_object_of site w) (detecting_subjects site)
    ∙ map_agree (λ subject. IsCourse (first_point site subject) (incidents_of site subject now)) (λ subject. evaluated at values (detected_object_of site w subject)) (detected_object_of site now)
    (looked_one site moment values w) (detecting_subjects site) courses

-- some looks
looks_stand : (site : Site) (moment : ℕ) (looks : List ObjectsState) (w : List Occurrence) → HaveCourses site (looks_over moment looks w) →
    after_looks (site_moment site moment) looks (alarms_of site w) ≡ alarms_of site (looks_over moment looks w)
looks_stand site moment [] w courses = refl
looks_stand site moment (values ∷ later) w courses =
    let now = AllEvaluated moment values ∷ w in
    ap (after_looks (site_moment site moment) later) (look_stands site moment values w (courses_before site moment later now courses)) ∙ looks_stand site moment later now courses

-- the event states that the alarms have
states_stand : (site : Site) (w : List Occurrence) → states_of (alarms_of site w) ≡ states_over site w
states_stand site w = map-map state_of_detected (detected_object_of site w) (detecting_subjects site)

states_after_look : (site : Site) (moment : ℕ) (values : ObjectsState) (w : List Occurrence) → HaveCourses site (AllEvaluated moment values ∷ w) →
    states_of (evaluated_all (site_moment site moment) values (alarms_of site w)) ≡ states_over site (AllEvaluated moment values ∷ w)
states_after_look site moment values w courses = ap states_of (look_stands site moment values w courses) ∙ states_stand site (AllEvaluated moment values ∷ w)

-- the moves of a look
moves_by_point : (site : Site) (point : Option Point) (subject : Subject) (w : List Occurrence) → IsCourse (first_point site subject) (option_to_list (option_map Looked point) ++ incidents_of site subject w) →
    let detected = detected_object_of site w subject in
    (change_by detected.algorithm point detected.alarm).moves ≡ option_map_or (λ p. moves_at subject.algorithm (first_point site subject) (Looked p ∷ incidents_of site subject w)) point []
moves_by_point site None subject w course = refl
moves_by_point site (Some point) subject w course =
    keeps_course.moves subject.algorithm (first_point site subject) (incidents_of site subject w) point (detected_object_of site w subject).alarm course refl

pub transitions_one : (site : Site) (moment : ℕ) (values : ObjectsState) (w : List Occurrence) (subject : Subject) → IsCourse (first_point site subject) (incidents_of site subject (AllEvaluated moment values ∷ w)) →
    transitions_by (site_moment site moment) values (detected_object_of site w subject) ≡ object_transitions site moment values w subject
transitions_one site moment values w subject course =
    ap (map (object_transition subject.object (detection_of site subject w).cause)) (moves_by_point site (point_of site subject moment values) subject w course)

look_transitions_stand : (site : Site) (moment : ℕ) (values : ObjectsState) (w : List Occurrence) → HaveCourses site (AllEvaluated moment values ∷ w) →
    transitions_all (site_moment site moment) values (alarms_of site w) ≡ look_transitions site moment values w
look_transitions_stand site moment values w courses =
    let at = site_moment site moment in
    let now = AllEvaluated moment values ∷ w in
    ap (λ after. map (transition_of moment values after) (flat_map (transitions_by at values) (alarms_of site w))) (states_after_look site moment values w courses)
    ∙ ap (map (transition_of moment values (states_over site now)))
    (flat_map-map (transitions_by at values) (detected_object_of site w) (detecting_subjects site)
    ∙ flat_map_agree (λ subject. IsCourse (first_point site subject) (incidents_of site subject now)) (λ subject. transitions_by at values (detected_object_of site w subject)) (object_transitions site moment values w)
    (transitions_one site moment values w) (detecting_subjects site) courses)

looks_same : (site : Site) (moment : ℕ) (looks : List ObjectsState) (w : List Occurrence) → HaveCourses site (looks_over moment looks w) →
    transitions_of_looks (site_moment site moment) looks (alarms_of site w) ≡ looks_transitions site moment looks w
looks_same site moment [] w courses = refl
looks_same site moment (values ∷ later) w courses =
    let at = site_moment site moment in
    let now = AllEvaluated moment values ∷ w in
    let before = courses_before site moment later now courses in
    ap (λ first. first ∷ transitions_of_looks at later (evaluated_all at values (alarms_of site w))) (look_transitions_stand site moment values w before)
    ∙ ap (λ others. look_transitions site moment values w ∷ others) (ap (transitions_of_looks at later) (look_stands site moment values w before) ∙ looks_same site moment later now courses)

-- one more acknowledgement
acked_by : (site : Site) (subject : Subject) (transition : Transition) (w : List Occurrence) (same : Bool) →
    let detected = detected_object_of site w subject in
    (if same then record detected { alarm = acknowledged transition detected.alarm } else detected)
    ≡ detected_after site subject (if same then Acknowledged transition ∷ incidents_of site subject w else incidents_of site subject w)
acked_by site subject transition w true =
    ap (detected_as site subject)
    (keeps_course.acknowledges subject.algorithm (first_point site subject) (incidents_of site subject w) transition (detected_object_of site w subject).alarm refl)
acked_by site subject transition w false = refl

acked_one : (site : Site) (object : ObjectIdData) (transition : Transition) (w : List Occurrence) (subject : Subject) →
    acked object transition (detected_object_of site w subject) ≡ detected_object_of site (OneAcknowledged object transition ∷ w) subject
acked_one site object transition w subject = acked_by site subject transition w (is_object object subject.object)

acked_all : (site : Site) (object : ObjectIdData) (transition : Transition) (w : List Occurrence) →
    map (acked object transition) (alarms_of site w) ≡ alarms_of site (OneAcknowledged object transition ∷ w)
acked_all site object transition w =
    map-map (acked object transition) (detected_object_of site w) (detecting_subjects site) ∙ ap (λ f. map f (detecting_subjects site)) (fun_ext (acked_one site object transition w))

-- one more event
alarms_more : (site : Site) (moment : ℕ) (act : Act) (values : ObjectsState) (w : List Occurrence) → HaveCourses site (occurrences_with moment act values w) →
    alarms_with (site_moment site moment) act values (alarms_of site w) ≡ alarms_of site (occurrences_with moment act values w)
alarms_more site moment (Ack object transition state) values w courses = acked_all site object transition w
alarms_more site moment Tick values w courses = looks_stand site moment (looks_of Tick values) w courses
alarms_more site moment (Write change) values w courses = looks_stand site moment (looks_of (Write change) values) w courses
alarms_more site moment Pump values w courses = refl
alarms_more site moment (Answer peer invoke kind) values w courses = refl
alarms_more site moment (Edit number recipients) values w courses = refl

-- the transitions of one more event
looks_by : (site : Site) (moment : ℕ) (act : Act) (values : ObjectsState) (w : List Occurrence) → HaveCourses site (occurrences_with moment act values w) →
    transitions_of_looks (site_moment site moment) (looks_of act values) (alarms_of site w) ≡ looks_transitions site moment (looks_of act values) w
looks_by site moment Tick values w courses = looks_same site moment (looks_of Tick values) w courses
looks_by site moment (Write change) values w courses = looks_same site moment (looks_of (Write change) values) w courses
looks_by site moment (Ack object transition state) values w courses = refl
looks_by site moment Pump values w courses = refl
looks_by site moment (Answer peer invoke kind) values w courses = refl
looks_by site moment (Edit number recipients) values w courses = refl

same_looks : (site : Site) (event : Event) (history : List Event) → Comes site event history → next_looks event (state_of site history) ≡ event_looks site event history
same_looks site event history comes = looks_by site event.moment event.act (values_after site history) (occurrences_of site history) (have_courses site event history comes)

pub same_notes : (site : Site) (event : Event) (history : List Event) → Comes site event history → next_notes event (state_of site history) ≡ event_notes site event history
same_notes site event history comes = ap (λ looks. notes_by site (classes_after site history) (values_after site history) event.moment event.act (joined looks)) (same_looks site event history comes)

-- a state with what an event changes
with_parts : Site → Event → List Event → ℕ → List DetectedObjectState → OutboxState → List SiteLogState → CoreState
with_parts site event history events alarms outbox logs = record {
  site = site;
  events = events;
  last_moment = event.moment;
  values = values_with event.act (values_after site history);
  alarms = alarms;
  classes = classes_with event.act (classes_after site history);
  outbox = outbox;
  logs = logs;
}

stands_state : (site : Site) (event : Event) (history : List Event) → Comes site event history → next_state event (state_of site history) ≡ state_of site (event ∷ history)
unfolding with_parts
stands_state site event history comes =
    let longer = event ∷ history in
    let events : length history + 1 ≡ length longer = omega arith in
    let courses = have_courses site event history comes in
    let alarms = alarms_more site event.moment event.act (values_after site history) (occurrences_of site history) courses in
    let outbox = ap (λ notes. outbox_with event.moment event.act notes (outbox_after site history)) (same_notes site event history comes) ∙ outbox_more site event history in
    let logs = ap (λ looks. logs_with site (classes_after site history) event.act looks (logs_after site history)) (same_looks site event history comes) ∙ logs_more site event history in
    let next = next_state event (state_of site history) in
    ap (λ xs. with_parts site event history (length history + 1) xs next.outbox next.logs) alarms
    ∙ (ap (λ o. with_parts site event history (length history + 1) (alarms_of site (occurrences_of site longer)) o next.logs) outbox
    ∙ (ap (with_parts site event history (length history + 1) (alarms_of site (occurrences_of site longer)) (outbox_after site longer)) logs
    ∙ ap (λ n. with_parts site event history n (alarms_of site (occurrences_of site longer)) (outbox_after site longer) (logs_after site longer)) events))

stands_transitions : (site : Site) (event : Event) (history : List Event) → Comes site event history →
    transitions_of site (event ∷ history) ≡ transitions_of site history ++ next_transitions event (state_of site history)
stands_transitions site event history comes = ap (λ looks. transitions_of site history ++ joined looks) (sym (same_looks site event history comes))

stands_notes : (site : Site) (event : Event) (history : List Event) → Comes site event history →
    notifications_of site (event ∷ history) ≡ notifications_of site history ++ next_notes event (state_of site history)
stands_notes site event history comes = ap (λ notes. notifications_of site history ++ notes) (sym (same_notes site event history comes))

-- the start
first_one : (site : Site) (subject : Subject) → first_detected site subject ≡ detected_object_of site [] subject
first_one site subject = ap (detected_as site subject) (keeps_course.begins subject.algorithm (first_point site subject))

stands_start : (site : Site) → first_state site ≡ state_of site []
stands_start site =
    let with_all : List DetectedObjectState → OutboxState → List SiteLogState → CoreState = λ alarms outbox logs.
    record { site = site; events = 0; last_moment = site.device.start; values = values_after site []; alarms = alarms; classes = classes_after site []; outbox = outbox; logs = logs } in
    ap (λ f. with_all (map f (detecting_subjects site)) (first_state site).outbox (first_state site).logs) (fun_ext (first_one site))
    ∙ (ap (λ outbox. with_all (alarms_of site []) outbox (first_state site).logs) (first_outbox site)
    ∙ ap (with_all (alarms_of site []) (outbox_after site [])) (first_logs_same site))

-- a tick where nothing is unfinished
stands_ticks : (site : Site) → IsSite site → (history : List Event) → IsHistory site history → unfinished_in (outbox_after site history).posts ≡ 0 →
    (moment : ℕ) → step_verdict (tick_at moment) (state_of site history) ≡ Ok tt
stands_ticks site is history is_history none moment =
    let fits = tick_fits site is history is_history moment in
    within_verdict (next_notes (tick_at moment) (state_of site history)) (outbox_after site history) (λ over. omega (arith, over.1, none, fits))

-- the runs of the alarms
stands_runs : (site : Site) (history : List Event) → run_starts_in (state_of site history) ≡ run_starts_of site history
stands_runs site history = map-map runs_in (detected_object_of site (occurrences_of site history)) (detecting_subjects site)

-- the subjects of a site
stands_ascending : (site : Site) → IsSite site → Ascends (map object_of (subjects_of site))
stands_ascending site is = ascends site.objects site.enrollments is.ascending is.objects is.enrollments_ascend is.enrollments

pub stands : StandsForItsHistory
stands = record {
  starts = stands_start;
  state = stands_state;
  transitions = stands_transitions;
  notifications = stands_notes;
  sends = sends_more;
  run_starts = stands_runs;
  ascending = stands_ascending;
  ticks_fit = stands_ticks;
}

-- an event comes after the history that a state represents
pub comes_after : (history : List Event) (old : CoreState) (event : Event) → IsSite old.site → old.last_moment ≤ event.moment → Represents old history → Comes old.site event history
comes_after history old event is low r =
    record { is_site = is; is_history = r.is_history; not_before = subst (λ (s : CoreState). s.last_moment ≤ event.moment) r.shows low }

-- a state that represents a history represents the longer one after an event
pub represents_after : (history : List Event) (old new : CoreState) (event : Event) → IsSite old.site → Represents old history → new ≡ next_state event old →
    old.last_moment ≤ event.moment → Rattle.bac_values.specs.Moments.IsMoment event.moment → IsAllowed old event.act → unfinished_in new.outbox.posts ≤ new.site.device.outbox → Represents new (event ∷ history)
represents_after history old new event is r next low moment allowed fits =
    let site = old.site in
    let comes = comes_after history old event is low r in
    let longer : new ≡ state_of site (event ∷ history) = next ∙ (ap (next_state event) r.shows ∙ stands_state site event history comes) in
    let same_site : new.site ≡ site = ap (λ (s : CoreState). s.site) next in
    let fits_in : unfinished_in (outbox_after site (event ∷ history)).posts ≤ site.device.outbox =
    subst (λ (s : CoreState). unfinished_in s.outbox.posts ≤ s.site.device.outbox) longer fits in
    let is_allowed : IsAllowed (state_of site history) event.act = subst (λ (s : CoreState). IsAllowed s event.act) r.shows allowed in
    record {
      is_history = subst (λ (s : Site). IsHistory s (event ∷ history)) (sym same_site) (comes.not_before, moment, is_allowed, fits_in, r.is_history);
      shows = subst (λ (s : Site). new ≡ state_of s (event ∷ history)) (sym same_site) longer;
    }

pub transitions_after : (history : List Event) (old : CoreState) (event : Event) → Comes old.site event history → Represents old history →
    transitions_of old.site (event ∷ history) ≡ transitions_of old.site history ++ next_transitions event old
transitions_after history old event comes r =
    stands_transitions old.site event history comes ∙ ap (λ (s : CoreState). transitions_of old.site history ++ next_transitions event s) (sym r.shows)

pub represents_first : (site : Site) (state : CoreState) → state ≡ first_state site → Represents state []
represents_first site state e =
    let same_site : state.site ≡ site = ap (λ (s : CoreState). s.site) e in
    record { is_history = tt; shows = subst (λ (s : Site). state ≡ state_of s []) (sym same_site) (e ∙ stands_start site) }

add_none : {X : Type 0} (xs ys : List X) → xs ++ ys ≡ xs → ys ≡ []
add_none xs [] e = refl
add_none xs (y ∷ ys) e = absurd (omega (arith, length-append xs (y ∷ ys), ap length e))

-- no object moves at a tick exactly where it adds no transition
pub idle-adds_none : (history : List Event) (state : CoreState) (event : Event) (idle : Bool) → Comes state.site event history → Represents state history →
    (IsTrue idle ↔ (next_transitions event state ≡ [])) →
    (IsTrue idle ↔ (transitions_of state.site (event ∷ history) ≡ transitions_of state.site history))
idle-adds_none history state event idle comes r both =
    let more = transitions_after history state event comes r in (
      λ yes. more ∙ (ap (λ ts. transitions_of state.site history ++ ts) (both.0 yes) ∙ append-nil (transitions_of state.site history)),
      λ none. both.1 (add_none (transitions_of state.site history) (next_transitions event state) (sym more ∙ none)),
    )
