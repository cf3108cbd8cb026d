-- After a history an object is in FAULT only where its reliability shows a fault, so that one more look moves it at most once.
use Rattle.std.proofs.Common.{◌≡◌, ℕ, ◌≤◌, Bool, true, false, true≢false, if◌then◌else◌, Option, Some, None, is_some, List, [], ◌∷◌, ◌++◌, length, sym, arith}
use Rattle.std.specs.Option.{option_map, option_to_list}
use Rattle.bac_values.specs.declared.transition.Transition.{Transition}
use Rattle.bac_values.specs.declared.reliability.Reliability.{Reliability}
use Rattle.algorithm_rules.specs.Facts.{Facts}
use Rattle.event_machine.specs.Points.{Incident, Looked, Acknowledged}
use Rattle.event_machine.specs.Detection.{detection_at}
use Rattle.object_table.specs.Rows.{is_object}
use Rattle.enrollment.specs.declared.subject.Subject.{Subject}
use Rattle.enrollment.specs.Objects.{ObjectsState, written, facts_at, reliability_at}
use Rattle.alarm_core.specs.declared.event.Act.{Act}
use Rattle.alarm_core.specs.declared.event.Act.TheVariants.{Tick, Write, Ack, Pump, Answer, Edit}
use Rattle.alarm_core.specs.declared.event.Event.{Event}
use Rattle.alarm_core.specs.declared.site.Site.{Site}
use Rattle.alarm_core.specs.Subjects.{ack_required_of}
use Rattle.alarm_core.specs.Evaluations.{first_point, point_with, site_moment}
use Rattle.alarm_core.specs.CoreSteps.{change_at, change_by}
use Rattle.alarm_core.specs.State.{detected_object_of}
use Rattle.alarm_core.specs.History.{Occurrence, AllEvaluated, detection_of, incidents_of, occurrences_of, occurrences_with, values_after, values_with}
use Rattle.alarm_core.proofs.MovesOnce.{FaultShows, look_shows, moves_once}
use Rattle.alarm_core.proofs.OwnSubjects.{IsOwn}
use Rattle.alarm_core.proofs.Courses.{own_facts}

-- in FAULT after a course only where a reliability shows a fault
abbrev CourseShows : Site → Subject → List Incident → Reliability → Type 0
CourseShows site subject incidents reliability = FaultShows (detection_at subject.algorithm (first_point site subject) incidents).state reliability

abbrev pub IsSettled : Site → Subject → ObjectsState → List Occurrence → Type 0
IsSettled site subject values w = FaultShows (detection_of site subject w).state (reliability_at subject.object values)

settled_by : (site : Site) (subject : Subject) (moment : ℕ) (values : ObjectsState) (incidents : List Incident) (facts : Option Facts) → is_some facts ≡ true →
    CourseShows site subject (option_to_list (option_map Looked (option_map (point_with (site_moment site moment) (ack_required_of site subject) subject.object values) facts)) ++ incidents) (reliability_at subject.object values)
unfolding detection_at
settled_by site subject moment values incidents (Some facts) there =
    look_shows subject.algorithm (point_with (site_moment site moment) (ack_required_of site subject) subject.object values facts)
    (detection_at subject.algorithm (first_point site subject) incidents)
settled_by site subject moment values incidents None there = cc

settled_looked : (site : Site) (subject : Subject) (moment : ℕ) (values : ObjectsState) (w : List Occurrence) → is_some (facts_at subject.object values) ≡ true → IsSettled site subject values (AllEvaluated moment values ∷ w)
settled_looked site subject moment values w there = settled_by site subject moment values (incidents_of site subject w) (facts_at subject.object values) there

acknowledged_shows : (same : Bool) (site : Site) (subject : Subject) (transition : Transition) (incidents : List Incident) (reliability : Reliability) →
    CourseShows site subject incidents reliability → CourseShows site subject (if same then Acknowledged transition ∷ incidents else incidents) reliability
unfolding detection_at
acknowledged_shows true site subject transition incidents reliability shows = shows
acknowledged_shows false site subject transition incidents reliability shows = shows

settled_more : (site : Site) (subject : Subject) (moment : ℕ) (act : Act) (values : ObjectsState) (w : List Occurrence) → is_some (facts_at subject.object (values_with act values)) ≡ true →
    IsSettled site subject values w → IsSettled site subject (values_with act values) (occurrences_with moment act values w)
settled_more site subject moment Tick values w there settled = settled_looked site subject moment values w there
settled_more site subject moment (Write change) values w there settled = settled_looked site subject moment (written change values) (AllEvaluated moment values ∷ w) there
settled_more site subject moment (Ack object transition state) values w there settled =
    acknowledged_shows (is_object object subject.object) site subject transition (incidents_of site subject w) (reliability_at subject.object values) settled
settled_more site subject moment Pump values w there settled = settled
settled_more site subject moment (Answer peer invoke kind) values w there settled = settled
settled_more site subject moment (Edit number recipients) values w there settled = settled

pub settled_after : (site : Site) (subject : Subject) → IsOwn site subject → (history : List Event) → IsSettled site subject (values_after site history) (occurrences_of site history)
unfolding detection_at
settled_after site subject own [] = λ in_fault. absurd (true≢false (sym in_fault))
settled_after site subject own (event ∷ older) =
    settled_more site subject event.moment event.act (values_after site older) (occurrences_of site older) (own_facts site subject own (event ∷ older)) (settled_after site subject own older)

-- one more look
once_by : (site : Site) (subject : Subject) (moment : ℕ) (values : ObjectsState) (w : List Occurrence) (facts : Option Facts) → IsSettled site subject values w →
    length (change_by subject.algorithm (option_map (point_with (site_moment site moment) (ack_required_of site subject) subject.object values) facts) (detected_object_of site w subject).alarm).moves ≤ 1
once_by site subject moment values w None settled = omega arith
once_by site subject moment values w (Some facts) settled =
    moves_once subject.algorithm (point_with (site_moment site moment) (ack_required_of site subject) subject.object values facts) (detected_object_of site w subject).alarm settled

pub moved_once : (site : Site) (subject : Subject) (moment : ℕ) (values : ObjectsState) (w : List Occurrence) → IsSettled site subject values w →
    length (change_at (site_moment site moment) values (detected_object_of site w subject)).moves ≤ 1
moved_once site subject moment values w settled = once_by site subject moment values w (facts_at subject.object values) settled
