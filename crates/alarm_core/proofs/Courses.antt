-- Over a history each object has a course: its points follow one another, since an inhibition changes only between the two looks of a write, which have one moment.
use Rattle.std.proofs.Common.{◌≡◌, ℕ, ◌≤◌, Bool, true, false, true≢false, if◌then◌else◌, Option, Some, None, is_some, List, [], ◌∷◌, ◌++◌, refl, ◌∙◌, sym, arith}
use Rattle.std.specs.List.{All}
use Rattle.std.specs.Option.{option_map, option_to_list}
use Rattle.std.proofs.lemmas.List.Elements.{All-weaker}
use Rattle.bac_values.specs.declared.transition.Transition.{Transition}
use Rattle.algorithm_rules.specs.Facts.{Facts}
use Rattle.event_machine.specs.Points.{Point, Incident, Looked, Acknowledged, IsCourse, newest_of}
use Rattle.object_table.specs.Rows.{is_object}
use Rattle.object_table.specs.declared.change.Change.{Change}
use Rattle.enrollment.specs.declared.subject.Subject.{Subject}
use Rattle.enrollment.specs.Objects.{ObjectsState, written, facts_at}
use Rattle.enrollment.specs.Subjects.{is_inhibited}
use Rattle.alarm_core.specs.declared.event.Act.{Act}
use Rattle.alarm_core.specs.declared.event.Act.TheVariants.{Tick, Write, Ack, Pump, Answer, Edit}
use Rattle.alarm_core.specs.declared.event.Event.{Event}
use Rattle.alarm_core.specs.declared.site.Site.{Site}
use Rattle.alarm_core.specs.Subjects.{ack_required_of, detecting_subjects}
use Rattle.alarm_core.specs.Evaluations.{first_point, point_of, point_with, site_moment}
use Rattle.alarm_core.specs.History.{Occurrence, AllEvaluated, incidents_of, last_moment_of, looks_over, occurrences_of, occurrences_with, values_after, values_with}
use Rattle.alarm_core.specs.Allowed.{Comes, IsHistory}
use Rattle.alarm_core.proofs.OwnSubjects.{IsOwn, own_detecting}
use Rattle.alarm_core.proofs.Stays.{facts_after}

-- the newest point of an object's incidents
abbrev newest_in : Site → Subject → List Incident → Point
newest_in site subject incidents = newest_of (first_point site subject) incidents

-- an object's incidents are a course, which goes up to a moment, and the object is inhibited exactly as its newest point is
record IsUpTo (site : Site) (subject : Subject) (moment : ℕ) (inhibited : Bool) (incidents : List Incident) : Type 0 where
  course : IsCourse (first_point site subject) incidents
  shown : inhibited ≡ (newest_in site subject incidents).inhibited
  reached : (newest_in site subject incidents).moment ≤ moment

-- so it is with these properties after these occurrences
abbrev IsAt : Site → Subject → ℕ → ObjectsState → List Occurrence → Type 0
IsAt site subject moment values w = IsUpTo site subject moment (is_inhibited subject.object values) (incidents_of site subject w)

-- one more look, where there is something to look at
abbrev looked_by : Site → Subject → ℕ → ObjectsState → Option Facts → List Incident → List Incident
looked_by site subject moment values facts incidents =
    option_to_list (option_map Looked (option_map (point_with (site_moment site moment) (ack_required_of site subject) subject.object values) facts)) ++ incidents

look_follows : (site : Site) (subject : Subject) (moment : ℕ) (values : ObjectsState) (facts : Option Facts) (incidents : List Incident) → is_some facts ≡ true → IsCourse (first_point site subject) incidents →
    (newest_in site subject incidents).moment ≤ moment → ((newest_in site subject incidents).inhibited ≡ true → is_inhibited subject.object values ≡ false → (newest_in site subject incidents).moment ≡ moment) →
    IsUpTo site subject moment (is_inhibited subject.object values) (looked_by site subject moment values facts incidents)
look_follows site subject moment values (Some facts) incidents there course low at_once = record {
  course = (record { not_before = low; at_once = at_once }, course);
  shown = refl;
  reached = omega arith;
}
look_follows site subject moment values None incidents there course low at_once = cc

-- then the newest point has the moment of the look
look_moment : (site : Site) (subject : Subject) (moment : ℕ) (values : ObjectsState) (facts : Option Facts) (incidents : List Incident) → is_some facts ≡ true →
    (newest_in site subject (looked_by site subject moment values facts incidents)).moment ≡ moment
look_moment site subject moment values (Some facts) incidents there = refl
look_moment site subject moment values None incidents there = cc

-- the properties are still the same
looked_at : (site : Site) (subject : Subject) (last moment : ℕ) (values : ObjectsState) (w : List Occurrence) → last ≤ moment → is_some (facts_at subject.object values) ≡ true →
    IsAt site subject last values w → IsAt site subject moment values (AllEvaluated moment values ∷ w)
looked_at site subject last moment values w low there at =
    look_follows site subject moment values (facts_at subject.object values) (incidents_of site subject w) there at.course (omega (arith, at.reached, low))
    (λ before now. absurd (true≢false (sym before ∙ (sym at.shown ∙ now))))

-- they change between two looks at one moment
written_at : (site : Site) (subject : Subject) (moment : ℕ) (change : Change) (values : ObjectsState) (w : List Occurrence) → is_some (facts_at subject.object values) ≡ true → is_some (facts_at subject.object (written change values)) ≡ true →
    IsAt site subject moment values (AllEvaluated moment values ∷ w) → IsAt site subject moment (written change values) (AllEvaluated moment (written change values) ∷ AllEvaluated moment values ∷ w)
written_at site subject moment change values w before there at =
    look_follows site subject moment (written change values) (facts_at subject.object (written change values)) (incidents_of site subject (AllEvaluated moment values ∷ w)) there at.course at.reached
    (λ was now. look_moment site subject moment values (facts_at subject.object values) (incidents_of site subject w) before)

acknowledged_at : (same : Bool) (site : Site) (subject : Subject) (moment : ℕ) (inhibited : Bool) (transition : Transition) (incidents : List Incident) →
    IsUpTo site subject moment inhibited incidents → IsUpTo site subject moment inhibited (if same then Acknowledged transition ∷ incidents else incidents)
acknowledged_at true site subject moment inhibited transition incidents at = record { course = at.course; shown = at.shown; reached = at.reached }
acknowledged_at false site subject moment inhibited transition incidents at = at

later : (site : Site) (subject : Subject) (last moment : ℕ) (inhibited : Bool) (incidents : List Incident) → last ≤ moment → IsUpTo site subject last inhibited incidents → IsUpTo site subject moment inhibited incidents
later site subject last moment inhibited incidents low at = record { course = at.course; shown = at.shown; reached = omega (arith, at.reached, low) }

-- one more event
more_at : (site : Site) (subject : Subject) (last moment : ℕ) (act : Act) (values : ObjectsState) (w : List Occurrence) → last ≤ moment →
    is_some (facts_at subject.object values) ≡ true → is_some (facts_at subject.object (values_with act values)) ≡ true →
    IsAt site subject last values w → IsAt site subject moment (values_with act values) (occurrences_with moment act values w)
more_at site subject last moment Tick values w low before there at = looked_at site subject last moment values w low before at
more_at site subject last moment (Write change) values w low before there at =
    written_at site subject moment change values w before there (looked_at site subject last moment values w low before at)
more_at site subject last moment (Ack object transition state) values w low before there at =
    acknowledged_at (is_object object subject.object) site subject moment (is_inhibited subject.object values) transition (incidents_of site subject w)
    (later site subject last moment (is_inhibited subject.object values) (incidents_of site subject w) low at)
more_at site subject last moment Pump values w low before there at = later site subject last moment (is_inhibited subject.object values) (incidents_of site subject w) low at
more_at site subject last moment (Answer peer invoke kind) values w low before there at = later site subject last moment (is_inhibited subject.object values) (incidents_of site subject w) low at
more_at site subject last moment (Edit number recipients) values w low before there at = later site subject last moment (is_inhibited subject.object values) (incidents_of site subject w) low at

-- there is always something to look at
pub own_facts : (site : Site) (subject : Subject) → IsOwn site subject → (history : List Event) → is_some (facts_at subject.object (values_after site history)) ≡ true
own_facts site subject own history = facts_after site subject.object history ∙ own.facts

at_more : (site : Site) (subject : Subject) → IsOwn site subject → (event : Event) (history : List Event) → last_moment_of site history ≤ event.moment →
    IsAt site subject (last_moment_of site history) (values_after site history) (occurrences_of site history) →
    IsAt site subject event.moment (values_after site (event ∷ history)) (occurrences_of site (event ∷ history))
at_more site subject own event history low at =
    more_at site subject (last_moment_of site history) event.moment event.act (values_after site history) (occurrences_of site history) low
    (own_facts site subject own history) (own_facts site subject own (event ∷ history)) at

at_after : (site : Site) (subject : Subject) → IsOwn site subject → (history : List Event) → IsHistory site history →
    IsAt site subject (last_moment_of site history) (values_after site history) (occurrences_of site history)
at_after site subject own [] is = record { course = tt; shown = refl; reached = omega arith }
at_after site subject own (event ∷ older) is = at_more site subject own event older is.0 (at_after site subject own older is.4)

-- the incidents of each object whose event detection is enabled are a course
abbrev HasCourse : Site → List Occurrence → Subject → Type 0
HasCourse site w subject = IsCourse (first_point site subject) (incidents_of site subject w)

abbrev pub HaveCourses : Site → List Occurrence → Type 0
HaveCourses site w = All (HasCourse site w) (detecting_subjects site)

-- so they are as an event comes
pub have_courses : (site : Site) (event : Event) (history : List Event) → Comes site event history → HaveCourses site (occurrences_of site (event ∷ history))
have_courses site event history comes =
    All-weaker (IsOwn site) (HasCourse site (occurrences_of site (event ∷ history)))
    (λ subject own. (at_more site subject own event history comes.not_before (at_after site subject own history comes.is_history)).course)
    (detecting_subjects site) (own_detecting site comes.is_site)

course_before : (first : Point) (point : Option Point) (older : List Incident) → IsCourse first (option_to_list (option_map Looked point) ++ older) → IsCourse first older
course_before first None older course = course
course_before first (Some point) older course = course.1

-- and before a look
pub had_courses : (site : Site) (moment : ℕ) (values : ObjectsState) (w : List Occurrence) → HaveCourses site (AllEvaluated moment values ∷ w) → HaveCourses site w
had_courses site moment values w courses =
    All-weaker (HasCourse site (AllEvaluated moment values ∷ w)) (HasCourse site w)
    (λ subject course. course_before (first_point site subject) (point_of site subject moment values) (incidents_of site subject w) course)
    (detecting_subjects site) courses

-- and before some looks
pub courses_before : (site : Site) (moment : ℕ) (looks : List ObjectsState) (w : List Occurrence) → HaveCourses site (looks_over moment looks w) → HaveCourses site w
courses_before site moment [] w courses = courses
courses_before site moment (values ∷ later) w courses = had_courses site moment values w (courses_before site moment later (AllEvaluated moment values ∷ w) courses)
