-- What a site's history tells of one object, its state, its time stamps and its acknowledged transitions, is what looking back over its course gives (ANSI/ASHRAE 135-2020, 13.2.2 and 13.5).
use Rattle.std.specs.Prelude.{◌≡◌, ℕ, true, false, Some, List, [], ◌∷◌, ◌++◌, filter}
use Rattle.bac_values.specs.declared.transition.Transition.{Transition}
use Rattle.algorithm_rules.specs.declared.table.Algorithm.{Algorithm}
use Rattle.event_machine.specs.AlarmRecord.{marks_of, record_of, wants_ack}
use Rattle.event_machine.specs.Detection.{detection_at}
use Rattle.event_machine.specs.Points.{Point, Incident, Looked, Acknowledged}
use Rattle.profile.specs.Numbers.{Identifier, is}
use Rattle.profile.specs.Sites.{Site, Object, Detection as Settings, identifier_of}
use Rattle.profile.specs.Times.{stamp_at}
use Rattle.profile.specs.Histories as book
use Rattle.book_laws.specs.CourseLaws.{IsKnownCourse}
use Rattle.book_laws.specs.Points.{point_in_book}
use Rattle.book_laws.specs.Values.{algorithm_in_book, state_in_book, transition_in_book}

-- The code looks at an object where the book does: it sees the same, at the moment of the look, whose local date and time is the stamp, and the same transitions want an acknowledgement.
pub record IsLook (others : Point → Settings) (site : Site) (id : Identifier) (look : book.Look) (point : Point) : Type 0 where
  pub seen : book.points_of id (look ∷ []) ≡ point_in_book others point ∷ []
  pub stamp : point.stamp.octets ≡ stamp_at site.device look.moment
  pub wanted : (transition : Transition) → wants_ack transition point ≡ book.wants_acknowledgement site id (transition_in_book transition)

-- the looks of the book, one by one
abbrev pub AreLooks : (Point → Settings) → Site → Identifier → List book.Look → List Incident → Type 0
AreLooks others site id [] [] = Unit {0}
AreLooks others site id (look ∷ looks) (Looked point ∷ incidents) = IsLook others site id look point × AreLooks others site id looks incidents
AreLooks others site id _ _ = ⊥

-- What an act comes to for an object: an acknowledgement of one of its transitions, or the looks.
abbrev pub AreOf : (Point → Settings) → Site → Identifier → book.Act → ℕ → List Object → List Incident → Type 0
AreOf others site id (book.Acknowledge object transition state) moment objects [] = is object id ≡ false
AreOf others site id (book.Acknowledge object transition state) moment objects (Acknowledged mine ∷ []) = (is object id ≡ true) × (transition_in_book mine ≡ transition)
AreOf others site id (book.Acknowledge object transition state) moment objects _ = ⊥
AreOf others site id book.Tick moment objects incidents = AreLooks others site id (book.looks_by book.Tick moment objects) incidents
AreOf others site id (book.Write written change) moment objects incidents = AreLooks others site id (book.looks_by (book.Write written change) moment objects) incidents
AreOf others site id act moment objects incidents = incidents ≡ []

-- what happens to an object is what a history of the book comes to for it, event by event
pub record HasFront (P Q : List Incident → Type 0) (incidents : List Incident) : Type 0 where
  pub newer : List Incident
  pub before : List Incident
  pub whole : incidents ≡ newer ++ before
  pub front : P newer
  pub rest : Q before

abbrev pub IsCourseIn : (Point → Settings) → Site → Identifier → List book.Event → List Incident → Type 0
IsCourseIn others site id [] incidents = incidents ≡ []
IsCourseIn others site id (event ∷ older) incidents =
    HasFront (AreOf others site id event.act event.moment (book.objects_after site older)) (IsCourseIn others site id older) incidents

-- an object of a site of the book that the code knows: no other has its identifier, its events are detected, by this algorithm, and its first point is this
pub record IsDetected (others : Point → Settings) (site : Site) (object : Object) (settings : Settings) (algorithm : Algorithm) (first : Point) : Type 0 where
  pub only : filter (λ other. is (identifier_of other) (identifier_of object)) site.objects ≡ object ∷ []
  pub detected : book.detected site object ≡ Some settings
  pub algorithm_is : settings.algorithm ≡ algorithm_in_book algorithm
  pub first_is : book.first_point site object settings ≡ point_in_book others first

-- The state of an object, and of each of its transitions the time stamp and whether it is acknowledged, are those of the book after every history.
pub record HasRecords (site : Site) (object : Object) (algorithm : Algorithm) (first : Point) (later : List Incident) (history : List book.Event) : Type 0 where
  pub state : book.state_at site (book.looks_over site history) (identifier_of object) ≡ state_in_book (detection_at algorithm first later).state
  pub stamps : (transition : Transition) → book.stamp_of site history (identifier_of object) (transition_in_book transition) ≡ (record_of transition (marks_of algorithm first later)).stamp.octets
  pub acknowledged : (transition : Transition) → book.is_acknowledged site (identifier_of object) (transition_in_book transition) history ≡ (record_of transition (marks_of algorithm first later)).acked

abbrev pub HasRecordsOfBook : Type 0
HasRecordsOfBook =
    (others : Point → Settings) (site : Site) (object : Object) (settings : Settings) (algorithm : Algorithm) (first : Point) (later : List Incident) (history : List book.Event) →
    IsDetected others site object settings algorithm first → IsKnownCourse first later → IsCourseIn others site (identifier_of object) history later →
    HasRecords site object algorithm first later history
