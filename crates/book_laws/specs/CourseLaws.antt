-- What looking back over the course of one object gives is what the book says.
use Rattle.std.specs.Prelude.{◌≡◌, List, ◌∷◌, map, All}
use Rattle.algorithm_rules.specs.declared.table.Algorithm.{Algorithm}
use Rattle.event_machine.specs.Detection.{detection_at, moves_at}
use Rattle.event_machine.specs.Points.{Point, Incident, Looked}
use Rattle.profile.specs.Sites.{Detection as Settings}
use Rattle.profile.specs.Courses as book
use Rattle.book_laws.specs.Values.{algorithm_in_book}
use Rattle.book_laws.specs.Points.{point_in_book, points_in_book, points_of, course_in_book, move_in_book}
use Rattle.book_laws.specs.RuleLaws.{AreKnown}

-- whatever is seen at a course's points is known
abbrev pub IsKnownCourse : Point → List Incident → Type 0
IsKnownCourse first later = All (λ (point : Point). AreKnown point.facts) (first ∷ points_of later)

-- The state of an object, its cause, its last reliability and the points that count for its rules are those of the book, after every course.
abbrev pub HasCourseOfBook : Type 0
HasCourseOfBook = (algorithm : Algorithm) (others : Point → Settings) (first : Point) (later : List Incident) → IsKnownCourse first later →
    course_in_book others (detection_at algorithm first later)
    ≡ book.course_of (algorithm_in_book algorithm) (point_in_book others first) (points_in_book others later)

-- At each point that follows, the moves are those of the book, in their order.
abbrev pub HasMovesOfBook : Type 0
HasMovesOfBook = (algorithm : Algorithm) (others : Point → Settings) (first point : Point) (later : List Incident) → IsKnownCourse first (Looked point ∷ later) →
    map move_in_book (moves_at algorithm first (Looked point ∷ later))
    ≡ book.moves_at (algorithm_in_book algorithm) (point_in_book others first) (points_in_book others (Looked point ∷ later))
