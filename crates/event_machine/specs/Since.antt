-- Which points count for a rule: those since the object last moved or was last seen inhibited (ANSI/ASHRAE 135-2020, 13.2.2.1).
use Rattle.std.specs.Prelude.{◌≡◌, ◌≤◌, ◌&&◌, ◌||◌, not, Bool, true, false, if◌then◌else◌, List, [], ◌∷◌}
use Rattle.algorithm_rules.specs.declared.table.Algorithm.{Algorithm}
use Rattle.algorithm_rules.specs.declared.table.Rule.{Rule}
use Rattle.event_machine.specs.declared.moves.Move.{Move}
use Rattle.event_machine.specs.Points.{Point, Incident, Looked, Acknowledged, NeverFalls}
use Rattle.event_machine.specs.Held.{IsHeld}
use Rattle.bac_values.specs.EventStates.{is_fault}
use Rattle.event_machine.specs.Detection.{Detection, since, fault_step, detection_at, moves_at}

abbrev pub some_move : List Move → Bool
some_move [] = false
some_move (move ∷ moves) = true

-- whether a point, the newest of a course, begins the points that count: the object moved there, or was inhibited there and not in FAULT
abbrev pub starts_anew : Algorithm → Point → Point → List Incident → Bool
starts_anew algorithm first point older =
    some_move (moves_at algorithm first (Looked point ∷ older))
    || (point.inhibited && not (is_fault (detection_at algorithm first (Looked point ∷ older)).state))

-- the points of a course that count, the newest first
abbrev pub points_since : Algorithm → Point → List Incident → List Point
points_since algorithm first [] = first ∷ []
points_since algorithm first (Looked point ∷ older) = if starts_anew algorithm first point older then point ∷ [] else point ∷ points_since algorithm first older
points_since algorithm first (Acknowledged transition ∷ older) = points_since algorithm first older

-- the earliest of them: where the object entered its state, or was last seen inhibited
abbrev pub entry_of : Algorithm → Point → List Incident → Point
entry_of algorithm first [] = first
entry_of algorithm first (Looked point ∷ older) = if starts_anew algorithm first point older then point else entry_of algorithm first older
entry_of algorithm first (Acknowledged transition ∷ older) = entry_of algorithm first older

-- the detection keeps just the points that count
abbrev pub KeepsPointsSince : Type 0
KeepsPointsSince = (algorithm : Algorithm) (first : Point) (later : List Incident) → since (detection_at algorithm first later) ≡ points_since algorithm first later

-- the detection as the rules are tried at one more point
abbrev pub detection_tried : Algorithm → Point → List Incident → Point → Detection
detection_tried algorithm first later point = (fault_step point (detection_at algorithm first later)).detection

-- A rule that is held at a point has been so since no earlier than the object entered the state, or was last inhibited.
abbrev pub HoldsSinceEntry : Type 0
HoldsSinceEntry = (algorithm : Algorithm) (first : Point) (later : List Incident) (point : Point) (rule : Rule) → NeverFalls first (Looked point ∷ later) →
    let d = detection_tried algorithm first later point in
    (held : IsHeld rule d.cause d.newest d.older) → (entry_of algorithm first later).moment ≤ held.start.moment
