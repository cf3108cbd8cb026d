-- One object over its course: its event state at one point after the other (13.2.2), by looking back over the points since it was entered.
use Rattle.std.specs.Prelude.{ℕ, ◌+◌, ◌*◌, Bool, true, false, ◌==◌, ◌&&◌, nat_le, if◌then◌else◌}
use Rattle.std.specs.Prelude.{Option, None, is_some, List, [], ◌∷◌, ◌++◌, find, take_while}
use Rattle.profile.specs.Numbers.{maybe, EventState, Normal, Fault, Offnormal, same_state, Algorithm}
use Rattle.profile.specs.Numbers.{BACnetReliability, NoFaultDetected, is_reliable, reliability_number}
use Rattle.profile.specs.Rules.{Seen, Rule, rules_of, first_match, seconds}

-- a point at which an object is looked at: when, what is seen, its reliability, and whether its algorithm is held off
pub record Point : Type 0 where
  pub moment : ℕ
  pub seen : Seen
  pub reliability : BACnetReliability
  pub inhibited : Bool

-- A state, the alarm value by which OFFNORMAL was last entered, the reliability last seen, and the points that count for the rules, the
-- newest first: those since the state was entered, and since the object was last seen inhibited.
pub record Course : Type 0 where
  pub state : EventState
  pub cause : Option ℕ
  pub reliability : BACnetReliability
  pub since : List Point

-- a transition from one state to another or to the same one, and whether the reliability made it
pub record Move : Type 0 where
  pub from : EventState
  pub to : EventState
  pub by_reliability : Bool

-- A rule is held at a point (13.3): among the points since its state was entered, of which this one is the newest, its key has been one
-- and the same from some point on, and that lies at least the delay back; the delay is the one at this point.
abbrev pub is_held : Option ℕ → Point → List Point → Rule → Bool
is_held cause point since rule =
    let has_lasted = λ (start : Point). nat_le (start.moment + 1000 * seconds rule.delay point.seen.settings) point.moment in
    let has_key = λ (key : ℕ) (other : Point). maybe (rule.key cause other.seen) false (λ its. its == key) in
    maybe (rule.key cause point.seen) false (λ key. is_some (find has_lasted (take_while (has_key key) since)))

-- a course, and the transitions that led to it: a state is entered, and the point of a transition is the first that counts for the rules
-- of the new state (13.2.2); or nothing moves
abbrev pub enters : EventState → Bool → Point → Course → Course × List Move
enters state by_reliability point course =
    let cause = if same_state state Offnormal then first_match point.seen else course.cause in
    let move : Move = record { from = course.state; to = state; by_reliability = by_reliability } in
    (record course { state = state; cause = cause; since = point ∷ [] }, move ∷ [])

abbrev pub stays : Course → Course × List Move
stays course = (course, [])

-- First the reliability (13.2.2.1, 13.4): a fault comes, becomes another one, or goes.
abbrev pub fault_step : Point → Course → Course × List Move
fault_step point course =
    let in_fault = same_state course.state Fault in
    let same_fault = reliability_number point.reliability == reliability_number course.reliability in
    let next = record course { reliability = point.reliability; since = point ∷ course.since } in
    if is_reliable point.reliability then (if in_fault then enters Normal true point next else stays next)
    else (if in_fault && same_fault then stays next else enters Fault true point next)

-- Then, but in FAULT, the inhibition, which leads to NORMAL (13.2.2.1), or the first rule that is held (13.3).
abbrev pub event_step : Algorithm → Point → Course → Course × List Move
event_step algorithm point course =
    let held = find (is_held course.cause point course.since) (rules_of algorithm course.state) in
    if same_state course.state Fault then stays course
    else (if point.inhibited && same_state course.state Normal then stays (record course { since = point ∷ [] })
    else (if point.inhibited then enters Normal false point course
    else maybe held (stays course) (λ rule. enters rule.target false point course)))

-- what one point comes to: at most one transition of each of the two steps
abbrev pub looks : Algorithm → Point → Course → Course × List Move
looks algorithm point course =
    let first = fault_step point course in
    let second = event_step algorithm point first.0 in
    (second.0, first.1 ++ second.1)

-- The course over some points, the newest first, behind the first one of all, at which nothing moves: the object is NORMAL there.
abbrev pub course_of : Algorithm → Point → List Point → Course
course_of algorithm first [] = record { state = Normal; cause = None; reliability = NoFaultDetected; since = first ∷ [] }
course_of algorithm first (point ∷ older) = (looks algorithm point (course_of algorithm first older)).0

-- the transitions at the newest of some points
abbrev pub moves_at : Algorithm → Point → List Point → List Move
moves_at algorithm first [] = []
moves_at algorithm first (point ∷ older) = (looks algorithm point (course_of algorithm first older)).1
