-- The event state of one object over its course (ANSI/ASHRAE 135-2020, 13.2.2).
use Rattle.std.specs.Prelude.{ℕ, ◌==◌, ◌&&◌, Bool, true, false, if◌then◌else◌, Option, Some, None, List, [], ◌∷◌, ◌++◌, find}
use Rattle.bac_values.specs.declared.event_state.EventState.{EventState}
use Rattle.bac_values.specs.declared.event_state.EventState.TheVariants.{Normal, Fault, Offnormal}
use Rattle.bac_values.specs.EventStates.{is_fault, is_normal}
use Rattle.bac_values.specs.declared.reliability.Reliability.{Reliability}
use Rattle.bac_values.specs.declared.reliability.Reliability.TheVariants.{NoFaultDetected}
use Rattle.bac_values.specs.Reliabilities.{number_of_reliability}
use Rattle.algorithm_rules.specs.declared.table.Algorithm.{Algorithm}
use Rattle.algorithm_rules.specs.declared.table.Rule.{Rule}
use Rattle.algorithm_rules.specs.Facts.{Facts}
use Rattle.algorithm_rules.specs.Rules.{rules_of}
use Rattle.algorithm_rules.specs.Matches.{matched_in}
use Rattle.event_machine.specs.declared.moves.Move.{Move}
use Rattle.event_machine.specs.Points.{Point, Incident, Looked, Acknowledged}
use Rattle.event_machine.specs.Held.{is_held}

-- The event state of an object; its newest point, and the earlier ones (the newest first) back to the one at which it entered the state; the alarm value by which OFFNORMAL was last entered, by its position; and the reliability at the newest point.
pub record Detection : Type 0 where
  pub state : EventState
  pub newest : Point
  pub older : List Point
  pub cause : Option ℕ
  pub reliability : Reliability

-- the points since the state was entered
abbrev pub since : Detection → List Point
since d = d.newest ∷ d.older

-- a detection, and the moves that led to it, the earliest first
pub record Step : Type 0 where
  pub detection : Detection
  pub moves : List Move

-- the object is seen at one more point
abbrev pub sees : Point → Detection → Detection
sees point d = record d { newest = point; older = since d; reliability = point.reliability }

-- nothing moves
abbrev pub stays : Detection → Step
stays d = record { detection = d; moves = [] }

-- the cause where a state is entered: on entering OFFNORMAL the position of the first alarm value that matches, else the one before
abbrev pub cause_on : EventState → Facts → Option ℕ → Option ℕ
cause_on Offnormal facts cause = matched_in facts
cause_on _ facts cause = cause

-- a state is entered at the newest point
abbrev pub enters : EventState → Bool → Detection → Step
enters to by_fault d = record {
  detection = record d { state = to; older = []; cause = cause_on to d.newest.facts d.cause };
  moves = record { from = d.state; to = to; by_fault = by_fault } ∷ [];
}

-- The state to which the reliability leads: FAULT where it is other than NO_FAULT_DETECTED, also from FAULT where it has changed; NORMAL from FAULT where it is NO_FAULT_DETECTED (13.2.2.1).
abbrev pub fault_target : Reliability → Reliability → EventState → Option EventState
fault_target now last state =
    if number_of_reliability now == 0 then (if is_fault state then Some Normal else None)
    else (if is_fault state && number_of_reliability now == number_of_reliability last then None else Some Fault)

abbrev pub fault_by : Option EventState → Detection → Step
fault_by None d = stays d
fault_by (Some to) d = enters to true d

-- first: the object is seen at the point, and a fault comes, changes or ends
abbrev pub fault_step : Point → Detection → Step
fault_step point d = fault_by (fault_target point.reliability d.reliability d.state) (sees point d)

-- second: an inhibited object returns to NORMAL, and no point before this one counts any more (13.2.2.1, Event_Algorithm_Inhibit)
abbrev pub inhibited_step : Detection → Step
inhibited_step d = if is_normal d.state then stays (record d { older = [] }) else enters Normal false d

-- the first rule of the algorithm and the state that is held at the newest point
abbrev pub rule_held : Algorithm → Detection → Option Rule
rule_held algorithm d = find (λ rule. is_held rule d.cause d.newest d.older) (rules_of algorithm d.state)

abbrev pub rule_by : Option Rule → Detection → Step
rule_by None d = stays d
rule_by (Some rule) d = enters rule.target false d

-- third: the first rule that is held leads to its target
abbrev pub rule_step : Algorithm → Detection → Step
rule_step algorithm d = rule_by (rule_held algorithm d) d

-- behind the fault step: nothing in FAULT, else the inhibition, else the rules
abbrev pub later_step : Algorithm → Detection → Step
later_step algorithm d =
    if is_fault d.state then stays d else (if d.newest.inhibited then inhibited_step d else rule_step algorithm d)

-- one step, and then another
abbrev pub and_then : Step → (Detection → Step) → Step
and_then first next = record {
  detection = (next first.detection).detection;
  moves = first.moves ++ (next first.detection).moves;
}

-- the object is looked at at one more point
abbrev pub look_step : Algorithm → Point → Detection → Step
look_step algorithm point d = and_then (fault_step point d) (later_step algorithm)

-- at the first point the object is NORMAL, whatever is seen there
abbrev pub first_detection : Point → Detection
first_detection first = record { state = Normal; newest = first; older = []; cause = None; reliability = NoFaultDetected }

-- the detection after a course
unfoldable pub detection_at : Algorithm → Point → List Incident → Detection
detection_at algorithm first [] = first_detection first
detection_at algorithm first (Looked point ∷ older) = (look_step algorithm point (detection_at algorithm first older)).detection
detection_at algorithm first (Acknowledged transition ∷ older) = detection_at algorithm first older

-- the moves at the newest of its incidents, the earliest first
abbrev pub moves_at : Algorithm → Point → List Incident → List Move
moves_at algorithm first [] = []
moves_at algorithm first (Looked point ∷ older) = (look_step algorithm point (detection_at algorithm first older)).moves
moves_at algorithm first (Acknowledged transition ∷ older) = []
