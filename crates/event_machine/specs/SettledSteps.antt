-- Whether an object is settled, so that a look at it changes nothing before it is due; and when it is next to be looked at.
use Rattle.std.specs.Prelude.{ℕ, ◌==◌, Bool, true, false, not, ◌&&◌, ◌||◌, if◌then◌else◌, is_none, Option, Some, None, List, [], ◌∷◌, map}
use Rattle.bac_values.specs.declared.event_state.EventState.{EventState}
use Rattle.bac_values.specs.Reliabilities.{number_of_reliability}
use Rattle.algorithm_rules.specs.declared.table.Algorithm.{Algorithm}
use Rattle.event_machine.specs.declared.run.Run.{Run}
use Rattle.event_machine.specs.Points.{Point}
use Rattle.bac_values.specs.EventStates.{is_fault, is_normal}
use Rattle.event_machine.specs.Detection.{fault_target}
use Rattle.event_machine.specs.Runs.{places}
use Rattle.event_machine.specs.AlarmSteps.{key_at}
use Rattle.event_machine.specs.Due.{next_due_of}
use Rattle.event_machine.specs.Summary.{AlarmState}

-- the key by which the rule at a place has a run at a point: none where the object is inhibited
abbrev pub running_key : Algorithm → Point → AlarmState → ℕ → Option ℕ
running_key algorithm point alarm place = if point.inhibited then None else key_at algorithm alarm.state alarm.cause point.facts place

-- a run is there exactly where a key is, and has it
abbrev pub fits : Option ℕ → Option Run → Bool
fits None None = true
fits (Some key) (Some run) = run.key == key
fits _ _ = false

abbrev pub all_fit : List (Option ℕ) → List (Option Run) → Bool
all_fit [] [] = true
all_fit (key ∷ keys) (run ∷ runs) = fits key run && all_fit keys runs
all_fit _ _ = false

-- the runs of an alarm are as one more point leaves them
abbrev pub runs_stand : Algorithm → Point → AlarmState → Bool
runs_stand algorithm point alarm = all_fit (map (running_key algorithm point alarm) places) alarm.runs

-- an object that isn't in FAULT is in NORMAL where it is inhibited
abbrev pub obeys_inhibition : Point → EventState → Bool
obeys_inhibition point state = not point.inhibited || (is_fault state || is_normal state)

-- An object is settled where no fault comes, changes or ends, its reliability is the last one, it obeys its inhibition, and the runs of its rules are those that one more point with the same facts leaves. Neither the moment nor the stamp of the point matters.
abbrev pub is_settled : Algorithm → Point → AlarmState → Bool
is_settled algorithm point alarm =
    is_none (fault_target point.reliability alarm.last_reliability alarm.state)
    && (number_of_reliability point.reliability == number_of_reliability alarm.last_reliability
    && (obeys_inhibition point alarm.state
    && runs_stand algorithm point alarm))

-- the moment at which an object is next to be looked at: one that isn't settled at once, another one when a rule will be held
abbrev pub due_with : Algorithm → Point → AlarmState → Option ℕ
due_with algorithm point alarm = if is_settled algorithm point alarm then next_due_of algorithm point.facts alarm else Some 0
