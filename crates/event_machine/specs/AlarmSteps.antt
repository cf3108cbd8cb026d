-- What one look, or one acknowledgement, makes of the alarm of an object, without looking back over its course.
use Rattle.std.specs.Prelude.{ℕ, ◌==◌, Bool, true, false, not, if◌then◌else◌, Option, Some, None, List, [], ◌∷◌, ◌++◌, map, slice_get, slice_index_or, slice_set}
use Rattle.std.specs.Option.{option_and_then}
use Rattle.bac_values.specs.declared.event_state.EventState.{EventState}
use Rattle.bac_values.specs.declared.event_state.EventState.TheVariants.{Normal}
use Rattle.bac_values.specs.declared.transition.Transition.{Transition}
use Rattle.bac_values.specs.EventStates.{transition_to, place_of_transition, is_fault, is_normal}
use Rattle.algorithm_rules.specs.declared.table.Algorithm.{Algorithm}
use Rattle.algorithm_rules.specs.declared.table.Rule.{Rule}
use Rattle.algorithm_rules.specs.Facts.{Facts}
use Rattle.algorithm_rules.specs.Rules.{rules_of}
use Rattle.event_machine.specs.declared.moves.Move.{Move}
use Rattle.event_machine.specs.declared.run.Run.{Run}
use Rattle.event_machine.specs.Points.{Point}
use Rattle.event_machine.specs.Held.{key_in_detection}
use Rattle.event_machine.specs.Detection.{cause_on, fault_target}
use Rattle.event_machine.specs.AlarmRecord.{wants_ack}
use Rattle.event_machine.specs.Runs.{places, has_gone_on}
use Rattle.event_machine.specs.Summary.{AlarmState, new_alarm, no_runs}

-- an alarm, and the moves that led to it, the earliest first
pub record Change : Type 0 where
  pub alarm : AlarmState
  pub moves : List Move

abbrev pub set_at : {X : Type 0} → Transition → X → List X → List X
set_at transition x xs = slice_set xs (place_of_transition transition) x

abbrev pub acknowledged : Transition → AlarmState → AlarmState
acknowledged transition alarm = record alarm { acked = set_at transition true alarm.acked }

-- the key of the rule at a place among those of a state, if there is one
abbrev pub key_at : Algorithm → EventState → Option ℕ → Facts → ℕ → Option ℕ
key_at algorithm state cause facts place = option_and_then (λ rule. key_in_detection rule facts cause) (slice_get (rules_of algorithm state) place)

-- where the run of a key starts: where the one before does if it has this key, else at this moment
abbrev pub start_with : ℕ → ℕ → Option Run → ℕ
start_with moment key None = moment
start_with moment key (Some run) = if run.key == key then run.start else moment

abbrev pub run_onward : ℕ → Option ℕ → Option Run → Option Run
run_onward moment None run = None
run_onward moment (Some key) run = Some (record { start = start_with moment key run; key = key })

-- The run of a rule at one more point: none where the object is inhibited or the rule has no key, the one before where it has the same key, else one that starts at the point.
abbrev pub next_run : Point → Option ℕ → Option Run → Option Run
next_run point key run = if point.inhibited then None else run_onward point.moment key run

-- the runs of a state's rules at one more point, from those before it
abbrev pub next_runs : Algorithm → Point → EventState → Option ℕ → List (Option Run) → List (Option Run)
next_runs algorithm point state cause runs = map (λ place. next_run point (key_at algorithm state cause point.facts place) (slice_index_or runs place None)) places

-- an alarm whose runs go on to a point
abbrev pub goes_on : Algorithm → Point → AlarmState → AlarmState
goes_on algorithm point alarm = record alarm { runs = next_runs algorithm point alarm.state alarm.cause alarm.runs }

-- an alarm whose runs begin at a point
abbrev pub begins : Algorithm → Point → AlarmState → AlarmState
begins algorithm point alarm = record alarm { runs = next_runs algorithm point alarm.state alarm.cause no_runs }

-- the alarm of an object after its first point, at which nothing moves
abbrev pub begun : Algorithm → Point → AlarmState
begun algorithm first = begins algorithm first new_alarm

-- the alarm as its state is entered at a point
abbrev pub entered : Algorithm → Point → EventState → AlarmState → AlarmState
entered algorithm point to alarm = begins algorithm point (record alarm {
  state = to;
  acked = set_at (transition_to to) (not (wants_ack (transition_to to) point)) alarm.acked;
  stamps = set_at (transition_to to) point.stamp alarm.stamps;
  last_states = set_at (transition_to to) (Some to) alarm.last_states;
  cause = cause_on to point.facts alarm.cause;
})

abbrev pub stays : AlarmState → Change
stays alarm = record { alarm = alarm; moves = [] }

abbrev pub enters : Algorithm → Point → EventState → Bool → AlarmState → Change
enters algorithm point to by_fault alarm = record {
  alarm = entered algorithm point to alarm;
  moves = record { from = alarm.state; to = to; by_fault = by_fault } ∷ [];
}

abbrev pub fault_by : Option EventState → Algorithm → Point → AlarmState → Change
fault_by None algorithm point alarm = stays (goes_on algorithm point alarm)
fault_by (Some to) algorithm point alarm = enters algorithm point to true alarm

abbrev pub relied_on : Point → AlarmState → AlarmState
relied_on point alarm = record alarm { last_reliability = point.reliability }

-- first: a fault comes, changes or ends, or the runs go on
abbrev pub fault_change : Algorithm → Point → AlarmState → Change
fault_change algorithm point alarm =
    fault_by (fault_target point.reliability alarm.last_reliability alarm.state) algorithm point (relied_on point alarm)

-- second: an inhibited object, whose rules have no runs, returns to NORMAL
abbrev pub inhibited_change : Algorithm → Point → AlarmState → Change
inhibited_change algorithm point alarm = if is_normal alarm.state then stays alarm else enters algorithm point Normal false alarm

abbrev pub lasting : Point → Option Rule → Option Run → Option Rule
lasting point None run = None
lasting point (Some rule) run = if has_gone_on rule point run then Some rule else None

-- the rule at a place of a state, where its run has gone on for its delay
abbrev pub lasting_at : Algorithm → Point → EventState → List (Option Run) → ℕ → Option Rule
lasting_at algorithm point state runs place = lasting point (slice_get (rules_of algorithm state) place) (slice_index_or runs place None)

abbrev pub or_else : Option Rule → Option Rule → Option Rule
or_else None other = other
or_else (Some rule) other = Some rule

-- the first rule whose run has gone on for its delay
abbrev pub rule_lasting : Algorithm → Point → EventState → List (Option Run) → Option Rule
rule_lasting algorithm point state runs =
    or_else (lasting_at algorithm point state runs 0) (or_else (lasting_at algorithm point state runs 1) (lasting_at algorithm point state runs 2))

abbrev pub rule_by : Option Rule → Algorithm → Point → AlarmState → Change
rule_by None algorithm point alarm = stays alarm
rule_by (Some rule) algorithm point alarm = enters algorithm point rule.target false alarm

-- behind the fault step: nothing in FAULT, else the inhibition, else the rules
abbrev pub later_change : Algorithm → Point → AlarmState → Change
later_change algorithm point alarm =
    if is_fault alarm.state then stays alarm
    else (if point.inhibited then inhibited_change algorithm point alarm
    else rule_by (rule_lasting algorithm point alarm.state alarm.runs) algorithm point alarm)

abbrev pub and_then : Change → (AlarmState → Change) → Change
and_then first next = record { alarm = (next first.alarm).alarm; moves = first.moves ++ (next first.alarm).moves }

-- one more look
abbrev pub next_look : Algorithm → Point → AlarmState → Change
next_look algorithm point alarm = and_then (fault_change algorithm point alarm) (later_change algorithm point)
