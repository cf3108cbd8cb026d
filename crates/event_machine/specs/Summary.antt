-- What is kept of an object after a course: its alarm.
use Rattle.std.specs.Prelude.{◌≡◌, ℕ, Bool, Option, List, [], ◌∷◌, map, true, None, replicate}
use Rattle.bac_values.specs.declared.event_state.EventState.{EventState}
use Rattle.bac_values.specs.declared.reliability.Reliability.{Reliability}
use Rattle.bac_values.specs.declared.stamp.Stamp.{Stamp}
use Rattle.bac_values.specs.declared.transition.Transition.{Transition}
use Rattle.bac_values.specs.declared.transition.Transition.TheVariants.{ToOffnormal, ToFault, ToNormal}
use Rattle.algorithm_rules.specs.declared.table.Algorithm.{Algorithm}
use Rattle.event_machine.specs.declared.run.Run.{Run}
use Rattle.event_machine.specs.Points.{Point, Incident}
use Rattle.event_machine.specs.Detection.{Detection, detection_at}
use Rattle.event_machine.specs.AlarmRecord.{Mark, record_of, marks_of, never}
use Rattle.event_machine.specs.Runs.{runs_of}
use Rattle.bac_values.specs.declared.event_state.EventState.TheVariants.{Normal}
use Rattle.bac_values.specs.declared.reliability.Reliability.TheVariants.{NoFaultDetected}

-- The alarm of an object: its Event_State, Acked_Transitions and Event_Time_Stamps, the states that its transitions last entered, the cause, the last reliability, and the runs of the rules of its state, by their places. The other lists are for to-offnormal, to-fault and to-normal.
pub record AlarmState : Type 0 where
  pub state : EventState
  pub acked : List Bool
  pub stamps : List Stamp
  pub last_states : List (Option EventState)
  pub cause : Option ℕ
  pub last_reliability : Reliability
  pub runs : List (Option Run)

abbrev pub no_runs : List (Option Run)
no_runs = replicate 3 None

-- the alarm of an object that was never looked at
abbrev pub new_alarm : AlarmState
new_alarm = record {
  state = Normal;
  acked = replicate 3 true;
  stamps = replicate 3 never;
  last_states = replicate 3 None;
  cause = None;
  last_reliability = NoFaultDetected;
  runs = no_runs;
}

abbrev pub transitions : List Transition
transitions = ToOffnormal ∷ ToFault ∷ ToNormal ∷ []

-- the alarm of a detection and the marks that led to it
abbrev pub alarm_with : Algorithm → Detection → List Mark → AlarmState
alarm_with algorithm d marks = record {
  state = d.state;
  acked = map (λ transition. (record_of transition marks).acked) transitions;
  stamps = map (λ transition. (record_of transition marks).stamp) transitions;
  last_states = map (λ transition. (record_of transition marks).last_state) transitions;
  cause = d.cause;
  last_reliability = d.reliability;
  runs = runs_of algorithm d;
}

-- the alarm after a course
abbrev pub alarm_of : Algorithm → Point → List Incident → AlarmState
alarm_of algorithm first later = alarm_with algorithm (detection_at algorithm first later) (marks_of algorithm first later)

-- an alarm is that of an object after a course
abbrev pub IsAfter : Algorithm → Point → List Incident → AlarmState → Type 0
IsAfter algorithm first later alarm = alarm ≡ alarm_of algorithm first later
