-- What is known of the object on trial.
use Rattle.std.specs.Prelude.{◌≡◌, ℕ, ℤ, List}
use Rattle.bac_values.specs.declared.value.Value.TheVariants.{Signed}
use Rattle.algorithm_rules.specs.declared.table.Algorithm.TheVariants.{SignedOutOfRange}
use Rattle.event_machine.specs.Points.{Point, Incident, IsCourse, newest_of}
use Rattle.event_machine.specs.Summary.{AlarmState, IsAfter}
use Rattle.alarm_server.specs.declared.settings.Settings.{Settings}
use Rattle.alarm_server.specs.Looks.{point_at}

-- its settings, the moment and the value of the last look, and its alarm
pub record WatchState : Type 0 where
  pub settings : Settings
  pub moment : ℕ
  pub value : ℤ
  pub alarm : AlarmState

-- This is known after a course, in which each point follows the one before it: the last look was at its newest point, and the alarm is the one that looking back over it gives.
pub record HasSeen (first : Point) (later : List Incident) (watched : WatchState) : Type 0 where
  pub newest : newest_of first later ≡ point_at watched.settings watched.moment (Signed watched.value)
  pub course : IsCourse first later
  pub after : IsAfter SignedOutOfRange first later watched.alarm
