-- Since when the conditions of rules have held, as a state has it and by looking back.
use Rattle.std.specs.Prelude.{Option, List, map}
use Rattle.bac_values.specs.Identifier.{ObjectIdData}
use Rattle.event_machine.specs.declared.run.Run.{Run}
use Rattle.event_machine.specs.Runs.{runs_of}
use Rattle.enrollment.specs.declared.subject.Subject.{Subject}
use Rattle.alarm_core.specs.declared.event.Event.{Event}
use Rattle.alarm_core.specs.declared.site.Site.{Site}
use Rattle.alarm_core.specs.Subjects.{detecting_subjects}
use Rattle.alarm_core.specs.History.{detection_of, occurrences_of}
use Rattle.alarm_core.specs.State.{DetectedObjectState, CoreState}

-- an object, and the run starts of the rules of its state, by their places
pub record ObjectRuns : Type 0 where
  pub object : ObjectIdData
  pub runs : List (Option Run)

abbrev pub runs_in : DetectedObjectState → ObjectRuns
runs_in detected = record { object = detected.object; runs = detected.alarm.runs }

-- the run starts that a state has: the runs of each alarm
abbrev pub run_starts_in : CoreState → List ObjectRuns
run_starts_in state = map runs_in state.alarms

abbrev pub runs_after : Site → List Event → Subject → ObjectRuns
runs_after site history subject = record {
  object = subject.object;
  runs = runs_of subject.algorithm (detection_of site subject (occurrences_of site history));
}

-- the run starts of a history: of each object whose event detection is enabled, by looking back over its course
abbrev pub run_starts_of : Site → List Event → List ObjectRuns
run_starts_of site history = map (runs_after site history) (detecting_subjects site)
