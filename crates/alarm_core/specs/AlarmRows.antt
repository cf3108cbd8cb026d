-- What summaries tell of the objects of a state (ANSI/ASHRAE 135-2020, 13.10 and 13.11).
use Rattle.std.specs.Prelude.{Option, List, map}
use Rattle.std.specs.Option.{option_and_then}
use Rattle.bac_values.specs.declared.alarm_row.AlarmRow.{AlarmRow}
use Rattle.algorithm_rules.specs.EventTypes.{event_type_of}
use Rattle.enrollment.specs.declared.subject.Subject.{Subject}
use Rattle.enrollment.specs.Subjects.{subject_in}
use Rattle.property_values.specs.Properties.{or_zero}
use Rattle.alarm_core.specs.Information.{notify_of}
use Rattle.alarm_core.specs.State.{CoreState, DetectedObjectState}

-- an object whose event detection is enabled, with its settings: its event state, Acked_Transitions and Notify_Type, the event type of its algorithm, and its notification class
abbrev pub alarm_row_with : DetectedObjectState → Option Subject → AlarmRow
alarm_row_with detected subject = record {
  object = detected.object;
  state = detected.alarm.state;
  acked = detected.alarm.acked;
  notify = notify_of subject;
  event_type = event_type_of detected.algorithm;
  class = or_zero (option_and_then (λ (s : Subject). s.class) subject);
}

abbrev pub alarm_row_of : CoreState → DetectedObjectState → AlarmRow
alarm_row_of state detected = alarm_row_with detected (subject_in detected.object state.values)

-- the objects and enrollments whose event detection is enabled, by ascending identifier
abbrev pub alarm_rows : CoreState → List AlarmRow
alarm_rows state = map (alarm_row_of state) state.alarms
