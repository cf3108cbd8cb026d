-- The state that a history leaves.
use Rattle.std.specs.Prelude.{ℕ, Bool, List, map, length}
use Rattle.bac_values.specs.Identifier.{ObjectIdData}
use Rattle.event_machine.specs.Summary.{AlarmState, alarm_of}
use Rattle.notify_class.specs.declared.class.Class.{Class}
use Rattle.outbox.specs.Outboxes.{OutboxState}
use Rattle.algorithm_rules.specs.declared.table.Algorithm.{Algorithm}
use Rattle.enrollment.specs.declared.subject.Subject.{Subject}
use Rattle.enrollment.specs.Objects.{ObjectsState}
use Rattle.alarm_core.specs.declared.event.Event.{Event}
use Rattle.alarm_core.specs.declared.site.Site.{Site}
use Rattle.alarm_core.specs.Evaluations.{first_point}
use Rattle.alarm_core.specs.Subjects.{ack_required_of, detecting_subjects}
use Rattle.alarm_core.specs.Classes.{classes_after}
use Rattle.alarm_core.specs.Deliveries.{outbox_after}
use Rattle.alarm_core.specs.Logs.{logs_after, SiteLogState}
use Rattle.alarm_core.specs.History.{Occurrence, incidents_of, last_moment_of, occurrences_of, values_after}

-- an object whose event detection is enabled: its event algorithm, which transitions its class wants acknowledged, and its alarm, with the runs of its rules
pub record DetectedObjectState : Type 0 where
  pub object : ObjectIdData
  pub algorithm : Algorithm
  pub ack_required : List Bool
  pub alarm : AlarmState

-- the site; how many events there were, and the moment of the last; the properties of the value objects and of the enrollments; the alarms; the notification classes; what waits for each recipient; and the event logs
pub record CoreState : Type 0 where
  pub site : Site
  pub events : ℕ
  pub last_moment : ℕ
  pub values : ObjectsState
  pub alarms : List DetectedObjectState
  pub classes : List Class
  pub outbox : OutboxState
  pub logs : List SiteLogState

abbrev pub detected_object_of : Site → List Occurrence → Subject → DetectedObjectState
detected_object_of site occurrences subject = record {
  object = subject.object;
  algorithm = subject.algorithm;
  ack_required = ack_required_of site subject;
  alarm = alarm_of subject.algorithm (first_point site subject) (incidents_of site subject occurrences);
}

abbrev pub alarms_of : Site → List Occurrence → List DetectedObjectState
alarms_of site occurrences = map (detected_object_of site occurrences) (detecting_subjects site)

abbrev pub state_of : Site → List Event → CoreState
state_of site history = record {
  site = site;
  events = length history;
  last_moment = last_moment_of site history;
  values = values_after site history;
  alarms = alarms_of site (occurrences_of site history);
  classes = classes_after site history;
  outbox = outbox_after site history;
  logs = logs_after site history;
}
