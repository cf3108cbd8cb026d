-- The parts of a core, of which it is made again.
use Rattle.std.specs.Prelude.{◌≡◌, false, if◌then◌else◌, List, [], ◌∷◌, map, flat_map, zip, length}
use Rattle.std.specs.List.{AllZip}
use Rattle.event_log.specs.Log.{EventLogState}
use Rattle.event_log.specs.declared.log_site.LogSite.{LogSite}
use Rattle.event_machine.specs.Summary.{AlarmState, new_alarm}
use Rattle.enrollment.specs.Objects.{ObjectsState}
use Rattle.enrollment.specs.References.{enrollments_in}
use Rattle.enrollment.specs.Subjects.{is_detecting}
use Rattle.enrollment.specs.declared.subject.Subject.{Subject}
use Rattle.alarm_core.specs.declared.parts.Parts.{Parts}
use Rattle.alarm_core.specs.declared.site.Site.{Site}
use Rattle.alarm_core.specs.Found.{alarm_in}
use Rattle.alarm_core.specs.Logs.{SiteLogState, log_of}
use Rattle.alarm_core.specs.SiteStates.{IsStateOf}
use Rattle.alarm_core.specs.Sites.{IsSite}
use Rattle.alarm_core.specs.State.{CoreState, DetectedObjectState}
use Rattle.alarm_core.specs.Subjects.{ack_required_of, alarm_subjects}

abbrev pub detected_with : Site → Subject → AlarmState → DetectedObjectState
detected_with site subject alarm = record {
  object = subject.object;
  algorithm = subject.algorithm;
  ack_required = ack_required_of site subject;
  alarm = alarm;
}

-- an object with its alarm, where its event detection is enabled
abbrev pub detected_by : Site → Subject × AlarmState → List DetectedObjectState
detected_by site pair = if is_detecting pair.0 then detected_with site pair.0 pair.1 ∷ [] else []

-- a log of a site with what it holds
abbrev pub kept_by : LogSite × EventLogState → SiteLogState
kept_by pair = record { site = pair.0; log = pair.1 }

-- the properties of all objects
abbrev pub values_of_parts : Parts → ObjectsState
values_of_parts parts = record { rows = parts.table; enrollments = parts.enrollments.sites }

-- the state that parts tell: the alarms are those of the objects with a notification class and of the enrollments, by ascending identifier, and the logs are in the site's order
abbrev pub state_of_parts : Site → Parts → CoreState
state_of_parts site parts = record {
  site = site;
  events = parts.events;
  last_moment = parts.last_moment;
  values = values_of_parts parts;
  alarms = flat_map (detected_by site) (zip (alarm_subjects site) parts.alarms);
  classes = parts.classes;
  outbox = parts.outbox;
  logs = map kept_by (zip site.logs parts.logs);
}

-- an object whose event detection isn't enabled has the alarm of one that never moved
abbrev pub MayHave : Subject → AlarmState → Type 0
MayHave subject alarm = is_detecting subject ≡ false → alarm ≡ new_alarm

-- parts of which a core of a site may be made; the enrollments know who refers to an object
pub record ArePartsOf (site : Site) (parts : Parts) : Type 0 where
  pub references : parts.enrollments ≡ enrollments_in (values_of_parts parts)
  pub alarms : AllZip MayHave (alarm_subjects site) parts.alarms
  pub logs : length parts.logs ≡ length site.logs
  pub state : IsStateOf site (state_of_parts site parts)

-- the parts that a state tells
abbrev pub parts_of : CoreState → Parts
parts_of state = record {
  events = state.events;
  last_moment = state.last_moment;
  table = state.values.rows;
  enrollments = enrollments_in state.values;
  alarms = map (λ (subject : Subject). alarm_in state subject.object) (alarm_subjects state.site);
  classes = state.classes;
  logs = map log_of state.logs;
  outbox = state.outbox;
}

-- of the parts that a state tells a core may be made, and it has that state
pub record RestoresWhatItTells : Type 0 where
  pub parts : (site : Site) (state : CoreState) → IsSite site → IsStateOf site state → ArePartsOf site (parts_of state)
  pub state : (site : Site) (state : CoreState) → IsSite site → IsStateOf site state → state_of_parts site (parts_of state) ≡ state
