-- What the state of a site keeps to, whatever happened: the states that a snapshot of the site may hold.
use Rattle.std.specs.Prelude.{◌≡◌, ◌≤◌, ◌<◌, ℕ, ℤ, pos, ◌==◌, Bool, true, false, IsTrue, IsSome, IfSome, IsNone, Option, Some, is_some, if◌then◌else◌, List, length, All}
use Rattle.std.specs.List.{AllZip, list_any}
use Rattle.std.specs.Option.{option_map_or}
use Rattle.bac_values.specs.EventStates.{event_states, number_of_state, transition_to}
use Rattle.bac_values.specs.Identifier.{ObjectIdData}
use Rattle.bac_values.specs.Limits.{most_destinations, most_events, most_note_octets, most_peers}
use Rattle.bac_values.specs.Moments.{IsMoment}
use Rattle.bac_values.specs.declared.event_state.EventState.{EventState}
use Rattle.bac_values.specs.declared.event_state.EventState.TheVariants.{Normal, Fault, Offnormal}
use Rattle.bac_values.specs.declared.stamp.Stamp.{Stamp}
use Rattle.bac_values.specs.declared.transition.Transition.{Transition}
use Rattle.civil_stamp.specs.LocalTime.{ZoneData, hundredths_in}
use Rattle.algorithm_rules.specs.Rules.{rules_of}
use Rattle.algorithm_rules.specs.declared.table.Algorithm.{Algorithm}
use Rattle.algorithm_rules.specs.declared.table.Rule.{Rule}
use Rattle.event_machine.specs.Runs.{places}
use Rattle.event_machine.specs.Summary.{AlarmState, transitions}
use Rattle.event_machine.specs.declared.run.Run.{Run}
use Rattle.event_log.specs.Log.{IsLog}
use Rattle.event_log.specs.declared.log_record.LogRecord.{LogRecord}
use Rattle.event_log.specs.declared.log_site.LogSite.{LogSite}
use Rattle.notify_class.specs.declared.class.Class.{Class}
use Rattle.notify_class.specs.declared.class_site.ClassSite.{ClassSite}
use Rattle.object_table.specs.Objects.{IsRow}
use Rattle.object_table.specs.Properties.{kind_in}
use Rattle.object_table.specs.Rows.{row_of}
use Rattle.object_table.specs.Values.{is_present_value}
use Rattle.object_table.specs.declared.object_site.ObjectSite.{ObjectSite}
use Rattle.object_table.specs.declared.row.Row.{Row}
use Rattle.outbox.specs.Outboxes.{IsOutbox, peers_of}
use Rattle.enrollment.specs.Objects.{ObjectsState}
use Rattle.enrollment.specs.declared.enrollment_site.EnrollmentSite.{EnrollmentSite}
use Rattle.enrollment.specs.declared.subject.Subject.{Subject}
use Rattle.alarm_core.specs.declared.site.Site.{Site}
use Rattle.alarm_core.specs.Evaluations.{site_zone}
use Rattle.alarm_core.specs.Known.{KnowsClass}
use Rattle.alarm_core.specs.Logs.{SiteLogState}
use Rattle.alarm_core.specs.Room.{LeaveRoom}
use Rattle.alarm_core.specs.State.{CoreState, DetectedObjectState}
use Rattle.alarm_core.specs.Subjects.{ack_required_of, detecting_subjects}

-- ---- properties

-- an object of a site with the writable properties of another
abbrev pub with_settings_of : ObjectSite → ObjectSite → ObjectSite
with_settings_of written site = record site {
  value = written.value;
  out_of_service = written.out_of_service;
  reliability_inhibit = written.reliability_inhibit;
  enable = written.enable;
  time_delay = written.time_delay;
  time_delay_normal = written.time_delay_normal;
  inhibit = written.inhibit;
  low = written.low;
  high = written.high;
  deadband = written.deadband;
  limit_enable = written.limit_enable;
  alarm_value = written.alarm_value;
}

-- the row of an object of a site, as writes may have left it: what no write changes is the site's, the present value is one that a write takes, and Time_Delay_Normal is there where the site has it
pub record IsRowOf (site : ObjectSite) (row : Row) : Type 0 where
  pub same : row.site ≡ with_settings_of row.site site
  pub value : IsTrue (is_present_value (kind_in site) site row.site.value)
  pub delay : is_some row.site.time_delay_normal ≡ is_some site.time_delay_normal
  pub takes : IsRow row

-- an enrollment of a site, as writes may have left it; one that is inhibited by reference keeps its Event_Algorithm_Inhibit
pub record IsEnrollmentOf (site written : EnrollmentSite) : Type 0 where
  pub same : written ≡ record site { enable = written.enable; inhibit = written.inhibit }
  pub enable : length written.enable ≡ 3
  pub inhibit : IsSome site.inhibit_ref → written.inhibit ≡ false

-- ---- alarms

-- whether an event algorithm leads to a state
abbrev pub leads_to : Algorithm → EventState → Bool
leads_to algorithm state = list_any (λ from. list_any (λ (rule : Rule). number_of_state rule.target == number_of_state state) (rules_of algorithm from)) event_states

-- the states that an object may be in: NORMAL, FAULT, and those to which its algorithm leads
abbrev pub is_state_of : Algorithm → EventState → Bool
is_state_of algorithm Normal = true
is_state_of algorithm Fault = true
is_state_of algorithm state = leads_to algorithm state

-- how many alarm values an object has: a binary value has one, an enrollment none
abbrev pub alarm_values_in : Row → ℕ
alarm_values_in row = if is_some row.site.alarm_value then 1 else length row.site.alarm_values

abbrev pub alarm_values_of : ObjectIdData → ObjectsState → ℕ
alarm_values_of object values = option_map_or alarm_values_in (row_of object values.rows) 0

-- the state that a transition entered when it last came, if it ever did
abbrev pub IsLastState : Transition → Option EventState → Type 0
IsLastState transition last = IfSome last (λ state. transition_to state ≡ transition)

-- a run of the rule at a place, if there are both: it started at a moment in range, and not after the last one
pub record IsRunOf (rules : List Rule) (last place : ℕ) (run : Run) : Type 0 where
  pub within : place < length rules
  pub range : IsMoment run.start
  pub past : run.start ≤ last

abbrev pub IsRunAt : List Rule → ℕ → ℕ → Option Run → Type 0
IsRunAt rules last place run = IfSome run (IsRunOf rules last place)

-- The alarm of an object with an algorithm and so many alarm values, whose last look was not after a moment. The cause is one of the alarm values; where there are any, OFFNORMAL has one.
pub record IsAlarmOf (algorithm : Algorithm) (values last : ℕ) (alarm : AlarmState) : Type 0 where
  pub state : IsTrue (is_state_of algorithm alarm.state)
  pub acked : length alarm.acked ≡ 3
  pub stamps : length alarm.stamps ≡ 3
  pub last_states : AllZip IsLastState transitions alarm.last_states
  pub cause : IfSome alarm.cause (λ place. place < values)
  pub caused : alarm.state ≡ Offnormal → 0 < values → IsSome alarm.cause
  pub runs : AllZip (IsRunAt (rules_of algorithm alarm.state) last) places alarm.runs

-- an object of a state whose event detection is enabled
pub record IsDetectedOf (site : Site) (state : CoreState) (subject : Subject) (detected : DetectedObjectState) : Type 0 where
  pub object : detected.object ≡ subject.object
  pub algorithm : detected.algorithm ≡ subject.algorithm
  pub ack_required : detected.ack_required ≡ ack_required_of site subject
  pub alarm : IsAlarmOf subject.algorithm (alarm_values_of subject.object state.values) state.last_moment detected.alarm

-- ---- classes and logs

-- a notification class of a site, with a list that an edit may have given it
pub record IsClassOf (listed : ClassSite) (class : Class) : Type 0 where
  pub same : class ≡ record listed.class { destinations = class.destinations }
  pub few : length class.destinations ≤ most_destinations

-- hundredths of a second since 1970, where a stamp gives them and they aren't negative; else 0
abbrev pub hundredths_or_none : Option ℤ → ℕ
hundredths_or_none (Some (pos number)) = number
hundredths_or_none _ = 0

abbrev pub hundredths_shown : ZoneData → Stamp → ℕ
hundredths_shown zone stamp = hundredths_or_none (hundredths_in zone stamp)

-- a record of a log: where the site has no zone rule, its stamp tells its hundredths
pub record IsRecordOf (site : Site) (entry : LogRecord) : Type 0 where
  pub short : length entry.body ≤ most_note_octets
  pub shown : IsNone site.device.zone_rule → entry.hundredths ≡ hundredths_shown (site_zone site) entry.stamp

-- a log of a site, as records and writes may have left it
pub record IsLogOf (site : Site) (listed : LogSite) (kept : SiteLogState) : Type 0 where
  pub same : kept.site ≡ listed
  pub size : kept.log.size ≡ listed.size
  pub stops : kept.log.stops ≡ listed.stop_when_full
  pub log : IsLog kept.log
  pub records : All (IsRecordOf site) kept.log.records

-- ---- all of it

-- The state of a site: fewer than 2^63 events, the last one not before the start; its objects, classes and logs as above, with lists that leave room in the outbox; and an outbox with the site's settings, which has a post for each recipient.
pub record IsStateOf (site : Site) (state : CoreState) : Type 0 where
  pub site_is : state.site ≡ site
  pub events : state.events < most_events
  pub moment : IsMoment state.last_moment
  pub begun : site.device.start ≤ state.last_moment
  pub rows : AllZip IsRowOf site.objects state.values.rows
  pub enrollments : AllZip IsEnrollmentOf site.enrollments state.values.enrollments
  pub alarms : AllZip (IsDetectedOf site state) (detecting_subjects site) state.alarms
  pub classes : AllZip IsClassOf site.classes state.classes
  pub room : LeaveRoom site state.classes
  pub known : All (KnowsClass (peers_of state.outbox.posts)) state.classes
  pub peers : length state.outbox.posts ≤ most_peers
  pub outbox : IsOutbox state.outbox
  pub limit : state.outbox.limit ≡ site.device.outbox
  pub timeout : state.outbox.timeout ≡ site.device.apdu_timeout
  pub retries : state.outbox.retries ≡ site.device.retries
  pub flush_silent : state.outbox.flush_silent ≡ site.device.flush_silent
  pub logs : AllZip (IsLogOf site) site.logs state.logs
