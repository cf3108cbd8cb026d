-- What stands in a snapshot: which rows, alarms, enrollments, classes, records and posts have octets there.
use Rattle.std.specs.Prelude.{◌≡◌, ℕ, ◌^◌, ◌<◌, ◌≤◌, All, Bool, true, false, IfSome, List, Option, length}
use Rattle.bac_values.specs.Limits.{most_note_octets}
use Rattle.bac_values.specs.Address.{PeerData}
use Rattle.bac_values.specs.declared.note.Note.{Note}
use Rattle.bac_values.specs.declared.stamp.Stamp.{Stamp}
use Rattle.civil_stamp.specs.LocalTime.{ZoneData}
use Rattle.algorithm_rules.specs.declared.table.Algorithm.{Algorithm}
use Rattle.event_log.specs.declared.log_record.LogRecord.{LogRecord}
use Rattle.notify_class.specs.declared.class.Class.{Class}
use Rattle.outbox.specs.Posts.{MailboxState}
use Rattle.enrollment.specs.declared.enrollment_site.EnrollmentSite.{EnrollmentSite}
use Rattle.event_machine.specs.Summary.{AlarmState}
use Rattle.event_machine.specs.declared.run.Run.{Run}
use Rattle.object_table.specs.declared.object_site.ObjectSite.{ObjectSite}
use Rattle.object_table.specs.declared.row.Row.{Row}
use Rattle.alarm_core.specs.SiteStates.{IsAlarmOf, IsEnrollmentOf, IsRowOf, hundredths_shown}
use Rattle.state_codec.specs.Records.{AreDestinations, IsPeer}
use Rattle.state_codec.specs.Types.{FitsValue}

-- what the types of a row's parts say of it
pub record FitsRow (row : Row) : Type 0 where
  pub value : FitsValue row.site.value
  pub delay : row.site.time_delay < 2 ^ 32
  pub normal_delay : IfSome row.site.time_delay_normal (λ seconds. seconds < 2 ^ 32)
  pub deadband : row.site.deadband < 2 ^ 32
  pub field_fault : row.field_fault < 2 ^ 8

-- a row of an object of a site, as writes may have left it
pub record HasRow (site : ObjectSite) (row : Row) : Type 0 where
  pub written : IsRowOf site row
  pub fits : FitsRow row

abbrev pub IsStamp : Stamp → Type 0
IsStamp stamp = length stamp.octets ≡ 8

abbrev pub FitsRun : Run → Type 0
FitsRun run = run.key < 2 ^ 32

abbrev pub FitsRunAt : Option Run → Type 0
FitsRunAt run = IfSome run FitsRun

-- what the types of an alarm's parts say of it
pub record FitsAlarm (alarm : AlarmState) : Type 0 where
  pub stamps : All IsStamp alarm.stamps
  pub runs : All FitsRunAt alarm.runs

-- an alarm of an object with an algorithm and so many alarm values, until a last moment
pub record HasAlarm (algorithm : Algorithm) (values last : ℕ) (alarm : AlarmState) : Type 0 where
  pub own : IsAlarmOf algorithm values last alarm
  pub fits : FitsAlarm alarm

-- ---- enrollments and classes

pub record HasEnrollment (site written : EnrollmentSite) : Type 0 where
  pub own : IsEnrollmentOf site written

-- a class of a site, with recipients that have records
pub record HasClass (listed class : Class) : Type 0 where
  pub same : class ≡ record listed { destinations = class.destinations }
  pub destinations : AreDestinations class.destinations

-- ---- logs

-- the hundredths of a record, where they are written, and where its stamp shows them
abbrev pub AreHundredths : Bool → ZoneData → Stamp → ℕ → Type 0
AreHundredths true zone stamp hundredths = hundredths < 2 ^ 64
AreHundredths false zone stamp hundredths = hundredths ≡ hundredths_shown zone stamp

-- the record with a number
pub record HasEntry (has_rule : Bool) (zone : ZoneData) (sequence : ℕ) (entry : LogRecord) : Type 0 where
  pub stamp : IsStamp entry.stamp
  pub hundredths : AreHundredths has_rule zone entry.stamp entry.hundredths
  pub number : entry.sequence ≡ sequence
  pub short : length entry.body ≤ most_note_octets

-- ---- posts

abbrev pub HasNote : PeerData → Note → Type 0
HasNote peer note = (note.peer ≡ peer) × (length note.body ≤ most_note_octets)

pub record HasPost (post : MailboxState) : Type 0 where
  pub to : IsPeer post.peer
  pub invoke : post.next_invoke < 2 ^ 8
  pub tries : post.attempts < 2 ^ 8
  pub until : post.deadline < 2 ^ 64
  pub few : length post.notes < 2 ^ 16
  pub own : All (HasNote post.peer) post.notes

abbrev pub ArePosts : List MailboxState → Type 0
ArePosts posts = All HasPost posts × (length posts < 2 ^ 16)
