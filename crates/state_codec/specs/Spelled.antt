-- Which octets are the snapshot of which state of a site.
use Rattle.std.specs.Prelude.{◌≡◌, ℕ, ◌^◌, ◌<◌, All, Bool, IsTrue, List}
use Rattle.event_log.specs.declared.log_record.LogRecord.{LogRecord}
use Rattle.notify_class.specs.declared.class.Class.{Class}
use Rattle.outbox.specs.Posts.{MailboxState}
use Rattle.alarm_core.specs.Logs.{SiteLogState}
use Rattle.alarm_core.specs.SiteStates.{IsStateOf}
use Rattle.alarm_core.specs.State.{CoreState, DetectedObjectState}
use Rattle.alarm_core.specs.declared.site.Site.{Site}
use Rattle.state_codec.specs.Records.{IsDestination, IsPeer}
use Rattle.state_codec.specs.SnapshotLaws.{FitsAlarm, FitsRow, IsStamp}
use Rattle.state_codec.specs.Snapshots.{has_rule, written_state}

abbrev pub FitsDetected : DetectedObjectState → Type 0
FitsDetected detected = FitsAlarm detected.alarm

abbrev pub FitsClass : Class → Type 0
FitsClass class = All IsDestination class.destinations

-- a record of a log; its hundredths are written where the site has a zone rule
pub record FitsEntry (rule : Bool) (entry : LogRecord) : Type 0 where
  pub stamp : IsStamp entry.stamp
  pub hundredths : IsTrue rule → entry.hundredths < 2 ^ 64

abbrev pub FitsLog : Bool → SiteLogState → Type 0
FitsLog rule kept = All (FitsEntry rule) kept.log.records

pub record FitsPost (post : MailboxState) : Type 0 where
  pub peer : IsPeer post.peer
  pub invoke : post.next_invoke < 2 ^ 8
  pub attempts : post.attempts < 2 ^ 8
  pub deadline : post.deadline < 2 ^ 64

-- what the types of a state's parts say of it: numbers fit their fields, and values, stamps, recipients and peers keep the rules of their types
pub record FitsState (state : CoreState) : Type 0 where
  pub rows : All FitsRow state.values.rows
  pub alarms : All FitsDetected state.alarms
  pub classes : All FitsClass state.classes
  pub logs : All (FitsLog (has_rule state.site)) state.logs
  pub posts : All FitsPost state.outbox.posts

-- the octets are the snapshot of the state, and the site may have it
pub record SpellsState (site : Site) (octets : List ℕ) (state : CoreState) : Type 0 where
  pub octets_are : octets ≡ written_state state
  pub own : IsStateOf site state
  pub fits : FitsState state

-- the octets are the snapshot of no state that the site may have
abbrev pub SpellsNothing : Site → List ℕ → Type 0
SpellsNothing site octets = (state : CoreState) → ¬ SpellsState site octets state
