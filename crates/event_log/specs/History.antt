-- A log by looking back over all calls that changed it, the newest first.
use Rattle.std.specs.Prelude.{◌≡◌, ℕ, Bool, List, [], ◌∷◌, ◌++◌, length, if◌then◌else◌}
use Rattle.circular_buffer.specs.Buffer.{keep_last}
use Rattle.event_log.specs.declared.log_record.LogRecord.{LogRecord}
use Rattle.event_log.specs.Log.{IsLog, LoggedEvent, number_after, is_taken, entry_of, recorded, cleared, switched, EventLogState}

-- an event came to be recorded, the buffer was cleared, or Enable was written
pub data Call : Type 0 where
  Recorded : LoggedEvent → Call
  Cleared : Call
  Switched : Bool → Call

-- Enable is what was written to it last
abbrev pub enabled_after : EventLogState → List Call → Bool
enabled_after first [] = first.enabled
enabled_after first (Recorded event ∷ older) = enabled_after first older
enabled_after first (Cleared ∷ older) = enabled_after first older
enabled_after first (Switched on ∷ older) = on

-- how many records were ever taken, and those taken since the last clearing, the oldest first
pub record Taken : Type 0 where
  pub total : ℕ
  pub records : List LogRecord

abbrev pub takes : EventLogState → Bool → Taken → Bool
takes first enabled taken = is_taken enabled first.stops first.size (length taken.records)

abbrev pub one_more : LoggedEvent → Taken → Taken
one_more event taken = record { total = number_after taken.total; records = taken.records ++ entry_of event (number_after taken.total) ∷ [] }

unfoldable pub taken_after : EventLogState → List Call → Taken
taken_after first [] = record { total = first.total; records = first.records }
taken_after first (Recorded event ∷ older) =
    if takes first (enabled_after first older) (taken_after first older) then one_more event (taken_after first older) else taken_after first older
taken_after first (Cleared ∷ older) = record { total = (taken_after first older).total; records = [] }
taken_after first (Switched on ∷ older) = taken_after first older

-- The log after some calls: it has the last records that were taken since the last clearing, as many as its size allows.
abbrev pub log_after : EventLogState → List Call → EventLogState
log_after first calls = record {
  size = first.size;
  stops = first.stops;
  enabled = enabled_after first calls;
  total = (taken_after first calls).total;
  records = keep_last first.size (taken_after first calls).records;
}

-- what a call does to a log
abbrev pub next_log : Call → EventLogState → EventLogState
next_log (Recorded event) log = recorded event log
next_log Cleared log = cleared log
next_log (Switched on) log = switched on log

-- Whatever calls a log came from, it is now the log after those and one more.
pub record FollowsCall (call : Call) (old new : EventLogState) : Type 0 where
  pub after : (first : EventLogState) (calls : List Call) → IsLog first → old ≡ log_after first calls → new ≡ log_after first (call ∷ calls)
