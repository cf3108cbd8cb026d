-- An event log (ANSI/ASHRAE 135-2020, 12.27) as plain data.
use Rattle.std.specs.Prelude.{◌≡◌, ℕ, ◌+◌, ◌-◌, ◌^◌, ◌≤◌, ◌<◌, ◌==◌, Bool, not, ◌&&◌, nat_lt, nat_le, List, [], ◌∷◌, ◌++◌, length, slice_get, Some, if◌then◌else◌}
use Rattle.circular_buffer.specs.Buffer.{keep_last}
use Rattle.bac_values.specs.declared.stamp.Stamp.{Stamp}
use Rattle.event_log.specs.declared.log_record.LogRecord.{LogRecord}

-- Buffer_Size, Stop_When_Full, Enable, Total_Record_Count, and the records in Log_Buffer, the oldest first
pub record EventLogState : Type 0 where
  pub size : ℕ
  pub stops : Bool
  pub enabled : Bool
  pub total : ℕ
  pub records : List LogRecord

-- what a record holds of an event notification: when it came, in local date and time and in hundredths of a second since
-- 1970 at UTC, and the octets of its parameters
pub record LoggedEvent : Type 0 where
  pub stamp : Stamp
  pub hundredths : ℕ
  pub body : List ℕ

-- the number that follows a number of records; 1 follows the greatest of 32 bits
abbrev pub number_after : ℕ → ℕ
number_after total = if total == 2 ^ 32 - 1 then 1 else total + 1

-- the number of the record that lies so many records back from the one with a number
abbrev pub number_back : ℕ → ℕ → ℕ
number_back total back = if nat_lt back total then total - back else total + (2 ^ 32 - 1) - back

-- the newest record has the total as its number, and each one before it the number before
abbrev pub AreNumbered : ℕ → List LogRecord → Type 0
AreNumbered total records = (place : ℕ) (entry : LogRecord) → slice_get records place ≡ Some entry → entry.sequence ≡ number_back total (length records - 1 - place)

-- what is so of every log: numbers of 32 bits, no more records than its size, none where none was ever taken, and all in their numbers
pub record IsLog (log : EventLogState) : Type 0 where
  pub size : log.size < 2 ^ 32
  pub total : log.total < 2 ^ 32
  pub short : length log.records ≤ log.size
  pub begun : 0 < length log.records → 0 < log.total
  pub numbered : AreNumbered log.total log.records

-- a log that has taken nothing yet
abbrev pub new_log : ℕ → Bool → Bool → EventLogState
new_log size stops enabled = record { size = size; stops = stops; enabled = enabled; total = 0; records = [] }

-- whether a record is taken: where the log is enabled, and isn't both full and set to stop when it is
abbrev pub is_taken : Bool → Bool → ℕ → ℕ → Bool
is_taken enabled stops size count = enabled && not (stops && nat_le size count)

-- the record of an event, with its number
abbrev pub entry_of : LoggedEvent → ℕ → LogRecord
entry_of event number = record { stamp = event.stamp; hundredths = event.hundredths; sequence = number; body = event.body }

-- with one more record, of which the last ones stay that the size allows
abbrev pub with_entry : LoggedEvent → EventLogState → EventLogState
with_entry event log = record log { total = number_after log.total; records = keep_last log.size (log.records ++ entry_of event (number_after log.total) ∷ []) }

-- after a record came; where it isn't taken, the log is as it was
abbrev pub recorded : LoggedEvent → EventLogState → EventLogState
recorded event log = if is_taken log.enabled log.stops log.size (length log.records) then with_entry event log else log

-- without records; the total stays
abbrev pub cleared : EventLogState → EventLogState
cleared log = record log { records = [] }

abbrev pub switched : Bool → EventLogState → EventLogState
switched on log = record log { enabled = on }
