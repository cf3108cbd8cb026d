-- The records that a request asks for are in the log.
use Rattle.std.proofs.Common.{◌≡◌, ℕ, zero, suc, ◌+◌, ◌<◌, ◌≤◌, Bool, true, false, List, [], ◌∷◌, length, refl, arith, Option, Some, None, IfSome, ℤ, pos, negsuc, if◌then◌else◌}
use Rattle.std.specs.Prelude.{int_lt, nat_lt, position}
use Rattle.std.specs.List.{position_or_len}
use Rattle.std.proofs.lemmas.Bool.{ltb-true}
use Rattle.bac_values.specs.declared.stamp.Stamp.{Stamp}
use Rattle.civil_stamp.specs.LocalTime.{ZoneData, hundredths_in}
use Rattle.property_services.specs.declared.requests.RangeBy.{RangeBy}
use Rattle.property_services.specs.declared.requests.RangeBy.TheVariants.{All, Position, Sequence, Time}
use Rattle.event_log.specs.declared.log_record.LogRecord.{LogRecord}
use Rattle.event_log.specs.Log.{EventLogState}
use Rattle.event_log.specs.Ranges.{is_before, last_position, later_position, place_by_hundredths, place_by_time, place_of_position, range_at, range_from}
use Rattle.service_desk.specs.Ranges.{place_by_clock, place_if_civil, requested_range}

Within : Option ℕ → ℕ → Type 0
Within place length = IfSome place (λ k. k < length)

at_within : (count : ℤ) (length place : ℕ) → place < length → (range_at count length place).first + (range_at count length place).count ≤ length
at_within (pos zero) length place within = omega arith
at_within (pos (suc n)) length place within = omega (arith, within)
at_within (negsuc n) length place within = omega (arith, within)

from_within : (count : ℤ) (length : ℕ) (place : Option ℕ) → Within place length → (range_from count length place).first + (range_from count length place).count ≤ length
unfolding Within
from_within count length None within = omega arith
from_within count length (Some place) within = at_within count length place within

test_within : (b : Bool) (k n : ℕ) → nat_lt k n ≡ b → Within (if b then Some k else None) n
unfolding Within
test_within true k n e = ltb-true k n e
test_within false k n e = tt

position_within : {X : Type 0} (test : X → Bool) (xs : List X) → Within (position test xs) (length xs)
position_within test xs = test_within _ (position_or_len test xs) (length xs) refl

place_within : (position length : ℕ) → Within (place_of_position position length) length
unfolding Within
place_within zero length = tt
place_within (suc place) length = test_within (nat_lt place length) place length refl

later_within : (b : Bool) (o : Option ℕ) (n : ℕ) → Within o n → Within (later_position b o) (suc n)
unfolding Within
later_within b (Some k) n h = omega (arith, h)
later_within true None n h = omega arith
later_within false None n h = tt

last_within : {X : Type 0} (test : X → Bool) (xs : List X) → Within (last_position test xs) (length xs)
unfolding Within
last_within test [] = tt
last_within test (x ∷ xs) = later_within (test x) (last_position test xs) (length xs) (last_within test xs)

time_within : (count : ℤ) (reference : Stamp) (records : List LogRecord) → Within (place_by_time count reference records) (length records)
time_within (pos n) reference records = position_within (λ entry. is_before reference entry.stamp) records
time_within (negsuc n) reference records = last_within (λ entry. is_before entry.stamp reference) records

hundredths_within : (count reference : ℤ) (records : List LogRecord) → Within (place_by_hundredths count reference records) (length records)
hundredths_within (pos n) reference records = position_within (λ entry. int_lt reference (pos entry.hundredths)) records
hundredths_within (negsuc n) reference records = last_within (λ entry. int_lt (pos entry.hundredths) reference) records

civil_within : (count : ℤ) (hundredths : Option ℤ) (records : List LogRecord) → Within (place_if_civil count hundredths records) (length records)
unfolding Within
civil_within count None records = tt
civil_within count (Some hundredths) records = hundredths_within count hundredths records

clock_within : (zone : Option ZoneData) (count : ℤ) (reference : Stamp) (records : List LogRecord) → Within (place_by_clock zone count reference records) (length records)
clock_within None count reference records = time_within count reference records
clock_within (Some zone) count reference records = civil_within count (hundredths_in zone reference) records

pub requested_range_within : (zone : Option ZoneData) (range : RangeBy) (log : EventLogState) → (requested_range zone range log).first + (requested_range zone range log).count ≤ length log.records
requested_range_within zone All log = omega arith
requested_range_within zone (Position reference count) log = from_within count (length log.records) _ (place_within reference (length log.records))
requested_range_within zone (Sequence reference count) log = from_within count (length log.records) _ (position_within _ log.records)
requested_range_within zone (Time reference count) log = from_within count (length log.records) _ (clock_within zone count reference log.records)
