-- Ranges of a log's records (ANSI/ASHRAE 135-2020, 15.8). Places count from 0.
use Rattle.std.specs.Prelude.{ℕ, zero, suc, ◌+◌, ◌-◌, ◌^◌, ◌==◌, nat_lt, nat_le, Bool, true, false, min, ℤ, pos, negsuc, int_lt, Option, Some, None, List, [], ◌∷◌, length, position, slice_index, if◌then◌else◌}
use Rattle.bac_values.specs.declared.stamp.Stamp.{Stamp}
use Rattle.event_log.specs.declared.log_record.LogRecord.{LogRecord}
use Rattle.event_log.specs.declared.log_range.LogRange.{LogRange}

abbrev pub range_of : ℕ → ℕ → LogRange
range_of first count = record { first = first; count = count }

-- A positive count takes that many records from a place on, a negative one that many up to it; fewer where there are no more.
abbrev pub range_at : ℤ → ℕ → ℕ → LogRange
range_at (pos zero) length place = range_of 0 0
range_at (pos (suc n)) length place = range_of place (min (suc n) (length - place))
range_at (negsuc n) length place = range_of (place + 1 - min (suc n) (place + 1)) (min (suc n) (place + 1))

-- the range at a place, and an empty one where there is none
abbrev pub range_from : ℤ → ℕ → Option ℕ → LogRange
range_from count length None = range_of 0 0
range_from count length (Some place) = range_at count length place

-- positions count from 1
abbrev pub place_of_position : ℕ → ℕ → Option ℕ
place_of_position zero length = None
place_of_position (suc place) length = if nat_lt place length then Some place else None

-- the place of the record with a number
abbrev pub place_of_sequence : ℕ → List LogRecord → Option ℕ
place_of_sequence sequence records = position (λ entry. entry.sequence == sequence) records

-- how many records back the one with a number lies from the newest, whose number is the total
abbrev pub back_of : ℕ → ℕ → ℕ
back_of total sequence = if nat_le sequence total then total - sequence else total + (2 ^ 32 - 1 - sequence)

-- whether a list of octets comes before another of the same length
abbrev pub octets_before : List ℕ → List ℕ → Bool
octets_before [] ys = false
octets_before (x ∷ xs) [] = false
octets_before (x ∷ xs) (y ∷ ys) = if x == y then octets_before xs ys else nat_lt x y

-- year, month, day, hour, minute, second and hundredth; the weekday isn't looked at
abbrev pub moment_octets : Stamp → List ℕ
moment_octets stamp =
    slice_index stamp.octets 0 ∷ slice_index stamp.octets 1 ∷ slice_index stamp.octets 2 ∷ slice_index stamp.octets 4 ∷ slice_index stamp.octets 5 ∷ slice_index stamp.octets 6 ∷ slice_index stamp.octets 7 ∷ []

-- whether a stamp is strictly before another
abbrev pub is_before : Stamp → Stamp → Bool
is_before a b = octets_before (moment_octets a) (moment_octets b)

-- the place of the first record that is strictly after a stamp
abbrev pub first_after : Stamp → List LogRecord → Option ℕ
first_after reference records = position (λ entry. is_before reference entry.stamp) records

-- a place behind the first element, or the first itself where it passes and none behind it does
abbrev pub later_position : Bool → Option ℕ → Option ℕ
later_position passes (Some place) = Some (place + 1)
later_position true None = Some 0
later_position false None = None

-- the last place at which a test passes
abbrev pub last_position : {X : Type 0} → (X → Bool) → List X → Option ℕ
last_position test [] = None
last_position test (x ∷ xs) = later_position (test x) (last_position test xs)

-- the place of the last record that is strictly before a stamp
abbrev pub last_before : Stamp → List LogRecord → Option ℕ
last_before reference records = last_position (λ entry. is_before entry.stamp reference) records

-- by time a positive count begins behind the reference, and a negative one ends before it
abbrev pub place_by_time : ℤ → Stamp → List LogRecord → Option ℕ
place_by_time (pos n) reference records = first_after reference records
place_by_time (negsuc n) reference records = last_before reference records

-- Where the clock is put back, a local time comes twice. Hundredths of a second since 1970 at UTC come once.

-- the place of the first record whose hundredths are strictly after a reference
abbrev pub first_later : ℤ → List LogRecord → Option ℕ
first_later reference records = position (λ entry. int_lt reference (pos entry.hundredths)) records

-- the place of the last record whose hundredths are strictly before a reference
abbrev pub last_earlier : ℤ → List LogRecord → Option ℕ
last_earlier reference records = last_position (λ entry. int_lt (pos entry.hundredths) reference) records

-- by hundredths, too, a positive count begins behind the reference, and a negative one ends before it
abbrev pub place_by_hundredths : ℤ → ℤ → List LogRecord → Option ℕ
place_by_hundredths (pos n) reference records = first_later reference records
place_by_hundredths (negsuc n) reference records = last_earlier reference records
