-- Local time: what the clock of a zone shows, as a Date and a Time (ANSI/ASHRAE 135-2020, 20.2.12 and 20.2.13).
use Rattle.std.specs.Prelude.{◌≡◌, ℕ, zero, suc, ◌+◌, ◌-◌, ◌*◌, ◌/◌, ◌%◌, ◌<◌, ◌&&◌, Bool, List, [], ◌∷◌, length, ℤ, pos, neg_ℤ, ◌+ℤ◌, ◌-ℤ◌, ◌*ℤ◌, ◌≤ℤ◌, ◌⊎◌, unsigned_abs, slice_index, nat_le, nat_lt, Option, Some, None, option_map, if◌then◌else◌}
use Rattle.std.specs.Int.{int_div_euclid, int_max, int_min, int_rem_euclid}
use Rattle.std.specs.Ordering.{int_eq}
use Rattle.jiff_core.specs.Calendar.{IsBetween, IsCivilDate, days_from_civil, days_in_month, days_of_months, weekday_number}
use Rattle.jiff_tz.specs.PosixReader.{read_whole}
use Rattle.jiff_tz.specs.Year.{year_of_day}
use Rattle.bac_values.specs.Moments.{IsMoment}
use Rattle.bac_values.specs.declared.stamp.Stamp.{Stamp}
use Rattle.civil_stamp.specs.ZoneRules.{ClockRule, clock_rule, daylight_ahead, seconds_ahead}

-- what is seen of a zone: what its rule says of the clock. Only the next six definitions say what it is made of
abbrev pub ZoneData : Type 0
ZoneData = ClockRule

-- a zone that stands these minutes ahead of UTC, at most fourteen hours from it
abbrev pub IsZone : ℤ → Type 0
IsZone minutes = IsBetween (neg_ℤ (pos 840)) (pos 840) minutes

-- the zone that stands these minutes ahead of UTC all year
abbrev pub fixed_zone : ℤ → ZoneData
fixed_zone minutes = record { standard = minutes *ℤ pos 60; daylight = None }

-- the zone of a rule's text, where jiff takes it for a rule
abbrev pub rule_zone : List ℕ → Option ZoneData
rule_zone text = option_map clock_rule (read_whole text)

-- how many hundredths of a second the clock of the zone stands ahead of UTC, at these since 1970-01-01T00:00:00 at UTC
abbrev pub hundredths_ahead : ZoneData → ℤ → ℤ
hundredths_ahead zone at = seconds_ahead zone (at *ℤ pos 10_000_000) *ℤ pos 100

-- the most and the least that it ever stands ahead of UTC
abbrev pub most_ahead : ZoneData → ℤ
most_ahead zone = int_max zone.standard (daylight_ahead zone) *ℤ pos 100

abbrev pub least_ahead : ZoneData → ℤ
least_ahead zone = int_min zone.standard (daylight_ahead zone) *ℤ pos 100

-- the hundredths of a second since 1970-01-01T00:00:00 that the clock of the zone shows, at these at UTC
abbrev pub clock_at : ZoneData → ℤ → ℤ
clock_at zone at = at +ℤ hundredths_ahead zone at

-- what it shows at the moment, rounded down: it's put forward and back at whole seconds
abbrev pub local_hundredths : ZoneData → ℕ → ℤ
local_hundredths zone moment = clock_at zone (pos (moment / 10))

-- the parts of a stamp: the year is kept less 1900, and Monday is 1
abbrev pub stamp_year : Stamp → ℤ
stamp_year stamp = pos (1900 + slice_index stamp.octets 0)

abbrev pub stamp_month : Stamp → ℕ
stamp_month stamp = slice_index stamp.octets 1

abbrev pub stamp_day : Stamp → ℕ
stamp_day stamp = slice_index stamp.octets 2

abbrev pub stamp_weekday : Stamp → ℕ
stamp_weekday stamp = slice_index stamp.octets 3

abbrev pub stamp_hour : Stamp → ℕ
stamp_hour stamp = slice_index stamp.octets 4

abbrev pub stamp_minute : Stamp → ℕ
stamp_minute stamp = slice_index stamp.octets 5

abbrev pub stamp_second : Stamp → ℕ
stamp_second stamp = slice_index stamp.octets 6

abbrev pub stamp_hundredth : Stamp → ℕ
stamp_hundredth stamp = slice_index stamp.octets 7

-- the number of the stamp's day: 0 is 1970-01-01
abbrev pub stamp_epoch_day : Stamp → ℤ
stamp_epoch_day stamp = days_from_civil (stamp_year stamp) (stamp_month stamp) (stamp_day stamp)

-- the hundredths of a second since midnight
abbrev pub stamp_time : Stamp → ℕ
stamp_time stamp =
    ((stamp_hour stamp * 60 + stamp_minute stamp) * 60 + stamp_second stamp) * 100
    + stamp_hundredth stamp

-- a clock shows this hour, minute, second and hundredth
pub record IsTimeOfDay (stamp : Stamp) : Type 0 where
  pub hour : stamp_hour stamp < 24
  pub minute : stamp_minute stamp < 60
  pub second : stamp_second stamp < 60
  pub hundredth : stamp_hundredth stamp < 100

-- the stamp is what the clock of the zone shows at the moment: a day of the calendar and a time of that day, which
-- together count the clock's hundredths, and the weekday of that day
pub record IsLocalStamp (zone : ZoneData) (moment : ℕ) (stamp : Stamp) : Type 0 where
  pub size : length stamp.octets ≡ 8
  pub date : IsCivilDate (stamp_year stamp) (stamp_month stamp) (stamp_day stamp)
  pub time : IsTimeOfDay stamp
  pub count : stamp_epoch_day stamp *ℤ pos 8_640_000 +ℤ pos (stamp_time stamp) ≡ local_hundredths zone moment
  pub weekday : stamp_weekday stamp ≡ weekday_number (stamp_epoch_day stamp) + 1

-- From a stamp back to UTC.

-- the octets are a day of the calendar and a time of that day; the weekday isn't looked at
pub record IsCivilTime (stamp : Stamp) : Type 0 where
  pub date : IsCivilDate (stamp_year stamp) (stamp_month stamp) (stamp_day stamp)
  pub time : IsTimeOfDay stamp

-- the same as a test
abbrev pub is_civil_time : Stamp → Bool
is_civil_time stamp =
    nat_le 1 (stamp_month stamp) && nat_le (stamp_month stamp) 12
    && nat_le 1 (stamp_day stamp) && nat_le (stamp_day stamp) (days_in_month (stamp_year stamp) (stamp_month stamp))
    && nat_lt (stamp_hour stamp) 24 && nat_lt (stamp_minute stamp) 60 && nat_lt (stamp_second stamp) 60
    && nat_lt (stamp_hundredth stamp) 100

-- the hundredths of a second since 1970-01-01T00:00:00 on a clock that shows the stamp
abbrev pub shown_hundredths : Stamp → ℤ
shown_hundredths stamp = stamp_epoch_day stamp *ℤ pos 8_640_000 +ℤ pos (stamp_time stamp)

-- the clock of the zone shows the stamp's date and time at these hundredths of a second since 1970-01-01T00:00:00 at UTC
abbrev pub IsShownAt : ZoneData → Stamp → ℤ → Type 0
IsShownAt zone stamp at = clock_at zone at ≡ shown_hundredths stamp

-- it shows them then, and at no earlier time
pub record IsFirstShownAt (zone : ZoneData) (stamp : Stamp) (at : ℤ) : Type 0 where
  pub shown : IsShownAt zone stamp at
  pub first : (other : ℤ) → IsShownAt zone stamp other → at ≤ℤ other

-- they lie in a gap: it never shows them, as it's put forward over them, by so many hundredths. That long before `at` it's as far
-- short of them, so but for the gap it would come to show them `at`; and then it's as far beyond them
pub record LiesInGap (zone : ZoneData) (stamp : Stamp) (at : ℤ) : Type 0 where
  pub never : (other : ℤ) → ¬ (IsShownAt zone stamp other)
  pub forward : ℕ
  pub some : 0 < forward
  pub before : clock_at zone (at -ℤ pos forward) ≡ shown_hundredths stamp -ℤ pos forward
  pub after : clock_at zone at ≡ shown_hundredths stamp +ℤ pos forward

-- the time that a stamp tells in the zone: when its clock first shows it, and in a gap when it would have by the offset before
abbrev pub IsTimeOf : ZoneData → Stamp → ℤ → Type 0
IsTimeOf zone stamp at = IsFirstShownAt zone stamp at ⊎ LiesInGap zone stamp at

-- that time, of a clock that shows these hundredths: it stands ahead of UTC in one of two ways, so it shows them at one of two
-- times. It's the earlier one, if the clock shows them then, else the later one
unfoldable pub utc_hundredths : ZoneData → ℤ → ℤ
utc_hundredths zone shown =
    if int_eq (clock_at zone (shown -ℤ most_ahead zone)) shown
    then shown -ℤ most_ahead zone
    else shown -ℤ least_ahead zone

-- the time that the stamp tells in the zone, where it is a civil time
abbrev pub hundredths_in : ZoneData → Stamp → Option ℤ
hundredths_in zone stamp = if is_civil_time stamp then Some (utc_hundredths zone (shown_hundredths stamp)) else None

-- a moment, and the zone in which its local date and time are told
pub record LocalMomentData : Type 0 where
  pub zone : ZoneData
  pub moment : ℕ

-- How the stamp is computed.

-- the most months, at most n, whose days fit in that many days of the year
unfoldable pub months_within : ℤ → ℕ → ℕ → ℕ
months_within year zero days = 0
months_within year (suc n) days =
    if nat_le (days_of_months year (suc n)) days then suc n else months_within year n days

-- the days of its year before the day
unfoldable pub days_into_year : ℤ → ℕ
days_into_year day = unsigned_abs (day -ℤ days_from_civil (year_of_day day) 1 1)

unfoldable pub month_of_day : ℤ → ℕ
month_of_day day = months_within (year_of_day day) 11 (days_into_year day) + 1

unfoldable pub day_of_month : ℤ → ℕ
day_of_month day = days_into_year day - days_of_months (year_of_day day) (month_of_day day - 1) + 1

-- the octets of a day and of the hundredths since midnight
unfoldable pub octets_of_day_and_time : ℤ → ℕ → List ℕ
octets_of_day_and_time day time =
    unsigned_abs (year_of_day day -ℤ pos 1900) ∷ month_of_day day ∷ day_of_month day ∷ (weekday_number day + 1)
    ∷ (time / 360_000) ∷ (time / 6_000 % 60) ∷ (time / 100 % 60) ∷ (time % 100) ∷ []

-- the stamp that the clock of the zone shows at the moment
unfoldable pub local_stamp : ZoneData → ℕ → Stamp
local_stamp zone moment =
    record {
      octets = octets_of_day_and_time (int_div_euclid (local_hundredths zone moment) (pos 8_640_000))
          (unsigned_abs (int_rem_euclid (local_hundredths zone moment) (pos 8_640_000)));
    }

-- a moment in range, and the stamp that the clock of the zone shows at it
pub record IsZonedStamp (zone : ZoneData) (moment : ℕ) (stamp : Stamp) : Type 0 where
  pub within : IsMoment moment
  pub shows : IsLocalStamp zone moment stamp
  pub computed : stamp ≡ local_stamp zone moment
