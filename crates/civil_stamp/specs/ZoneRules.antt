-- What a zone rule says of a clock: the TZ variable of POSIX, as jiff reads it and goes by it. Instants are nanoseconds since 1970-01-01T00:00:00.
use Rattle.std.specs.Prelude.{◌≡◌, ℤ, ◌+ℤ◌, ◌-ℤ◌, ◌*ℤ◌, int_lt, ◌&&◌, ◌||◌, IsTrue, IfSome, Option, option_map, if◌then◌else◌}
use Rattle.jiff_core.specs.Calendar.{IsWithin}
use Rattle.jiff_core.specs.Timestamp.{IsOffsetSeconds, nanos_of_seconds}
use Rattle.jiff_tz.specs.PosixDay.{is_rule_day}
use Rattle.jiff_tz.specs.PosixRule.{clamp_to, first_nanosecond, in_window, int_same, last_nanosecond, match_some, nanos_per_day, rule_day, saturating_add}
use Rattle.jiff_tz.specs.PosixText.{DstText, TzText}
use Rattle.jiff_tz.specs.Year.{year_of_nanos}
use Rattle.jiff_tz.specs.Zone.{offset_at}
use Rattle.jiff_tz.specs.declared.posix.Day.{Day}
use Rattle.jiff_tz.specs.declared.timezone.TimeZone.{TimeZone}
use Rattle.civil_stamp.specs.declared.daylight.DaylightTime.{DaylightTime}
use Rattle.civil_stamp.specs.declared.daylight.YearMoment.{YearMoment}

-- how many seconds a clock stands ahead of UTC in standard time, and its daylight saving time, if it has one
pub record ClockRule : Type 0 where
  pub standard : ℤ
  pub daylight : Option DaylightTime

-- What jiff reads in a rule, but for the names of the two times, which no clock shows.

abbrev pub year_moment : Day × ℤ → YearMoment
year_moment said = record { day = said.0; time = said.1 }

abbrev pub daylight_time : DstText → DaylightTime
daylight_time said = record { ahead = said.seconds; start = year_moment said.start; end = year_moment said.finish }

abbrev pub clock_rule : TzText → ClockRule
clock_rule said = record { standard = said.std_seconds; daylight = option_map daylight_time said.dst }

-- what jiff allows: a clock less than 26 hours from UTC, days that a rule can name, and times of at most 167:59:59
pub record IsYearMoment (at : YearMoment) : Type 0 where
  pub day : IsTrue (is_rule_day at.day)
  pub time : IsWithin 604_799 at.time

pub record IsDaylightTime (daylight : DaylightTime) : Type 0 where
  pub ahead : IsOffsetSeconds daylight.ahead
  pub start : IsYearMoment daylight.start
  pub end : IsYearMoment daylight.end

pub record IsClockRule (rule : ClockRule) : Type 0 where
  pub standard : IsOffsetSeconds rule.standard
  pub daylight : IfSome rule.daylight IsDaylightTime

-- At an instant.

-- when a moment of the year comes, at UTC, for a clock that stands so many seconds ahead. It stays within the year, and a
-- day that the year lacks is the year's end
unfoldable pub moment_of_year : ℤ → YearMoment → ℤ → ℤ
moment_of_year year at ahead =
    match_some (rule_day year at.day) (last_nanosecond year) (λ day.
    clamp_to (first_nanosecond year) (last_nanosecond year) (day *ℤ nanos_per_day +ℤ nanos_of_seconds (at.time -ℤ ahead)))

-- from when to when daylight saving time is in force in the year. Where it starts as the year does and its end, on the clock
-- of standard time, lies outside the year, it is in force all year
unfoldable pub daylight_of_year : ℤ → DaylightTime → ℤ → ℤ × ℤ
daylight_of_year year daylight standard =
    let start : ℤ = moment_of_year year daylight.start standard in
    let end : ℤ = moment_of_year year daylight.end daylight.ahead in
    let shown : ℤ = saturating_add end (nanos_of_seconds standard) in
    if int_same start (first_nanosecond year) && (int_lt shown (first_nanosecond year) || int_lt (last_nanosecond year) shown)
    then (start, last_nanosecond year)
    else (start, end)

-- how many seconds the clock stands ahead of UTC at an instant: what its year at UTC says
unfoldable pub seconds_ahead : ClockRule → ℤ → ℤ
seconds_ahead rule instant =
    match_some rule.daylight rule.standard (λ daylight.
    if in_window (daylight_of_year (year_of_nanos instant) daylight rule.standard) instant then daylight.ahead else rule.standard)

-- how many seconds the clock stands ahead of UTC in daylight saving time; without one, as in standard time
abbrev pub daylight_ahead : ClockRule → ℤ
daylight_ahead rule = match_some rule.daylight rule.standard (λ daylight. daylight.ahead)

-- the clock goes as jiff's zone does: by its offset at each instant
pub record GoesAs (zone : TimeZone) (rule : ClockRule) : Type 0 where
  pub instants : (instant : ℤ) → offset_at zone instant ≡ seconds_ahead rule instant
