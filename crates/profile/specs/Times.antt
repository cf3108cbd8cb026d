-- Local time (20.2.12, 20.2.13): the date and the time of day that the device's clock shows at a moment; windows of recipients (12.21).
use Rattle.std.specs.Prelude.{ℕ, zero, suc, pos, ◌+ℤ◌, nat_abs, ◌+◌, ◌-◌, ◌*◌, ◌/◌, ◌%◌, Bool, false, ◌&&◌, nat_le, nat_lt, if◌then◌else◌}
use Rattle.std.specs.Prelude.{List, [], ◌∷◌, ◌++◌, map, count_by, slice_index_or, slice_index, replicate}
use Rattle.profile.specs.Numbers.{Transition, place}
use Rattle.profile.specs.Sites.{Station, Destination}

-- the days from 1970-01-01 to the first day of a year: 365 for each year, and one for each leap year, which is each fourth one, but of
-- the full hundreds each fourth alone
abbrev pub first_day : ℕ → ℕ
first_day year = 365 * (year - 1970) + ((year - 1969) / 4 + (year - 1601) / 400 - (year - 1901) / 100)

-- the year of a day, among so many years from one on (moments lie in the years 2000 to 2099)
abbrev pub year_from : ℕ → ℕ → ℕ → ℕ
year_from zero year day = year
year_from (suc more) year day = if nat_lt day (first_day (year + 1)) then year else year_from more (year + 1) day

-- the days from the first of January to the first of each month
abbrev pub month_starts : ℕ → List ℕ
month_starts year =
    0 ∷ 31 ∷ map (λ days. days + first_day (year + 1) - first_day year - 365) (59 ∷ 90 ∷ 120 ∷ 151 ∷ 181 ∷ 212 ∷ 243 ∷ 273 ∷ 304 ∷ 334 ∷ [])

-- what the clock shows, in milliseconds since 1970-01-01, midnight
abbrev pub clock_at : Station → ℕ → ℕ
clock_at device moment = nat_abs (pos moment +ℤ device.clock_ahead moment)

-- hundredths of a second since midnight, rounded down
abbrev pub time_of_day : Station → ℕ → ℕ
time_of_day device moment = clock_at device moment % 86400000 / 10

-- 1 for Monday to 7 for Sunday; the first of January 1970 was a Thursday
abbrev pub weekday : Station → ℕ → ℕ
weekday device moment = (clock_at device moment / 86400000 + 3) % 7 + 1

-- the year less 1900, the month, the day and the weekday (20.2.12)
abbrev pub date_at : Station → ℕ → List ℕ
date_at device moment =
    let day = clock_at device moment / 86400000 in
    let year = year_from 130 1970 day in
    let rest = day - first_day year in
    let month = count_by (λ start. nat_le start rest) (month_starts year) in
    (year - 1900) ∷ month ∷ (rest + 1 - slice_index (month_starts year) (month - 1)) ∷ weekday device moment ∷ []

-- the hour, the minute, the second and the hundredth (20.2.13)
abbrev pub time_at : Station → ℕ → List ℕ
time_at device moment =
    let time = time_of_day device moment in
    (time / 360000) ∷ (time / 6000 % 60) ∷ (time / 100 % 60) ∷ (time % 100) ∷ []

-- a time stamp: date and time; and that of what never came (13.2.2)
abbrev pub stamp_at : Station → ℕ → List ℕ
stamp_at device moment = date_at device moment ++ time_at device moment

abbrev pub no_stamp : List ℕ
no_stamp = replicate 8 255

-- A recipient is notified of a transition at a moment (12.21): it wants the transition, the weekday is among its days, and the time of day
-- lies within its window, both ends included.
abbrev pub is_notified : Station → Transition → ℕ → Destination → Bool
is_notified device transition moment d =
    slice_index_or d.transitions (place transition) false && slice_index_or d.valid_days (weekday device moment - 1) false
    && nat_le d.from_time (time_of_day device moment) && nat_le (time_of_day device moment) d.to_time
