-- Local time and windows (20.2.12, 20.2.13, 12.21): at the ends of years, months, days, hours and windows.
use Rattle.std.specs.Prelude.{◌≡◌, refl, ℕ, ℤ, pos, negsuc, true, false, nat_lt, if◌then◌else◌, [], ◌∷◌}
use Rattle.profile.specs.Numbers.{ToOffnormal, ToFault, ToNormal}
use Rattle.profile.specs.Sites.{Station}
use Rattle.profile.specs.Times.{stamp_at, first_day, is_notified}
use Rattle.profile.proofs.Samples.{device, desk}

-- the device with another clock
abbrev pub with : (ℕ → ℤ) → Station
with ahead = record device { clock_ahead = ahead }

pub the_plant_starts : stamp_at (with (λ m. pos 0)) 1700000000000 ≡ 123 ∷ 11 ∷ 14 ∷ 2 ∷ 22 ∷ 13 ∷ 20 ∷ 0 ∷ []
the_plant_starts = refl

pub the_tank_is_told : stamp_at (with (λ m. pos 0)) 1700000010000 ≡ 123 ∷ 11 ∷ 14 ∷ 2 ∷ 22 ∷ 13 ∷ 30 ∷ 0 ∷ []
the_tank_is_told = refl

pub a_monday_at_eight : stamp_at (with (λ m. pos 0)) 1699862400000 ≡ 123 ∷ 11 ∷ 13 ∷ 1 ∷ 8 ∷ 0 ∷ 0 ∷ 0 ∷ []
a_monday_at_eight = refl

pub a_hundredth_is_rounded_down : stamp_at (with (λ m. pos 0)) 1699862400019 ≡ 123 ∷ 11 ∷ 13 ∷ 1 ∷ 8 ∷ 0 ∷ 0 ∷ 1 ∷ []
a_hundredth_is_rounded_down = refl

pub before_the_clock_is_put_forward : stamp_at (with (λ m. if nat_lt m 1711846800000 then pos 3600000 else (if nat_lt m 1729990800000 then pos 7200000 else pos 3600000))) 1711846799990 ≡ 124 ∷ 3 ∷ 31 ∷ 7 ∷ 1 ∷ 59 ∷ 59 ∷ 99 ∷ []
before_the_clock_is_put_forward = refl

pub as_the_clock_is_put_forward : stamp_at (with (λ m. if nat_lt m 1711846800000 then pos 3600000 else (if nat_lt m 1729990800000 then pos 7200000 else pos 3600000))) 1711846800000 ≡ 124 ∷ 3 ∷ 31 ∷ 7 ∷ 3 ∷ 0 ∷ 0 ∷ 0 ∷ []
as_the_clock_is_put_forward = refl

pub in_the_hour_that_comes_twice : stamp_at (with (λ m. if nat_lt m 1711846800000 then pos 3600000 else (if nat_lt m 1729990800000 then pos 7200000 else pos 3600000))) 1729989000000 ≡ 124 ∷ 10 ∷ 27 ∷ 7 ∷ 2 ∷ 30 ∷ 0 ∷ 0 ∷ []
in_the_hour_that_comes_twice = refl

pub in_that_hour_again : stamp_at (with (λ m. if nat_lt m 1711846800000 then pos 3600000 else (if nat_lt m 1729990800000 then pos 7200000 else pos 3600000))) 1729992600000 ≡ 124 ∷ 10 ∷ 27 ∷ 7 ∷ 2 ∷ 30 ∷ 0 ∷ 0 ∷ []
in_that_hour_again = refl

pub the_first_moment : stamp_at (with (λ m. pos 0)) 946684800000 ≡ 100 ∷ 1 ∷ 1 ∷ 6 ∷ 0 ∷ 0 ∷ 0 ∷ 0 ∷ []
the_first_moment = refl

pub the_last_moment : stamp_at (with (λ m. pos 0)) 4102444799999 ≡ 199 ∷ 12 ∷ 31 ∷ 4 ∷ 23 ∷ 59 ∷ 59 ∷ 99 ∷ []
the_last_moment = refl

pub the_last_moment_ahead_of_utc : stamp_at (with (λ m. pos 50400000)) 4102444799999 ≡ 200 ∷ 1 ∷ 1 ∷ 5 ∷ 13 ∷ 59 ∷ 59 ∷ 99 ∷ []
the_last_moment_ahead_of_utc = refl

pub the_first_moment_behind_utc : stamp_at (with (λ m. negsuc 50399999)) 946684800000 ≡ 99 ∷ 12 ∷ 31 ∷ 5 ∷ 10 ∷ 0 ∷ 0 ∷ 0 ∷ []
the_first_moment_behind_utc = refl

pub a_leap_day : stamp_at (with (λ m. pos 0)) 951782400000 ≡ 100 ∷ 2 ∷ 29 ∷ 2 ∷ 0 ∷ 0 ∷ 0 ∷ 0 ∷ []
a_leap_day = refl

pub behind_a_leap_day : stamp_at (with (λ m. pos 0)) 951868800000 ≡ 100 ∷ 3 ∷ 1 ∷ 3 ∷ 0 ∷ 0 ∷ 0 ∷ 0 ∷ []
behind_a_leap_day = refl

pub no_leap_day : stamp_at (with (λ m. pos 0)) 1677628800000 ≡ 123 ∷ 3 ∷ 1 ∷ 3 ∷ 0 ∷ 0 ∷ 0 ∷ 0 ∷ []
no_leap_day = refl

pub the_year_1970 : first_day 1970 ≡ 0
the_year_1970 = refl

pub the_year_1971 : first_day 1971 ≡ 365
the_year_1971 = refl

pub the_year_1973 : first_day 1973 ≡ 1096
the_year_1973 = refl

pub the_year_2000 : first_day 2000 ≡ 10957
the_year_2000 = refl

pub the_year_2001 : first_day 2001 ≡ 11323
the_year_2001 = refl

pub the_year_2100 : first_day 2100 ≡ 47482
the_year_2100 = refl

pub the_year_2101 : first_day 2101 ≡ 47847
the_year_2101 = refl

pub a_window_has_its_first_hundredth : is_notified (with (λ m. pos 0)) ToFault 1699862400000 (record desk { valid_days = true ∷ false ∷ false ∷ false ∷ false ∷ false ∷ false ∷ []; from_time = 2880000; to_time = 2880000 }) ≡ true
a_window_has_its_first_hundredth = refl

pub a_window_has_its_last_hundredth : is_notified (with (λ m. pos 0)) ToFault 1699862400009 (record desk { valid_days = true ∷ false ∷ false ∷ false ∷ false ∷ false ∷ false ∷ []; from_time = 2880000; to_time = 2880000 }) ≡ true
a_window_has_its_last_hundredth = refl

pub a_window_ends : is_notified (with (λ m. pos 0)) ToFault 1699862400010 (record desk { valid_days = true ∷ false ∷ false ∷ false ∷ false ∷ false ∷ false ∷ []; from_time = 2880000; to_time = 2880000 }) ≡ false
a_window_ends = refl

pub a_window_begins : is_notified (with (λ m. pos 0)) ToFault 1699862399999 (record desk { valid_days = true ∷ false ∷ false ∷ false ∷ false ∷ false ∷ false ∷ []; from_time = 2880000; to_time = 2880000 }) ≡ false
a_window_begins = refl

pub a_window_is_of_its_days : is_notified (with (λ m. pos 0)) ToFault 1699948800000 (record desk { valid_days = true ∷ false ∷ false ∷ false ∷ false ∷ false ∷ false ∷ []; from_time = 2880000; to_time = 2880000 }) ≡ false
a_window_is_of_its_days = refl

pub a_window_that_ends_before_it_begins_0 : is_notified (with (λ m. pos 0)) ToFault 1699862400000 (record desk { valid_days = true ∷ false ∷ false ∷ false ∷ false ∷ false ∷ false ∷ []; from_time = 3240000; to_time = 2880000 }) ≡ false
a_window_that_ends_before_it_begins_0 = refl

pub a_window_that_ends_before_it_begins_1 : is_notified (with (λ m. pos 0)) ToFault 1699862400009 (record desk { valid_days = true ∷ false ∷ false ∷ false ∷ false ∷ false ∷ false ∷ []; from_time = 3240000; to_time = 2880000 }) ≡ false
a_window_that_ends_before_it_begins_1 = refl

pub a_window_that_ends_before_it_begins_2 : is_notified (with (λ m. pos 0)) ToFault 1699862400010 (record desk { valid_days = true ∷ false ∷ false ∷ false ∷ false ∷ false ∷ false ∷ []; from_time = 3240000; to_time = 2880000 }) ≡ false
a_window_that_ends_before_it_begins_2 = refl

pub a_sunday_is_the_last_day : is_notified (with (λ m. pos 0)) ToFault 1699747200000 (record desk { valid_days = false ∷ false ∷ false ∷ false ∷ false ∷ false ∷ true ∷ [] }) ≡ true
a_sunday_is_the_last_day = refl

pub who_doesnt_want_tooffnormal : is_notified (with (λ m. pos 0)) ToOffnormal 1699862400000 (record desk { transitions = false ∷ true ∷ true ∷ [] }) ≡ false
who_doesnt_want_tooffnormal = refl

pub who_doesnt_want_tofault : is_notified (with (λ m. pos 0)) ToFault 1699862400000 (record desk { transitions = true ∷ false ∷ true ∷ [] }) ≡ false
who_doesnt_want_tofault = refl

pub who_doesnt_want_tonormal : is_notified (with (λ m. pos 0)) ToNormal 1699862400000 (record desk { transitions = true ∷ true ∷ false ∷ [] }) ≡ false
who_doesnt_want_tonormal = refl
