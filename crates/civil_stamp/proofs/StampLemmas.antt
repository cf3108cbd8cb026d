-- A stamp of local time is the one that is computed.
use Rattle.std.proofs.Common.{rules, slice_index, ◌≡◌, ℕ, zero, suc, ◌+◌, ◌-◌, ◌/◌, ◌%◌, ◌<◌, ◌≤◌, ℤ, pos, negsuc, ◌-ℤ◌, ◌*ℤ◌, ◌≤ℤ◌, arith, refl, sym, ap, ◌∙◌, inl, inr, unsigned_abs, List, [], ◌∷◌, length}
use Rattle.std.proofs.lemmas.Bool.Decides.{leb_tells}
use Rattle.std.proofs.lemmas.Int.{by_lt_z}
use Rattle.std.specs.Int.{int_div_euclid, int_rem_euclid}
use Rattle.bac_values.specs.declared.stamp.Stamp.{Stamp}
use Rattle.jiff_core.specs.Calendar.{IsBetween, IsCivilDate, days_from_civil, day_count, days_of_years, days_of_months, weekday_number}
use Rattle.jiff_core.specs.Date.{epoch_day, weekday_of}
use Rattle.jiff_core.specs.DateTime.{civil_nanos}
use Rattle.jiff_core.specs.declared.civil.date.Date.{Date}
use Rattle.jiff_core.specs.declared.civil.datetime.DateTime.{DateTime}
use Rattle.jiff_core.proofs.CalendarLemmas.{days_from_civil-day_count, days_of_months_mono, days_of_months_more, day_count-lt_year}
use Rattle.jiff_core.proofs.DateLemmas.{civil, epoch_day-ordinal}
use Rattle.jiff_core.proofs.DateTimeLemmas.{civil_nanos-parts, time_nanos_bound}
use Rattle.jiff_core.proofs.SignedLemmas.{signed_arith}
use Rattle.jiff_tz.proofs.YearLemmas.{year_of_day-date}
use Rattle.civil_stamp.specs.CivilStamp.{civil_octets}
use Rattle.civil_stamp.specs.LocalTime.{months_within, days_into_year, month_of_day, day_of_month, octets_of_day_and_time, local_hundredths, local_stamp, stamp_year, stamp_month, stamp_day, stamp_weekday, stamp_hour, stamp_minute, stamp_second, stamp_hundredth, stamp_epoch_day, stamp_time, IsLocalStamp, ZoneData}

-- the months that fit are those whose days fit, up to the next month's
months_within_is : (y : ℤ) (n k days : ℕ) → k ≤ n → days_of_months y k ≤ days → days < days_of_months y (suc k) → months_within y n days ≡ k
unfolding months_within
months_within_is y zero k days h a b = omega arith
months_within_is y (suc n) k days h a b = elim (leb_tells (days_of_months y (suc n)) days) [
  | inl fits ↦
      let more = fits.1 in
      rw fits.0 (elim (leb_tells k n) [
        | inl small ↦
            let later = days_of_months_mono y (suc k) (suc n) (omega arith) in
            absurd (omega arith)
        | inr big ↦ omega arith
      ])
  | inr over ↦
      let less = over.1 in
      rw over.0 (months_within_is y n k days (elim (leb_tells k n) [
        | inl small ↦ small.1
        | inr big ↦
            let same : k ≡ suc n = omega arith in
            let e = ap (days_of_months y) same in
            absurd (omega arith)
      ]) a b)
]

-- the days of the year before a date
days_into_year-date : (d : Date) → days_into_year (epoch_day d) ≡ days_of_months d.year (d.month - 1) + (d.day - 1)
unfolding days_into_year
days_into_year-date d =
    let low = d.day_in.0 in
    let place = epoch_day-ordinal d in
    let year = year_of_day-date d in
    let e : (epoch_day d -ℤ days_from_civil d.year 1 1) ≡ pos (days_of_months d.year (d.month - 1) + (d.day - 1)) = omega (arith, signed_arith) in
    rw year (ap unsigned_abs e)

month_of_day-date : (d : Date) → month_of_day (epoch_day d) ≡ d.month
unfolding month_of_day
month_of_day-date d =
    let low = d.day_in.0 in
    let high = d.day_in.1 in
    let first = d.month_in.0 in
    let last = d.month_in.1 in
    let more = days_of_months_more d.year d.month first in
    let into = days_into_year-date d in
    let year = year_of_day-date d in
    let back : suc (d.month - 1) ≡ d.month = omega arith in
    let within : months_within d.year 11 (days_into_year (epoch_day d)) ≡ d.month - 1 = months_within_is d.year 11 (d.month - 1) _ (omega arith) (omega arith) (rw back (omega arith)) in
    rw (year, within) (omega arith)

day_of_month-date : (d : Date) → day_of_month (epoch_day d) ≡ d.day
unfolding day_of_month
day_of_month-date d =
    let low = d.day_in.0 in
    let into = days_into_year-date d in
    let year = year_of_day-date d in
    let month = month_of_day-date d in
    rw (month, into, year) (omega arith)

-- the days before 1900 and after 2155
known_days : (days_from_civil (pos 1900) 1 1 ≡ negsuc 25_566) × (days_from_civil (pos 2155) 12 31 ≡ pos 67_934)
unfolding days_from_civil day_count days_of_years days_of_months
known_days = (refl, refl)

pub year_low : (d : Date) → pos 10_000 ≤ℤ epoch_day d → pos 1900 ≤ℤ d.year
year_low d h =
    by_lt_z d.year (pos 1900)
    (λ lt. let before = day_count-lt_year d.year d.month d.day (pos 1900) 1 1 (civil d) (omega arith) lt in
    absurd (omega (arith, signed_arith, before, known_days.0, days_from_civil-day_count d.year d.month d.day, days_from_civil-day_count (pos 1900) 1 1)))
    (λ le. le)

pub year_high : (d : Date) → epoch_day d ≤ℤ pos 50_000 → d.year ≤ℤ pos 2155
year_high d h =
    by_lt_z (pos 2155) d.year
    (λ lt. let after = day_count-lt_year (pos 2155) 12 31 d.year d.month d.day (search rules, search rules, search rules) d.day_in.0 lt in
    absurd (omega (arith, signed_arith, after, known_days.1, days_from_civil-day_count d.year d.month d.day, days_from_civil-day_count (pos 2155) 12 31)))
    (λ le. le)

-- the octets of a date and of a number of hundredths
octets-date : (d : Date) (time : ℕ) → octets_of_day_and_time (epoch_day d) time ≡ unsigned_abs (d.year -ℤ pos 1900) ∷ d.month ∷ d.day ∷ (weekday_of d + 1) ∷ (time / 360_000) ∷ (time / 6_000 % 60) ∷ (time / 100 % 60) ∷ (time % 100) ∷ []
unfolding octets_of_day_and_time
octets-date d time = rw (month_of_day-date d, day_of_month-date d, year_of_day-date d) refl

-- a list of eight
eight : (xs : List ℕ) → length xs ≡ 8 → xs ≡ slice_index xs 0 ∷ slice_index xs 1 ∷ slice_index xs 2 ∷ slice_index xs 3 ∷ slice_index xs 4 ∷ slice_index xs 5 ∷ slice_index xs 6 ∷ slice_index xs 7 ∷ []
eight (a ∷ b ∷ c ∷ d ∷ e ∷ f ∷ g ∷ h ∷ []) s = refl
eight _ s = absurd (omega arith)

-- the date that a stamp tells
abbrev date_of : (stamp : Stamp) → IsCivilDate (stamp_year stamp) (stamp_month stamp) (stamp_day stamp) → Date
date_of stamp h = record { year = stamp_year stamp; month = stamp_month stamp; day = stamp_day stamp; year_in = h.0; month_in = h.1; day_in = h.2 }

-- a year is back from its octet, and its octet from the year
octet_of_year : (n : ℕ) → unsigned_abs (pos (1900 + n) -ℤ pos 1900) ≡ n
octet_of_year n =
    let same : (pos (1900 + n) -ℤ pos 1900) ≡ pos n = omega (arith, signed_arith) in
    ap unsigned_abs same

year_of_octet : (year : ℤ) → pos 1900 ≤ℤ year → pos (1900 + unsigned_abs (year -ℤ pos 1900)) ≡ year
year_of_octet (pos n) low =
    let same : (pos n -ℤ pos 1900) ≡ pos (n - 1900) = omega (arith, signed_arith) in
    rw same (omega (arith, signed_arith))
year_of_octet (negsuc n) low = absurd (omega (arith, signed_arith))

civil_same : (y y₂ : ℤ) (m m₂ d d₂ : ℕ) → y ≡ y₂ → m ≡ m₂ → d ≡ d₂ → IsCivilDate y₂ m₂ d₂ → IsCivilDate y m d
civil_same y y₂ m m₂ d d₂ same_y same_m same_d h = rw (same_y, same_m, same_d) h

-- a stamp of local time is computed from its day and its time
pub stamp_is : (zone : ZoneData) (moment : ℕ) (stamp : Stamp) → IsLocalStamp zone moment stamp → stamp ≡ local_stamp zone moment
unfolding local_stamp
stamp_is zone moment stamp h =
    let d = date_of stamp h.date in
    let time = stamp_time stamp in
    let hour = h.time.hour in let minute = h.time.minute in let second = h.time.second in let hundredth = h.time.hundredth in
    let count = h.count in
    let weekday = h.weekday in
    let at_day : int_div_euclid (local_hundredths zone moment) (pos 8_640_000) ≡ epoch_day d = omega (arith, signed_arith) in
    let at_time : unsigned_abs (int_rem_euclid (local_hundredths zone moment) (pos 8_640_000)) ≡ time = omega (arith, signed_arith) in
    let hours : time / 360_000 ≡ stamp_hour stamp = omega arith in
    let minutes_of : time / 6_000 % 60 ≡ stamp_minute stamp = omega arith in
    let seconds : time / 100 % 60 ≡ stamp_second stamp = omega arith in
    let hundredths : time % 100 ≡ stamp_hundredth stamp = omega arith in
    let year : unsigned_abs (d.year -ℤ pos 1900) ≡ slice_index stamp.octets 0 = octet_of_year _ in
    let octets : octets_of_day_and_time (epoch_day d) time ≡ stamp.octets =
    octets-date d time ∙ (rw (year, hours, minutes_of, seconds, hundredths, ← weekday) (sym (eight stamp.octets h.size))) in
    let same : stamp.octets ≡ (local_stamp zone moment).octets = rw (at_day, at_time) (sym octets) in
    ap (λ (xs : List ℕ). let s : Stamp = record { octets = xs } in s) same

-- what a date and a time of day are on the clock is a stamp of local time
pub civil_octets-shows : (zone : ZoneData) (moment : ℕ) (stamp : Stamp) (shown : DateTime) → stamp.octets ≡ civil_octets shown → IsBetween (pos 1900) (pos 2155) shown.date.year → civil_nanos shown ≡ local_hundredths zone moment *ℤ pos 10_000_000 → IsLocalStamp zone moment stamp
civil_octets-shows zone moment stamp shown octets years e =
    let parts = civil_nanos-parts shown in
    let bound = time_nanos_bound shown.time in
    let at : (k : ℕ) → slice_index stamp.octets k ≡ slice_index (civil_octets shown) k = λ k. ap (λ (xs : List ℕ). slice_index xs k) octets in
    let low = years.0 in
    let year : stamp_year stamp ≡ shown.date.year = ap (λ n. pos (1900 + n)) (at 0) ∙ year_of_octet _ low in
    let month : stamp_month stamp ≡ shown.date.month = at 1 in
    let day : stamp_day stamp ≡ shown.date.day = at 2 in
    let weekday : stamp_weekday stamp ≡ weekday_of shown.date + 1 = at 3 in
    let hour : stamp_hour stamp ≡ shown.time.hour = at 4 in
    let minute : stamp_minute stamp ≡ shown.time.minute = at 5 in
    let second : stamp_second stamp ≡ shown.time.second = at 6 in
    let hundredth : stamp_hundredth stamp ≡ shown.time.subsec_nanosecond / 10_000_000 = at 7 in
    let number : stamp_epoch_day stamp ≡ epoch_day shown.date = rw (year, month, day) refl in
    let hour_in = shown.time.hour_in in let minute_in = shown.time.minute_in in let second_in = shown.time.second_in in let subsec_in = shown.time.subsec_in in
    record {
      size = ap length octets;
      date = civil_same _ _ _ _ _ _ year month day (civil shown.date);
      time = record { hour = omega arith; minute = omega arith; second = omega arith; hundredth = omega arith };
      count = omega (arith, signed_arith);
      weekday = weekday ∙ ap (λ n. weekday_number n + 1) (sym number);
    }
