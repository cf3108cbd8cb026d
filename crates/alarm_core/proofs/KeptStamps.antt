-- What a clock that always stands the same ahead of UTC shows at a moment tells the moment's hundredths of a second.
use Rattle.std.proofs.Common.{◌≡◌, ℕ, zero, suc, ◌+◌, ◌-◌, ◌*◌, ◌/◌, ◌%◌, ◌<◌, ◌≤◌, Bool, true, false, nat_lt, ℤ, pos, negsuc, ◌+ℤ◌, ◌*ℤ◌, ◌≤ℤ◌, Some, [], ◌∷◌, refl, sym, ap, ◌∙◌, subst, arith}
use Rattle.std.proofs.lemmas.Bool.{ltb-true, ltb-false}
use Rattle.jiff_core.specs.Calendar.{IsCivilDate, day_count, days_from_civil, days_in_month, days_of_months, days_of_years, weekday_number}
use Rattle.jiff_core.specs.declared.civil.date.Date.{Date}
use Rattle.jiff_core.proofs.CalendarLemmas.{days_in_month_bounds}
use Rattle.jiff_core.proofs.DateLemmas.{days_from_civil-day, days_from_civil-next_month, days_from_civil-next_year}
use Rattle.jiff_core.proofs.SignedLemmas.{signed_arith}
use Rattle.bac_values.specs.Moments.{IsMoment}
use Rattle.bac_values.specs.declared.stamp.Stamp.{Stamp}
use Rattle.civil_stamp.specs.LocalTime.{IsLocalStamp, IsZone, fixed_zone, hundredths_in, local_hundredths, local_stamp}
use Rattle.civil_stamp.specs.ZoneRules.{seconds_ahead}
use Rattle.civil_stamp.proofs.HundredthsLemmas.{hundredths-some, utc_hundredths-fixed}
use Rattle.civil_stamp.proofs.StampLemmas.{stamp_is, year_high}

-- ---- each day has a date

-- the date of a day since 1970-01-01
record HasDate (n : ℕ) : Type 0 where
  year : ℕ
  month : ℕ
  day : ℕ
  late : 1970 ≤ year
  civil : IsCivilDate (pos year) month day
  count : days_from_civil (pos year) month day ≡ pos n

first_date : HasDate 0
unfolding days_from_civil day_count days_of_years days_of_months
first_date = record { year = 1970; month = 1; day = 1; late = omega arith; civil = ((omega (arith, signed_arith), omega (arith, signed_arith)), (omega arith, omega arith), (omega arith, omega arith)); count = refl }

date_of : (n : ℕ) → HasDate n → Date
date_of n d = record { year = pos d.year; month = d.month; day = d.day; year_in = d.civil.0; month_in = d.civil.1; day_in = d.civil.2 }

year_below : (n : ℕ) (d : HasDate n) → n ≤ 50_000 → pos d.year ≤ℤ pos 2155
unfolding date_of
year_below n d low = year_high (date_of n d) (subst (λ z. z ≤ℤ pos 50_000) (sym d.count) (omega (arith, signed_arith)))

later_in_month : (n : ℕ) (d : HasDate n) → d.day < days_in_month (pos d.year) d.month → HasDate (suc n)
later_in_month n d more =
    let from = d.civil.2.0 in
    let next = days_from_civil-day (pos d.year) d.month d.day (d.day + 1) from (omega arith) in
    let count = d.count in
    record { year = d.year; month = d.month; day = d.day + 1; late = d.late; civil = (d.civil.0, d.civil.1, (omega arith, omega arith)); count = omega (arith, signed_arith) }

next_month : (n : ℕ) (d : HasDate n) → d.day ≡ days_in_month (pos d.year) d.month → d.month < 12 → HasDate (suc n)
next_month n d last more =
    let from = d.civil.1.0 in
    let next = days_from_civil-next_month (pos d.year) d.month d.day from last in
    let count = d.count in
    let some = days_in_month_bounds (pos d.year) (d.month + 1) in
    record { year = d.year; month = d.month + 1; day = 1; late = d.late; civil = (d.civil.0, (omega arith, omega arith), (omega arith, omega (arith, some.1))); count = omega (arith, signed_arith) }

last_of_year : (year : ℤ) (month day : ℕ) → month ≡ 12 → day ≡ days_in_month year month → (n : ℕ) → days_from_civil year month day ≡ pos n → days_from_civil year 12 31 ≡ pos n
last_of_year year month day twelve last n count =
    let day_is : day ≡ 31 = last ∙ ap (days_in_month year) twelve in
    ap (λ m. days_from_civil year m 31) (sym twelve) ∙ (ap (days_from_civil year month) (sym day_is) ∙ count)

next_year : (n : ℕ) (d : HasDate n) → n ≤ 50_000 → d.day ≡ days_in_month (pos d.year) d.month → d.month ≡ 12 → HasDate (suc n)
next_year n d low last twelve =
    let below = year_below n d low in
    let late = d.late in
    let end = last_of_year (pos d.year) d.month d.day twelve last n d.count in
    let next = days_from_civil-next_year (pos d.year) (pos (d.year + 1)) (omega (arith, signed_arith)) (omega (arith, signed_arith)) in
    let some = days_in_month_bounds (pos (d.year + 1)) 1 in
    record { year = d.year + 1; month = 1; day = 1; late = omega arith; civil = ((omega (arith, signed_arith), omega (arith, signed_arith)), (omega arith, omega arith), (omega arith, omega (arith, some.1))); count = omega (arith, signed_arith) }

next_date : (n : ℕ) → n ≤ 50_000 → (d : HasDate n) → (in_month in_year : Bool) → nat_lt d.day (days_in_month (pos d.year) d.month) ≡ in_month → nat_lt d.month 12 ≡ in_year → HasDate (suc n)
next_date n low d true in_year e f = later_in_month n d (ltb-true d.day (days_in_month (pos d.year) d.month) e)
next_date n low d false true e f =
    next_month n d (let most = d.civil.2.1 in let not_below = ltb-false d.day (days_in_month (pos d.year) d.month) e in omega arith) (ltb-true d.month 12 f)
next_date n low d false false e f =
    next_year n d low (let most = d.civil.2.1 in let not_below = ltb-false d.day (days_in_month (pos d.year) d.month) e in omega arith)
    (let most = d.civil.1.1 in let not_below = ltb-false d.month 12 f in omega arith)

has_date : (n : ℕ) → n ≤ 50_000 → HasDate n
has_date zero low = first_date
has_date (suc n) low =
    let d = has_date n (omega arith) in
    next_date n (omega arith) d (nat_lt d.day (days_in_month (pos d.year) d.month)) (nat_lt d.month 12) refl refl

-- ---- so each moment has a stamp

module _ (minutes : ℤ) (moment : ℕ) (zone : IsZone minutes) (range : IsMoment moment) where
  local : ℤ
  local = local_hundredths (fixed_zone minutes) moment

  -- the hundredths on the clock are not negative, and within 50,000 days
  hundredths_of : (h : ℤ) → h ≡ local → (k : ℕ) × (h ≡ pos k) × (k < 432_000_000_000)
  unfolding local seconds_ahead
  hundredths_of (pos k) e =
      let low = range.0 in let high = range.1 in let west = zone.0 in let east = zone.1 in
      (k, refl, omega (arith, signed_arith))
  hundredths_of (negsuc k) e =
      let low = range.0 in let high = range.1 in let west = zone.0 in let east = zone.1 in
      absurd (omega (arith, signed_arith))

  stamp_of : (n time : ℕ) → HasDate n → Stamp
  stamp_of n time d = record {
    octets = (d.year - 1900) ∷ d.month ∷ d.day ∷ (weekday_number (pos n) + 1) ∷ (time / 360_000) ∷ (time / 6_000 % 60) ∷ (time / 100 % 60) ∷ (time % 100) ∷ [];
  }

  stamp_shows : (n time : ℕ) (d : HasDate n) → time < 8_640_000 → local ≡ pos (n * 8_640_000 + time) → IsLocalStamp (fixed_zone minutes) moment (stamp_of n time d)
  unfolding local stamp_of
  stamp_shows n time d short e =
      let late = d.late in
      let year : 1900 + (d.year - 1900) ≡ d.year = omega arith in
      let day : days_from_civil (pos (1900 + (d.year - 1900))) d.month d.day ≡ pos n = ap (λ y. days_from_civil (pos y) d.month d.day) year ∙ d.count in
      let told : ((time / 360_000 * 60 + time / 6_000 % 60) * 60 + time / 100 % 60) * 100 + time % 100 ≡ time = omega arith in
      record {
        size = refl;
        date = subst (λ y. IsCivilDate (pos y) d.month d.day) (sym year) d.civil;
        time = record { hour = omega arith; minute = omega arith; second = omega arith; hundredth = omega arith };
        count = ap (λ z. z *ℤ pos 8_640_000 +ℤ pos (((time / 360_000 * 60 + time / 6_000 % 60) * 60 + time / 100 % 60) * 100 + time % 100)) day
            ∙ (ap (λ t. pos n *ℤ pos 8_640_000 +ℤ pos t) told ∙ (omega (arith, signed_arith) ∙ sym e));
        weekday = ap (λ z. weekday_number z + 1) (sym day);
      }

  local_shows : IsLocalStamp (fixed_zone minutes) moment (local_stamp (fixed_zone minutes) moment)
  local_shows =
      let found = hundredths_of local refl in
      let k = found.0 in
      let below = found.2 in
      let n = k / 8_640_000 in
      let time = k % 8_640_000 in
      let d = has_date n (omega arith) in
      let parts : k ≡ n * 8_640_000 + time = omega arith in
      let shows = stamp_shows n time d (omega arith) (found.1 ∙ ap pos parts) in
      subst (IsLocalStamp (fixed_zone minutes) moment) (stamp_is (fixed_zone minutes) moment (stamp_of n time d) shows) shows

  pub fixed_hundredths : hundredths_in (fixed_zone minutes) (local_stamp (fixed_zone minutes) moment) ≡ Some (pos (moment / 10))
  fixed_hundredths =
      let stamp = local_stamp (fixed_zone minutes) moment in
      hundredths-some (fixed_zone minutes) stamp (record { date = local_shows.date; time = local_shows.time })
      ∙ ap Some (utc_hundredths-fixed minutes moment stamp local_shows)
