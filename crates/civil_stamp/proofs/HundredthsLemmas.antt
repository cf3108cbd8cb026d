-- From a stamp back to UTC.
use Rattle.std.proofs.Common.{rules, ◌≡◌, ◌↔◌, ℕ, ◌/◌, ◌^◌, ◌<◌, ◌⊎◌, ◌&&◌, slice_index, ℤ, pos, negsuc, ◌+ℤ◌, ◌-ℤ◌, ◌*ℤ◌, ◌≤ℤ◌, ◌<ℤ◌, Bool, true, false, nat_le, nat_lt, cond, if◌then◌else◌, Some, None, arith, refl, sym, ap, ◌∙◌, subst, inl, inr, int_eq, unsigned_abs, FitsSigned, w64, to_z, of_z, to_z-of_z}
use Rattle.std.proofs.lemmas.Bool.{and_parts, leb-true, ltb-true, le-leb, lt-ltb}
use Rattle.std.proofs.lemmas.Bool.Decides.{Decides-int_eq, not_from_Decides}
use Rattle.std.proofs.lemmas.Int.{by_lt_z, int_max_is, int_min_is}
use Rattle.std.specs.Int.{int_max, int_min}
use Rattle.std.specs.Prelude.{Option}
use Rattle.bac_values.specs.declared.stamp.Stamp.{Stamp}
use Rattle.jiff_core.specs.Calendar.{IsCivilDate, IsDate, days_from_civil, day_count, days_in_month, days_of_months, days_of_years}
use Rattle.jiff_core.specs.Date.{epoch_day}
use Rattle.jiff_core.specs.declared.civil.date.Date.{Date}
use Rattle.jiff_core.proofs.CalendarLemmas.{day_count-lt_year, days_from_civil-day_count}
use Rattle.jiff_core.proofs.DateLemmas.{civil}
use Rattle.jiff_core.proofs.SignedLemmas.{signed_arith}
use Rattle.jiff_tz.specs.PosixRule.{in_window}
use Rattle.jiff_tz.specs.Year.{year_of_nanos}
use Rattle.civil_stamp.specs.declared.daylight.DaylightTime.{DaylightTime}
use Rattle.civil_stamp.specs.ZoneRules.{daylight_ahead, daylight_of_year, seconds_ahead}
use Rattle.civil_stamp.specs.LocalTime.{IsCivilTime, IsFirstShownAt, IsLocalStamp, LiesInGap, IsShownAt, IsTimeOf, clock_at, fixed_zone, hundredths_ahead, hundredths_in, is_civil_time, least_ahead, most_ahead, shown_hundredths, stamp_day, stamp_hour, stamp_hundredth, stamp_minute, stamp_month, stamp_second, stamp_year, utc_hundredths, ZoneData}

-- ---- a date and a time of day

-- what jiff takes for a date is one
pub civil_to_jiff : (stamp : Stamp) → IsDate (stamp_year stamp) (pos (stamp_month stamp)) (pos (stamp_day stamp)) ↔ IsCivilDate (stamp_year stamp) (stamp_month stamp) (stamp_day stamp)
civil_to_jiff stamp = (
  λ is. (is.0, (omega (arith, signed_arith, is.1.0), omega (arith, signed_arith, is.1.1)), (omega (arith, signed_arith, is.2.0), omega (arith, signed_arith, is.2.1))),
  λ is. (is.0, (omega (arith, signed_arith, is.1.0), omega (arith, signed_arith, is.1.1)), (omega (arith, signed_arith, is.2.0), omega (arith, signed_arith, is.2.1))),
)

pub civil_time-true : (stamp : Stamp) → IsCivilTime stamp → is_civil_time stamp ≡ true
civil_time-true stamp is =
    rw (
      le-leb 1 (stamp_month stamp) is.date.1.0,
      le-leb (stamp_month stamp) 12 is.date.1.1,
      le-leb 1 (stamp_day stamp) is.date.2.0,
      le-leb (stamp_day stamp) (days_in_month (stamp_year stamp) (stamp_month stamp)) is.date.2.1,
      lt-ltb (stamp_hour stamp) 24 is.time.hour,
      lt-ltb (stamp_minute stamp) 60 is.time.minute,
      lt-ltb (stamp_second stamp) 60 is.time.second,
      lt-ltb (stamp_hundredth stamp) 100 is.time.hundredth,
    ) refl

known_ends : (days_from_civil (pos 1899) 12 31 ≡ negsuc 25_567) × (days_from_civil (pos 2156) 1 1 ≡ pos 67_935)
unfolding days_from_civil day_count days_of_years days_of_months
known_ends = (refl, refl)

pub days_low : (d : Date) → pos 1900 ≤ℤ d.year → negsuc 30_000 ≤ℤ epoch_day d
days_low d h =
    let lt : pos 1899 <ℤ d.year = omega (arith, signed_arith) in
    let after = day_count-lt_year (pos 1899) 12 31 d.year d.month d.day (search rules, search rules, search rules) d.day_in.0 lt in
    omega (arith, signed_arith, after, known_ends.0, days_from_civil-day_count d.year d.month d.day, days_from_civil-day_count (pos 1899) 12 31)

pub days_high : (d : Date) → d.year ≤ℤ pos 2155 → epoch_day d ≤ℤ pos 70_000
days_high d h =
    let lt : d.year <ℤ pos 2156 = omega (arith, signed_arith) in
    let before = day_count-lt_year d.year d.month d.day (pos 2156) 1 1 (civil d) (omega arith) lt in
    omega (arith, signed_arith, before, known_ends.1, days_from_civil-day_count d.year d.month d.day, days_from_civil-day_count (pos 2156) 1 1)

pub hundredths-some : (zone : ZoneData) (stamp : Stamp) → IsCivilTime stamp → hundredths_in zone stamp ≡ Some (utc_hundredths zone (shown_hundredths stamp))
hundredths-some zone stamp is = rw (civil_time-true stamp is) refl

all_eight : (a b c d e f g h : Bool) → (a && b && c && d && e && f && g && h) ≡ true → (a ≡ true) × (b ≡ true) × (c ≡ true) × (d ≡ true) × (e ≡ true) × (f ≡ true) × (g ≡ true) × (h ≡ true)
all_eight a b c d e f g h all =
    let to_g = and_parts (a && b && c && d && e && f && g) h all in
    let to_f = and_parts (a && b && c && d && e && f) g to_g.0 in
    let to_e = and_parts (a && b && c && d && e) f to_f.0 in
    let to_d = and_parts (a && b && c && d) e to_e.0 in
    let to_c = and_parts (a && b && c) d to_d.0 in
    let to_b = and_parts (a && b) c to_c.0 in
    let to_a = and_parts a b to_b.0 in
    (to_a.0, to_a.1, to_b.1, to_c.1, to_d.1, to_e.1, to_f.1, to_g.1)

civil_time-told : (stamp : Stamp) → slice_index stamp.octets 0 < 2 ^ 8 → is_civil_time stamp ≡ true → IsCivilTime stamp
civil_time-told stamp octet e =
    let tests = all_eight (nat_le 1 (stamp_month stamp)) (nat_le (stamp_month stamp) 12) (nat_le 1 (stamp_day stamp)) (nat_le (stamp_day stamp) (days_in_month (stamp_year stamp) (stamp_month stamp)))
    (nat_lt (stamp_hour stamp) 24) (nat_lt (stamp_minute stamp) 60) (nat_lt (stamp_second stamp) 60) (nat_lt (stamp_hundredth stamp) 100) e in
    record {
      date = ((omega (arith, signed_arith, octet), omega (arith, signed_arith, octet)), (leb-true _ _ tests.0, leb-true _ _ tests.1), (leb-true _ _ tests.2, leb-true _ _ tests.3));
      time = record { hour = ltb-true _ _ tests.4; minute = ltb-true _ _ tests.5; second = ltb-true _ _ tests.6; hundredth = ltb-true _ _ tests.7 };
    }

none_by : (test : Bool) (zone : ZoneData) (stamp : Stamp) → slice_index stamp.octets 0 < 2 ^ 8 → ¬ (IsCivilTime stamp) → is_civil_time stamp ≡ test → hundredths_in zone stamp ≡ None
none_by true zone stamp octet never e = absurd (never (civil_time-told stamp octet e))
none_by false zone stamp octet never e = rw e refl

pub hundredths-none : (zone : ZoneData) (stamp : Stamp) → slice_index stamp.octets 0 < 2 ^ 8 → ¬ (IsCivilTime stamp) → hundredths_in zone stamp ≡ None
hundredths-none zone stamp octet never = none_by _ zone stamp octet never refl

-- ---- the time that a stamp tells

-- the clock stands ahead as in standard time or as in daylight saving time, so the most or the least that it does
either : (test less : Bool) (standard daylight : ℤ) → ((if test then daylight else standard) ≡ cond less standard daylight) ⊎ ((if test then daylight else standard) ≡ cond less daylight standard)
either true true standard daylight = inr refl
either true false standard daylight = inl refl
either false true standard daylight = inl refl
either false false standard daylight = inr refl

by_seconds : (standard : ℤ) (daylight : Option DaylightTime) (at : ℤ) →
    let zone : ZoneData = record { standard = standard; daylight = daylight } in
    (seconds_ahead zone at ≡ int_max standard (daylight_ahead zone)) ⊎ (seconds_ahead zone at ≡ int_min standard (daylight_ahead zone))
unfolding seconds_ahead
by_seconds standard None at = either true _ standard standard
by_seconds standard (Some daylight) at = either (in_window (daylight_of_year (year_of_nanos at) daylight standard) at) _ standard daylight.ahead

pub stands : (zone : ZoneData) (at : ℤ) → (hundredths_ahead zone at ≡ most_ahead zone) ⊎ (hundredths_ahead zone at ≡ least_ahead zone)
stands zone at = elim (by_seconds zone.standard zone.daylight (at *ℤ pos 10_000_000)) [
  | inl most ↦ inl (ap (λ n. n *ℤ pos 100) most)
  | inr least ↦ inr (ap (λ n. n *ℤ pos 100) least)
]

least_most : (a b : ℤ) → (int_min a b *ℤ pos 100) ≤ℤ (int_max a b *ℤ pos 100)
least_most a b =
    let least = int_min_is a b in let most = int_max_is a b in
    omega (arith, signed_arith)

ordered : (zone : ZoneData) → least_ahead zone ≤ℤ most_ahead zone
ordered zone = least_most zone.standard (daylight_ahead zone)

-- so it shows a time at one of two
place : (at ahead most least shown : ℤ) → (ahead ≡ most) ⊎ (ahead ≡ least) → at +ℤ ahead ≡ shown → (at ≡ shown -ℤ most) ⊎ (at ≡ shown -ℤ least)
place at ahead most least shown two e = elim two [
  | inl same ↦ inl (omega (arith, signed_arith))
  | inr same ↦ inr (omega (arith, signed_arith))
]

not_before : (at ahead most least shown : ℤ) → (ahead ≡ most) ⊎ (ahead ≡ least) → least ≤ℤ most → at +ℤ ahead ≡ shown → (shown -ℤ most) ≤ℤ at
not_before at ahead most least shown two less e = elim two [
  | inl same ↦ omega (arith, signed_arith)
  | inr same ↦ omega (arith, signed_arith)
]

-- how far the clock is put forward over what it never shows
not_negative : (z : ℤ) → pos 0 ≤ℤ z → pos (unsigned_abs z) ≡ z
not_negative (pos n) low = refl
not_negative (negsuc n) low = absurd (omega (arith, signed_arith))

some_shift : (ahead most least shown : ℤ) (n : ℕ) → (ahead ≡ most) ⊎ (ahead ≡ least) → least ≤ℤ most → pos n ≡ most -ℤ least → ¬ ((shown -ℤ least) +ℤ ahead ≡ shown) → 0 < n
some_shift ahead most least shown n two less e never =
    by_lt_z least most
    (λ lt. omega (arith, signed_arith))
    (λ le. absurd (never (elim two [ inl same ↦ omega (arith, signed_arith) | inr same ↦ omega (arith, signed_arith) ])))

by_least : (ahead most least shown : ℤ) (n : ℕ) → (ahead ≡ most) ⊎ (ahead ≡ least) → pos n ≡ most -ℤ least → ¬ ((shown -ℤ most) +ℤ ahead ≡ shown) → (shown -ℤ most) +ℤ ahead ≡ shown -ℤ pos n
by_least ahead most least shown n two e never = elim two [
  | inl same ↦ absurd (never (omega (arith, signed_arith)))
  | inr same ↦ omega (arith, signed_arith)
]

by_most : (ahead most least shown : ℤ) (n : ℕ) → (ahead ≡ most) ⊎ (ahead ≡ least) → pos n ≡ most -ℤ least → ¬ ((shown -ℤ least) +ℤ ahead ≡ shown) → (shown -ℤ least) +ℤ ahead ≡ shown +ℤ pos n
by_most ahead most least shown n two e never = elim two [
  | inl same ↦ omega (arith, signed_arith)
  | inr same ↦ absurd (never (omega (arith, signed_arith)))
]

back : (most least shown : ℤ) (n : ℕ) → pos n ≡ most -ℤ least → (shown -ℤ least) -ℤ pos n ≡ shown -ℤ most
back most least shown n e = omega (arith, signed_arith)

no_less : (a b : ℤ) → b ≤ℤ a → pos 0 ≤ℤ (a -ℤ b)
no_less a b h = omega (arith, signed_arith)

same_at_most : (a b : ℤ) → a ≡ b → b ≤ℤ a
same_at_most a b e = omega (arith, signed_arith)

module _ (zone : ZoneData) (stamp : Stamp) where
  earlier_time : IsShownAt zone stamp (shown_hundredths stamp -ℤ most_ahead zone) → IsFirstShownAt zone stamp (shown_hundredths stamp -ℤ most_ahead zone)
  earlier_time shows = record {
    shown = shows;
    first = λ other e. not_before other (hundredths_ahead zone other) (most_ahead zone) (least_ahead zone) (shown_hundredths stamp) (stands zone other) (ordered zone) e;
  }

  place_of : (other : ℤ) → IsShownAt zone stamp other → (other ≡ shown_hundredths stamp -ℤ most_ahead zone) ⊎ (other ≡ shown_hundredths stamp -ℤ least_ahead zone)
  place_of other e = place other (hundredths_ahead zone other) (most_ahead zone) (least_ahead zone) (shown_hundredths stamp) (stands zone other) e

  later_time : ¬ (IsShownAt zone stamp (shown_hundredths stamp -ℤ most_ahead zone)) → IsShownAt zone stamp (shown_hundredths stamp -ℤ least_ahead zone) → IsFirstShownAt zone stamp (shown_hundredths stamp -ℤ least_ahead zone)
  later_time never shows = record {
    shown = shows;
    first = λ other e. elim (place_of other e) [
      | inl same ↦ absurd (never (subst (IsShownAt zone stamp) same e))
      | inr same ↦ same_at_most other (shown_hundredths stamp -ℤ least_ahead zone) same
    ];
  }

  passed_over : ¬ (IsShownAt zone stamp (shown_hundredths stamp -ℤ most_ahead zone)) → ¬ (IsShownAt zone stamp (shown_hundredths stamp -ℤ least_ahead zone)) → LiesInGap zone stamp (shown_hundredths stamp -ℤ least_ahead zone)
  passed_over never nor =
      let some = not_negative (most_ahead zone -ℤ least_ahead zone) (no_less (most_ahead zone) (least_ahead zone) (ordered zone)) in
      let earlier = shown_hundredths stamp -ℤ most_ahead zone in
      let later = shown_hundredths stamp -ℤ least_ahead zone in
      record {
        never = λ other e. elim (place_of other e) [
          | inl same ↦ never (subst (IsShownAt zone stamp) same e)
          | inr same ↦ nor (subst (IsShownAt zone stamp) same e)
        ];
        forward = unsigned_abs (most_ahead zone -ℤ least_ahead zone);
        some = some_shift (hundredths_ahead zone later) (most_ahead zone) (least_ahead zone) (shown_hundredths stamp) _ (stands zone later) (ordered zone) some nor;
        before = ap (clock_at zone) (back (most_ahead zone) (least_ahead zone) (shown_hundredths stamp) _ some)
            ∙ by_least (hundredths_ahead zone earlier) (most_ahead zone) (least_ahead zone) (shown_hundredths stamp) _ (stands zone earlier) some never;
        after = by_most (hundredths_ahead zone later) (most_ahead zone) (least_ahead zone) (shown_hundredths stamp) _ (stands zone later) some nor;
      }

  -- the test of the earlier time, and of the later one
  time_by : (early late : Bool) → int_eq (clock_at zone (shown_hundredths stamp -ℤ most_ahead zone)) (shown_hundredths stamp) ≡ early
      → int_eq (clock_at zone (shown_hundredths stamp -ℤ least_ahead zone)) (shown_hundredths stamp) ≡ late
      → IsTimeOf zone stamp (if early then shown_hundredths stamp -ℤ most_ahead zone else shown_hundredths stamp -ℤ least_ahead zone)
  time_by true late e f = inl (earlier_time ((Decides-int_eq _ _).0 e))
  time_by false true e f = inl (later_time (not_from_Decides _ (Decides-int_eq _ _) e) ((Decides-int_eq _ _).0 f))
  time_by false false e f = inr (passed_over (not_from_Decides _ (Decides-int_eq _ _) e) (not_from_Decides _ (Decides-int_eq _ _) f))

  pub tells : IsTimeOf zone stamp (utc_hundredths zone (shown_hundredths stamp))
  unfolding utc_hundredths
  tells = time_by _ _ refl refl

-- as the code computes it
pub is_earlier : (zone : ZoneData) (shown : ℤ) → clock_at zone (shown -ℤ most_ahead zone) ≡ shown → shown -ℤ most_ahead zone ≡ utc_hundredths zone shown
unfolding utc_hundredths
is_earlier zone shown e = rw ((Decides-int_eq (clock_at zone (shown -ℤ most_ahead zone)) shown).1 e) refl

later_by : (zone : ZoneData) (shown : ℤ) (test : Bool) → int_eq (clock_at zone (shown -ℤ most_ahead zone)) shown ≡ test → ¬ (clock_at zone (shown -ℤ most_ahead zone) ≡ shown) → shown -ℤ least_ahead zone ≡ utc_hundredths zone shown
unfolding utc_hundredths
later_by zone shown true e never = absurd (never ((Decides-int_eq _ _).0 e))
later_by zone shown false e never = rw e refl

pub is_later : (zone : ZoneData) (shown : ℤ) → ¬ (clock_at zone (shown -ℤ most_ahead zone) ≡ shown) → shown -ℤ least_ahead zone ≡ utc_hundredths zone shown
is_later zone shown never = later_by zone shown _ refl never

pub then_earlier : (zone : ZoneData) (shown most ahead : ℤ) → most ≡ most_ahead zone → ahead ≡ hundredths_ahead zone (shown -ℤ most) → (shown -ℤ most) +ℤ ahead ≡ shown → shown -ℤ most ≡ utc_hundredths zone shown
then_earlier zone shown most ahead m a e =
    subst (λ n. shown -ℤ n ≡ utc_hundredths zone shown) (sym m)
    (is_earlier zone shown (subst (λ n. clock_at zone (shown -ℤ n) ≡ shown) m (sym (ap (λ n. (shown -ℤ most) +ℤ n) a) ∙ e)))

pub else_later : (zone : ZoneData) (shown most least ahead : ℤ) → most ≡ most_ahead zone → least ≡ least_ahead zone → ahead ≡ hundredths_ahead zone (shown -ℤ most) → ¬ ((shown -ℤ most) +ℤ ahead ≡ shown) → shown -ℤ least ≡ utc_hundredths zone shown
else_later zone shown most least ahead m l a never =
    subst (λ n. shown -ℤ n ≡ utc_hundredths zone shown) (sym l)
    (is_later zone shown (λ e. never (ap (λ n. (shown -ℤ most) +ℤ n) a ∙ subst (λ n. clock_at zone (shown -ℤ n) ≡ shown) (sym m) e)))

-- numbers of the same bits are the same
pub same_of_bits : (a b : ℤ) → FitsSigned w64 a → FitsSigned w64 b → of_z w64 a ≡ of_z w64 b → a ≡ b
same_of_bits a b f g e = sym (to_z-of_z f) ∙ ap (to_z w64) e ∙ to_z-of_z g

-- a stamp tells one time
least_before : (at first second most least shown : ℤ) (n : ℕ) → (first ≡ most) ⊎ (first ≡ least) → (second ≡ most) ⊎ (second ≡ least) → least ≤ℤ most → 0 < n →
    (at -ℤ pos n) +ℤ first ≡ shown -ℤ pos n → at +ℤ second ≡ shown +ℤ pos n → at ≡ shown -ℤ least
least_before at first second most least shown n one two less some e f = elim one [
  | inl same ↦ elim two [
    | inl again ↦ absurd (omega (arith, signed_arith))
    | inr again ↦ absurd (omega (arith, signed_arith))
  ]
  | inr same ↦ omega (arith, signed_arith)
]

passed_at : (zone : ZoneData) (stamp : Stamp) (at : ℤ) → LiesInGap zone stamp at → at ≡ shown_hundredths stamp -ℤ least_ahead zone
passed_at zone stamp at is =
    least_before at (hundredths_ahead zone (at -ℤ pos is.forward)) (hundredths_ahead zone at) (most_ahead zone) (least_ahead zone) (shown_hundredths stamp) is.forward
    (stands zone (at -ℤ pos is.forward)) (stands zone at) (ordered zone) is.some is.before is.after

same_number : (a b : ℤ) → a ≤ℤ b → b ≤ℤ a → a ≡ b
same_number a b h k = omega (arith, signed_arith)

pub one_time : (zone : ZoneData) (stamp : Stamp) (a b : ℤ) → IsTimeOf zone stamp a → IsTimeOf zone stamp b → a ≡ b
one_time zone stamp a b (inl first) (inl second) = same_number a b (first.first b second.shown) (second.first a first.shown)
one_time zone stamp a b (inl first) (inr second) = absurd (second.never a first.shown)
one_time zone stamp a b (inr first) (inl second) = absurd (first.never b second.shown)
one_time zone stamp a b (inr first) (inr second) = passed_at zone stamp a first ∙ sym (passed_at zone stamp b second)

-- what the clock shows at a time, a stamp tells by that time
pub shown_by : (zone : ZoneData) (stamp : Stamp) (at other : ℤ) → IsTimeOf zone stamp at → IsShownAt zone stamp other → IsShownAt zone stamp at × (at ≤ℤ other)
shown_by zone stamp at other (inl first) shows = (first.shown, first.first other shows)
shown_by zone stamp at other (inr passed) shows = absurd (passed.never other shows)

-- in a zone that always stands the same, a stamp is shown once
fixed_first : (minutes : ℤ) (stamp : Stamp) (at : ℤ) → IsShownAt (fixed_zone minutes) stamp at → IsFirstShownAt (fixed_zone minutes) stamp at
unfolding seconds_ahead
fixed_first minutes stamp at shows = record { shown = shows; first = λ other e. once (minutes *ℤ pos 60 *ℤ pos 100) at other (shown_hundredths stamp) shows e }
  where
    once : (ahead a b shown : ℤ) → a +ℤ ahead ≡ shown → b +ℤ ahead ≡ shown → a ≤ℤ b
    once ahead a b shown e f = omega (arith, signed_arith)

pub utc_hundredths-fixed : (minutes : ℤ) (moment : ℕ) (stamp : Stamp) → IsLocalStamp (fixed_zone minutes) moment stamp → utc_hundredths (fixed_zone minutes) (shown_hundredths stamp) ≡ pos (moment / 10)
utc_hundredths-fixed minutes moment stamp is =
    let zone = fixed_zone minutes in
    one_time zone stamp (utc_hundredths zone (shown_hundredths stamp)) (pos (moment / 10)) (tells zone stamp) (inl (fixed_first minutes stamp (pos (moment / 10)) (sym is.count)))

pub of_moment : (zone : ZoneData) (minutes : ℤ) (moment : ℕ) (stamp : Stamp) → zone ≡ fixed_zone minutes → IsLocalStamp zone moment stamp → utc_hundredths zone (shown_hundredths stamp) ≡ pos (moment / 10)
of_moment zone minutes moment stamp same shows = subst (λ z. IsLocalStamp z moment stamp → utc_hundredths z (shown_hundredths stamp) ≡ pos (moment / 10)) (sym same) (utc_hundredths-fixed minutes moment stamp) shows
