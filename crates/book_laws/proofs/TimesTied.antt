-- The clock of a zone shows what the book says, and the same recipients are notified.
use Rattle.std.proofs.Common.{◌≡◌, ℕ, zero, suc, ◌+◌, ◌-◌, ◌*◌, ◌/◌, ◌%◌, ◌<◌, ◌^◌, ◌==◌, ℤ, pos, negsuc, ◌+ℤ◌, ◌*ℤ◌, Bool, true, false, cond, not, ◌&&◌, if◌then◌else◌, nat_le, bit_and, Option, Some, None, IfSome, List, [], ◌∷◌, length, map, drop, slice_index, slice_index_or, refl, sym, ap, ◌∙◌, arith}
use Rattle.std.specs.Prelude.{nat_abs, filter}
use Rattle.std.specs.Int.{bit_at}
use Rattle.std.proofs.lemmas.Bool.Decides.{nat_tests}
use Rattle.jiff_core.proofs.SignedLemmas.{signed_arith}
use Rattle.std.proofs.Math.Nat.{pow-suc}
use Rattle.std.proofs.lemmas.Nat.Bits.{and_pow, bit_at_lowest, bit_at-suc, bit_at-lt}
use Rattle.jiff_core.specs.Timestamp.{IsOffsetSeconds}
use Rattle.jiff_core.specs.Calendar.{weekday_number}
use Rattle.jiff_tz.specs.PosixRule.{in_window, match_some}
use Rattle.jiff_tz.specs.Year.{year_of_nanos}
use Rattle.bac_values.specs.declared.stamp.Stamp.{Stamp}
use Rattle.bac_values.specs.declared.transition.Transition.{Transition}
use Rattle.bac_values.specs.EventStates.{place_of_transition}
use Rattle.civil_stamp.specs.declared.daylight.DaylightTime.{DaylightTime}
use Rattle.civil_stamp.specs.LocalTime.{ZoneData, IsZonedStamp, stamp_epoch_day, stamp_hour, stamp_hundredth, stamp_minute, stamp_second, stamp_time, stamp_weekday}
use Rattle.civil_stamp.specs.ZoneRules.{ClockRule, IsClockRule, IsDaylightTime, daylight_of_year, seconds_ahead}
use Rattle.notify_class.specs.Recipients.{DestinationData}
use Rattle.notify_class.specs.Windows.{is_open_at, is_in_window}
use Rattle.profile.specs.Numbers.{place}
use Rattle.profile.specs.Sites.{Station}
use Rattle.profile.specs.Times as book
use Rattle.book_laws.specs.Values.{bits_of, transition_in_book}
use Rattle.book_laws.specs.Times.{in_zone, destination_in_book}
use Rattle.book_laws.specs.TimeLaws.{HasTimesOfBook, HasWindowsOfBook, HasRecipientsOfBook}
use Rattle.book_laws.proofs.NumbersTied.{places}

-- ---- how far a clock stands ahead

ahead_by : (rule : ClockRule) (instant : ℤ) (daylight : Option DaylightTime) → IsOffsetSeconds rule.standard → IfSome daylight IsDaylightTime →
    IsOffsetSeconds (match_some daylight rule.standard (λ saving.
    if in_window (daylight_of_year (year_of_nanos instant) saving rule.standard) instant then saving.ahead else rule.standard))
ahead_by rule instant None standard saved = standard
ahead_by rule instant (Some saving) standard saved = by (in_window (daylight_of_year (year_of_nanos instant) saving rule.standard) instant)
  where
    by : (b : Bool) → IsOffsetSeconds (if b then saving.ahead else rule.standard)
    by true = saved.ahead
    by false = standard

ahead : (rule : ClockRule) (instant : ℤ) → IsClockRule rule → IsOffsetSeconds (seconds_ahead rule instant)
unfolding seconds_ahead
ahead rule instant h = ahead_by rule instant rule.daylight h.standard h.daylight

-- ---- the day and the time of day

record AreParts (device : Station) (zone : ZoneData) (moment : ℕ) (stamp : Stamp) : Type 0 where
  day : ℕ
  stamp_day : stamp_epoch_day stamp ≡ pos day
  day_is : book.clock_at (in_zone device zone) moment / 86400000 ≡ day
  time_is : book.time_of_day (in_zone device zone) moment ≡ stamp_time stamp

parts_by : (shown whole : ℤ) (moment time : ℕ) (seconds : ℤ) → shown ≡ pos moment +ℤ (seconds *ℤ pos 100) *ℤ pos 10 →
    whole *ℤ pos 8_640_000 +ℤ pos time ≡ pos (moment / 10) +ℤ seconds *ℤ pos 100 → time < 8_640_000 → IsOffsetSeconds seconds → 946684800000 < moment + 1 →
    (day : ℕ) × (whole ≡ pos day) × (nat_abs shown / 86400000 ≡ day) × (nat_abs shown % 86400000 / 10 ≡ time)
parts_by (pos shown) (pos whole) moment time seconds is count within near late =
    let low = near.0 in let high = near.1 in
    (whole, refl, omega (arith, signed_arith, is, count), omega (arith, signed_arith, is, count))
parts_by (negsuc shown) whole moment time seconds is count within near late = let low = near.0 in let high = near.1 in absurd (omega (arith, signed_arith, is, low))
parts_by (pos shown) (negsuc whole) moment time seconds is count within near late = let low = near.0 in let high = near.1 in absurd (omega (arith, signed_arith, count, low))

parts : (device : Station) (zone : ZoneData) (moment : ℕ) (stamp : Stamp) → IsClockRule zone → IsZonedStamp zone moment stamp → AreParts device zone moment stamp
parts device zone moment stamp rule zoned =
    let seconds = seconds_ahead zone (pos (moment / 10) *ℤ pos 10_000_000) in
    let time = zoned.shows.time in
    let hour = time.hour in let minute = time.minute in let second = time.second in let hundredth = time.hundredth in
    let within : stamp_time stamp < 8_640_000 = omega arith in
    let found = parts_by (pos moment +ℤ (seconds *ℤ pos 100) *ℤ pos 10) (stamp_epoch_day stamp) moment (stamp_time stamp) seconds refl zoned.shows.count within
    (ahead zone (pos (moment / 10) *ℤ pos 10_000_000) rule) (let first = zoned.within.0 in omega arith) in
    record { day = found.0; stamp_day = found.1; day_is = found.2; time_is = found.3 }

weekday_of : (day : ℕ) → weekday_number (pos day) ≡ (day + 3) % 7
unfolding weekday_number
weekday_of day = omega (arith, signed_arith)

weekdays : (device : Station) (zone : ZoneData) (moment : ℕ) (stamp : Stamp) → IsZonedStamp zone moment stamp → AreParts device zone moment stamp → book.weekday (in_zone device zone) moment ≡ stamp_weekday stamp
weekdays device zone moment stamp zoned p =
    ap (λ day. (day + 3) % 7 + 1) p.day_is ∙ ap (λ n. n + 1) (sym (weekday_of p.day)) ∙ ap (λ z. weekday_number z + 1) (sym p.stamp_day) ∙ sym zoned.shows.weekday

-- ---- the octets of a time

eight : (xs : List ℕ) → length xs ≡ 8 → drop 3 xs ≡ slice_index xs 3 ∷ slice_index xs 4 ∷ slice_index xs 5 ∷ slice_index xs 6 ∷ slice_index xs 7 ∷ []
eight (a ∷ b ∷ c ∷ d ∷ e ∷ f ∷ g ∷ h ∷ []) s = refl
eight _ s = absurd (omega arith)

pub has_times_of_book : HasTimesOfBook
has_times_of_book device zone moment stamp rule zoned =
    let p = parts device zone moment stamp rule zoned in
    let time = zoned.shows.time in
    let hour = time.hour in let minute = time.minute in let second = time.second in let hundredth = time.hundredth in
    let hours : stamp_time stamp / 360000 ≡ stamp_hour stamp = omega arith in
    let minutes : stamp_time stamp / 6000 % 60 ≡ stamp_minute stamp = omega arith in
    let seconds : stamp_time stamp / 100 % 60 ≡ stamp_second stamp = omega arith in
    let hundredths : stamp_time stamp % 100 ≡ stamp_hundredth stamp = omega arith in
    eight stamp.octets zoned.shows.size
    ∙ sym (ap (λ day. day ∷ book.time_at (in_zone device zone) moment) (weekdays device zone moment stamp zoned p)
    ∙ ap (λ t. stamp_weekday stamp ∷ (t / 360000) ∷ (t / 6000 % 60) ∷ (t / 100 % 60) ∷ (t % 100) ∷ []) p.time_is
    ∙ ap (λ n. stamp_weekday stamp ∷ n ∷ (stamp_time stamp / 6000 % 60) ∷ (stamp_time stamp / 100 % 60) ∷ (stamp_time stamp % 100) ∷ []) hours
    ∙ ap (λ n. stamp_weekday stamp ∷ stamp_hour stamp ∷ n ∷ (stamp_time stamp / 100 % 60) ∷ (stamp_time stamp % 100) ∷ []) minutes
    ∙ ap (λ n. stamp_weekday stamp ∷ stamp_hour stamp ∷ stamp_minute stamp ∷ n ∷ (stamp_time stamp % 100) ∷ []) seconds
    ∙ ap (λ n. stamp_weekday stamp ∷ stamp_hour stamp ∷ stamp_minute stamp ∷ stamp_second stamp ∷ n ∷ []) hundredths)

-- ---- windows

bit_place : (n k x : ℕ) → k < n → slice_index_or (bits_of n x) k false ≡ (bit_at x k == 1)
bit_place zero k x h = absurd (omega arith)
bit_place (suc n) zero x h = ap (λ b. b == 1) (sym (bit_at_lowest x))
bit_place (suc n) (suc k) x h = bit_place n k (x / 2) (omega arith) ∙ ap (λ b. b == 1) (sym (bit_at-suc x k))

set_by : (b p : ℕ) → b < 2 → 0 < p → (b == 1) ≡ not (b * p == 0)
set_by zero p h some = let none : 0 * p ≡ 0 = omega arith in rw none refl
set_by (suc zero) p h some = grind (arith, nat_tests)
set_by (suc (suc b)) p h some = absurd (omega (arith, h))

day_set : (days k : ℕ) → k < 7 → slice_index_or (bits_of 7 days) k false ≡ not (bit_and days (2 ^ k) == 0)
day_set days k h =
    bit_place 7 k days h ∙ set_by (bit_at days k) (2 ^ k) (bit_at-lt days k) (pow-positive k) ∙ ap (λ x. not (x == 0)) (sym (and_pow days k))
  where
    pow-positive : (n : ℕ) → 0 < 2 ^ n
    pow-positive zero = omega arith
    pow-positive (suc n) = let more = pow-suc 2 n in let some = pow-positive n in omega (arith, more, some)

open_by : (recipient : DestinationData) (transition : Transition) (weekday time : ℕ) → weekday - 1 < 7 →
    (slice_index_or recipient.transitions (place (transition_in_book transition)) false && slice_index_or (bits_of 7 recipient.days) (weekday - 1) false && nat_le recipient.from time && nat_le time recipient.to)
    ≡ is_open_at recipient transition weekday time
open_by recipient transition weekday time h =
    ap (λ n. slice_index_or recipient.transitions n false && slice_index_or (bits_of 7 recipient.days) (weekday - 1) false && nat_le recipient.from time && nat_le time recipient.to) (places transition)
    ∙ ap (λ b. slice_index_or recipient.transitions (place_of_transition transition) false && b && nat_le recipient.from time && nat_le time recipient.to) (day_set recipient.days (weekday - 1) h)

pub has_windows_of_book : HasWindowsOfBook
has_windows_of_book device zone moment stamp transition recipient rule zoned =
    let p = parts device zone moment stamp rule zoned in
    let says = λ (weekday time : ℕ).
    slice_index_or recipient.transitions (place (transition_in_book transition)) false && slice_index_or (bits_of 7 recipient.days) (weekday - 1) false && nat_le recipient.from time && nat_le time recipient.to in
    let within : stamp_weekday stamp - 1 < 7 = let is = weekdays device zone moment stamp zoned p in omega (arith, is) in
    ap (λ day. says day (book.time_of_day (in_zone device zone) moment)) (weekdays device zone moment stamp zoned p)
    ∙ ap (says (stamp_weekday stamp)) p.time_is
    ∙ open_by recipient transition (stamp_weekday stamp) (stamp_time stamp) within
    ∙ ap (λ (s : Stamp). is_open_at recipient transition (stamp_weekday s) (stamp_time s)) zoned.computed

kept : {X Y : Type 0} (f : X → Y) (p : Y → Bool) (q : X → Bool) → ((x : X) → p (f x) ≡ q x) → (xs : List X) → map f (filter q xs) ≡ filter p (map f xs)
kept f p q same [] = refl
kept f p q same (x ∷ xs) = by (kept f p q same xs) (p (f x)) (q x) (same x)
  where
    by : map f (filter q xs) ≡ filter p (map f xs) → (a b : Bool) → a ≡ b → map f (cond b (x ∷ filter q xs) (filter q xs)) ≡ cond a (f x ∷ filter p (map f xs)) (filter p (map f xs))
    by rest true true e = ap (λ ys. f x ∷ ys) rest
    by rest false false e = rest
    by rest true false e = absurd cc
    by rest false true e = absurd cc

pub has_recipients_of_book : HasRecipientsOfBook
has_recipients_of_book device zone moment stamp transition recipients rule zoned =
    kept destination_in_book (book.is_notified (in_zone device zone) (transition_in_book transition) moment) (λ recipient. is_in_window recipient transition moment zone)
    (λ recipient. has_windows_of_book device zone moment stamp transition recipient rule zoned) recipients
