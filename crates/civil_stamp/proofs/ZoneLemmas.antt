-- A clock that follows what a rule says goes as jiff's zone of that rule.
use Rattle.std.proofs.Common.{◌≡◌, ℕ, ℤ, Bool, true, false, List, Option, Some, None, option_map, refl, sym, ap, ◌∙◌, subst, if◌then◌else◌}
use Rattle.std.proofs.lemmas.Option.{same_Some}
use Rattle.jiff_core.specs.declared.Offset.{Offset}
use Rattle.jiff_tz.specs.PosixRule.{dst_at_by, in_window, match_some, rule_nanos, utc_window}
use Rattle.jiff_tz.specs.PosixText.{dst_view, tz_view}
use Rattle.jiff_tz.specs.Year.{year_of_nanos}
use Rattle.jiff_tz.specs.Zone.{offset_at}
use Rattle.jiff_tz.specs.declared.posix.Dst.{Dst}
use Rattle.jiff_tz.specs.declared.posix.TimeZone.{TimeZone as Rule}
use Rattle.jiff_tz.specs.declared.timezone.TimeZone.{TimeZone}
use Rattle.jiff_tz.specs.declared.timezone.TimeZone.TheVariants.{UTC, Unknown, Fixed, Posix, Tzif}
use Rattle.jiff.specs.Placed.{IsPosixZone}
use Rattle.civil_stamp.specs.ZoneRules.{ClockRule, GoesAs, clock_rule, daylight_of_year, daylight_time, moment_of_year, seconds_ahead}
use Rattle.civil_stamp.specs.LocalTime.{rule_zone}

window-same : (d : Dst) (year : ℤ) (standard : Offset) → utc_window d year standard ≡ daylight_of_year year (daylight_time (dst_view d)) standard.seconds
unfolding utc_window daylight_of_year rule_nanos moment_of_year
window-same d year standard = refl

picked : (test : Bool) (standard : Offset) (d : Dst) →
    (match_some (if test then Some d else None) standard (λ x. x.offset)).seconds ≡ (if test then d.offset.seconds else standard.seconds)
picked true standard d = refl
picked false standard d = refl

instant_by : (standard : Offset) (d : Option Dst) (instant : ℤ) →
    (match_some (dst_at_by standard d instant) standard (λ x. x.offset)).seconds ≡ seconds_ahead (record { standard = standard.seconds; daylight = option_map daylight_time (option_map dst_view d) }) instant
unfolding seconds_ahead
instant_by standard None instant = refl
instant_by standard (Some d) instant =
    picked (in_window (utc_window d (year_of_nanos instant) standard) instant) standard d
    ∙ ap (λ window. if in_window window instant then d.offset.seconds else standard.seconds) (window-same d (year_of_nanos instant) standard)

goes_as_said : (said : Rule) → GoesAs (Posix said) (clock_rule (tz_view said))
unfolding offset_at
goes_as_said said = record { instants = λ instant. instant_by said.std_offset said.dst instant }

pub goes_as : (said : Rule) (rule : ClockRule) → clock_rule (tz_view said) ≡ rule → GoesAs (Posix said) rule
goes_as said rule same = subst (λ r. GoesAs (Posix said) r) same (goes_as_said said)

-- jiff's zone of a text goes as what the text says
pub goes_as_text : (text : List ℕ) (zone : TimeZone) (rule : ClockRule) → rule_zone text ≡ Some rule → IsPosixZone text zone → GoesAs zone rule
goes_as_text text (Posix said) rule made reads = goes_as said rule (same_Some _ _ (sym (ap (option_map clock_rule) reads) ∙ made))
goes_as_text text UTC rule made reads = absurd reads
goes_as_text text Unknown rule made reads = absurd reads
goes_as_text text (Fixed offset) rule made reads = absurd reads
goes_as_text text (Tzif table) rule made reads = absurd reads
