use Rattle.std.proofs.Common.{◌/◌, arith, ap, rules, ◌∙◌, ◌≡◌, ◌≤ℤ◌, ◌*ℤ◌, pos}
use Rattle.jiff_core.specs.Date.{epoch_day}
use Rattle.jiff_core.proofs.SignedLemmas.{signed_arith}
use Rattle.jiff_core.proofs.DateTimeLemmas.{civil_nanos-parts, time_nanos_bound}
use Rattle.civil_stamp.specs.ZoneRules.{seconds_ahead}
use Rattle.civil_stamp.proofs.StampLemmas.{year_low, year_high}
use Rattle.civil_stamp.proofs.zone.Zone.date_and_time.Goals as goal

pub returns-clause-year : goal.returns-clause-year
returns-clause-year c =
    let date = c.to_datetime.result.date in
    let parts = civil_nanos-parts c.to_datetime.result in
    let bound = time_nanos_bound c.to_datetime.result.time in
    let within = c.to_offset-offset.result.in_range in
    let value : c.unwrap-instant.result.nanosecond ≡ pos (c.args.moment / 10) *ℤ pos 10_000_000 = search rules in
    let shows = c.to_datetime.ensures in
    let range = c.requires.moment in
    let fits = c.ranges.moment in
    let low : pos 10_000 ≤ℤ epoch_day date = omega (arith, signed_arith) in
    let high : epoch_day date ≤ℤ pos 50_000 = omega (arith, signed_arith) in
    (year_low date low, year_high date high)

pub returns-clause-shows : goal.returns-clause-shows
returns-clause-shows c =
    let instant : c.unwrap-instant.result.nanosecond ≡ pos (c.args.moment / 10) *ℤ pos 10_000_000 = search rules in
    let goes = c.time_zone.ensures.same.instants c.unwrap-instant.result.nanosecond in
    let ahead = c.to_offset-offset.ensures ∙ goes ∙ ap (seconds_ahead c.args.self.now) instant in
    let shows = c.to_datetime.ensures in
    omega (arith, signed_arith)
