use Rattle.std.proofs.Common.{arith, ap, rules, ◌∙◌, ◌≡◌, ◌*ℤ◌, pos}
use Rattle.jiff_core.proofs.SignedLemmas.{signed_arith}
use Rattle.civil_stamp.specs.ZoneRules.{seconds_ahead}
use Rattle.civil_stamp.proofs.zone.Zone.hundredths_ahead.Goals as goal

pub returns-clause-ahead : goal.returns-clause-ahead
returns-clause-ahead c =
    let instant : c.unwrap-instant.result.nanosecond ≡ c.args.at *ℤ pos 10_000_000 = search rules in
    let goes = c.time_zone.ensures.same.instants c.unwrap-instant.result.nanosecond in
    let ahead = c.to_offset.ensures ∙ goes ∙ ap (seconds_ahead c.args.self.now) instant in
    let within = c.to_offset.result.in_range in
    let seconds = c.seconds.ensures in
    let wide = c.from.ensures in
    omega (arith, signed_arith)
