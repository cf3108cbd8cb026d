use Rattle.std.proofs.Common.{ap, arith, rules, ◌+ℤ◌, ◌-ℤ◌, FitsSigned, w64, of_z, to_z-of_z}
use Rattle.jiff_core.proofs.SignedLemmas.{signed_arith}
use Rattle.civil_stamp.proofs.HundredthsLemmas.{else_later, same_of_bits, then_earlier}
use Rattle.civil_stamp.proofs.zone.Zone.when_shown.Goals as goal

pub returns-then-earlier-hundredths_ahead : goal.returns-then-earlier-hundredths_ahead
returns-then-earlier-hundredths_ahead c =
    let shown = c.args.shown in
    let most = c.most_ahead.result in
    let ahead = c.hundredths_ahead.result in
    let shown_fits : FitsSigned w64 shown = c.ranges.shown in
    let most_fits : FitsSigned w64 most = search rules in
    let ahead_fits : FitsSigned w64 ahead = search rules in
    let earlier_fits : FitsSigned w64 (shown -ℤ most) = omega (arith, signed_arith) in
    let clock_fits : FitsSigned w64 ((shown -ℤ most) +ℤ ahead) = omega (arith, signed_arith) in
    let test = simp to_z-of_z at c.if-earlier-hundredths_ahead.true in
    let stands = simp to_z-of_z at c.hundredths_ahead.ensures.ahead in
    let told = then_earlier c.args.self.now shown most ahead c.most_ahead.ensures.ahead stands (same_of_bits _ _ clock_fits shown_fits test) in
    record { time = simp to_z-of_z told }

pub returns : goal.returns
returns c =
    let shown = c.args.shown in
    let most = c.most_ahead.result in
    let least = c.least_ahead.result in
    let ahead = c.hundredths_ahead.result in
    let shown_fits : FitsSigned w64 shown = c.ranges.shown in
    let most_fits : FitsSigned w64 most = search rules in
    let least_fits : FitsSigned w64 least = search rules in
    let ahead_fits : FitsSigned w64 ahead = search rules in
    let earlier_fits : FitsSigned w64 (shown -ℤ most) = omega (arith, signed_arith) in
    let later_fits : FitsSigned w64 (shown -ℤ least) = omega (arith, signed_arith) in
    let test = simp to_z-of_z at c.if-earlier-hundredths_ahead.false in
    let stands = simp to_z-of_z at c.hundredths_ahead.ensures.ahead in
    let told = else_later c.args.self.now shown most least ahead c.most_ahead.ensures.ahead c.least_ahead.ensures.ahead stands (λ e. test (ap (of_z w64) e)) in
    record { time = simp to_z-of_z told }
