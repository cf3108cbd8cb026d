use Rattle.std.proofs.Common.{arith, refl, rules, ◌∙◌, ◌≡◌, ◌<◌, ◌^◌, slice_index}
use Rattle.jiff_core.specs.Date.{epoch_day}
use Rattle.jiff_core.proofs.SignedLemmas.{signed_arith}
use Rattle.civil_stamp.specs.LocalTime.{stamp_day, stamp_epoch_day, stamp_month, stamp_year}
use Rattle.civil_stamp.proofs.HundredthsLemmas.{days_high, days_low}
use Rattle.civil_stamp.proofs.hundredths.shown_hundredths.Goals as goal

pub returns-clause-shown : goal.returns-clause-shown
returns-clause-shown c =
    let date = c.in_ok-date.date in
    let stamp = c.args.stamp.now in
    let year : date.year ≡ stamp_year stamp = search rules in
    let month : date.month ≡ stamp_month stamp = search rules in
    let day : date.day ≡ stamp_day stamp = search rules in
    let same : epoch_day date ≡ stamp_epoch_day stamp = rw (year, month, day) refl in
    let number = c.to_unix_epoch_day.ensures.value ∙ same in
    let within = c.to_unix_epoch_day.ensures.bound in
    let wide = c.from-5.ensures in
    let time = c.from-6.ensures in
    let hour = c.from.ensures in let minute = c.from-2.ensures in let second = c.from-3.ensures in let hundredth = c.from-4.ensures in
    omega (arith, signed_arith)

pub returns-clause-nearer : goal.returns-clause-nearer
returns-clause-nearer c =
    let date = c.in_ok-date.date in
    let stamp = c.args.stamp.now in
    let year : date.year ≡ stamp_year stamp = search rules in
    let octet : slice_index stamp.octets 0 < 2 ^ 8 = search rules in
    let low = days_low date (omega (arith, signed_arith)) in
    let high = days_high date (omega (arith, signed_arith)) in
    let number = c.to_unix_epoch_day.ensures.value in
    let wide = c.from-5.ensures in
    let time = c.from-6.ensures in
    let hour = c.from.ensures in let minute = c.from-2.ensures in let second = c.from-3.ensures in let hundredth = c.from-4.ensures in
    (omega (arith, signed_arith), omega (arith, signed_arith))
