use Rattle.std.proofs.Common.{rules, ap, sym, ◌∙◌, ◌≡◌, ◌/◌, pos, Some, FitsSigned, w64, to_z-of_z}
use Rattle.civil_stamp.specs.LocalTime.{IsTimeOf, shown_hundredths, utc_hundredths}
use Rattle.civil_stamp.proofs.HundredthsLemmas.{of_moment, one_time, shown_by, tells}
use Rattle.civil_stamp.proofs.hundredths.hundredths_of.Goals as goal

-- the answer is what is computed
answer : (c : goal.After-when_shown) → c.when_shown.result ≡ utc_hundredths c.args.zone.now (shown_hundredths c.args.stamp.now)
answer c =
    let fits : FitsSigned w64 c.in_ok-shown.shown = search rules in
    let shown : c.in_ok-shown.shown ≡ shown_hundredths c.args.stamp.now = search rules in
    (simp to_z-of_z at c.when_shown.ensures.time) ∙ ap (utc_hundredths c.args.zone.now) shown

time_of : (c : goal.After-when_shown) → IsTimeOf c.args.zone.now c.args.stamp.now c.when_shown.result
time_of c = rw (answer c) (tells c.args.zone.now c.args.stamp.now)

pub returns-clause-time : goal.returns-clause-time
returns-clause-time c =
    let fits : FitsSigned w64 c.when_shown.result = search rules in
    simp to_z-of_z (time_of c)

pub returns-clause-only : goal.returns-clause-only
returns-clause-only c =
    let fits : FitsSigned w64 c.when_shown.result = search rules in
    simp to_z-of_z (λ at civil is. ap Some (one_time c.args.zone.now c.args.stamp.now c.when_shown.result at (time_of c) is))

pub returns-clause-own_stamp : goal.returns-clause-own_stamp
returns-clause-own_stamp c =
    let fits : FitsSigned w64 c.when_shown.result = search rules in
    simp to_z-of_z (λ moment is. shown_by c.args.zone.now c.args.stamp.now c.when_shown.result (pos (moment / 10)) (time_of c) (sym is.count))

pub returns-clause-of_moment : goal.returns-clause-of_moment
returns-clause-of_moment c =
    let fits : FitsSigned w64 c.when_shown.result = search rules in
    simp to_z-of_z (λ minutes moment same shows. ap Some (answer c ∙ of_moment c.args.zone.now minutes moment c.args.stamp.now same shows))
