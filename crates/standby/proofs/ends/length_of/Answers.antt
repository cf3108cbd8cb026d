use Rattle.std.proofs.Common.{◌≡◌, ◌+◌, ℕ, suc, ap, arith, take}
use Rattle.alarm_journal.specs.Opened.{sum_of}
use Rattle.alarm_journal.specs.declared.body.Body.{Body}
use Rattle.standby.proofs.Journals.{sum_more}
use Rattle.standby.proofs.ends.length_of.Goals as goal

no_body : Body
no_body = record { place = 0; length = 0 }

pub loop-body-preserved : goal.loop-body-preserved
unfolding no_body
loop-body-preserved c =
    let bodies = c.args.bodies.now in
    let index : ℕ = c.loop-body.body-index in
    let next : index + 1 ≡ suc index = omega arith in
    omega (arith, c.min-length.ensures, c.saturating_add.ensures, c.loop-body.invariant, c.ranges.octets.fits, sum_more bodies index no_body c.loop-body-test.true, ap (λ (n : ℕ). sum_of (take n bodies)) next)
