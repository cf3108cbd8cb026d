use Rattle.std.proofs.Common.{◌≡◌, ◌<◌, Err, List, ℕ, length, sym, subst, arith}
use Rattle.std.proofs.lemmas.Result.{err_from_is_err_and}
use Rattle.state_codec.specs.declared.fault.CodecFault.TheVariants.{Malformed}
use Rattle.standby.specs.Offers.{IsCutAt}
use Rattle.standby.proofs.Endings.{IsEnding, cut_at, ended_on}
use Rattle.standby.proofs.ends.ends_of.Goals as goal

pub returns-in_err-at-clause-refused : goal.returns-in_err-at-clause-refused
returns-in_err-at-clause-refused c = λ at e.
    let p = err_from_is_err_and c.from_residual.result c.from_residual.ensures.1 in
    let is : c.end_at.result ≡ Err (Malformed at) = cc in
    let refused = c.end_at.ensures.refused at is in
    let here = c.loop-at in
    let within : here.at < length c.args.records.now = omega arith in
    subst (λ (n : ℕ). IsCutAt c.args.records.now n) (sym refused.0) (cut_at c.args.records.now here.ends.items here.at within here.invariant refused.1)

pub loop-at-preserved : goal.loop-at-preserved
loop-at-preserved c =
    let here = c.loop-at in
    let (event, spelled) = c.in_ok-at.ensures.found in
    subst (λ (l : List ℕ). IsEnding c.args.records.now l c.in_ok-at.at) (sym c.in_default.ensures.added) (ended_on c.args.records.now here.ends.items here.at c.in_ok-at.at event here.invariant spelled)
