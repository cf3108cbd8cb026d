use Rattle.std.proofs.Common.{◌≡◌, ◌<◌, Err, sym, subst, arith, length}
use Rattle.std.proofs.lemmas.Result.{err_from_is_err_and}
use Rattle.state_codec.specs.declared.fault.CodecFault.TheVariants.{Malformed}
use Rattle.state_codec.specs.Damage.{IsDamagedIn}
use Rattle.state_codec.proofs.Following.{damaged_here, ends_later, leads_next}
use Rattle.state_codec.proofs.recovering.follow_records.Goals as goal

pub returns-in_err-at-clause-damaged : goal.returns-in_err-at-clause-damaged
returns-in_err-at-clause-damaged c = λ offset e.
    let p = err_from_is_err_and c.from_residual.result c.from_residual.ensures.1 in
    let is : c.follow_record.result ≡ Err (Malformed offset) = cc in
    let refused = c.follow_record.ensures.refused offset is in
    let here = c.loop-at in
    let within : here.at < length c.args.records.now = omega arith in
    subst (λ at. IsDamagedIn c.args.core.now c.args.records.now at) (sym refused.0) (damaged_here c.args.core.now here.core c.args.records.now here.at within here.invariant.leads refused.1)

pub loop-at-preserved : goal.loop-at-preserved
loop-at-preserved c =
    let here = c.loop-at in
    let (event, spelled, may, is) = c.in_ok-at.ensures.followed in
    let on = ends_later c.args.records.now here.at c.in_ok-at.at event spelled here.invariant.within in
    record {
      within = on.1;
      leads = leads_next c.args.core.now here.core c.follow_record.new.core c.args.records.now here.at c.in_ok-at.at event here.invariant.within here.invariant.leads spelled may is;
    }
