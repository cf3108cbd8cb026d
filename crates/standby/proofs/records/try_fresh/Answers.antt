use Rattle.std.proofs.Common.{◌∙◌, Err, refl, ap}
use Rattle.state_codec.proofs.Recovered.{not_damaged_in}
use Rattle.state_codec.specs.declared.fault.CodecFault.{CodecFault}
use Rattle.standby.proofs.records.try_fresh.Goals as goal

pub returns-in-Err-Malformed-clause-tried : goal.returns-in-Err-Malformed-clause-tried
returns-in-Err-Malformed-clause-tried g c =
    let copy = c.in_ok-copy.copy in
    let at = c.in-Err-Malformed.field-0-0 in
    let damaged = c.follow_records.ensures.damaged at (c.in-Err-Malformed.is ∙ ap (λ (f : CodecFault). Err f) c.in-Err-Malformed.field-0-is) in
    (refl, (copy, c.in_ok-copy.ensures.tried, λ events spells allowed. not_damaged_in copy c.args.fresh.now at events spells allowed damaged))
