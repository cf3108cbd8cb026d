use Rattle.std.proofs.Common.{◌≡◌, None, length, refl, arith, rules}
use Rattle.bac_tags.specs.Stamps.{IsFour}
use Rattle.bac_tags.proofs.WrittenElements.{element_written}
use Rattle.bac_tags.proofs.time.write_time.Goals as goal

pub returns-clause-spelled : goal.returns-clause-spelled
returns-clause-spelled c =
    let four : length c.args.time ≡ 4 = search rules in
    element_written 11 None IsFour c.args.time c.args.time (omega arith) (four, refl)
