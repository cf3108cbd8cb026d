use Rattle.std.proofs.Common.{ℕ, List, ◌++◌, ap}
use Rattle.std.proofs.lemmas.Result.{IfOk-equal}
use Rattle.bac_tags.specs.Writing.{written_element}
use Rattle.bac_tags.proofs.WrittenElements.{bits_written, bits_from_64}
use Rattle.bac_tags.proofs.bits.write_bits.Goals as goal

pub returns-clause-written : goal.returns-clause-written
returns-clause-written c =
    let content = bits_from_64 c.args.bits.size c.args.bits.bits c.length-size.result c.bits.result c.mirrored.result c.from.result c.to_be_bytes-octets.result c.length-size.ensures.length c.bits.ensures.bits c.mirrored.ensures.value c.from.ensures c.to_be_bytes-octets.ensures c.bits.ensures.range in
    IfOk-equal c.write_element.result _ _ _ c.write_element.ensures.written (ap (λ (octets : List ℕ). c.args.out.now.items ++ written_element 8 c.args.context octets) content)

pub returns-clause-spelled : goal.returns-clause-spelled
returns-clause-spelled c = bits_written c.args.context c.args.bits c.bits.ensures.range
