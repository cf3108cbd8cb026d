use Rattle.std.proofs.Common.{◌-◌, ◌*◌, length, arith}
use Rattle.bac_tags.proofs.Mirror.{used_small}
use Rattle.bac_tags.proofs.bits.string_of.Goals as goal

pub mirrored-requires-clause-fits : goal.mirrored-requires-clause-fits
mirrored-requires-clause-fits c =
    rw c.number_in.ensures (used_small c.args.octets.now c.args.unused (8 * length c.args.octets.now - c.args.unused) (λ i. omega (arith, c.type_inv.octets i)) (omega (arith, c.requires.there)))
