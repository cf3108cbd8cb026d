use Rattle.std.proofs.Common.{arith}
use Rattle.bac_tags.proofs.Numbers.{number_small}
use Rattle.bac_tags.proofs.unsigned.unsigned_of.Goals as goal

pub overflow_cast-result : goal.overflow_cast-result
overflow_cast-result c =
    omega (arith, number_small c.args.content.now (λ i. omega (arith, c.type_inv.content i)) c.requires.short, c.read_uint.ensures)
