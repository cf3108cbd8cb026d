use Rattle.std.proofs.Common.{sym, subst, arith, FitsSigned, w32, w64}
use Rattle.std.proofs.lemmas.Int.{ints, to_z-of_z}
use Rattle.bac_tags.proofs.Numbers.{signed_small}
use Rattle.bac_tags.proofs.signed.signed_of.Goals as goal

pub overflow_cast-result : goal.overflow_cast-result
overflow_cast-result c =
    let fits : FitsSigned w32 c.read_int.result = subst (FitsSigned w32) (sym c.read_int.ensures) (signed_small c.args.content.now (λ i. omega (arith, c.type_inv.content i)) c.requires.some c.requires.short) in
    omega (arith, ints)

pub returns : goal.returns
returns c =
    let fits : FitsSigned w32 c.read_int.result = subst (FitsSigned w32) (sym c.read_int.ensures) (signed_small c.args.content.now (λ i. omega (arith, c.type_inv.content i)) c.requires.some c.requires.short) in
    let wide : FitsSigned w64 c.read_int.result = omega (arith, ints) in
    rw (to_z-of_z w64 c.read_int.result wide, to_z-of_z w32 c.read_int.result fits) c.read_int.ensures
