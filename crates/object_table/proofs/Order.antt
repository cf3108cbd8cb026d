-- Identifiers: which are one by their order.
use Rattle.std.proofs.Common.{arith, ◌≡◌, true, false}
use Rattle.std.proofs.lemmas.Bool.Decides.{nat_tests}
use Rattle.std.specs.declared.cmp.Ordering.TheVariants.{Less, Equal, Greater}
use Rattle.bac_values.specs.Identifier.{ObjectIdData}
use Rattle.bac_values.specs.Orders.{identifier_order}
use Rattle.object_table.specs.Rows.{is_object}

-- identifiers that compare as equal are one
pub equal_is_object : (a b : ObjectIdData) → identifier_order a b ≡ Equal → is_object b a ≡ true
equal_is_object a b h = grind (arith, nat_tests)

-- an identifier that is below another, or above it, is another
pub less_is_other : (a b : ObjectIdData) → identifier_order a b ≡ Less → is_object b a ≡ false
less_is_other a b h = grind (arith, nat_tests)

pub greater_is_other : (a b : ObjectIdData) → identifier_order a b ≡ Greater → is_object b a ≡ false
greater_is_other a b h = grind (arith, nat_tests)

pub above : (a b : ObjectIdData) → identifier_order a b ≡ Less → identifier_order b a ≡ Greater
above a b h = grind (arith, nat_tests)
