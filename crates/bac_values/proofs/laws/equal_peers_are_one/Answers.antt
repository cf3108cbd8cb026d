use Rattle.bac_values.proofs.Orders.{compared, one}
use Rattle.bac_values.proofs.laws.equal_peers_are_one.Goals as goal

pub returns : goal.returns
returns c = record { compared = compared; one = one }
