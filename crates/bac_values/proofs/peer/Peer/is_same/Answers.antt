use Rattle.std.proofs.Common.{rules}
use Rattle.bac_values.proofs.Orders.{compared}
use Rattle.bac_values.proofs.peer.Peer.is_same.Goals as goal

pub returns : goal.returns
returns c = search (rules, compared)
