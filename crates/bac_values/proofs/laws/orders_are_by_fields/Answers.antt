use Rattle.bac_values.proofs.Orders.{identifiers, stations, peers}
use Rattle.bac_values.proofs.laws.orders_are_by_fields.Goals as goal

pub returns : goal.returns
returns c = record { identifiers = identifiers; stations = stations; peers = peers }
