use Rattle.bac_tags.proofs.BitOrder.{bits_in_order}
use Rattle.bac_tags.proofs.round_trip.bits_in_order.Goals as goal

pub returns : goal.returns
returns c = bits_in_order
