-- The peers that are known.
use Rattle.std.specs.Prelude.{IsTrue, List}
use Rattle.std.specs.List.{All}
use Rattle.bac_values.specs.Address.{PeerData}
use Rattle.bac_values.specs.Orders.{is_among}
use Rattle.notify_class.specs.declared.class.Class.{Class}
use Rattle.notify_class.specs.Edits.{recipient_peers}

abbrev pub Knows : List PeerData → PeerData → Type 0
Knows known peer = IsTrue (is_among known peer)

-- each recipient of a class is known
abbrev pub KnowsClass : List PeerData → Class → Type 0
KnowsClass known class = All (Knows known) (recipient_peers class.destinations)
