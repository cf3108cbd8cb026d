-- The orders of object identifiers, of stations and of peers, and lists of peers.
use Rattle.std.specs.Prelude.{◌≡◌, ℕ, ◌==◌, Bool, ◌&&◌, if◌then◌else◌, List, [], ◌∷◌, ◌++◌, length, filter, bytes_eq, AllPairs}
use Rattle.std.specs.List.{list_any}
use Rattle.std.specs.Ordering.{is_lt, nat_cmp, ordering_then}
use Rattle.std.specs.Cmp.Lexicographic.{slice_cmp}
use Rattle.std.specs.declared.cmp.Ordering.{Ordering}
use Rattle.std.specs.declared.cmp.Ordering.TheVariants.{Less}
use Rattle.bac_values.specs.Address.{PeerData}
use Rattle.bac_values.specs.Identifier.{ObjectIdData}

-- identifiers: by number, then by instance
abbrev pub identifier_order : ObjectIdData → ObjectIdData → Ordering
identifier_order first second = ordering_then (nat_cmp first.number second.number) (nat_cmp first.instance second.instance)

-- stations: by the number of octets, then by the octets, of which the first that differs decides
abbrev pub station_order : List ℕ → List ℕ → Ordering
station_order first second = ordering_then (nat_cmp (length first) (length second)) (slice_cmp nat_cmp first second)

-- peers: by ip, port, net and station
abbrev pub peer_order : PeerData → PeerData → Ordering
peer_order first second =
    ordering_then (nat_cmp first.ip second.ip)
    (ordering_then (nat_cmp first.port second.port)
    (ordering_then (nat_cmp first.net second.net)
    (station_order first.mac second.mac)))

-- whether two peers are one: all their fields are equal
abbrev pub is_same : PeerData → PeerData → Bool
is_same first second =
    first.ip == second.ip && (first.port == second.port && (first.net == second.net && bytes_eq first.mac second.mac))

-- whether a peer is among some
abbrev pub is_among : List PeerData → PeerData → Bool
is_among peers peer = list_any (λ other. is_same other peer) peers

-- each peer is below every later one
abbrev pub IsAscending : List PeerData → Type 0
IsAscending peers = AllPairs (λ earlier later. peer_order earlier later ≡ Less) peers

-- peers that ascend, and one more at its place
abbrev pub peer_with : PeerData → List PeerData → List PeerData
peer_with peer known =
    if is_among known peer then known
    else filter (λ other. is_lt (peer_order other peer)) known ++ peer ∷ filter (λ other. is_lt (peer_order peer other)) known

-- and others, one after the other
abbrev pub peers_with : List PeerData → List PeerData → List PeerData
peers_with [] known = known
peers_with (peer ∷ others) known = peers_with others (peer_with peer known)
