-- Where a peer is: an address of BACnet/IP (ANSI/ASHRAE 135-2020, annex J.1.2), and behind a router a network and a station on it (6.2.2).
use Rattle.std.specs.Prelude.{◌≡◌, ℕ, ◌-◌, ◌≤◌, List, [], ◌++◌, length, take, replicate}

-- the octets of a station's address in seven places; those behind them are 0
abbrev pub padded : List ℕ → List ℕ
padded octets = octets ++ replicate (7 - length octets) 0

-- so many octets, at most seven, stand in seven places
pub record IsPadded (size : ℕ) (octets : List ℕ) : Type 0 where
  pub short : size ≤ 7
  pub whole : length octets ≡ 7
  pub padding : octets ≡ padded (take size octets)

-- an address of BACnet/IP, and the network and the station there of a peer behind a router; network 0 is the local one, which has no stations of its own
pub record PeerData : Type 0 where
  pub ip : ℕ
  pub port : ℕ
  pub net : ℕ
  pub mac : List ℕ

-- on the local network there is no station behind the address
abbrev pub IsAddress : ℕ → List ℕ → Type 0
IsAddress net mac = net ≡ 0 → mac ≡ []

-- the console
abbrev pub console : PeerData
console = record { ip = 0; port = 0; net = 0; mac = [] }
