-- Which datagrams are taken: those that are a message of BACnet/IP (ANSI/ASHRAE 135-2020, annex J.2) with an NPDU (6.2), and in that an APDU for this device.
use Rattle.std.specs.Prelude.{◌≡◌, ℕ, ◌^◌, ◌<◌, ◌≤◌, ◌⊎◌, Bool, false, not, ◌==◌, List, [], ◌∷◌, ◌++◌, length, bit_and}
use Rattle.std.specs.Bool.{MatchBool}
use Rattle.std.specs.Int.{bytes_high_first}
use Rattle.bac_values.specs.Address.{PeerData}

-- whether a bit of an octet is set; bit 0 is the lowest
abbrev pub has_bit : ℕ → ℕ → Bool
has_bit octet k = not (bit_and octet (2 ^ k) == 0)

-- J.2: a message is the type X'81', the function, the length of the whole message in two octets, and what the function carries
pub record IsMessage (octets : List ℕ) (function : ℕ) (content : List ℕ) : Type 0 where
  pub spelled : octets ≡ 0x81 ∷ function ∷ bytes_high_first 2 (length octets) ++ content
  pub fits : length octets < 2 ^ 16

-- J.2.11 and J.2.12: Original-Unicast-NPDU, X'0A', and Original-Broadcast-NPDU, X'0B', carry an NPDU of their sender
pub record IsOriginal (sender : PeerData) (function : ℕ) (content : List ℕ) (origin : PeerData) (npdu : List ℕ) : Type 0 where
  pub named : (function ≡ 0x0a) ⊎ (function ≡ 0x0b)
  pub from : origin ≡ sender
  pub spelled : content ≡ npdu

-- J.2.5: Forwarded-NPDU, X'04', carries the IP address and the port of the device that sent the NPDU first, and the NPDU
pub record IsForwarded (function : ℕ) (content : List ℕ) (origin : PeerData) (npdu : List ℕ) : Type 0 where
  pub named : function ≡ 0x04
  pub local : (origin.net ≡ 0) × (origin.mac ≡ [])
  pub spelled : content ≡ bytes_high_first 4 origin.ip ++ (bytes_high_first 2 origin.port ++ npdu)
  pub fits : (origin.ip < 2 ^ 32) × (origin.port < 2 ^ 16)

-- a function carries an NPDU that comes from this device of the IP network; other functions carry none
abbrev pub IsCarried : PeerData → ℕ → List ℕ → PeerData → List ℕ → Type 0
IsCarried sender function content origin npdu = IsOriginal sender function content origin npdu ⊎ IsForwarded function content origin npdu

-- 6.2.2: a destination is its network, the length of its address there, and this address. This device takes a global broadcast alone, network X'FFFF', whatever the address
abbrev pub IsGlobalBroadcast : List ℕ → Type 0
IsGlobalBroadcast octets = (address : List ℕ) × (octets ≡ bytes_high_first 2 0xffff ++ length address ∷ address)

-- 6.2.2: a source is its network, which isn't 0, the length of the station's address there, which isn't 0, and this address, here of seven octets at most
pub record IsStation (octets : List ℕ) (net : ℕ) (mac : List ℕ) : Type 0 where
  pub spelled : octets ≡ bytes_high_first 2 net ++ length mac ∷ mac
  pub remote : (0 < net) × (net < 2 ^ 16)
  pub short : (0 < length mac) × (length mac ≤ 7)

-- bit 5 of the control octet: a destination stands there
abbrev pub IsDestination : ℕ → List ℕ → Type 0
IsDestination control octets = MatchBool (has_bit control 5) (IsGlobalBroadcast octets) (octets ≡ [])

-- bit 3: a source stands there, and then the peer is this station, behind the device from which the NPDU comes; otherwise it is the device itself
abbrev pub IsSource : ℕ → List ℕ → PeerData → PeerData → Type 0
IsSource control octets origin peer = MatchBool (has_bit control 3)
    ((net : ℕ) × (mac : List ℕ) × IsStation octets net mac × (peer ≡ record origin { net = net; mac = mac }))
    ((octets ≡ []) × (peer ≡ origin))

-- bit 5 again: an octet of hop count stands there
abbrev pub IsHopCount : ℕ → List ℕ → Type 0
IsHopCount control octets = MatchBool (has_bit control 5) (length octets ≡ 1) (octets ≡ [])

-- 6.2: an NPDU is the version, 1, the control octet, whose bit 7 marks a message of the network layer, then destination, source and hop count, and the APDU
pub record IsNpdu (octets : List ℕ) (origin peer : PeerData) (apdu : List ℕ) : Type 0 where
  pub control : ℕ
  pub destination : List ℕ
  pub source : List ℕ
  pub hops : List ℕ
  pub spelled : octets ≡ 0x01 ∷ control ∷ destination ++ (source ++ (hops ++ apdu))
  pub carries_apdu : has_bit control 7 ≡ false
  pub goes_to : IsDestination control destination
  pub comes_from : IsSource control source origin peer
  pub counts : IsHopCount control hops

-- a datagram that came from sender is taken as this APDU of this peer. A peer without a port can't be answered
pub record IsFrame (sender : PeerData) (octets : List ℕ) (peer : PeerData) (apdu : List ℕ) : Type 0 where
  pub function : ℕ
  pub content : List ℕ
  pub origin : PeerData
  pub npdu : List ℕ
  pub message : IsMessage octets function content
  pub carried : IsCarried sender function content origin npdu
  pub network : IsNpdu npdu origin peer apdu
  pub answerable : 0 < peer.port
