-- Reading a datagram from left to right: a step answers what it read and the octets behind it.
use Rattle.std.specs.Prelude.{◌≡◌, ℕ, ◌-◌, List, [], length, drop, take, slice_index, not, ◌&&◌, Option, Some, None, nat_lt, ◌==◌, if◌then◌else◌}
use Rattle.byteorder.specs.Endian.{big_number}
use Rattle.bac_values.specs.Address.{PeerData}
use Rattle.bvlc_npdu.specs.declared.reading.Incoming.{Incoming}
use Rattle.bvlc_npdu.specs.Frame.{has_bit}

infixl 10 ◌>>=◌
abbrev pub ◌>>=◌ : {A B : Type 0} → Option A → (A → Option B) → Option B
None >>= f = None
(Some x) >>= f = f x

-- what a function answered, seen by view, is what reading gives
abbrev pub Answers : {X Y : Type 0} → (X → Y) → Option X → Option Y → Type 0
Answers view None read = read ≡ None
Answers view (Some x) read = read ≡ Some (view x)

-- the octets behind the first so many
abbrev pub past : ℕ → List ℕ → Option (List ℕ)
past count octets = if nat_lt (length octets) count then None else Some (drop count octets)

-- the function of a message, and what it carries
unfoldable pub message_at : List ℕ → Option (ℕ × List ℕ)
message_at octets =
    if nat_lt (length octets) 4 then None
    else if slice_index octets 0 == 0x81 && big_number 2 (drop 2 octets) == length octets then Some (slice_index octets 1, drop 4 octets)
    else None

-- the device that a Forwarded-NPDU names, and the NPDU
unfoldable pub forwarded_at : List ℕ → Option (PeerData × List ℕ)
forwarded_at content =
    if nat_lt (length content) 6 then None
    else Some (record { ip = big_number 4 content; port = big_number 2 (drop 4 content); net = 0; mac = [] }, drop 6 content)

-- the device from which the NPDU comes, and the NPDU
unfoldable pub origin_at : PeerData → ℕ → List ℕ → Option (PeerData × List ℕ)
origin_at sender function content =
    if function == 0x0a then Some (sender, content)
    else if function == 0x0b then Some (sender, content)
    else if function == 0x04 then forwarded_at content
    else None

-- the octets behind a destination that is there
unfoldable pub after_global_broadcast : List ℕ → Option (List ℕ)
after_global_broadcast octets =
    if nat_lt (length octets) 3 then None
    else if big_number 2 octets == 0xffff then past (slice_index octets 2) (drop 3 octets)
    else None

-- the octets behind the destination
unfoldable pub after_destination : ℕ → List ℕ → Option (List ℕ)
after_destination control octets = if has_bit control 5 then after_global_broadcast octets else Some octets

-- the network and the station of a source that is there
unfoldable pub station_at : List ℕ → Option (ℕ × List ℕ × List ℕ)
station_at octets =
    if nat_lt (length octets) 3 then None
    else
    let net = big_number 2 octets in
    let size = slice_index octets 2 in
    if net == 0 then None
    else if size == 0 then None
    else if nat_lt 7 size then None
    else if nat_lt (length (drop 3 octets)) size then None
    else Some (net, take size (drop 3 octets), drop size (drop 3 octets))

-- the peer: the device itself, or the station behind it
unfoldable pub source_at : ℕ → PeerData → List ℕ → Option (PeerData × List ℕ)
source_at control origin octets =
    if has_bit control 3 then (station_at octets >>= λ s. Some (record origin { net = s.0; mac = s.1 }, s.2))
    else Some (origin, octets)

-- the octets behind the hop count
unfoldable pub after_hop_count : ℕ → List ℕ → Option (List ℕ)
after_hop_count control octets = if has_bit control 5 then past 1 octets else Some octets

-- the peer and the APDU, behind the control octet
unfoldable pub addressed_at : PeerData → ℕ → List ℕ → Option (PeerData × List ℕ)
addressed_at origin control octets = do
  rest ← after_destination control octets
  source ← source_at control origin rest
  apdu ← after_hop_count control source.1
  Some (source.0, apdu)

-- the peer and the APDU of an NPDU
unfoldable pub npdu_at : PeerData → List ℕ → Option (PeerData × List ℕ)
npdu_at origin octets =
    if nat_lt (length octets) 2 then None
    else if slice_index octets 0 == 1 && not (has_bit (slice_index octets 1) 7) then addressed_at origin (slice_index octets 1) (drop 2 octets)
    else None

-- the peer and the APDU of a datagram
unfoldable pub frame_at : PeerData → List ℕ → Option (PeerData × List ℕ)
frame_at sender octets = do
  message ← message_at octets
  carried ← origin_at sender message.0 message.1
  found ← npdu_at carried.0 carried.1
  if found.0.port == 0 then None else Some found

-- the peer, and where the APDU begins
abbrev pub incoming_at : PeerData → List ℕ → Option Incoming
incoming_at sender octets = frame_at sender octets >>= λ found. Some (record { peer = found.0; start = length octets - length found.1 })
