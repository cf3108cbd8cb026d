-- How the fields of a packet are read: the value at the front of octets and the octets behind it, or nothing.
use Rattle.std.specs.Prelude.{◌==◌, ℕ, nat_le, Option, Some, List}
use Rattle.std.specs.Int.{w16, w32, w64}
use Rattle.state_codec.specs.ReadingSteps.{then_at, last_at, either_at, nothing_at, number_at, octet_at, octets_at}
use Rattle.standby.specs.Packets.{PieceData, most_packet_octets, piece_kind, records_kind}
use Rattle.standby.specs.declared.packet.RecordsFrame.{RecordsFrame}

-- octets behind how many they are
unfoldable pub body_at : List ℕ → Option (List ℕ × List ℕ)
body_at = then_at (number_at w16) λ count. either_at (nat_le count most_packet_octets) (octets_at count) nothing_at

-- a packet of records: how many events come before them, how many records there are, and their octets
pub record RecordsData : Type 0 where
  pub before : ℕ
  pub count : ℕ
  pub octets : List ℕ

abbrev pub records_seen : RecordsFrame → RecordsData
records_seen frame = record { before = frame.before; count = frame.count; octets = frame.octets.now }

unfoldable pub records_at : List ℕ → Option (RecordsData × List ℕ)
records_at = then_at (number_at w64) λ before. then_at (number_at w16) λ count. last_at body_at λ octets. Some (record { before = before; count = count; octets = octets })

unfoldable pub piece_at : List ℕ → Option (PieceData × List ℕ)
piece_at = then_at (number_at w64) λ events. then_at (number_at w32) λ whole. then_at (number_at w32) λ place. last_at body_at λ octets. Some (record { events = events; whole = whole; place = place; octets = octets })

-- the same behind the octet that tells the kind
unfoldable pub records_packet_at : List ℕ → Option (RecordsData × List ℕ)
records_packet_at = then_at octet_at λ kind. either_at (kind == records_kind) records_at nothing_at

unfoldable pub piece_packet_at : List ℕ → Option (PieceData × List ℕ)
piece_packet_at = then_at octet_at λ kind. either_at (kind == piece_kind) piece_at nothing_at
