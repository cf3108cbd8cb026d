-- Packets in octets: records of events, or a piece of a snapshot. Numbers stand with their high octet first.
use Rattle.std.specs.Prelude.{◌≡◌, ◌≢◌, ℕ, ◌+◌, ◌^◌, ◌<◌, ◌≤◌, All, List, ◌∷◌, ◌++◌, length}
use Rattle.std.specs.Int.{w16, w32, w64, to_be_bytes}
use Rattle.alarm_core.specs.declared.event.Event.{Event}
use Rattle.state_codec.specs.Contents.{records_of}
use Rattle.state_codec.specs.Records.{HasRecord}
use Rattle.standby.specs.declared.packet.PieceFrame.{PieceFrame}

-- the number of a packet's kind is its first octet
abbrev pub records_kind : ℕ
records_kind = 1

abbrev pub piece_kind : ℕ
piece_kind = 2

-- a packet has at most so many octets of records, or of a snapshot
abbrev pub most_packet_octets : ℕ
most_packet_octets = 1_400

-- octets behind how many they are
abbrev pub written_body : List ℕ → List ℕ
written_body octets = to_be_bytes w16 (length octets) ++ octets

-- records, so many, behind a number of events
abbrev pub written_records : ℕ → ℕ → List ℕ → List ℕ
written_records before count records = records_kind ∷ (to_be_bytes w64 before ++ (to_be_bytes w16 count ++ written_body records))

-- a piece of a snapshot: how many events the snapshot tells of, how long the whole is, at which of its places the piece begins, and its octets
pub record PieceData : Type 0 where
  pub events : ℕ
  pub whole : ℕ
  pub place : ℕ
  pub octets : List ℕ

abbrev pub written_piece : PieceData → List ℕ
written_piece piece = piece_kind ∷ (to_be_bytes w64 piece.events ++ (to_be_bytes w32 piece.whole ++ (to_be_bytes w32 piece.place ++ written_body piece.octets)))

-- the octets are the packet of these events, of which there is one at least, behind so many others
pub record SpellsRecords (octets : List ℕ) (before : ℕ) (events : List Event) : Type 0 where
  pub octets_are : octets ≡ written_records before (length events) (records_of events)
  pub number : before < 2 ^ 64
  pub some : 1 ≤ length events
  pub short : length (records_of events) ≤ most_packet_octets
  pub have : All HasRecord events

-- the octets are the packet of this piece, which lies within the whole, and the whole is no longer than the bound
pub record SpellsPiece (bound : ℕ) (octets : List ℕ) (piece : PieceData) : Type 0 where
  pub octets_are : octets ≡ written_piece piece
  pub number : piece.events < 2 ^ 64
  pub bounded : piece.whole ≤ bound
  pub within : piece.place + length piece.octets ≤ piece.whole
  pub short : length piece.octets ≤ most_packet_octets

-- the octets are no packet
pub record SpellsNoPacket (bound : ℕ) (octets : List ℕ) : Type 0 where
  pub records : (before : ℕ) (events : List Event) → ¬ SpellsRecords octets before events
  pub piece : (piece : PieceData) → ¬ SpellsPiece bound octets piece

-- ---- as the program reads them: not yet looked at is what the records are, and how the piece lies in the whole

-- a piece, as it was read
abbrev pub piece_seen : PieceFrame → PieceData
piece_seen frame = record { events = frame.events; whole = frame.whole; place = frame.place; octets = frame.octets.now }

-- the octets are those of no records, whatever is counted
abbrev pub IsNoRecords : List ℕ → Type 0
IsNoRecords packet =
    (before count : ℕ) (records : List ℕ) → before < 2 ^ 64 → count < 2 ^ 16 → length records ≤ most_packet_octets → packet ≢ written_records before count records

-- the octets are those of no piece, whatever it is of
abbrev pub IsNoPiece : List ℕ → Type 0
IsNoPiece packet =
    (piece : PieceData) → piece.events < 2 ^ 64 → piece.whole < 2 ^ 32 → piece.place < 2 ^ 32 → length piece.octets ≤ most_packet_octets → packet ≢ written_piece piece
