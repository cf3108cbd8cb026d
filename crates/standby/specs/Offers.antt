-- What a leader offers: its snapshot in pieces, where the follower lacks events that come before its records, and behind it its records from the first that the follower lacks, as many of them in each packet as fit.
use Rattle.std.specs.Prelude.{◌≡◌, ◌<◌, ◌≤◌, ◌==◌, ◌++◌, ℕ, ◌+◌, ◌-◌, ◌^◌, nat_lt, if◌then◌else◌, Option, Some, None, IfSome, List, [], ◌∷◌, length, reverse, slice_index}
use Rattle.std.specs.Option.{option_map_or}
use Rattle.ground_io.specs.Disk.{octets_at}
use Rattle.alarm_core.specs.declared.event.Event.{Event}
use Rattle.alarm_core.specs.declared.site.Site.{Site}
use Rattle.state_codec.specs.Contents.{IsSnapshotAfter, SpellsEvents}
use Rattle.state_codec.specs.Records.{SpellsEvent, written_event}
use Rattle.standby.specs.Packets.{PieceData, most_packet_octets, written_piece, written_records}

-- How far a leader has come: how many events come before its records, and the snapshot of the state after them; the records, and where each of them ends; where the next piece begins, while the snapshot is offered; and how many records lie behind it.
pub record LeaderState : Type 0 where
  pub events : ℕ
  pub snapshot : List ℕ
  pub records : List ℕ
  pub ends : List ℕ
  pub place : Option ℕ
  pub next : ℕ

-- where each of some records ends that stand one behind the other
abbrev pub ends_from : ℕ → List Event → List ℕ
ends_from at [] = []
ends_from at (event ∷ events) = (at + length (written_event event)) ∷ ends_from (at + length (written_event event)) events

-- records end at these places
pub record AreEnds (records : List ℕ) (ends : List ℕ) : Type 0 where
  pub events : List Event
  pub spells : SpellsEvents records events
  pub ends_are : ends ≡ ends_from 0 events

-- where the record with a number begins: behind the one before it
abbrev pub start_of : List ℕ → ℕ → ℕ
start_of ends number = if number == 0 then 0 else slice_index ends (number - 1)

-- the octets of the records from one number up to another one
abbrev pub records_between : LeaderState → ℕ → ℕ → List ℕ
records_between leader first last = octets_at (start_of leader.ends first) (start_of leader.ends last - start_of leader.ends first) leader.records

-- ---- what it hears

-- A follower has so many events. Where the snapshot has more, all of it is offered first.
abbrev pub heard_by : ℕ → LeaderState → LeaderState
heard_by known leader =
    if nat_lt known leader.events then record leader { place = Some 0; next = 0 } else record leader { place = None; next = known - leader.events }

-- ---- what it offers next

-- the piece from a place on, which is as long as a packet takes, or the last one
abbrev pub piece_from : LeaderState → ℕ → PieceData
piece_from leader place = record { events = leader.events; whole = length leader.snapshot; place = place; octets = octets_at place most_packet_octets leader.snapshot }

abbrev pub behind_piece : LeaderState → ℕ → LeaderState
behind_piece leader place = record leader { place = if nat_lt (place + most_packet_octets) (length leader.snapshot) then Some (place + most_packet_octets) else None }

-- so many records from the next one on are as many as fit into a packet
pub record AreAsManyAsFit (leader : LeaderState) (count : ℕ) : Type 0 where
  pub some : 1 ≤ count
  pub there : leader.next + count ≤ length leader.ends
  pub fit : length (records_between leader leader.next (leader.next + count)) ≤ most_packet_octets
  pub no_more : leader.next + count < length leader.ends → most_packet_octets < length (records_between leader leader.next (leader.next + count + 1))

abbrev pub records_packet : LeaderState → ℕ → List ℕ
records_packet leader count = written_records (leader.events + leader.next) count (records_between leader leader.next (leader.next + count))

-- the next packet, and how far the leader has come then; none exactly where all was offered
pub data OffersNext (old : LeaderState) (packet : Option (List ℕ)) (new : LeaderState) : Type 0 where
  NextPiece : (place : ℕ) → old.place ≡ Some place → packet ≡ Some (written_piece (piece_from old place)) → new ≡ behind_piece old place → OffersNext old packet new
  NextRecords : (count : ℕ) → old.place ≡ None → AreAsManyAsFit old count → packet ≡ Some (records_packet old count) → new ≡ record old { next = old.next + count } → OffersNext old packet new
  NothingMore : old.place ≡ None → length old.ends ≤ old.next → packet ≡ None → new ≡ old → OffersNext old packet new

-- how much is left to be offered: the octets of the snapshot from the place on, and the records from the next one on
abbrev pub left_of : LeaderState → ℕ
left_of leader = option_map_or (λ place. length leader.snapshot - place) leader.place 0 + (length leader.ends - leader.next)

-- ---- what it is made of

-- a leader of a snapshot of so many events and of whole records, who has heard of no event yet
pub record IsLeaderOf (events : ℕ) (snapshot records : List ℕ) (leader : LeaderState) : Type 0 where
  pub later : List Event
  pub spells : SpellsEvents records later
  pub leads : leader ≡ heard_by 0 (record { events = events; snapshot = snapshot; records = records; ends = ends_from 0 later; place = None; next = 0 })

-- What is so of every leader: the records are those of some events, and end where it has it; the number of each event fits; there is a snapshot where events come before the records, and a piece begins within it.
pub record IsLeader (leader : LeaderState) : Type 0 where
  pub ends : AreEnds leader.records leader.ends
  pub number : leader.events + length leader.ends < 2 ^ 64
  pub whole : length leader.snapshot < 2 ^ 32
  pub some : leader.snapshot ≡ [] → leader.events ≡ 0
  pub within : IfSome leader.place (λ place. place < length leader.snapshot)

-- octets are whole records up to this offset, and there is none there
pub record IsCutAt (octets : List ℕ) (at : ℕ) : Type 0 where
  pub events : List Event
  pub front : List ℕ
  pub rest : List ℕ
  pub octets_are : octets ≡ front ++ rest
  pub spells : SpellsEvents front events
  pub place : at ≡ length front
  pub some : 0 < length rest
  pub none : (event : Event) (first more : List ℕ) → rest ≡ first ++ more → SpellsEvent first event → ⊥

-- A leader has a history, whose newest event is the first: the snapshot is that of the state after the older events, and the records are those of the others.
pub record LeadsFor (site : Site) (history : List Event) (leader : LeaderState) : Type 0 where
  pub older : List Event
  pub later : List Event
  pub together : history ≡ reverse later ++ older
  pub events : leader.events ≡ length older
  pub snapshot : IsSnapshotAfter site older leader.snapshot
  pub records : SpellsEvents leader.records later
  pub ends : leader.ends ≡ ends_from 0 later
