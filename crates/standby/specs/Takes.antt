-- What a follower answers to a packet, and what it makes of it.
use Rattle.std.specs.Prelude.{◌≡◌, ℕ, ◌+◌, ◌-◌, ◌<◌, ◌≤◌, ◌==◌, ◌&&◌, Option, Some, None, List, ◌++◌, length, drop, if◌then◌else◌}
use Rattle.alarm_core.specs.declared.event.Event.{Event}
use Rattle.alarm_core.specs.Following.{AreAllowed, state_over}
use Rattle.alarm_core.specs.SiteStates.{IsStateOf}
use Rattle.alarm_core.specs.State.{CoreState}
use Rattle.state_codec.specs.Sizes.{snapshot_bound}
use Rattle.state_codec.specs.Snapshots.{written_state}
use Rattle.state_codec.specs.Spelled.{SpellsState}
use Rattle.standby.specs.Packets.{PieceData, SpellsNoPacket, SpellsPiece, SpellsRecords}
use Rattle.standby.specs.declared.took.Took.{Took}
use Rattle.standby.specs.declared.took.Took.TheVariants.{Malformed, Gap, Repeat, Part, Taken}

-- a snapshot that is being gathered: how many events it tells of, how long the whole is, and its octets so far
pub record Gathering : Type 0 where
  pub events : ℕ
  pub whole : ℕ
  pub octets : List ℕ

-- how far a follower has come: its core, and the snapshot that it gathers, if it does
pub record Following : Type 0 where
  pub core : CoreState
  pub gathering : Option Gathering

abbrev pub following : CoreState → Option Gathering → Following
following core gathering = record { core = core; gathering = gathering }

-- ---- records

-- The state on which records are tried: one of the site that has the snapshot of the follower's own and as many events, and this very one where it is one that the site may have.
pub record IsTriedOn (core base : CoreState) : Type 0 where
  pub snapshot : SpellsState core.site (written_state core) base
  pub events : base.events ≡ core.events
  pub own : IsStateOf core.site core → base ≡ core

-- the events of a packet past those that are known; which those are isn't looked at
abbrev pub fresh_events : ℕ → ℕ → List Event → List Event
fresh_events known before events = drop (known - before) events

-- a packet goes on from what is known: it begins no later, and holds more
abbrev pub GoesOn : ℕ → ℕ → List Event → Type 0
GoesOn known before events = (before ≤ known) × (known < before + length events)

-- what is answered to the records of events behind so many others, and how far the follower has come then
abbrev pub TakesRecords : Following → ℕ → List Event → Took → Following → Type 0
TakesRecords old before events (Gap known) new = (known ≡ old.core.events) × (known < before) × (new ≡ old)
TakesRecords old before events (Repeat known) new = (known ≡ old.core.events) × (before + length events ≤ known) × (new ≡ old)
TakesRecords old before events Malformed new =
    GoesOn old.core.events before events × ((base : CoreState) × IsTriedOn old.core base × ¬ AreAllowed base (fresh_events old.core.events before events)) × (new ≡ old)
TakesRecords old before events (Taken known) new =
    GoesOn old.core.events before events × (known ≡ before + length events)
    × ((base : CoreState) × IsTriedOn old.core base × AreAllowed base (fresh_events old.core.events before events)
    × (new ≡ following (state_over base (fresh_events old.core.events before events)) old.gathering))
TakesRecords old before events (Part place) new = ⊥

-- ---- pieces of a snapshot

-- the octets so far with a piece that goes on where they end, of the same snapshot
abbrev pub gathered_on : Gathering → PieceData → Option (List ℕ)
gathered_on gathering piece =
    if gathering.events == piece.events && (gathering.whole == piece.whole && length gathering.octets == piece.place) then Some (gathering.octets ++ piece.octets) else None

abbrev pub gathered_by : Option Gathering → PieceData → Option (List ℕ)
gathered_by None piece = None
gathered_by (Some gathering) piece = gathered_on gathering piece

-- the octets so far with a piece: one at place 0 begins anew, and every other one has to go on
abbrev pub gathered : Option Gathering → PieceData → Option (List ℕ)
gathered gathering piece = if piece.place == 0 then Some piece.octets else gathered_by gathering piece

abbrev pub gathering_of : PieceData → List ℕ → Option Gathering
gathering_of piece octets = Some (record { events = piece.events; whole = piece.whole; octets = octets })

-- what is answered to a piece of a snapshot
abbrev pub TakesPiece : Following → PieceData → Took → Following → Type 0
TakesPiece old piece (Repeat known) new = (known ≡ old.core.events) × (piece.events ≤ known) × (new ≡ old)
TakesPiece old piece (Gap known) new = (known ≡ old.core.events) × (known < piece.events) × (gathered old.gathering piece ≡ None) × (new ≡ old)
TakesPiece old piece (Part place) new =
    (old.core.events < piece.events) × ((octets : List ℕ) × (gathered old.gathering piece ≡ Some octets) × (length octets < piece.whole)
    × (place ≡ length octets) × (new ≡ following old.core (gathering_of piece octets)))
TakesPiece old piece Malformed new =
    (old.core.events < piece.events) × ((octets : List ℕ) × (gathered old.gathering piece ≡ Some octets) × (length octets ≡ piece.whole)
    × ((state : CoreState) → SpellsState old.core.site octets state → state.events ≡ piece.events → ⊥) × (new ≡ following old.core None))
TakesPiece old piece (Taken known) new =
    (old.core.events < piece.events) × (known ≡ piece.events) × ((octets : List ℕ) × (state : CoreState) × (gathered old.gathering piece ≡ Some octets) × (length octets ≡ piece.whole)
    × SpellsState old.core.site octets state × (state.events ≡ piece.events) × (new ≡ following state None))

-- ---- packets

-- the table: what is answered to octets, and how far the follower has come then
pub data Takes (old : Following) (octets : List ℕ) (took : Took) (new : Following) : Type 0 where
  OfNoPacket : SpellsNoPacket (snapshot_bound old.core.site) octets → took ≡ Malformed → new ≡ old → Takes old octets took new
  OfRecords : (before : ℕ) (events : List Event) → SpellsRecords octets before events → TakesRecords old before events took new → Takes old octets took new
  OfPiece : (piece : PieceData) → SpellsPiece (snapshot_bound old.core.site) octets piece → TakesPiece old piece took new → Takes old octets took new
