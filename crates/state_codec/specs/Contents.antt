-- Which history of its site a journal holds.
use Rattle.std.specs.Prelude.{◌≡◌, ℕ, List, [], ◌∷◌, ◌++◌, All, reverse}
use Rattle.std.specs.List.{flat_map}
use Rattle.alarm_core.specs.declared.event.Event.{Event}
use Rattle.alarm_core.specs.declared.site.Site.{Site}
use Rattle.alarm_core.specs.Allowed.{IsHistory}
use Rattle.alarm_core.specs.Fits.{FitsEvent}
use Rattle.alarm_core.specs.State.{state_of}
use Rattle.alarm_journal.specs.Journal.{Content, OpensTo}
use Rattle.alarm_journal.specs.Journal.{Site as Journal}
use Rattle.state_codec.specs.Records.{HasRecord, written_event}
use Rattle.state_codec.specs.Spelled.{SpellsState}

-- the records of events, the oldest first
abbrev pub records_of : List Event → List ℕ
records_of events = flat_map written_event events

-- octets are the records of events
pub record SpellsEvents (octets : List ℕ) (events : List Event) : Type 0 where
  pub octets_are : octets ≡ records_of events
  pub have : All HasRecord events

-- each body is the records of some of the events, in their order
abbrev pub SpellEvents : List (List ℕ) → List Event → Type 0
SpellEvents [] events = events ≡ []
SpellEvents (body ∷ bodies) events = (first : List Event) × (later : List Event) × (events ≡ first ++ later) × SpellsEvents body first × SpellEvents bodies later

-- a snapshot is that of the state after a history; where there is none, there was no event
abbrev pub IsSnapshotAfter : Site → List Event → List ℕ → Type 0
IsSnapshotAfter site older [] = older ≡ []
IsSnapshotAfter site older snapshot = SpellsState site snapshot (state_of site older)

-- A content stands for a history, whose newest event is the first and whose values fit their types: the snapshot is that of its state after the older events, and the bodies are the records of the others.
pub record StandsForHistory (site : Site) (content : Content) (history : List Event) : Type 0 where
  pub is_history : IsHistory site history
  pub fit : All FitsEvent history
  pub older : List Event
  pub later : List Event
  pub together : history ≡ reverse later ++ older
  pub snapshot : IsSnapshotAfter site older content.snapshot
  pub records : SpellEvents content.bodies later

-- an image opens to a content that stands for a history
pub record ImageStands (journal : Journal) (site : Site) (image : List ℕ) (history : List Event) : Type 0 where
  pub content : Content
  pub opens : OpensTo journal image content
  pub stands : StandsForHistory site content history
