-- For which history a follower stands after a packet, where it stood for another one before it.
use Rattle.std.specs.Prelude.{◌≡◌, ◌⊎◌, ◌<◌, All, List, ◌++◌, length, reverse, ℕ}
use Rattle.alarm_core.specs.Allowed.{IsHistory, Represents}
use Rattle.alarm_core.specs.Fits.{FitsEvent}
use Rattle.alarm_core.specs.declared.event.Event.{Event}
use Rattle.alarm_core.specs.declared.site.Site.{Site}
use Rattle.bac_values.specs.Limits.{most_events}
use Rattle.state_codec.specs.Sizes.{snapshot_bound}
use Rattle.standby.specs.Packets.{PieceData, SpellsPiece, SpellsRecords}
use Rattle.standby.specs.Takes.{Following, Takes, fresh_events}
use Rattle.standby.specs.declared.took.Took.{Took}
use Rattle.standby.specs.declared.took.Took.TheVariants.{Taken}

-- a history of a site that the program can hold
pub record MayBe (site : Site) (history : List Event) : Type 0 where
  pub is_history : IsHistory site history
  pub fit : All FitsEvent history
  pub few : length history < most_events

-- with the events of a packet of records that the follower hadn't
pub record LeadsByRecords (old : Following) (octets : List ℕ) (before after : List Event) : Type 0 where
  pub first : ℕ
  pub events : List Event
  pub packet : SpellsRecords octets first events
  pub longer : after ≡ reverse (fresh_events old.core.events first events) ++ before

-- to any history that the state of a whole snapshot stands for
pub record LeadsBySnapshot (old : Following) (octets : List ℕ) (new : Following) (after : List Event) : Type 0 where
  pub piece : PieceData
  pub packet : SpellsPiece (snapshot_bound old.core.site) octets piece
  pub stands : Represents new.core after

-- where nothing was taken the history is the same
abbrev pub LeadsOn : Following → List ℕ → Took → Following → List Event → List Event → Type 0
LeadsOn old octets (Taken known) new before after = LeadsByRecords old octets before after ⊎ LeadsBySnapshot old octets new after
LeadsOn old octets took new before after = after ≡ before

-- a packet leads from the one history to the other, as the table takes it
abbrev pub MayLeadOn : Following → List ℕ → List Event → List Event → Type 0
MayLeadOn old octets before after = (took : Took) × (new : Following) × Takes old octets took new × LeadsOn old octets took new before after

-- events or a snapshot were taken
abbrev pub IsTaken : Took → Type 0
IsTaken took = (known : ℕ) × (took ≡ Taken known)

-- the table takes what a packet holds
abbrev pub MayBeTaken : Following → List ℕ → Type 0
MayBeTaken old octets = (known : ℕ) × (new : Following) × Takes old octets (Taken known) new
