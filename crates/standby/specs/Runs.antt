-- Runs of a leader and a follower, over lines that lose packets, repeat them and bring them in any order.
use Rattle.std.specs.Prelude.{◌≡◌, ◌≢◌, ℕ, ◌≤◌, All, Contains, None, List, [], ◌∷◌, ◌++◌, length, reverse}
use Rattle.ground_io.specs.Disk.{octets_at}
use Rattle.alarm_core.specs.declared.event.Event.{Event}
use Rattle.alarm_core.specs.declared.site.Site.{Site}
use Rattle.alarm_core.specs.Fits.{FitsSite}
use Rattle.alarm_core.specs.Sites.{IsSite}
use Rattle.alarm_core.specs.State.{state_of}
use Rattle.state_codec.specs.Sizes.{snapshot_bound}
use Rattle.state_codec.specs.Spelled.{SpellsState}
use Rattle.standby.specs.Leads.{MayBe}
use Rattle.standby.specs.Packets.{PieceData, SpellsPiece, SpellsRecords}
use Rattle.standby.specs.Takes.{Following, Takes, following}
use Rattle.standby.specs.declared.took.Took.{Took}
use Rattle.standby.specs.declared.took.Took.TheVariants.{Malformed, Gap, Repeat, Part, Taken}

-- a history, whose newest event is the first, goes on from an older one
abbrev pub GoesBackTo : List Event → List Event → Type 0
GoesBackTo history older = (newer : List Event) × (history ≡ newer ++ older)

-- ---- what a leader offers

-- events of a history, behind those before them
pub record OffersRecords (history : List Event) (octets : List ℕ) : Type 0 where
  pub older : List Event
  pub events : List Event
  pub there : GoesBackTo history (reverse events ++ older)
  pub packet : SpellsRecords octets (length older) events

-- a piece of the snapshot of the state after some of its events
pub record OffersPiece (site : Site) (history : List Event) (octets : List ℕ) : Type 0 where
  pub older : List Event
  pub there : GoesBackTo history older
  pub snapshot : List ℕ
  pub spells : SpellsState site snapshot (state_of site older)
  pub piece : PieceData
  pub packet : SpellsPiece (snapshot_bound site) octets piece
  pub events : piece.events ≡ length older
  pub whole : piece.whole ≡ length snapshot
  pub part : piece.octets ≡ octets_at piece.place (length piece.octets) snapshot

-- octets that a leader may offer whose durable history is this
pub data IsOffered (site : Site) (history : List Event) (octets : List ℕ) : Type 0 where
  AsRecords : OffersRecords history octets → IsOffered site history octets
  AsPiece : OffersPiece site history octets → IsOffered site history octets

-- ---- runs

-- the leader's durable history, the packets that it ever offered, how far the follower has come, the numbers that it ever acknowledged, and the one that the leader heard last
pub record Replication : Type 0 where
  pub durable : List Event
  pub offered : List (List ℕ)
  pub follower : Following
  pub acknowledged : List ℕ
  pub heard : ℕ

-- the leader's durable history grows by events, the newest first; it offers a packet; one that was offered reaches the follower, once more or for the first time, and is answered; the leader hears a number that was acknowledged; a packet is lost; the follower's journal is opened again, and it gathers nothing; one that was offered reaches it, and it breaks off before it answers
pub data Happens : Type 0 where
  Grows : List Event → Happens
  Offers : List ℕ → Happens
  Delivers : List ℕ → Took → Happens
  Hears : ℕ → Happens
  Loses : List ℕ → Happens
  Reopens : Happens
  Breaks : List ℕ → Took → Happens

-- the number that an answer acknowledges
abbrev pub acknowledged_by : Took → List ℕ
acknowledged_by (Taken known) = known ∷ []
acknowledged_by (Repeat known) = known ∷ []
acknowledged_by (Gap known) = []
acknowledged_by (Part place) = []
acknowledged_by Malformed = []

-- one thing happens
abbrev pub Becomes : Site → Replication → Happens → Replication → Type 0
Becomes site old (Grows events) new = MayBe site (events ++ old.durable) × (new ≡ record old { durable = events ++ old.durable })
Becomes site old (Offers octets) new = IsOffered site old.durable octets × (new ≡ record old { offered = octets ∷ old.offered })
Becomes site old (Delivers octets took) new =
    Contains old.offered octets × ((next : Following) × Takes old.follower octets took next × (new ≡ record old { follower = next; acknowledged = acknowledged_by took ++ old.acknowledged }))
Becomes site old (Hears known) new = Contains old.acknowledged known × (new ≡ record old { heard = known })
Becomes site old (Loses octets) new = new ≡ old
Becomes site old Reopens new = new ≡ record old { follower = following old.follower.core None }
Becomes site old (Breaks octets took) new =
    Contains old.offered octets × ((next : Following) × Takes old.follower octets took next × (new ≡ record old { follower = following next.core None }))

-- and one after the other
abbrev pub ReplicationRun : Site → Replication → List Happens → Replication → Type 0
ReplicationRun site old [] new = new ≡ old
ReplicationRun site old (happens ∷ more) new = (between : Replication) × Becomes site old happens between × ReplicationRun site between more new

-- ---- what holds of them

-- At the beginning nothing was offered or acknowledged, the follower gathers nothing, and its state is that of a history from which the leader's goes on.
pub record Begins (site : Site) (run : Replication) : Type 0 where
  pub history : MayBe site run.durable
  pub none_offered : run.offered ≡ []
  pub none_acknowledged : run.acknowledged ≡ []
  pub older : List Event
  pub there : GoesBackTo run.durable older
  pub nothing : run.follower ≡ record { core = state_of site older; gathering = None }

-- The follower's state is that of a history from which the leader's durable history goes on, and every number that it acknowledged is at most the length of that history.
pub record HasPrefix (site : Site) (run : Replication) : Type 0 where
  pub older : List Event
  pub there : GoesBackTo run.durable older
  pub state : run.follower.core ≡ state_of site older
  pub covers : All (λ known. known ≤ length older) run.acknowledged

-- after every run
abbrev pub FollowsItsLeader : Type 0
FollowsItsLeader =
    (site : Site) → IsSite site → FitsSite site
    → (first last : Replication) (happens : List Happens) → Begins site first → ReplicationRun site first happens last → HasPrefix site last

-- what a leader offers is never malformed
abbrev pub NeverMalformed : Type 0
NeverMalformed =
    (site : Site) → IsSite site → FitsSite site
    → (first last : Replication) (happens : List Happens) (octets : List ℕ) (took : Took) (next : Following) → Begins site first → ReplicationRun site first happens last
    → Contains last.offered octets → Takes last.follower octets took next → took ≢ Malformed
