-- A leader's packets bring a follower to the leader's whole history.
use Rattle.std.specs.Prelude.{◌≡◌, ◌≤◌, ℕ, All, Option, Some, None, List, [], ◌∷◌, length}
use Rattle.alarm_core.specs.declared.event.Event.{Event}
use Rattle.alarm_core.specs.declared.site.Site.{Site}
use Rattle.alarm_core.specs.Fits.{FitsSite}
use Rattle.alarm_core.specs.Sites.{IsSite}
use Rattle.alarm_core.specs.State.{state_of}
use Rattle.standby.specs.Leads.{MayBe}
use Rattle.standby.specs.Offers.{LeaderState, LeadsFor, OffersNext, heard_by}
use Rattle.standby.specs.Runs.{GoesBackTo, IsOffered}
use Rattle.standby.specs.Takes.{Following, Gathering, Takes, following}
use Rattle.standby.specs.declared.took.Took.{Took}

-- the packets that a leader offers one after the other, until it has nothing more
abbrev pub OffersAll : LeaderState → List (List ℕ) → Type 0
OffersAll leader [] = OffersNext leader None leader
OffersAll leader (packet ∷ packets) = (next : LeaderState) × OffersNext leader (Some packet) next × OffersAll next packets

-- All that a leader offers until it has nothing more is one list of packets, and each of them is part of every history that it has.
pub record HasPackets (leader : LeaderState) : Type 0 where
  pub packets : List (List ℕ)
  pub all : OffersAll leader packets
  pub only : (others : List (List ℕ)) → OffersAll leader others → others ≡ packets
  pub offered : (site : Site) (history : List Event) → LeadsFor site history leader → All (IsOffered site history) packets

-- packets are taken one after the other, each once
abbrev pub TakesAll : Following → List (List ℕ) → Following → Type 0
TakesAll old [] new = new ≡ old
TakesAll old (packet ∷ packets) new = (took : Took) × (between : Following) × Takes old packet took between × TakesAll between packets new

-- A leader that hears of no more events than a follower has, which stands for an older part of its history and gathers anything or nothing, offers packets by which the follower comes to the state of all of it.
abbrev pub ReachesAll : Type 0
ReachesAll =
    (site : Site) → IsSite site → FitsSite site
    → (history older : List Event) (known : ℕ) (leader : LeaderState) (gathering : Option Gathering) (packets : List (List ℕ)) (last : Following)
    → MayBe site history → GoesBackTo history older → known ≤ length older → LeadsFor site history leader
    → OffersAll (heard_by known leader) packets → TakesAll (following (state_of site older) gathering) packets last
    → last.core ≡ state_of site history
