-- Where a journal that was opened is damaged: at a snapshot of no state of its site, or at a record that isn't one, or whose event may not come there.
use Rattle.std.specs.Prelude.{◌≡◌, ◌⊎◌, ℕ, ◌+◌, ◌<◌, List, [], ◌∷◌, ◌++◌, length, take, drop}
use Rattle.alarm_core.specs.declared.event.Event.{Event}
use Rattle.alarm_core.specs.declared.site.Site.{Site}
use Rattle.alarm_core.specs.Allowed.{IsHistory}
use Rattle.alarm_core.specs.CoreSteps.{first_state}
use Rattle.alarm_core.specs.Following.{AreAllowed, MayFollow, state_over}
use Rattle.alarm_core.specs.State.{CoreState}
use Rattle.alarm_journal.specs.Journal.{Content}
use Rattle.alarm_journal.specs.Opened.{pieces, sum_of}
use Rattle.alarm_journal.specs.declared.body.Body.{Body}
use Rattle.alarm_journal.specs.declared.opened.Opened.{Opened}
use Rattle.state_codec.specs.Contents.{SpellEvents, SpellsEvents, StandsForHistory}
use Rattle.state_codec.specs.Records.{SpellsEvent}
use Rattle.state_codec.specs.Spelled.{SpellsNothing, SpellsState}

-- a snapshot tells a state; where there is none, it is the first one of the site
abbrev pub Tells : Site → List ℕ → CoreState → Type 0
Tells site [] state = state ≡ first_state site
Tells site snapshot state = SpellsState site snapshot state

-- The octets are the records of events that may follow a state, and the other state is the one that they leave.
pub record LeadsTo (before : CoreState) (octets : List ℕ) (after : CoreState) : Type 0 where
  pub events : List Event
  pub spells : SpellsEvents octets events
  pub follow : AreAllowed before events
  pub reached : after ≡ state_over before events

-- The same of bodies, each of which is whole records.
pub record BodiesLeadTo (before : CoreState) (bodies : List (List ℕ)) (after : CoreState) : Type 0 where
  pub events : List Event
  pub spell : SpellEvents bodies events
  pub follow : AreAllowed before events
  pub reached : after ≡ state_over before events

-- A content leads to a state of its site: from the one that its snapshot tells, through the events of its bodies.
pub record ContentLeadsTo (site : Site) (content : Content) (state : CoreState) : Type 0 where
  pub begun : CoreState
  pub tells : Tells site content.snapshot begun
  pub lead : BodiesLeadTo begun content.bodies state

-- octets don't begin with the record of an event that may follow a state
abbrev pub NoneFollows : CoreState → List ℕ → Type 0
NoneFollows state octets = (event : Event) (first more : List ℕ) → octets ≡ first ++ more → SpellsEvent first event → MayFollow event state → ⊥

-- in a body, behind records that lead to another state, octets stand at this offset at which no event follows
pub record IsDamagedIn (state : CoreState) (body : List ℕ) (offset : ℕ) : Type 0 where
  pub front : List ℕ
  pub rest : List ℕ
  pub octets : body ≡ front ++ rest
  pub reached : CoreState
  pub leads : LeadsTo state front reached
  pub some : 0 < length rest
  pub none : NoneFollows reached rest
  pub place : offset ≡ length front

-- in one of some bodies, behind others that lead to another state
pub record IsDamagedRecord (state : CoreState) (bodies : List Body) (octets : List ℕ) (at : ℕ) : Type 0 where
  pub before : List Body
  pub body : Body
  pub behind : List Body
  pub bodies_are : bodies ≡ before ++ body ∷ behind
  pub reached : CoreState
  pub lead : BodiesLeadTo state (pieces before octets) reached
  pub offset : ℕ
  pub damaged : IsDamagedIn reached (take body.length (drop (sum_of before) octets)) offset
  pub place : at ≡ body.place + offset

-- the snapshot is that of no state of the site
pub record IsDamagedSnapshot (site : Site) (opened : Opened) (at : ℕ) : Type 0 where
  pub some : 0 < length opened.snapshot
  pub none : SpellsNothing site opened.snapshot
  pub place : at ≡ opened.snapshot_place

-- a place of the device at which what was opened is damaged
abbrev pub IsDamagedAt : Site → Opened → ℕ → Type 0
IsDamagedAt site opened at =
    IsDamagedSnapshot site opened at ⊎ ((state : CoreState) × Tells site opened.snapshot state × IsDamagedRecord state opened.bodies opened.batches at)

-- octets don't begin with the record of an event that may come next in a history of the site
abbrev pub NoneComes : Site → List Event → List ℕ → Type 0
NoneComes site history octets = (event : Event) (first more : List ℕ) → octets ≡ first ++ more → SpellsEvent first event → IsHistory site (event ∷ history) → ⊥

-- The same by a history of the site. What was opened stands for it up to this place: the records before the place are those of its later events, behind a snapshot of the state after the older ones, or none. At the place stands the record of no event that may come next.
pub record IsDamagedBehind (site : Site) (opened : Opened) (history : List Event) (at : ℕ) : Type 0 where
  pub before : List Body
  pub body : Body
  pub behind : List Body
  pub bodies_are : opened.bodies ≡ before ++ body ∷ behind
  pub front : List ℕ
  pub rest : List ℕ
  pub octets : take body.length (drop (sum_of before) opened.batches) ≡ front ++ rest
  pub stands : StandsForHistory site (record { snapshot = opened.snapshot; bodies = pieces before opened.batches ++ front ∷ [] }) history
  pub some : 0 < length rest
  pub none : NoneComes site history rest
  pub place : at ≡ body.place + length front
