-- What the entries of a floor make of an account, whichever they are.
use Rattle.std.specs.Prelude.{◌≡◌, ◌≤◌, ◌+◌, All, List, length, take, Some, None}
use Rattle.alarm_core.specs.Allowed.{Represents}
use Rattle.alarm_core.specs.Fits.{FitsEvent}
use Rattle.alarm_core.specs.State.{CoreState}
use Rattle.alarm_core.specs.declared.event.Event.{Event}
use Rattle.alarm_journal.specs.Press.{PressState}
use Rattle.state_codec.specs.Records.{HasRecord}
use Rattle.floor_desk.specs.Accounts.{Account, Loan}
use Rattle.floor_desk.specs.Prefixes.{RestsOn, with_first}

module _ {G : Type 0} where
  -- The state is the one that the events leave behind each history that the first state stands for. Each event has a record. No datagram rests on more events than there are.
  pub record KeepsCourse (origin : CoreState × PressState G) (a : Account G) : Type 0 where
    pub events : a.state.events ≡ origin.0.events + length a.order
    pub site : a.state.site ≡ origin.0.site
    pub stands : (history : List Event) → Represents origin.0 history → Represents a.state (with_first history (length a.order) a.order)
    pub recorded : All HasRecord a.order
    pub fit : All FitsEvent a.order
    pub rests : RestsOn a.state.events a.dues

  -- What the press took when it last left are the first events, and the first datagrams, which rest on those events. A loan writes the events up to those. Where the press is at home it came back with them; where it isn't, it came back with no more when it last did.
  pub record KeepsFronts (origin : CoreState × PressState G) (a : Account G) : Type 0 where
    pub events : a.taken.events ≤ length a.order
    pub dues : a.taken.dues ≤ length a.dues
    pub calls : a.taken.calls ≤ a.calls
    pub rests : RestsOn (origin.0.events + a.taken.events) (take a.taken.dues a.dues)
    pub lent : (loan : Loan) → a.loan ≡ Some loan → loan.upto ≡ origin.0.events + a.taken.events
    pub home : a.loan ≡ None → a.failed ≡ None → (a.back ≡ a.taken) × (a.durable ≡ origin.0.events + a.taken.events)
    pub back : a.back.dues ≤ a.taken.dues
    pub first : origin.0.events ≤ a.durable
    pub durable : a.durable ≤ origin.0.events + a.taken.events
