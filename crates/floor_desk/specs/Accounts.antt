-- What a history of a floor comes to, and what may be answered behind it.
use Rattle.std.specs.Prelude.{◌≡◌, ◌⊎◌, ℕ, ◌+◌, ◌-◌, ◌<◌, ◌≤◌, List, [], ◌∷◌, ◌++◌, length, map, drop, Option, Some, None, Result, Ok, Err}
use Rattle.bac_values.specs.Limits.{most_batch_octets, most_pending_calls, most_record_octets}
use Rattle.std.proofs.Common.{inl, inr, ⊎_elim}
use Rattle.bac_values.specs.declared.input.Input.{Input}
use Rattle.bac_values.specs.declared.note.Send.{Send}
use Rattle.alarm_core.specs.declared.event.Event.{Event}
use Rattle.alarm_core.specs.State.{CoreState}
use Rattle.alarm_journal.specs.Press.{PressState}
use Rattle.noted.specs.declared.noted.Noted.{Noted}
use Rattle.service_desk.specs.Answers.{Answer, Entered, Full, Refused, Replied, Unchanged, Ignored, answer_to, dues_of, event_of, state_behind}
use Rattle.state_codec.specs.Contents.{records_of}
use Rattle.floor_desk.specs.declared.entry.Entry.{Entry}
use Rattle.floor_desk.specs.declared.entry.Entry.TheVariants.{Event as Happened, Looked, Taken, Returned, Failed}
use Rattle.floor_desk.specs.declared.entry.Kind.{Kind}
use Rattle.floor_desk.specs.declared.entry.Kind.TheVariants as kinds
use Rattle.floor_desk.specs.declared.entry.Look.TheVariants.{Tried}
use Rattle.floor_desk.specs.declared.entry.Ticket.{Ticket}
use Rattle.floor_desk.specs.declared.faults.CommitFault.{CommitFault}
use Rattle.floor_desk.specs.declared.faults.CommitFault.TheVariants as commits
use Rattle.floor_desk.specs.declared.faults.EnterFault.{EnterFault}
use Rattle.floor_desk.specs.declared.faults.EnterFault.TheVariants as enters

-- ---- what a history comes to

-- a datagram that is owed, and how many events there are behind what owes it
pub record Due : Type 0 where
  pub send : Send
  pub after : ℕ

-- how far something reaches: over so many events, datagrams, and calls with a record or a datagram
pub record Front : Type 0 where
  pub events : ℕ
  pub dues : ℕ
  pub calls : ℕ

-- who has the press, since which place of the history, and up to which event it writes
pub record Loan : Type 0 where
  pub number : ℕ
  pub place : ℕ
  pub upto : ℕ

-- how many entries there are; the state behind them; the events, the oldest first, and the datagrams that are owed, with the calls that gave them; how far the press reached when it last left, and when it last came back; which event is the last that is written; the press as it last came back, or as it was at first; the loan that is open; and the place at which the press was lost
pub record Account (G : Type 0) : Type 0 where
  pub long : ℕ
  pub state : CoreState
  pub order : List Event
  pub dues : List Due
  pub calls : ℕ
  pub taken : Front
  pub back : Front
  pub durable : ℕ
  pub press : PressState G
  pub loan : Option Loan
  pub failed : Option ℕ

abbrev pub nowhere : Front
nowhere = record { events = 0; dues = 0; calls = 0 }

abbrev pub if_event : Option Event → List Event
if_event None = []
if_event (Some event) = event ∷ []

abbrev pub due_after : ℕ → Send → Due
due_after events send = record { send = send; after = events }

-- a call counts where it is an event or owes a datagram
abbrev pub counts : Option Event → List Send → ℕ
counts None [] = 0
counts event dues = 1

module _ {G : Type 0} where
  abbrev pub front_of : Account G → Front
  front_of a = record { events = length a.order; dues = length a.dues; calls = a.calls }

  -- an entry that changes nothing
  abbrev pub looked : Account G → Account G
  looked a = record a { long = a.long + 1 }

  -- an input that was taken, or whose requester is told that its notifications don't fit
  abbrev pub accepted : Account G → Answer → Account G
  accepted a answer = record a {
    long = a.long + 1;
    state = state_behind a.state answer;
    order = a.order ++ if_event (event_of answer);
    dues = a.dues ++ map (due_after (state_behind a.state answer).events) (dues_of a.state answer);
    calls = a.calls + counts (event_of answer) (dues_of a.state answer);
  }

  abbrev pub tried : Account G → Answer → Result Ticket EnterFault → Account G
  tried a answer (Ok ticket) = accepted a answer
  tried a answer (Err (enters.Full would limit)) = accepted a answer
  tried a answer (Err fault) = looked a

  -- at the opening
  abbrev pub start : CoreState × PressState G → Account G
  start origin = record {
    long = 0;
    state = origin.0;
    order = [];
    dues = [];
    calls = 0;
    taken = nowhere;
    back = nowhere;
    durable = origin.0.events;
    press = origin.1;
    loan = None;
    failed = None;
  }

  -- with one more entry, under the number of a pass
  abbrev pub step : Account G → ℕ → Entry G → Account G
  step a n (Happened input moment ticket) = accepted a (answer_to a.state input.value moment)
  step a n (Looked (Tried input moment answer)) = tried a (answer_to a.state input.value moment) answer
  step a n (Looked look) = looked a
  step a n (Taken upto) = record a { long = a.long + 1; taken = front_of a; loan = Some record { number = n; place = a.long + 1; upto = upto } }
  step a n (Returned upto press) = record a { long = a.long + 1; back = a.taken; durable = upto; press = press.value; loan = None }
  step a n (Failed upto device) = record a { long = a.long + 1; loan = None; failed = Some (a.long + 1) }

  abbrev pub account_from : Account G → List (ℕ × Entry G) → Account G
  account_from a [] = a
  account_from a (e ∷ es) = account_from (step a e.0 e.1) es

  -- what a history comes to behind an opening
  abbrev pub account : CoreState × PressState G → List (ℕ × Entry G) → Account G
  account origin history = account_from (start origin) history

-- ---- what may be answered

-- so many octets of records may be pending that one more record fits a batch
abbrev pub most_pending_octets : ℕ
most_pending_octets = most_batch_octets - most_record_octets

-- the ticket of an input that is no event
abbrev pub ticket_for : ℕ → Answer → Option Ticket
ticket_for events (Refused why) = Some record { number = events; kind = kinds.Refused why }
ticket_for events (Replied send) = Some record { number = events; kind = kinds.Replied }
ticket_for events Unchanged = Some record { number = events; kind = kinds.Idle }
ticket_for events Ignored = Some record { number = events; kind = kinds.Ignored }
ticket_for events answer = None

-- the ticket of an input that was taken
abbrev pub IsTicketOf : ℕ → Answer → Ticket → Type 0
IsTicketOf events (Entered event reply) ticket = ticket ≡ record { number = events + 1; kind = kinds.Entered }
IsTicketOf events answer ticket = ticket_for events answer ≡ Some ticket

module _ {G : Type 0} where
  -- what isn't taken by the press yet: calls, and octets of records
  abbrev pub pending_calls : Account G → ℕ
  pending_calls a = a.calls - a.taken.calls

  abbrev pub pending_octets : Account G → ℕ
  pending_octets a = length (records_of (drop a.taken.events a.order))

  -- no more is taken before a commit
  abbrev pub IsBehind : Account G → Type 0
  IsBehind a = (most_pending_calls ≤ pending_calls a) ⊎ (most_pending_octets < pending_octets a)

  -- an input is looked at
  pub record IsOpen (a : Account G) : Type 0 where
    pub works : a.failed ≡ None
    pub ahead : IsBehind a → ⊥

  -- what is answered to an input without an event
  abbrev pub IsAnswered : Account G → Answer → Result Ticket EnterFault → Type 0
  IsAnswered a answer (Ok ticket) = IsOpen a × (ticket_for a.state.events answer ≡ Some ticket)
  IsAnswered a answer (Err (enters.Stopped at)) = a.failed ≡ Some at
  IsAnswered a answer (Err (enters.Behind pending octets)) = (a.failed ≡ None) × IsBehind a × (pending ≡ pending_calls a) × (octets ≡ pending_octets a)
  IsAnswered a answer (Err (enters.Full would limit)) = IsOpen a × (reply : Option Send) × (answer ≡ Full would limit reply)
  IsAnswered a answer (Err enters.NoMemory) = IsOpen a

  -- the ticket of an event
  pub record IsEntered (a : Account G) (answer : Answer) (ticket : Ticket) : Type 0 where
    pub looked_at : IsOpen a
    pub event : Event
    pub reply : Option Send
    pub answer_is : answer ≡ Entered event reply
    pub ticket_is : ticket ≡ record { number = a.state.events + 1; kind = kinds.Entered }

  -- something waits for a commit
  abbrev pub IsPending : Account G → Type 0
  IsPending a = a.taken.calls < a.calls

  -- why a commit is refused at its turn
  abbrev pub IsDenied : Account G → CommitFault → Type 0
  IsDenied a (commits.Stopped at) = a.failed ≡ Some at
  IsDenied a (commits.Busy at upto) = (number : ℕ) × (a.loan ≡ Some record { number = number; place = at; upto = upto })
  IsDenied a (commits.Nothing upto) = (a.failed ≡ None) × (a.loan ≡ None) × (a.calls ≤ a.taken.calls) × (upto ≡ a.state.events)
  IsDenied a commits.NoMemory = (a.failed ≡ None) × (a.loan ≡ None) × IsPending a
  IsDenied a commits.DiskFault = ⊥

  -- the press is out with a pass of this number, up to this event
  abbrev pub IsOutWith : Account G → ℕ → ℕ → Type 0
  IsOutWith a n upto = (loan : Loan) × (a.loan ≡ Some loan) × (loan.number ≡ n) × (loan.upto ≡ upto)

-- ---- what a call of `enter` leaves, and which marks may be raised

module _ {G : Type 0} where
  -- the entry of an input that was tried: an event, where its ticket says so
  abbrev pub entry_by : Noted Input → ℕ → ℕ → Kind → Entry G
  entry_by input moment number kinds.Entered = Happened input moment record { number = number; kind = kinds.Entered }
  entry_by input moment number kind = Looked (Tried input moment (Ok record { number = number; kind = kind }))

  abbrev pub entry_for : Noted Input → ℕ → Result Ticket EnterFault → Entry G
  entry_for input moment (Ok ticket) = entry_by input moment ticket.number ticket.kind
  entry_for input moment (Err fault) = Looked (Tried input moment (Err fault))

  abbrev pub GivesMark : Entry G → ℕ → Type 0
  GivesMark (Happened input moment ticket) to = ⊥
  GivesMark (Looked look) to = ⊥
  GivesMark (Taken upto) to = ⊥
  GivesMark (Returned upto press) to = to ≤ upto
  GivesMark (Failed upto device) to = ⊥

  -- the press came back with at least so many events written
  abbrev pub Licenses : List (ℕ × Entry G) → ℕ → Type 0
  Licenses [] to = ⊥
  Licenses (e ∷ es) to = GivesMark e.1 to ⊎ Licenses es to

  pub Licenses_more : (h more : List (ℕ × Entry G)) (to : ℕ) → Licenses h to → Licenses (h ++ more) to
  Licenses_more [] more to l = absurd l
  Licenses_more (e ∷ es) more to l = ⊎_elim inl (λ later. inr (Licenses_more es more to later)) l
