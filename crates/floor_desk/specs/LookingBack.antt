-- What a history of a floor comes to, looked back over entry by entry: the newest stands first in these lists.
use Rattle.std.specs.Prelude.{◌≡◌, ℕ, ◌+◌, List, [], ◌∷◌, ◌++◌, length, map, Option, Some, None, Ok, Err}
use Rattle.alarm_core.specs.State.{CoreState}
use Rattle.alarm_core.specs.declared.event.Event.{Event}
use Rattle.alarm_journal.specs.Press.{PressState}
use Rattle.service_desk.specs.Answers.{Answer, answer_to, dues_of, event_of, state_behind}
use Rattle.floor_desk.specs.declared.entry.Entry.{Entry}
use Rattle.floor_desk.specs.declared.entry.Entry.TheVariants.{Event as Happened, Looked, Taken, Returned, Failed}
use Rattle.floor_desk.specs.declared.entry.Look.TheVariants.{Tried}
use Rattle.floor_desk.specs.declared.faults.EnterFault.TheVariants as enters
use Rattle.floor_desk.specs.Accounts.{Account, Due, Front, Loan, counts, due_after, if_event}
use Rattle.floor_desk.specs.Holding.{pending_events, pending_sends}

-- ---- what an answer brings to the state before it

abbrev pub state_with : CoreState → Option Answer → CoreState
state_with state None = state
state_with state (Some answer) = state_behind state answer

-- its event, if it has one
abbrev pub events_with : Option Answer → List Event
events_with None = []
events_with (Some answer) = if_event (event_of answer)

-- what it owes
abbrev pub dues_with : CoreState → Option Answer → List Due
dues_with state None = []
dues_with state (Some answer) = map (due_after (state_behind state answer).events) (dues_of state answer)

-- it is a call, where it is an event or owes a datagram
abbrev pub calls_with : CoreState → Option Answer → ℕ
calls_with state None = 0
calls_with state (Some answer) = counts (event_of answer) (dues_of state answer)

module _ {G : Type 0} where
  -- the answer of an input that was taken, or whose requester is told that its notifications don't fit, by the state before it
  abbrev pub taken_with : CoreState → Entry G → Option Answer
  taken_with state (Happened input moment ticket) = Some (answer_to state input.value moment)
  taken_with state (Looked (Tried input moment (Ok ticket))) = Some (answer_to state input.value moment)
  taken_with state (Looked (Tried input moment (Err (enters.Full would limit)))) = Some (answer_to state input.value moment)
  taken_with state entry = None

  -- ---- the state, the events, and what is owed

  -- the state that entries leave behind a first one
  abbrev pub state_over : CoreState → List (ℕ × Entry G) → CoreState
  state_over first [] = first
  state_over first (e ∷ older) = state_with (state_over first older) (taken_with (state_over first older) e.1)

  -- their events, the oldest first
  abbrev pub events_over : CoreState → List (ℕ × Entry G) → List Event
  events_over first [] = []
  events_over first (e ∷ older) = events_over first older ++ events_with (taken_with (state_over first older) e.1)

  -- the datagrams that they owe, the oldest first, each with the number of events that it rests on
  abbrev pub dues_over : CoreState → List (ℕ × Entry G) → List Due
  dues_over first [] = []
  dues_over first (e ∷ older) = dues_over first older ++ dues_with (state_over first older) (taken_with (state_over first older) e.1)

  -- how many of them are events or owe a datagram
  abbrev pub calls_over : CoreState → List (ℕ × Entry G) → ℕ
  calls_over first [] = 0
  calls_over first (e ∷ older) = calls_over first older + calls_with (state_over first older) (taken_with (state_over first older) e.1)

  -- how far they reach
  abbrev pub reach_over : CoreState → List (ℕ × Entry G) → Front
  reach_over first entries = record { events = length (events_over first entries); dues = length (dues_over first entries); calls = calls_over first entries }

  -- ---- the press

  -- the entries behind the last with which it left; all, where it never left
  abbrev pub behind_taken : List (ℕ × Entry G) → List (ℕ × Entry G)
  behind_taken [] = []
  behind_taken ((n, Taken upto) ∷ older) = []
  behind_taken (e ∷ older) = e ∷ behind_taken older

  -- the entries before that one
  abbrev pub before_taken : List (ℕ × Entry G) → List (ℕ × Entry G)
  before_taken [] = []
  before_taken ((n, Taken upto) ∷ older) = older
  before_taken (e ∷ older) = before_taken older

  -- the entries before the one with which it left that came back last
  abbrev pub before_returned : List (ℕ × Entry G) → List (ℕ × Entry G)
  before_returned [] = []
  before_returned ((n, Returned upto press) ∷ older) = before_taken older
  before_returned (e ∷ older) = before_returned older

  -- the last event that is written: the one up to which it wrote that came back last, or the last of the opening
  abbrev pub durable_over : CoreState → List (ℕ × Entry G) → ℕ
  durable_over first [] = first.events
  durable_over first ((n, Returned upto press) ∷ older) = upto
  durable_over first (e ∷ older) = durable_over first older

  -- the press as it came back last, or as it was at the opening
  abbrev pub press_over : PressState G → List (ℕ × Entry G) → PressState G
  press_over first [] = first
  press_over first ((n, Returned upto press) ∷ older) = press.value
  press_over first (e ∷ older) = press_over first older

  -- the loan that is open: the press left with the last entry that moved it
  abbrev pub loan_over : List (ℕ × Entry G) → Option Loan
  loan_over [] = None
  loan_over ((n, Taken upto) ∷ older) = Some record { number = n; place = length older + 1; upto = upto }
  loan_over ((n, Returned upto press) ∷ older) = None
  loan_over ((n, Failed upto device) ∷ older) = None
  loan_over (e ∷ older) = loan_over older

  -- the place of the last entry with which it was lost, if it was
  abbrev pub failed_over : List (ℕ × Entry G) → Option ℕ
  failed_over [] = None
  failed_over ((n, Failed upto device) ∷ older) = Some (length older + 1)
  failed_over (e ∷ older) = failed_over older

  -- ---- the account

  -- an account is what looking back over a whole history gives, and what is pending is what stands behind the last entry with which the press left
  pub record IsLookedBack (origin : CoreState × PressState G) (newest : List (ℕ × Entry G)) (a : Account G) : Type 0 where
    pub long : a.long ≡ length newest
    pub state : a.state ≡ state_over origin.0 newest
    pub order : a.order ≡ events_over origin.0 newest
    pub dues : a.dues ≡ dues_over origin.0 newest
    pub calls : a.calls ≡ calls_over origin.0 newest
    pub taken : a.taken ≡ reach_over origin.0 (before_taken newest)
    pub back : a.back ≡ reach_over origin.0 (before_returned newest)
    pub durable : a.durable ≡ durable_over origin.0 newest
    pub press : a.press ≡ press_over origin.1 newest
    pub loan : a.loan ≡ loan_over newest
    pub failed : a.failed ≡ failed_over newest
    pub pending_order : pending_events a ≡ events_over (state_over origin.0 (before_taken newest)) (behind_taken newest)
    pub pending_dues : pending_sends a ≡ map (λ due. due.send) (dues_over (state_over origin.0 (before_taken newest)) (behind_taken newest))
    pub pending_calls : a.calls ≡ a.taken.calls + calls_over (state_over origin.0 (before_taken newest)) (behind_taken newest)
