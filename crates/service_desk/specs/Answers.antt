-- What an input comes to at the state before it, and which datagrams it owes. A session's report and the tickets of a shared floor are both said by it.
use Rattle.std.specs.Prelude.{ℕ, Option, Some, None, Result, Ok, Err, List, [], ◌∷◌, ◌++◌}
use Rattle.bac_values.specs.declared.input.Input.{Input}
use Rattle.bac_values.specs.declared.input.SetFault.{SetFault}
use Rattle.bac_values.specs.declared.note.Send.{Send}
use Rattle.alarm_core.specs.declared.event.Event.{Event}
use Rattle.alarm_core.specs.declared.event.StepFault.{StepFault}
use Rattle.alarm_core.specs.declared.event.StepFault.TheVariants as faults
use Rattle.alarm_core.specs.CoreSteps.{next_sends, next_state}
use Rattle.alarm_core.specs.History.{raised}
use Rattle.alarm_core.specs.State.{CoreState}
use Rattle.alarm_core.specs.Verdicts.{step_verdict}
use Rattle.service_desk.specs.declared.decision.Decision.{Decision}
use Rattle.service_desk.specs.declared.decision.Decision.TheVariants.{Ignore, Idle, Refuse, Reply, Enter}
use Rattle.service_desk.specs.Decisions.{decision_on}

-- An input is an event, with the reply that it owes; or one whose notifications don't fit the outbox: so many would then wait, so many may, and the requester is told; or no event: its value isn't taken, it is answered, or it changes nothing.
pub data Answer : Type 0 where
  Entered : Event → Option Send → Answer
  Full : ℕ → ℕ → Option Send → Answer
  Refused : SetFault → Answer
  Replied : Send → Answer
  Unchanged : Answer
  Ignored : Answer

-- an event that a decision enters, by the verdict on its notifications; no such verdict is want of memory
abbrev pub entering : Event → Option Send → Option Send → Result (Unit {0}) StepFault → Answer
entering event reply full (Ok fits) = Entered event reply
entering event reply full (Err (faults.Full would limit)) = Full would limit full
entering event reply full (Err faults.NoMemory) = Unchanged

-- the moment of an event is raised to that of the one before it
abbrev pub answer_of : CoreState → Decision → Answer
answer_of state Ignore = Ignored
answer_of state Idle = Unchanged
answer_of state (Refuse why) = Refused why
answer_of state (Reply send) = Replied send
answer_of state (Enter event reply full) = entering (raised state.last_moment event) reply full (step_verdict (raised state.last_moment event) state)

-- what an input comes to at a moment
abbrev pub answer_to : CoreState → Input → ℕ → Answer
answer_to state input moment = answer_of state (decision_on state input moment)

-- the event that it is
abbrev pub event_of : Answer → Option Event
event_of (Entered event reply) = Some event
event_of answer = None

-- the state behind it
abbrev pub state_behind : CoreState → Answer → CoreState
state_behind state (Entered event reply) = next_state event state
state_behind state answer = state

abbrev pub if_owed : Option Send → List Send
if_owed None = []
if_owed (Some send) = send ∷ []

-- the datagrams that it owes, in their order: what its event sends, and its reply
abbrev pub dues_of : CoreState → Answer → List Send
dues_of state (Entered event reply) = next_sends event state ++ if_owed reply
dues_of state (Full would limit full) = if_owed full
dues_of state (Replied send) = send ∷ []
dues_of state answer = []
