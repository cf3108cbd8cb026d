-- The state over a list of events, the oldest first, and whether each may follow on those before it.
use Rattle.std.specs.Prelude.{◌≡◌, ◌≤◌, List, [], ◌∷◌, Ok}
use Rattle.bac_values.specs.Moments.{IsMoment}
use Rattle.alarm_core.specs.declared.event.Event.{Event}
use Rattle.alarm_core.specs.Allowed.{IsAllowed}
use Rattle.alarm_core.specs.CoreSteps.{next_state}
use Rattle.alarm_core.specs.State.{CoreState}
use Rattle.alarm_core.specs.Verdicts.{step_verdict}

-- the state after some events, one after the other
abbrev pub state_over : CoreState → List Event → CoreState
state_over state [] = state
state_over state (event ∷ later) = state_over (next_state event state) later

-- an event may come after a state: its moment is in range and not before the last one, its act is allowed, and its notifications fit the outbox
pub record MayFollow (event : Event) (state : CoreState) : Type 0 where
  pub not_before : state.last_moment ≤ event.moment
  pub moment : IsMoment event.moment
  pub allowed : IsAllowed state event.act
  pub fits : step_verdict event state ≡ Ok tt

-- each of some events may come after the state that those before it leave
abbrev pub AreAllowed : CoreState → List Event → Type 0
AreAllowed state [] = Unit {0}
AreAllowed state (event ∷ later) = MayFollow event state × AreAllowed (next_state event state) later
