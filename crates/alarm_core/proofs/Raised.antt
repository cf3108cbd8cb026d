-- What is so of a raised event behind every history, whatever it is answered.
use Rattle.std.proofs.Common.{◌≡◌, ◌++◌, ◌+◌, ◌≤◌, ℕ, max, List, ◌∷◌, Ok, arith}
use Rattle.outbox.specs.Outboxes.{unfinished_in}
use Rattle.alarm_core.specs.declared.event.Act.TheVariants.{Tick}
use Rattle.alarm_core.specs.declared.event.Event.{Event}
use Rattle.alarm_core.specs.Allowed.{Comes, Represents}
use Rattle.alarm_core.specs.CoreSteps.{next_notes, next_transitions}
use Rattle.alarm_core.specs.Deliveries.{notifications_of}
use Rattle.alarm_core.specs.History.{raised, transitions_of}
use Rattle.alarm_core.specs.Sites.{IsSite}
use Rattle.alarm_core.specs.State.{CoreState}
use Rattle.alarm_core.specs.Verdicts.{step_verdict}
use Rattle.alarm_core.proofs.NeverFull.{tick_never_full}
use Rattle.alarm_core.proofs.Notified.{notifications_after}
use Rattle.alarm_core.proofs.Standing.{comes_after, transitions_after}

above : (last moment : ℕ) → last ≤ max moment last
above last moment = omega arith

comes : (history : List Event) (state : CoreState) (event : Event) → IsSite state.site → Represents state history → Comes state.site (raised state.last_moment event) history
comes history state event is r = comes_after history state (raised state.last_moment event) is (above state.last_moment event.moment) r

pub transitions_raised : (state : CoreState) (event : Event) → IsSite state.site → (history : List Event) → Represents state history →
    transitions_of state.site (raised state.last_moment event ∷ history) ≡ transitions_of state.site history ++ next_transitions (raised state.last_moment event) state
transitions_raised state event is history r = transitions_after history state (raised state.last_moment event) (comes history state event is r) r

pub notifications_raised : (state : CoreState) (event : Event) → IsSite state.site → (history : List Event) → Represents state history →
    notifications_of state.site (raised state.last_moment event ∷ history) ≡ notifications_of state.site history ++ next_notes (raised state.last_moment event) state
notifications_raised state event is history r = notifications_after history state (raised state.last_moment event) (comes history state event is r) r

pub fits_raised : (state : CoreState) (event : Event) → IsSite state.site → (history : List Event) → Represents state history → unfinished_in state.outbox.posts ≡ 0 → event.act ≡ Tick →
    step_verdict (raised state.last_moment event) state ≡ Ok tt
fits_raised state event is history r = tick_never_full history state (raised state.last_moment event) is r
