-- The state over a list of events represents the history with all of them.
use Rattle.std.proofs.Common.{◌≡◌, ℕ, ◌<◌, ◌≤◌, Bool, true, false, nat_lt, List, [], ◌∷◌, ◌++◌, reverse, Result, Ok, Err, refl, sym, ap, ◌∙◌, subst}
use Rattle.std.proofs.lemmas.Bool.{ltb-false, ltb-true}
use Rattle.std.proofs.lemmas.List.{append_assoc, reverse-append}
use Rattle.outbox.specs.Outboxes.{unfinished_in}
use Rattle.alarm_core.specs.declared.event.Event.{Event}
use Rattle.alarm_core.specs.declared.event.StepFault.{StepFault}
use Rattle.alarm_core.specs.declared.event.StepFault.TheVariants.{Full}
use Rattle.alarm_core.specs.Allowed.{Represents}
use Rattle.alarm_core.specs.CoreSteps.{next_state}
use Rattle.alarm_core.specs.Deliveries.{outbox_after}
use Rattle.alarm_core.specs.Following.{MayFollow, state_over}
use Rattle.alarm_core.specs.Laws.{StandsOverEvents}
use Rattle.alarm_core.specs.Sites.{IsSite}
use Rattle.alarm_core.specs.State.{CoreState, state_of}
use Rattle.alarm_core.specs.Verdicts.{step_verdict}
use Rattle.alarm_core.proofs.Counting.{counts_the_longer_history}
use Rattle.alarm_core.proofs.Standing.{comes_after, represents_after, stands}

-- no verdict is both
clash : (verdict : Result (Unit {0}) StepFault) (would limit : ℕ) → verdict ≡ Ok tt → verdict ≡ Err (Full would limit) → would ≤ limit
clash (Ok passed) would limit ok full = cc
clash (Err fault) would limit ok full = cc

-- where a refusal is told wherever there are more than may be, and none is told, there are no more
not_more : (verdict : Result (Unit {0}) StepFault) (would limit : ℕ) → verdict ≡ Ok tt → (limit < would → verdict ≡ Err (Full would limit)) → would ≤ limit
not_more verdict would limit ok full = by (nat_lt limit would) refl
  where
    by : (more : Bool) → nat_lt limit would ≡ more → would ≤ limit
    by true e = clash verdict would limit ok (full (ltb-true limit would e))
    by false e = ltb-false limit would e

-- what isn't refused as full leaves no more unfinished than may be
fits_after : (state : CoreState) (event : Event) (history : List Event) → IsSite state.site → Represents state history → MayFollow event state →
    unfinished_in (next_state event state).outbox.posts ≤ (next_state event state).site.device.outbox
fits_after state event history is r may =
    let site = state.site in
    let comes = comes_after history state event is may.not_before r in
    let longer : next_state event state ≡ state_of site (event ∷ history) = ap (next_state event) r.shows ∙ stands.state site event history comes in
    let verdict : step_verdict event (state_of site history) ≡ Ok tt = subst (λ (s : CoreState). step_verdict event s ≡ Ok tt) r.shows may.fits in
    let would = unfinished_in (outbox_after site (event ∷ history)).posts in
    let full = counts_the_longer_history.full site event history comes would site.device.outbox in
    subst (λ (s : CoreState). unfinished_in s.outbox.posts ≤ s.site.device.outbox) (sym longer)
    (not_more (step_verdict event (state_of site history)) would site.device.outbox verdict (λ more. full.1 (refl, refl, more)))

-- so the state after an event that may follow represents the longer history
pub represents_next : (state : CoreState) (event : Event) (history : List Event) → IsSite state.site → Represents state history → MayFollow event state → Represents (next_state event state) (event ∷ history)
represents_next state event history is r may =
    represents_after history state (next_state event state) event is r refl may.not_before may.moment may.allowed (fits_after state event history is r may)

pub stands_over_events : StandsOverEvents
stands_over_events state history [] is r allowed = r
stands_over_events state history (event ∷ later) is r (may, others) =
    let new = next_state event state in
    let now : Represents new (event ∷ history) = represents_next state event history is r may in
    let order : reverse later ++ (event ∷ history) ≡ reverse (event ∷ later) ++ history =
    sym (ap (λ (l : List Event). l ++ history) (reverse-append (event ∷ []) later) ∙ append_assoc (reverse later) (event ∷ []) history) in
    subst (λ (h : List Event). Represents (state_over new later) h) order (stands_over_events new (event ∷ history) later is now others)
