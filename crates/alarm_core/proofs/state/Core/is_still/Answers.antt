use Rattle.std.proofs.Common.{◌≡◌, ◌↔◌, ◌≤◌, ◌<◌, ◌+◌, ◌∙◌, ℕ, Bool, true, false, if◌then◌else◌, [], rules, arith, max, IsFalse, IsTrue, refl, ap, sym, subst}
use Rattle.std.specs.List.{flat_map}
use Rattle.alarm_core.specs.DueSteps.{DueOnesMove}
use Rattle.alarm_core.specs.History.{raised, tick_at, transition_of}
use Rattle.alarm_core.specs.Evaluations.{site_moment}
use Rattle.alarm_core.specs.CoreSteps.{evaluated_all, states_of, transitions_by}
use Rattle.alarm_core.specs.Sites.{IsSite}
use Rattle.alarm_core.specs.State.{CoreState}
use Rattle.alarm_core.proofs.MovesTold.{at_site, none_moved}
use Rattle.alarm_core.proofs.Moving.{due_ones_move}
use Rattle.alarm_core.proofs.Standing.{comes_after, idle-adds_none}
use Rattle.alarm_core.proofs.state.Core.is_still.Goals as goal

-- what is counted where the answer is known
exactly : (idle : Bool) (old new : ℕ) → old ≤ new → (IsFalse idle → old < new) → new ≤ old + (if idle then 0 else 1) → new ≡ old + (if idle then 0 else 1)
exactly true old new grows counted most = omega (arith, grows, most)
exactly false old new grows counted most = let one = counted refl in omega (arith, one, most)

pub returns-clause-still : goal.returns-clause-still
returns-clause-still g c =
    let state = c.args.self.now in
    let moment = max c.args.moment state.last_moment in
    let look = site_moment state.site moment in
    let transitions = flat_map (transitions_by look state.values) state.alarms in
    let none = none_moved (transition_of moment state.values (states_of (evaluated_all look state.values state.alarms))) transitions in
    let at = c.at-at.result in
    let here : at ≡ look = at_site at state.site moment (search rules) (search rules) in
    let still : IsTrue c.are_still.result ↔ (flat_map (transitions_by at state.values) state.alarms ≡ []) = search rules in
    let same : flat_map (transitions_by at state.values) state.alarms ≡ transitions = ap (λ a. flat_map (transitions_by a state.values) state.alarms) here in
    (λ t. none.0 (sym same ∙ still.0 t), λ e. still.1 (same ∙ none.1 e))

pub returns-clause-history : goal.returns-clause-history
returns-clause-history g c =
    let state = c.args.self.now in
    let event = raised state.last_moment (tick_at c.args.moment) in
    let is : IsSite state.site = search rules in
    let low : state.last_moment ≤ event.moment = omega arith in
    λ history r. idle-adds_none history state event c.are_still.result (comes_after history state event is low r) r (returns-clause-still g c)

pub returns-clause-counts : goal.returns-clause-counts
returns-clause-counts g c =
    let state = c.args.self.now in
    let at = c.at-at.result in
    let is : IsSite state.site = search rules in
    λ history r.
    let move = subst (λ (s : CoreState). DueOnesMove at s.values s.alarms) (sym c.self.view_is) (due_ones_move at history state is r) in
    exactly c.are_still.result c.args.steps.now c.are_still.new.steps c.are_still.ensures.grows c.are_still.ensures.counted (c.are_still.ensures.first move)
