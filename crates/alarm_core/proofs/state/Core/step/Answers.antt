use Rattle.std.proofs.Common.{◌≡◌, ◌+◌, ◌≤◌, ℕ, max, ◌∷◌, ap, sym, subst, rules, arith}
use Rattle.alarm_core.specs.History.{raised}
use Rattle.alarm_core.specs.CoreSteps.{acted}
use Rattle.civil_stamp.specs.LocalTime.{LocalMomentData}
use Rattle.alarm_core.specs.DueSteps.{detections_of, due_steps}
use Rattle.alarm_core.specs.Allowed.{Represents}
use Rattle.alarm_core.specs.Evaluations.{site_moment}
use Rattle.alarm_core.specs.Following.{MayFollow}
use Rattle.alarm_core.specs.Moving.{moving_of, touched_of}
use Rattle.alarm_core.specs.Sites.{IsSite}
use Rattle.alarm_core.specs.State.{CoreState}
use Rattle.alarm_core.proofs.Acted.{stepped}
use Rattle.alarm_core.proofs.Following.{represents_next}
use Rattle.alarm_core.proofs.MovesTold.{at_site}
use Rattle.alarm_core.proofs.Moving.{counted}
use Rattle.alarm_core.proofs.NeverFull.{tick_never_full}
use Rattle.alarm_core.proofs.Notified.{notifications_after}
use Rattle.alarm_core.proofs.Standing.{comes_after, transitions_after}
use Rattle.alarm_core.proofs.state.Core.step.Goals as goal

above : (n m : ℕ) → n ≤ max m n
above n m = omega arith

at_most : (n steps a b m : ℕ) → n ≤ steps + a → a ≡ b → b ≤ m → n ≤ steps + m
at_most n steps a b m few same more = omega (arith, few, same, more)

pub returns-in_err-done-clause-transitions : goal.returns-in_err-done-clause-transitions
returns-in_err-done-clause-transitions g c =
    let state = c.args.self.now in
    let event = raised state.last_moment c.args.event.now in
    let is = subst (λ (s : CoreState). IsSite s.site) c.self.view_is c.self.invariant.site in
    let low = above state.last_moment c.args.event.now.moment in
    λ history r. transitions_after history state event (comes_after history state event is low r) r

pub returns-in_err-done-clause-notifications : goal.returns-in_err-done-clause-notifications
returns-in_err-done-clause-notifications g c =
    let state = c.args.self.now in
    let event = raised state.last_moment c.args.event.now in
    let is = subst (λ (s : CoreState). IsSite s.site) c.self.view_is c.self.invariant.site in
    let low = above state.last_moment c.args.event.now.moment in
    λ history r. notifications_after history state event (comes_after history state event is low r) r

pub returns-in_err-done-clause-ticks_fit : goal.returns-in_err-done-clause-ticks_fit
returns-in_err-done-clause-ticks_fit g c = λ history r. tick_never_full history c.args.self.now (raised c.args.self.now.last_moment c.args.event.now) (subst (λ (s : CoreState). IsSite s.site) c.self.view_is c.self.invariant.site) r

pub returns-clause-state : goal.returns-clause-state
returns-clause-state g c =
    let state = c.args.self.now in
    let event = raised state.last_moment c.args.event.now in
    let moment : c.raised_moment-moment.result ≡ event.moment = search rules in
    let after : c.act.new.self ≡ acted event state = search rules in
    let counted = λ (s : CoreState) (m : ℕ). record s { events = s.events + 1; last_moment = m } in
    stepped event state c.act.new.self _ after (λ k. counted (c.self-2.view_is k) (moment k))

pub returns-clause-represents : goal.returns-clause-represents
returns-clause-represents g c =
    let state = c.args.self.now in
    let event = raised state.last_moment c.args.event.now in
    let is = subst (λ (s : CoreState). IsSite s.site) c.self.view_is c.self.invariant.site in
    let may : MayFollow event state = record {
      not_before = above state.last_moment c.args.event.now.moment;
      moment = search rules;
      allowed = c.requires.allowed;
      fits = search rules;
    } in
    λ history r. subst (λ (s : CoreState). Represents s (event ∷ history)) (sym (returns-clause-state g c)) (represents_next state event history is r may)

pub returns-clause-transitions : goal.returns-clause-transitions
returns-clause-transitions g c =
    let state = c.args.self.now in
    let event = raised state.last_moment c.args.event.now in
    let is = subst (λ (s : CoreState). IsSite s.site) c.self.view_is c.self.invariant.site in
    let low = above state.last_moment c.args.event.now.moment in
    λ history r. transitions_after history state event (comes_after history state event is low r) r

pub returns-clause-notifications : goal.returns-clause-notifications
returns-clause-notifications g c =
    let state = c.args.self.now in
    let event = raised state.last_moment c.args.event.now in
    let is = subst (λ (s : CoreState). IsSite s.site) c.self.view_is c.self.invariant.site in
    let low = above state.last_moment c.args.event.now.moment in
    λ history r. notifications_after history state event (comes_after history state event is low r) r

pub returns-clause-ticks_fit : goal.returns-clause-ticks_fit
returns-clause-ticks_fit g c = λ history r. tick_never_full history c.args.self.now (raised c.args.self.now.last_moment c.args.event.now) (subst (λ (s : CoreState). IsSite s.site) c.self.view_is c.self.invariant.site) r

pub returns-in_err-done-clause-counts : goal.returns-in_err-done-clause-counts
returns-in_err-done-clause-counts g c =
    let state = c.args.self.now in
    let event = raised state.last_moment c.args.event.now in
    let act = c.args.event.now.act in
    let is = subst (λ (s : CoreState). IsSite s.site) c.self.view_is c.self.invariant.site in
    let low = above state.last_moment c.args.event.now.moment in
    let here = at_site c.at-at.result state.site event.moment (search rules) (search rules) in
    let same : due_steps c.at-at.result act (detections_of state) ≡ due_steps (site_moment state.site event.moment) act (detections_of state) =
    ap {B = ℕ} (λ (a : LocalMomentData). due_steps a act (detections_of state)) here in
    λ history r.
    let counts : due_steps (site_moment state.site event.moment) act (detections_of state) ≤ moving_of state.site event history + touched_of state.site event history =
    counted history state event (comes_after history state event is low r) r in
    at_most c.act.new.steps c.args.steps.now (due_steps c.at-at.result act (detections_of state)) (due_steps (site_moment state.site event.moment) act (detections_of state)) _ c.act.ensures.steps same counts

pub returns-clause-counts : goal.returns-clause-counts
returns-clause-counts g c =
    let state = c.args.self.now in
    let event = raised state.last_moment c.args.event.now in
    let act = c.args.event.now.act in
    let is = subst (λ (s : CoreState). IsSite s.site) c.self.view_is c.self.invariant.site in
    let low = above state.last_moment c.args.event.now.moment in
    let here = at_site c.at-at.result state.site event.moment (search rules) (search rules) in
    let same : due_steps c.at-at.result act (detections_of state) ≡ due_steps (site_moment state.site event.moment) act (detections_of state) =
    ap {B = ℕ} (λ (a : LocalMomentData). due_steps a act (detections_of state)) here in
    λ history r.
    let counts : due_steps (site_moment state.site event.moment) act (detections_of state) ≤ moving_of state.site event history + touched_of state.site event history =
    counted history state event (comes_after history state event is low r) r in
    at_most c.act.new.steps c.args.steps.now (due_steps c.at-at.result act (detections_of state)) (due_steps (site_moment state.site event.moment) act (detections_of state)) _ c.act.ensures.steps same counts
