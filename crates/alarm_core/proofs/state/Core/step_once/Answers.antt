use Rattle.std.proofs.Common.{arith, subst}
use Rattle.alarm_core.specs.Sites.{IsSite}
use Rattle.alarm_core.specs.State.{CoreState}
use Rattle.alarm_core.proofs.Raised.{fits_raised, notifications_raised, transitions_raised}
use Rattle.alarm_core.proofs.state.Core.step_once.Goals as goal

pub returns-then-self-ge-MOST_EVENTS-clause-transitions : goal.returns-then-self-ge-MOST_EVENTS-clause-transitions
returns-then-self-ge-MOST_EVENTS-clause-transitions g c = transitions_raised c.args.self.now c.args.event.now (subst (λ (s : CoreState). IsSite s.site) c.self.view_is c.self.invariant.site)

pub returns-then-self-ge-MOST_EVENTS-clause-notifications : goal.returns-then-self-ge-MOST_EVENTS-clause-notifications
returns-then-self-ge-MOST_EVENTS-clause-notifications g c = notifications_raised c.args.self.now c.args.event.now (subst (λ (s : CoreState). IsSite s.site) c.self.view_is c.self.invariant.site)

pub returns-then-self-ge-MOST_EVENTS-clause-ticks_fit : goal.returns-then-self-ge-MOST_EVENTS-clause-ticks_fit
returns-then-self-ge-MOST_EVENTS-clause-ticks_fit g c = fits_raised c.args.self.now c.args.event.now (subst (λ (s : CoreState). IsSite s.site) c.self.view_is c.self.invariant.site)

pub returns-then-self-ge-MOST_EVENTS-clause-counts : goal.returns-then-self-ge-MOST_EVENTS-clause-counts
returns-then-self-ge-MOST_EVENTS-clause-counts g c = λ history r. omega arith

pub returns-clause-state : goal.returns-clause-state
returns-clause-state g c = c.step.ensures.state

pub returns-clause-moment : goal.returns-clause-moment
returns-clause-moment g c = c.step.ensures.moment

pub returns-clause-moves : goal.returns-clause-moves
returns-clause-moves g c = c.step.ensures.moves

pub returns-clause-sends : goal.returns-clause-sends
returns-clause-sends g c = c.step.ensures.sends

pub returns-clause-same : goal.returns-clause-same
returns-clause-same g c = c.step.ensures.same

pub returns-clause-verdict : goal.returns-clause-verdict
returns-clause-verdict g c = c.step.ensures.verdict

pub returns-clause-represents : goal.returns-clause-represents
returns-clause-represents g c = c.step.ensures.represents

pub returns-clause-transitions : goal.returns-clause-transitions
returns-clause-transitions g c = c.step.ensures.transitions

pub returns-clause-notifications : goal.returns-clause-notifications
returns-clause-notifications g c = c.step.ensures.notifications

pub returns-clause-ticks_fit : goal.returns-clause-ticks_fit
returns-clause-ticks_fit g c = c.step.ensures.ticks_fit

pub returns-clause-counts : goal.returns-clause-counts
returns-clause-counts g c = c.step.ensures.counts
