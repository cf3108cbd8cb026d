use Rattle.std.proofs.Common.{arith}
use Rattle.alarm_core.proofs.state.Core.take_alone.Goals as goal

pub returns-clause-state : goal.returns-clause-state
returns-clause-state g c = c.step_once-answer.ensures.state

pub returns-clause-moment : goal.returns-clause-moment
returns-clause-moment g c = c.step_once-answer.ensures.moment

pub returns-clause-moves : goal.returns-clause-moves
returns-clause-moves g c = c.step_once-answer.ensures.moves

pub returns-clause-sends : goal.returns-clause-sends
returns-clause-sends g c = c.step_once-answer.ensures.sends

pub returns-clause-same : goal.returns-clause-same
returns-clause-same g c = c.step_once-answer.ensures.same

pub returns-clause-verdict : goal.returns-clause-verdict
returns-clause-verdict g c = c.step_once-answer.ensures.verdict

pub returns-clause-many : goal.returns-clause-many
returns-clause-many g c = c.step_once-answer.ensures.many

pub returns-clause-represents : goal.returns-clause-represents
returns-clause-represents g c = c.step_once-answer.ensures.represents

pub returns-clause-transitions : goal.returns-clause-transitions
returns-clause-transitions g c = c.step_once-answer.ensures.transitions

pub returns-clause-notifications : goal.returns-clause-notifications
returns-clause-notifications g c = c.step_once-answer.ensures.notifications

pub returns-clause-ticks_fit : goal.returns-clause-ticks_fit
returns-clause-ticks_fit g c = c.step_once-answer.ensures.ticks_fit

pub returns-clause-counts : goal.returns-clause-counts
returns-clause-counts g c = λ history r. let most = c.step_once-answer.ensures.counts history r in omega (arith, most, c.new-steps.ensures.none, c.counted_in.ensures.count)
