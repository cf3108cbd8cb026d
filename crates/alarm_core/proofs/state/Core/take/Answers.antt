use Rattle.alarm_core.proofs.state.Core.take.Goals as goal

pub returns-clause-state : goal.returns-clause-state
returns-clause-state c = c.take_counted-answer.ensures.state

pub returns-clause-moment : goal.returns-clause-moment
returns-clause-moment c = c.take_counted-answer.ensures.moment

pub returns-clause-moves : goal.returns-clause-moves
returns-clause-moves c = c.take_counted-answer.ensures.moves

pub returns-clause-sends : goal.returns-clause-sends
returns-clause-sends c = c.take_counted-answer.ensures.sends

pub returns-clause-same : goal.returns-clause-same
returns-clause-same c = c.take_counted-answer.ensures.same

pub returns-clause-verdict : goal.returns-clause-verdict
returns-clause-verdict c = c.take_counted-answer.ensures.verdict

pub returns-clause-many : goal.returns-clause-many
returns-clause-many c = c.take_counted-answer.ensures.many

pub returns-clause-represents : goal.returns-clause-represents
returns-clause-represents c = c.take_counted-answer.ensures.represents

pub returns-clause-transitions : goal.returns-clause-transitions
returns-clause-transitions c = c.take_counted-answer.ensures.transitions

pub returns-clause-notifications : goal.returns-clause-notifications
returns-clause-notifications c = c.take_counted-answer.ensures.notifications

pub returns-clause-ticks_fit : goal.returns-clause-ticks_fit
returns-clause-ticks_fit c = c.take_counted-answer.ensures.ticks_fit
