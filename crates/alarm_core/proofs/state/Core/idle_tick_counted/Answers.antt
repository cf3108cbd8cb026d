use Rattle.alarm_core.proofs.state.Core.idle_tick_counted.Goals as goal

pub returns-clause-still : goal.returns-clause-still
returns-clause-still c = c.is_still_alone.ensures.still

pub returns-clause-history : goal.returns-clause-history
returns-clause-history c = c.is_still_alone.ensures.history

pub returns-clause-counts : goal.returns-clause-counts
returns-clause-counts c = c.is_still_alone.ensures.counts
