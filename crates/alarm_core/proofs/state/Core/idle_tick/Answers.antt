use Rattle.alarm_core.proofs.state.Core.idle_tick.Goals as goal

pub returns-clause-still : goal.returns-clause-still
returns-clause-still c = c.idle_tick_counted-still.ensures.still

pub returns-clause-history : goal.returns-clause-history
returns-clause-history c = c.idle_tick_counted-still.ensures.history
