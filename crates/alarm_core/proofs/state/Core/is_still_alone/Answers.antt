use Rattle.std.proofs.Common.{arith}
use Rattle.alarm_core.proofs.state.Core.is_still_alone.Goals as goal

pub returns-clause-still : goal.returns-clause-still
returns-clause-still g c = c.is_still-still.ensures.still

pub returns-clause-history : goal.returns-clause-history
returns-clause-history g c = c.is_still-still.ensures.history

pub returns-clause-counts : goal.returns-clause-counts
returns-clause-counts g c = λ history r. let most = c.is_still-still.ensures.counts history r in omega (arith, most, c.new-steps.ensures.none, c.counted_in.ensures.count)
