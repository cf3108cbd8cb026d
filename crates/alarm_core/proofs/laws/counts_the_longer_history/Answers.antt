use Rattle.alarm_core.proofs.Counting.{counts_the_longer_history}
use Rattle.alarm_core.proofs.laws.counts_the_longer_history.Goals as goal

pub returns : goal.returns
returns c = record { counts = counts_the_longer_history }
