use Rattle.standby.proofs.Reached.{reaches_all}
use Rattle.standby.proofs.laws.leader_reaches_all.Goals as goal

pub returns : goal.returns
returns c = record { law = reaches_all c.snapshots_have_one_spelling.ensures.spelling c.snapshots_are_short.ensures.short c.bounds_are_low.ensures.low }
