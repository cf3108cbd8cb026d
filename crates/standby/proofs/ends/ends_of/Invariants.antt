use Rattle.std.proofs.Common.{◌-◌, length}
use Rattle.standby.proofs.Endings.{IsEnding}
use Rattle.standby.proofs.ends.ends_of.Given as goal

-- the records up to here end at these places
abbrev pub invariant-loop-at : goal.invariant-loop-at
invariant-loop-at l = IsEnding l.records l.ends.items l.at

abbrev pub decreases-loop-at : goal.decreases-loop-at
decreases-loop-at l = length l.records - l.at
