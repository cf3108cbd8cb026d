use Rattle.std.proofs.Common.{◌-◌, ◌≤◌, length, take}
use Rattle.state_codec.specs.Damage.{LeadsTo}
use Rattle.state_codec.proofs.recovering.follow_records.Given as goal

-- the records up to here lead to the core as it is
abbrev pub invariant-loop-at : goal.invariant-loop-at
invariant-loop-at l = record {
  within : l.at ≤ length l.records;
  leads : LeadsTo l.fn.core (take l.at l.records) l.core;
}

abbrev pub decreases-loop-at : goal.decreases-loop-at
decreases-loop-at l = length l.records - l.at
