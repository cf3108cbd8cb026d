use Rattle.std.proofs.Common.{◌≡◌, ◌+◌, ◌-◌, ◌≤◌, length}
use Rattle.list_binding.specs.EditSteps.{destinations_of, destinations_within}
use Rattle.list_binding.proofs.Readings.{prefixed}
use Rattle.list_binding.proofs.elements.destinations_of.Given as goal

-- those that were read, and those behind them, are all
abbrev pub invariant-loop-at : goal.invariant-loop-at
invariant-loop-at l = record {
  within : l.at ≤ length l.input;
  few : length l.read.items ≤ l.at;
  left : destinations_of l.bindings l.input ≡ prefixed l.read.items (destinations_within (length l.input - length l.read.items) l.bindings l.input (length l.read.items + 1) l.at);
}

abbrev pub decreases-loop-at : goal.decreases-loop-at
decreases-loop-at l = length l.input - l.at
