use Rattle.std.proofs.Common.{◌≡◌, map, take}
use Rattle.property_values.specs.Properties.{written_time_stamp}
use Rattle.property_values.proofs.encoding.array_of_stamps.Given as goal

abbrev pub invariant-loop-stamp : goal.invariant-loop-stamp
invariant-loop-stamp l = l.elements.items ≡ map written_time_stamp (take l.stamp-index l.stamps)
