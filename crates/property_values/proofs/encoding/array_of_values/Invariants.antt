use Rattle.std.proofs.Common.{◌≡◌, map, take}
use Rattle.bac_tags.specs.Writing.{written_value}
use Rattle.property_values.proofs.encoding.array_of_values.Given as goal

abbrev pub invariant-loop-value : goal.invariant-loop-value
invariant-loop-value l = l.elements.items ≡ map written_value (take l.value-index l.values)
