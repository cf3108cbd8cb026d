use Rattle.std.proofs.Common.{◌≡◌, take}
use Rattle.std.specs.List.{flat_map}
use Rattle.bac_tags.specs.Writing.{written_value}
use Rattle.property_values.proofs.encoding.list_of_values.Given as goal

abbrev pub invariant-loop-value : goal.invariant-loop-value
invariant-loop-value l = l.octets.items ≡ flat_map written_value (take l.value-index l.values)
