use Rattle.std.proofs.Common.{◌≡◌, take}
use Rattle.std.specs.List.{flat_map}
use Rattle.property_values.proofs.reading.all_elements.Given as goal

abbrev pub invariant-loop-element : goal.invariant-loop-element
invariant-loop-element l = l.octets.items ≡ flat_map (λ element. element) (take l.element-index l.elements)
