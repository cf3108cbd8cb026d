use Rattle.std.proofs.Common.{◌≡◌, None, map, take}
use Rattle.bac_tags.specs.Writing.{written_object}
use Rattle.property_values.proofs.encoding.array_of_objects.Given as goal

abbrev pub invariant-loop-object : goal.invariant-loop-object
invariant-loop-object l = l.elements.items ≡ map (written_object None) (take l.object-index l.objects)
