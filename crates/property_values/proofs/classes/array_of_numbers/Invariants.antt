use Rattle.std.proofs.Common.{◌≡◌, None, map, take}
use Rattle.bac_tags.specs.Writing.{written_unsigned}
use Rattle.property_values.proofs.classes.array_of_numbers.Given as goal

abbrev pub invariant-loop-number : goal.invariant-loop-number
invariant-loop-number l = l.elements.items ≡ map (written_unsigned None) (take l.number-index l.numbers)
