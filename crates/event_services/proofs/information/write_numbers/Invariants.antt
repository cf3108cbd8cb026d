use Rattle.std.proofs.Common.{◌≡◌, ◌*◌, length, None, ◌++◌, take}
use Rattle.std.specs.Prelude.{flat_map}
use Rattle.bac_tags.specs.Writing.{written_unsigned}
use Rattle.event_services.proofs.information.write_numbers.Given as goal

abbrev pub invariant-loop-number : goal.invariant-loop-number
invariant-loop-number l = record {
  written : l.out.items ≡ l.initial.out.items ++ flat_map (written_unsigned None) (take l.number-index l.numbers);
  long : length (flat_map (written_unsigned None) (take l.number-index l.numbers)) ≡ 2 * l.number-index;
}
