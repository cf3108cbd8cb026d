use Rattle.std.proofs.Common.{◌≡◌, take}
use Rattle.list_binding.specs.Edits.{list_without}
use Rattle.list_binding.proofs.removing.all_without.Given as goal

abbrev pub invariant-loop-one : goal.invariant-loop-one
invariant-loop-one l = record {
  left : l.left.items ≡ list_without (take l.one-index l.list) l.elements;
}
