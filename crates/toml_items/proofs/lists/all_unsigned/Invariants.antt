use Rattle.std.proofs.Common.{◌≡◌, drop}
use Rattle.toml.specs.View.{items_view}
use Rattle.toml_items.specs.Lists.{all_in}
use Rattle.toml_items.specs.Values.{unsigned_in}
use Rattle.toml_items.proofs.Fronts.{with_front}
use Rattle.toml_items.proofs.lists.all_unsigned.Given as goal

abbrev pub invariant-loop-item : goal.invariant-loop-item
invariant-loop-item l = with_front l.numbers.items (all_in (unsigned_in 0 l.greatest) (items_view (drop l.item-index l.array.items))) ≡ all_in (unsigned_in 0 l.greatest) (items_view l.array.items)
