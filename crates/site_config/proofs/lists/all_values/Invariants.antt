use Rattle.std.proofs.Common.{◌≡◌, drop}
use Rattle.toml.specs.View.{items_view}
use Rattle.site_config.specs.Values.{value_in}
use Rattle.toml_items.specs.Lists.{all_in}
use Rattle.toml_items.proofs.Fronts.{with_front}
use Rattle.site_config.proofs.lists.all_values.Given as goal

abbrev pub invariant-loop-item : goal.invariant-loop-item
invariant-loop-item l = with_front l.values.items (all_in (value_in l.kind) (items_view (drop l.item-index l.array.items))) ≡ all_in (value_in l.kind) (items_view l.array.items)
