use Rattle.std.proofs.Common.{◌≡◌, drop}
use Rattle.toml.specs.View.{items_view}
use Rattle.toml_items.specs.Values.{text_in}
use Rattle.toml_items.specs.Lists.{all_in}
use Rattle.toml_items.proofs.Fronts.{with_front}
use Rattle.site_config.proofs.lists.all_texts.Given as goal

abbrev pub invariant-loop-item : goal.invariant-loop-item
invariant-loop-item l = with_front l.texts.items (all_in text_in (items_view (drop l.item-index l.array.items))) ≡ all_in text_in (items_view l.array.items)
