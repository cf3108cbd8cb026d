use Rattle.std.proofs.Common.{◌≡◌, drop}
use Rattle.toml.specs.View.{items_view}
use Rattle.site_config.specs.Sections.{items_of}
use Rattle.site_config.proofs.Tables.{with_read}
use Rattle.site_config.proofs.sections.read_items.Given as goal

abbrev pub invariant-loop-value : goal.invariant-loop-value
invariant-loop-value g l = with_read l.items.items (items_of g.T.Item.item_of l.section l.number (items_view (drop l.value-index l.array.items))) ≡ items_of g.T.Item.item_of l.section 1 (items_view l.array.items)
