use Rattle.std.proofs.Common.{◌≡◌, map, take}
use Rattle.site_config.specs.Sites.{bound}
use Rattle.site_config.proofs.site.bindings_of.Given as goal

abbrev pub invariant-loop-item : goal.invariant-loop-item
invariant-loop-item l = l.bindings.items ≡ map bound (take l.item-index l.items)
