use Rattle.std.proofs.Common.{◌≡◌, map, take}
use Rattle.site_config.specs.Sites.{with_destinations}
use Rattle.site_config.proofs.site.classes_of.Given as goal

abbrev pub invariant-loop-item : goal.invariant-loop-item
invariant-loop-item l = l.classes.items ≡ map (with_destinations l.destinations) (take l.item-index l.items)
