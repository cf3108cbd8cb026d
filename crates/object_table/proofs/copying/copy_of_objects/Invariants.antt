use Rattle.std.proofs.Common.{◌≡◌, take}
use Rattle.object_table.proofs.copying.copy_of_objects.Given as goal

abbrev pub invariant-loop-site : goal.invariant-loop-site
invariant-loop-site l = l.copy.items ≡ take l.site-index l.sites
