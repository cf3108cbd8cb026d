use Rattle.std.proofs.Common.{◌≡◌, ◌++◌, map, take}
use Rattle.site_config.proofs.identifiers.add_identifiers.Given as goal

abbrev pub invariant-loop-item : goal.invariant-loop-item
invariant-loop-item g l = l.objects.items ≡ l.initial.objects.items ++ map g.T.Identified.id_of (take l.item-index l.items)
