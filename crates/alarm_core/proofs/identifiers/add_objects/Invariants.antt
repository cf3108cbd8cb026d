use Rattle.std.proofs.Common.{◌≡◌, ◌++◌, map, take}
use Rattle.object_table.specs.declared.object_site.ObjectSite.{ObjectSite}
use Rattle.alarm_core.proofs.identifiers.add_objects.Given as goal

abbrev pub invariant-loop-object : goal.invariant-loop-object
invariant-loop-object l = l.identifiers.items ≡ l.initial.identifiers.items ++ map (λ (object : ObjectSite). object.object) (take l.object-index l.objects)
