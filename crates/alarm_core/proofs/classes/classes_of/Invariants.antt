use Rattle.std.proofs.Common.{◌≡◌, map, take}
use Rattle.notify_class.specs.declared.class_site.ClassSite.{ClassSite}
use Rattle.alarm_core.proofs.classes.classes_of.Given as goal

abbrev pub invariant-loop-listed : goal.invariant-loop-listed
invariant-loop-listed l = l.classes.items ≡ map (λ (listed : ClassSite). listed.class) (take l.listed-index l.sites)
