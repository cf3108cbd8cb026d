use Rattle.std.proofs.Common.{◌≡◌, take}
use Rattle.notify_class.proofs.class_site.copy_of_classes.Given as goal

abbrev pub invariant-loop-site : goal.invariant-loop-site
invariant-loop-site l = l.copy.items ≡ take l.site-index l.sites
