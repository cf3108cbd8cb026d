use Rattle.std.proofs.Common.{◌≡◌, take}
use Rattle.enrollment.proofs.copying.copy_of_enrollments.Given as goal

abbrev pub invariant-loop-site : goal.invariant-loop-site
invariant-loop-site l = l.copy.items ≡ take l.site-index l.sites
