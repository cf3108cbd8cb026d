use Rattle.std.proofs.Common.{◌≡◌, ◌++◌, take}
use Rattle.std.specs.List.{flat_map}
use Rattle.enrollment.specs.References.{references_by}
use Rattle.enrollment.specs.Watchers.{referrer_of_enrollment}
use Rattle.enrollment.proofs.references.add_enrollments.Given as goal

-- those of the enrollments so far
abbrev pub invariant-loop-site : goal.invariant-loop-site
invariant-loop-site l = l.references.items ≡ l.initial.references.items ++ flat_map (λ site. references_by (referrer_of_enrollment site)) (take l.site-index l.sites)
