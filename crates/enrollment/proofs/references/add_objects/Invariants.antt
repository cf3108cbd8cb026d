use Rattle.std.proofs.Common.{◌≡◌, ◌++◌, filter, take}
use Rattle.std.specs.List.{flat_map}
use Rattle.enrollment.specs.References.{references_by, stands}
use Rattle.enrollment.specs.Watchers.{referrer_of_object}
use Rattle.enrollment.proofs.references.add_objects.Given as goal

-- those of the value objects so far
abbrev pub invariant-loop-site : goal.invariant-loop-site
invariant-loop-site l = l.references.items ≡ l.initial.references.items ++ flat_map (λ site. references_by (referrer_of_object site)) (filter (stands l.before) (take l.site-index l.sites))
