use Rattle.std.proofs.Common.{◌≡◌, ◌++◌, map, take}
use Rattle.enrollment.specs.Subjects.{subject_of_enrollment}
use Rattle.enrollment.proofs.subjects.add_enrollments.Given as goal

abbrev pub invariant-loop-site : goal.invariant-loop-site
invariant-loop-site l = l.subjects.items ≡ l.initial.subjects.items ++ map subject_of_enrollment (take l.site-index l.sites)
