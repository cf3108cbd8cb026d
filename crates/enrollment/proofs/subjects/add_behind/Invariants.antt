use Rattle.std.proofs.Common.{◌≡◌, ◌++◌, filter, map, take}
use Rattle.enrollment.specs.Subjects.{is_behind_enrollments, subject_of_object}
use Rattle.enrollment.proofs.subjects.add_behind.Given as goal

abbrev pub invariant-loop-site : goal.invariant-loop-site
invariant-loop-site l = l.subjects.items ≡ l.initial.subjects.items ++ map subject_of_object (filter is_behind_enrollments (take l.site-index l.sites))
