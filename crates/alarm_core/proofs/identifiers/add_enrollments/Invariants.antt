use Rattle.std.proofs.Common.{◌≡◌, ◌++◌, map, take}
use Rattle.enrollment.specs.declared.enrollment_site.EnrollmentSite.{EnrollmentSite}
use Rattle.alarm_core.proofs.identifiers.add_enrollments.Given as goal

abbrev pub invariant-loop-enrollment : goal.invariant-loop-enrollment
invariant-loop-enrollment l = l.identifiers.items ≡ l.initial.identifiers.items ++ map (λ (enrollment : EnrollmentSite). enrollment.object) (take l.enrollment-index l.enrollments)
