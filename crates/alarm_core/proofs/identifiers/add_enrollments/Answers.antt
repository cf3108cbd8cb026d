use Rattle.std.proofs.lemmas.Result.{IfOk-from_err}
use Rattle.enrollment.proofs.Appended.{makes_next, makes_all}
use Rattle.enrollment.specs.declared.enrollment_site.EnrollmentSite.{EnrollmentSite}
use Rattle.alarm_core.proofs.identifiers.add_enrollments.Goals as goal

pub loop-enrollment-preserved : goal.loop-enrollment-preserved
loop-enrollment-preserved c =
    makes_next (λ (enrollment : EnrollmentSite). enrollment.object) c.args.enrollments.now c.loop-enrollment.enrollment-index c.enrollment-item.result c.args.identifiers.now.items c.loop-enrollment.identifiers.items c.push.new.items.items
    c.loop-enrollment-test.true c.enrollment-item.is c.loop-enrollment.invariant c.in_ok-push.ensures.added

pub returns-in_err-push : goal.returns-in_err-push
returns-in_err-push c = record { added = IfOk-from_err c.from_residual.result _ c.from_residual.ensures.0 }

pub returns : goal.returns
returns c =
    record { added = makes_all (λ (enrollment : EnrollmentSite). enrollment.object) c.args.enrollments.now c.loop-enrollment.enrollment-index c.args.identifiers.now.items c.loop-enrollment.identifiers.items c.loop-enrollment-test.false c.loop-enrollment.invariant }
