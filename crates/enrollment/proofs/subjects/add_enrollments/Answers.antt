use Rattle.std.proofs.Common.{[], ◌∷◌, ◌++◌, ap, ◌∙◌}
use Rattle.std.proofs.lemmas.Result.{IfOk-from_err}
use Rattle.enrollment.specs.declared.subject.Subject.{Subject}
use Rattle.enrollment.specs.Subjects.{subject_of_enrollment}
use Rattle.enrollment.proofs.Appended.{makes_next, makes_all}
use Rattle.enrollment.proofs.subjects.add_enrollments.Goals as goal

pub loop-site-preserved : goal.loop-site-preserved
loop-site-preserved c =
    let now = c.loop-site.subjects.items in
    makes_next subject_of_enrollment c.args.sites.now c.loop-site.site-index c.site-item.result c.args.subjects.now.items now c.push.new.items.items c.loop-site-test.true c.site-item.is c.loop-site.invariant
    (c.in_ok-push.ensures.added ∙ ap (λ (s : Subject). now ++ s ∷ []) c.subject_of_enrollment.ensures.subject)

pub returns-in_err-push : goal.returns-in_err-push
returns-in_err-push c = record { added = IfOk-from_err c.from_residual.result _ c.from_residual.ensures.0 }

pub returns : goal.returns
returns c = record { added = makes_all subject_of_enrollment c.args.sites.now c.loop-site.site-index c.args.subjects.now.items c.loop-site.subjects.items c.loop-site-test.false c.loop-site.invariant }
