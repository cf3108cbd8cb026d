use Rattle.std.proofs.lemmas.Result.{IfOk-from_err}
use Rattle.enrollment.specs.References.{references_by}
use Rattle.enrollment.specs.Watchers.{referrer_of_enrollment}
use Rattle.enrollment.proofs.Appended.{gives_next, gives_all}
use Rattle.enrollment.proofs.references.add_enrollments.Goals as goal

pub loop-site-preserved : goal.loop-site-preserved
loop-site-preserved c =
    gives_next (λ site. references_by (referrer_of_enrollment site)) c.args.sites.now c.loop-site.site-index c.site-item.result c.args.references.now.items c.loop-site.references.items c.add_enrollment.new.references.items c.loop-site-test.true c.site-item.is
    c.loop-site.invariant c.in_ok-add_enrollment.ensures.added

pub returns-in_err-add_enrollment : goal.returns-in_err-add_enrollment
returns-in_err-add_enrollment c = record { added = IfOk-from_err c.from_residual.result _ c.from_residual.ensures.0 }

pub returns : goal.returns
returns c = record { added = gives_all (λ site. references_by (referrer_of_enrollment site)) c.args.sites.now c.loop-site.site-index c.args.references.now.items c.loop-site.references.items c.loop-site-test.false c.loop-site.invariant }
