use Rattle.std.proofs.Common.{◌≡◌, ap, ◌∙◌, subst, sym}
use Rattle.object_table.specs.Rows.{Ascends}
use Rattle.enrollment.specs.References.{references_of, watchers_in}
use Rattle.enrollment.specs.Watchers.{referrers_of}
use Rattle.enrollment.proofs.SubjectOrder.{referrers_ascend, watchers_ascend}
use Rattle.enrollment.proofs.Watched.{all_watched}
use Rattle.enrollment.proofs.enrollments.Enrollments.new.Goals as goal

pub invariant_of-result : goal.invariant_of-result
invariant_of-result c =
    let referrers = referrers_of c.args.objects.now c.args.site.items in
    let is : c.in_ok-references.references ≡ references_of referrers = c.in_ok-references.ensures.references ∙ ap (λ sites. references_of (referrers_of c.args.objects.now sites)) c.deref.ensures.value in
    record {
      ascending = c.requires.ascending;
      allowed = c.requires.allowed;
      watched = λ object. subst Ascends (sym (ap (watchers_in object) is ∙ all_watched object referrers))
          (watchers_ascend object referrers (referrers_ascend c.args.objects.now c.args.site.items c.requires.objects_ascend c.requires.objects c.requires.ascending c.requires.allowed));
    }

pub returns-clause-watchers : goal.returns-clause-watchers
returns-clause-watchers c =
    let referrers = referrers_of c.args.objects.now c.args.site.items in
    let is : c.in_ok-references.references ≡ references_of referrers = c.in_ok-references.ensures.references ∙ ap (λ sites. references_of (referrers_of c.args.objects.now sites)) c.deref.ensures.value in
    λ object. ap (watchers_in object) is ∙ all_watched object referrers
