use Rattle.std.proofs.Common.{true, ◌++◌, List, ap, ◌∙◌, filter}
use Rattle.std.specs.List.{flat_map}
use Rattle.enrollment.specs.declared.references.Reference.{Reference}
use Rattle.enrollment.specs.References.{references_by, stands}
use Rattle.enrollment.specs.Watchers.{referrer_of_object}
use Rattle.enrollment.proofs.Watched.{all_added}
use Rattle.enrollment.proofs.references.collected.Goals as goal

pub returns : goal.returns
returns c =
    let before : List Reference = flat_map (λ site. references_by (referrer_of_object site)) (filter (stands true) c.args.objects.now) in
    record {
      references = all_added c.args.objects.now c.args.enrollments.now c.add_objects.new.references.items c.add_enrollments.new.references.items c.add_objects-2.new.references.items
          (c.in_ok-add_objects.ensures.added ∙ ap (λ references. references ++ before) c.new-references.ensures.items) c.in_ok-add_enrollments.ensures.added c.in_ok-add_objects-2.ensures.added;
    }
