use Rattle.std.proofs.Common.{◌≡◌, ◌∙◌, None, ap, subst, sym, rules}
use Rattle.object_table.specs.Rows.{row_of}
use Rattle.enrollment.specs.Enrollments.{site_of}
use Rattle.enrollment.specs.Objects.{ObjectsState, written}
use Rattle.enrollment.proofs.Parted.{undone_enrollments, undone_rows, written_enrollments, written_rows}
use Rattle.enrollment.proofs.Referrers.{known_after_row, known_after_site}
use Rattle.enrollment.proofs.objects.Objects.apply.Goals as goal

pub returns-then-is_value_object-clause-objects : goal.returns-then-is_value_object-clause-objects
returns-then-is_value_object-clause-objects c =
    let values : ObjectsState = record { rows = c.self.inside.table; enrollments = c.self.inside.enrollments.sites } in
    let none : site_of c.args.change.object c.self.inside.enrollments.sites ≡ None = search rules in
    written_rows c.args.change values none c.apply.new.self c.apply.ensures.rows ∙ ap (written c.args.change) c.self.view_is

pub returns-then-is_value_object-clause-undo : goal.returns-then-is_value_object-clause-undo
returns-then-is_value_object-clause-undo c =
    let values : ObjectsState = record { rows = c.self.inside.table; enrollments = c.self.inside.enrollments.sites } in
    let none : site_of c.args.change.object c.self.inside.enrollments.sites ≡ None = search rules in
    let same : site_of c.apply.result.object c.self.inside.enrollments.sites ≡ None = subst (λ object. site_of object c.self.inside.enrollments.sites ≡ None) (sym c.apply.ensures.object) none in
    undone_rows c.apply.result values same c.apply.new.self c.apply.ensures.undo ∙ c.self.view_is

pub returns-else-is_value_object-clause-objects : goal.returns-else-is_value_object-clause-objects
returns-else-is_value_object-clause-objects c =
    let values : ObjectsState = record { rows = c.self.inside.table; enrollments = c.self.inside.enrollments.sites } in
    let after = c.apply-else-is_value_object in
    let none : row_of c.args.change.object c.self.inside.table ≡ None = search rules in
    written_enrollments c.args.change values none after.new.self.sites after.ensures.rows ∙ ap (written c.args.change) c.self.view_is

pub returns-else-is_value_object-clause-undo : goal.returns-else-is_value_object-clause-undo
returns-else-is_value_object-clause-undo c =
    let values : ObjectsState = record { rows = c.self.inside.table; enrollments = c.self.inside.enrollments.sites } in
    let after = c.apply-else-is_value_object in
    let none : row_of c.args.change.object c.self.inside.table ≡ None = search rules in
    let same : row_of after.result.object c.self.inside.table ≡ None = subst (λ object. row_of object c.self.inside.table ≡ None) (sym after.ensures.object) none in
    undone_enrollments after.result values same after.new.self.sites after.ensures.undo ∙ c.self.view_is

pub invariant_of-self : goal.invariant_of-self
invariant_of-self c = known_after_row c.args.change c.self.inside.enrollments c.self.inside.table c.apply.new.self c.apply.ensures.rows c.self.invariant

pub invariant_of-self-else-is_value_object : goal.invariant_of-self-else-is_value_object
invariant_of-self-else-is_value_object c =
    let after = c.apply-else-is_value_object in
    known_after_site c.args.change c.self.inside.enrollments after.new.self c.self.inside.table after.ensures.rows after.ensures.references c.self.invariant
