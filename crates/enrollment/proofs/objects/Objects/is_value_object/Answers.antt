use Rattle.std.proofs.Common.{◌≡◌, Some, rules}
use Rattle.object_table.specs.Objects.{IsObject}
use Rattle.object_table.specs.Rows.{row_of}
use Rattle.enrollment.specs.Enrollments.{IsEnrollment, site_of}
use Rattle.enrollment.proofs.Parted.{apart}
use Rattle.enrollment.proofs.objects.Objects.is_value_object.Goals as goal

pub unreachable-requires : goal.unreachable-requires
unreachable-requires c =
    let row : row_of c.args.object c.self.inside.table ≡ Some c.in-Some._row.now = search rules in
    let site : site_of c.args.object c.self.inside.enrollments.sites ≡ Some c.in-Some-row._site.now = search rules in
    let is : IsObject c.in-Some._row.now.site = search rules in
    let it : IsEnrollment c.in-Some-row._site.now = search rules in
    apart c.args.object c.self.inside.table c.in-Some._row.now c.self.inside.enrollments.sites c.in-Some-row._site.now row site is it
