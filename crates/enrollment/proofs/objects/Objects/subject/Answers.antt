use Rattle.std.proofs.Common.{◌≡◌, ◌∙◌, Some, None, rules}
use Rattle.object_table.specs.Rows.{row_of}
use Rattle.enrollment.specs.Enrollments.{site_of}
use Rattle.enrollment.specs.Snapshots.{algorithm_for}
use Rattle.enrollment.proofs.Parted.{own_algorithm}
use Rattle.enrollment.proofs.objects.Objects.subject.Goals as goal

pub returns-in-Some-row-clause-algorithm : goal.returns-in-Some-row-clause-algorithm
returns-in-Some-row-clause-algorithm c =
    let values = c.args.self.now in
    let none : site_of c.args.object values.enrollments ≡ None = search rules in
    let found : row_of c.args.object values.rows ≡ Some c.in-Some-row.row.now = search rules in
    let own : c.subject_of_object.result.algorithm ≡ algorithm_for c.in-Some-row.row.now.site.object = search rules in
    own ∙ own_algorithm c.args.object values.enrollments values.rows c.in-Some-row.row.now none found
