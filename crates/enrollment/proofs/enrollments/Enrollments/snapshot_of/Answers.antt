use Rattle.algorithm_rules.specs.Facts.{facts_of}
use Rattle.enrollment.proofs.Seen.{absent_site}
use Rattle.enrollment.proofs.enrollments.Enrollments.snapshot_of.Goals as goal

pub returns-in-Some-clause-absent : goal.returns-in-Some-clause-absent
returns-in-Some-clause-absent c =
    absent_site c.snapshot_of_enrollment.result facts_of c.args.object c.args.self.now.sites c.args.table.now c.in-Some.site.now c.in-Some.ensures.row c.snapshot_of_enrollment.ensures.facts
