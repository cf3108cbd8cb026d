use Rattle.std.proofs.Common.{sym, subst}
use Rattle.object_table.specs.Verdicts.{property_change}
use Rattle.enrollment.specs.Properties.{property_of}
use Rattle.enrollment.specs.Writes.{IsTaken}
use Rattle.enrollment.proofs.Taking.{taken_is_small, taken_where, write_ok}
use Rattle.enrollment.proofs.enrollments.Enrollments.check_write.Goals as goal

pub copy_of-requires : goal.copy_of-requires
copy_of-requires c =
    let number = c.args.property.0 in
    let site = c.in-Some.site.now in
    record { small = taken_is_small site (property_of number) c.args.value.now (write_ok site number c.args.index c.args.value.now (sym c.in_ok-check_property.ensures.verdict)) }

pub returns-clause-takes : goal.returns-clause-takes
returns-clause-takes c =
    let number = c.args.property.0 in
    let site = c.in-Some.site.now in
    let taken = taken_where (property_change c.args.object number c.args.value.now) c.args.self.now.sites site c.in-Some.ensures.row (write_ok site number c.args.index c.args.value.now (sym c.in_ok-check_property.ensures.verdict)) in
    subst (λ value. IsTaken (property_change c.args.object number value) c.args.self.now.sites) (sym c.copy_of.ensures.same) taken
