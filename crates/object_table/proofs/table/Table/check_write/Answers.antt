use Rattle.std.proofs.Common.{◌≡◌, rules, sym, subst}
use Rattle.object_table.specs.Verdicts.{property_change}
use Rattle.object_table.specs.Writes.{IsTaken}
use Rattle.object_table.proofs.Taking.{write_ok, taken_by_row}
use Rattle.object_table.proofs.table.Table.check_write.Goals as goal

pub returns-clause-takes : goal.returns-clause-takes
returns-clause-takes c =
    let row = c.in-Some.row.now in
    let number = c.args.property.0 in
    let same : c.in_ok-value.value ≡ c.args.value.now = search rules in
    let taken = taken_by_row (property_change c.args.object number c.args.value.now) c.args.self.now row c.in-Some.ensures.row (write_ok row.site number c.args.index c.args.value.now (sym c.in_ok-check_object.ensures.verdict)) in
    subst (λ value. IsTaken (property_change c.args.object number value) c.args.self.now) (sym same) taken
