use Rattle.std.proofs.Common.{sym}
use Rattle.object_table.specs.Verdicts.{property_change}
use Rattle.object_table.proofs.Taking.{set_ok, taken_by_row}
use Rattle.object_table.proofs.table.Table.check_set.Goals as goal

pub returns-clause-takes : goal.returns-clause-takes
returns-clause-takes c =
    let row = c.in-Some.row.now in
    taken_by_row (property_change c.args.object 85 c.args.value) c.args.self.now row c.in-Some.ensures.row (set_ok row.site c.args.value (sym c.in_ok-check_present_value.ensures.verdict))
