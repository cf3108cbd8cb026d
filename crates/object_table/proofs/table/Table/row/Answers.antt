use Rattle.std.proofs.Common.{Some, sym, ap, ◌∙◌}
use Rattle.object_table.proofs.Places.{row_at}
use Rattle.object_table.proofs.table.Table.row.Goals as goal

pub returns-in-Ok-clause-row : goal.returns-in-Ok-clause-row
returns-in-Ok-clause-row c =
    let value = rw c.self.view_is at c.index.ensures in
    ap (λ r. Some r) value ∙ sym (row_at c.args.object c.args.self.now c.in-Ok.place c.index.result.now c.in-Ok.ensures.found)
