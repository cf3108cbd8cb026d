use Rattle.std.proofs.Common.{sym, subst}
use Rattle.object_table.specs.Tables.{IsTable}
use Rattle.object_table.proofs.Places.{table_of}
use Rattle.object_table.proofs.table.Table.new.Goals as goal

pub invariant_of-result : goal.invariant_of-result
invariant_of-result c = subst IsTable (sym c.in_ok-rows.ensures.rows) (table_of c.args.objects.items c.requires.ascending c.requires.allowed)
