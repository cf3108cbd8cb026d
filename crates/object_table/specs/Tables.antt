-- Tables: rows that ascend by identifier, each of a value object.
use Rattle.std.specs.Prelude.{List, All}
use Rattle.object_table.specs.declared.row.Row.{Row}
use Rattle.object_table.specs.Objects.{IsRow}
use Rattle.object_table.specs.Rows.{RowsAscend}

pub record IsTable (rows : List Row) : Type 0 where
  pub ascending : RowsAscend rows
  pub allowed : All IsRow rows
