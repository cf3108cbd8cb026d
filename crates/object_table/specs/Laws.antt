-- Which changes a table takes, said by the answers to writes.
use Rattle.std.specs.Prelude.{ℕ, ◌↔◌, None, IsOk, List}
use Rattle.bac_values.specs.declared.value.Value.{Value}
use Rattle.bac_values.specs.Identifier.{ObjectIdData}
use Rattle.object_table.specs.declared.row.Row.{Row}
use Rattle.object_table.specs.Verdicts.{checked_write, property_change}
use Rattle.object_table.specs.Writes.{IsTaken}

-- a value is taken for a property exactly where a write of it, without an index, is answered with no error
abbrev pub TakesWhatWritesMake : Type 0
TakesWhatWritesMake =
    (rows : List Row) (object : ObjectIdData) (number : ℕ) (value : Value) → IsTaken (property_change object number value) rows ↔ IsOk (checked_write rows object number None value)
