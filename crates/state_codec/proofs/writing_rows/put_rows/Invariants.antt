use Rattle.std.proofs.Common.{◌≡◌, ◌++◌, take, flat_map}
use Rattle.state_codec.specs.Snapshots.{written_row}
use Rattle.state_codec.proofs.writing_rows.put_rows.Given as goal

abbrev pub invariant-loop-row : goal.invariant-loop-row
invariant-loop-row l = l.out.items ≡ l.fn.out.items ++ flat_map written_row (take l.row-index l.rows)
