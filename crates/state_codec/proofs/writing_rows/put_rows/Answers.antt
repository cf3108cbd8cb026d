use Rattle.std.proofs.Common.{arith}
use Rattle.state_codec.specs.Snapshots.{written_row}
use Rattle.state_codec.proofs.Written.{one_more}
use Rattle.state_codec.proofs.writing_rows.put_rows.Goals as goal

pub loop-row-preserved : goal.loop-row-preserved
loop-row-preserved c =
    one_more written_row c.args.rows.now c.loop-row.row-index c.row-item.result c.args.out.now.items _ _ (omega arith) c.row-item.is c.loop-row.invariant c.in_ok-put_row.ensures.written
