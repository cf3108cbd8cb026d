use Rattle.state_codec.proofs.RowLimits.{row_limits}
use Rattle.state_codec.proofs.writing_rows.put_row.Goals as goal

pub put_keys-requires : goal.put_keys-requires
put_keys-requires c = record { limits = row_limits c.args.row.now c.requires.row }
