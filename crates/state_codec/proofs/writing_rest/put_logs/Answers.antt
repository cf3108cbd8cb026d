use Rattle.std.proofs.Common.{arith}
use Rattle.state_codec.specs.Snapshots.{written_log}
use Rattle.state_codec.proofs.Written.{one_more}
use Rattle.state_codec.proofs.writing_rest.put_logs.Goals as goal

pub loop-kept-preserved : goal.loop-kept-preserved
loop-kept-preserved c =
    one_more (written_log c.args.has_rule) c.args.logs.now c.loop-kept.kept-index c.kept-item.result c.args.out.now.items _ _ (omega arith) c.kept-item.is c.loop-kept.invariant c.in_ok-put_log.ensures.written
