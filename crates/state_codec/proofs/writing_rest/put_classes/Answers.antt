use Rattle.std.proofs.Common.{arith}
use Rattle.state_codec.specs.Snapshots.{written_class}
use Rattle.state_codec.proofs.Written.{one_more}
use Rattle.state_codec.proofs.writing_rest.put_classes.Goals as goal

pub loop-class-preserved : goal.loop-class-preserved
loop-class-preserved c =
    one_more written_class c.args.classes.now c.loop-class.class-index c.class-item.result c.args.out.now.items _ _ (omega arith) c.class-item.is c.loop-class.invariant c.in_ok-put_class.ensures.written
