use Rattle.std.proofs.Common.{rules, arith}
use Rattle.state_codec.specs.Snapshots.{written_entry}
use Rattle.state_codec.proofs.Written.{one_more_at}
use Rattle.state_codec.proofs.writing_rest.put_items.Goals as goal

pub loop-place-preserved : goal.loop-place-preserved
loop-place-preserved c =
    one_more_at (written_entry c.args.has_rule) c.args.log.now.records c.loop-place.place c.args.out.now.items _ _ (search (arith, rules)) c.loop-place.invariant c.in_ok-put_item.ensures.written
