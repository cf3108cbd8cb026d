use Rattle.std.proofs.Common.{rules}
use Rattle.alarm_core.proofs.Entering.{one_more_taken}
use Rattle.alarm_core.proofs.logs.enter_all.Goals as goal

pub loop-kept-preserved : goal.loop-kept-preserved
loop-kept-preserved c = λ calls same. one_more_taken calls c.args.logs.now.items c.loop-kept.kept-items c.loop-kept.lists.rest.items c.enter_next.new.lists.rest.items c.loop-kept.kept-index c.kept-item.result c.enter_next.new.kept (search rules) c.kept-item.is (c.loop-kept.invariant calls same) c.enter_next.ensures.entered
