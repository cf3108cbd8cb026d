use Rattle.std.proofs.Common.{arith}
use Rattle.outbox.specs.Delivery.{Timing}
use Rattle.outbox.specs.Posts.{post_pumped}
use Rattle.outbox.proofs.Going.{changed_here}
use Rattle.outbox.proofs.all.pump_all.Goals as goal

pub loop-place-preserved : goal.loop-place-preserved
loop-place-preserved c =
    let timing : Timing = record { timeout = c.args.timeout; retries = c.args.retries; flush_silent = c.args.flush_silent } in
    changed_here (post_pumped timing c.args.moment) c.args.mailboxes.now c.loop-place.mailboxes c.loop-place.place c.loop-place.invariant (omega arith) c.index-mailboxes-place.result c.pump.new.self c.pump.ensures.pumped
