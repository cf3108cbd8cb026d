use Rattle.std.proofs.Common.{◌∙◌, ap}
use Rattle.outbox.specs.Delivery.{Timing}
use Rattle.outbox.specs.Posts.{post_sent}
use Rattle.outbox.proofs.Pumping.{goes_on}
use Rattle.outbox.proofs.mailbox.Mailbox.pump.Goals as goal

pub returns : goal.returns
returns c =
    let timing : Timing = record { timeout = c.args.timeout; retries = c.args.retries; flush_silent = c.args.flush_silent } in
    record {
      pumped = c.send_unsent.ensures.sent c.args.retries c.args.flush_silent ∙ ap (post_sent timing c.args.moment) c.finish_unanswered.ensures.unsent ∙ goes_on timing c.args.moment c.args.self.now c.if-is_awaited.ensures.awaited c.if-is_repeated.ensures.repeated c.if-gives_up.ensures.gives_up;
    }
