use Rattle.std.proofs.Common.{◌∙◌, ◌++◌, ap, List}
use Rattle.bac_values.specs.declared.note.Send.{Send}
use Rattle.outbox.specs.Posts.{post_sends, MailboxState}
use Rattle.outbox.proofs.Going.{flat_more}
use Rattle.outbox.proofs.all.sends_of.Goals as goal

pub loop-mailbox-preserved : goal.loop-mailbox-preserved
loop-mailbox-preserved c = λ timeout.
    let sends : MailboxState → List Send = post_sends (record { timeout = timeout; retries = c.args.retries; flush_silent = c.args.flush_silent }) c.args.moment in
    c.in_ok-append_sends.ensures.appended timeout ∙ ap (λ ys. ys ++ sends c.mailbox-item.result) (c.loop-mailbox.invariant timeout)
    ∙ flat_more sends c.args.mailboxes.now c.loop-mailbox.mailbox-index c.mailbox-item.result c.loop-mailbox-test.true c.mailbox-item.is
