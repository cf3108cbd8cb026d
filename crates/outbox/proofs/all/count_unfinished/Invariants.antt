use Rattle.std.proofs.Common.{◌≡◌, take}
use Rattle.outbox.specs.Outboxes.{unfinished_in}
use Rattle.outbox.proofs.all.count_unfinished.Given as goal

abbrev pub invariant-loop-mailbox : goal.invariant-loop-mailbox
invariant-loop-mailbox l = l.count ≡ unfinished_in (take l.mailbox-index l.mailboxes)
