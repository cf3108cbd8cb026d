use Rattle.std.proofs.Common.{◌≡◌, ◌++◌, drop}
use Rattle.outbox.specs.Outboxes.{restored_posts}
use Rattle.outbox.proofs.restoring.restored_mailboxes.Given as goal

abbrev pub invariant-loop-post : goal.invariant-loop-post
invariant-loop-post l = l.mailboxes.items ++ restored_posts (drop l.post-index l.posts) l.notes.items ≡ restored_posts l.posts l.fn.notes.items
