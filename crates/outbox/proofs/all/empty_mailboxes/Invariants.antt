use Rattle.std.proofs.Common.{◌≡◌, ◌++◌, map}
use Rattle.outbox.specs.Posts.{empty_post}
use Rattle.outbox.proofs.all.empty_mailboxes.Given as goal

abbrev pub invariant-loop-peer : goal.invariant-loop-peer
invariant-loop-peer l = l.mailboxes.items ++ map empty_post l.peer-iterator.rest.items ≡ map empty_post l.fn.peers.items
