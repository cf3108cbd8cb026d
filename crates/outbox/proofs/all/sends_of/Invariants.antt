use Rattle.std.proofs.Common.{◌≡◌, ℕ, take}
use Rattle.std.specs.List.{flat_map}
use Rattle.outbox.specs.Posts.{post_sends}
use Rattle.outbox.proofs.all.sends_of.Given as goal

abbrev pub invariant-loop-mailbox : goal.invariant-loop-mailbox
invariant-loop-mailbox l = (timeout : ℕ) → l.sends.items ≡ flat_map (post_sends (record { timeout = timeout; retries = l.retries; flush_silent = l.flush_silent }) l.moment) (take l.mailbox-index l.mailboxes)
