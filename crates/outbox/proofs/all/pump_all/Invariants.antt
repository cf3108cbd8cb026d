use Rattle.std.proofs.Common.{◌≡◌, ◌++◌, map, take, drop}
use Rattle.outbox.specs.Posts.{post_pumped}
use Rattle.outbox.proofs.all.pump_all.Given as goal

abbrev pub invariant-loop-place : goal.invariant-loop-place
invariant-loop-place l = l.mailboxes ≡ map (post_pumped (record { timeout = l.timeout; retries = l.retries; flush_silent = l.flush_silent }) l.moment) (take l.place l.initial.mailboxes) ++ drop l.place l.initial.mailboxes
