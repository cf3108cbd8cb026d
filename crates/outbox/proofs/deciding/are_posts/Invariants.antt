use Rattle.std.proofs.Common.{◌≡◌, drop}
use Rattle.outbox.specs.Outboxes.{are_posts}
use Rattle.outbox.proofs.deciding.are_posts.Given as goal

-- the posts that are left and the notes that are left are tested as all are
abbrev pub invariant-loop-post : goal.invariant-loop-post
invariant-loop-post l = are_posts l.retries (drop l.post-index l.posts) l.left ≡ are_posts l.retries l.posts l.notes
