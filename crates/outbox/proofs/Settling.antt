-- An outbox whose mailboxes were written in their places.
use Rattle.std.proofs.Common.{◌≡◌, ℕ, List, ◌++◌, length, take, drop, map, sym, ◌∙◌, ap, subst}
use Rattle.std.proofs.lemmas.List.{take_at, length-map}
use Rattle.outbox.specs.Posts.{MailboxState}
use Rattle.outbox.specs.Outboxes.{OutboxState, IsOutbox}

-- the posts are those that were written
module _ (change : MailboxState → MailboxState) (old seen new : List MailboxState) (n : ℕ) (size : n ≡ length old) (read : seen ≡ old) (wrote : new ≡ map change seen) where
  pub all_written : take n (new ++ drop (length new) old) ≡ map change old
  all_written =
      let mapped : new ≡ map change old = wrote ∙ ap (map change) read in
      let long : length new ≡ n = ap length mapped ∙ length-map old change ∙ sym size in
      take_at new (drop (length new) old) n long ∙ mapped

-- the same outbox with other posts
abbrev pub with_posts : OutboxState → List MailboxState → OutboxState
with_posts outbox posts = record { posts = posts; limit = outbox.limit; timeout = outbox.timeout; retries = outbox.retries; flush_silent = outbox.flush_silent }

pub is_with : (outbox : OutboxState) (posts posts' : List MailboxState) → posts ≡ posts' → IsOutbox (with_posts outbox posts') → IsOutbox (with_posts outbox posts)
is_with outbox posts posts' same is = subst (λ ps. IsOutbox (with_posts outbox ps)) (sym same) is
