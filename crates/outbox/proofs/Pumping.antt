-- A pump of one recipient, case by case.
use Rattle.std.proofs.Common.{◌≡◌, ℕ, true, false, refl, sym}
use Rattle.outbox.specs.Delivery.{Timing, is_awaited, is_repeated, gives_up}
use Rattle.outbox.specs.Posts.{post_pumped, post_given_up, post_sent, unsent, MailboxState}

pub goes_on : (timing : Timing) (moment : ℕ) (post : MailboxState) → false ≡ is_awaited moment post.attempts post.deadline → false ≡ is_repeated timing.retries post.attempts →
    false ≡ gives_up timing.flush_silent post.attempts → post_sent timing moment (unsent post) ≡ post_pumped timing moment post
goes_on timing moment post e f g = let e' = sym e in let f' = sym f in let g' = sym g in rw (e', f', g') refl

pub all_goes : (timing : Timing) (moment : ℕ) (post : MailboxState) → false ≡ is_awaited moment post.attempts post.deadline → false ≡ is_repeated timing.retries post.attempts →
    true ≡ gives_up timing.flush_silent post.attempts → post_given_up post ≡ post_pumped timing moment post
all_goes timing moment post e f g = let e' = sym e in let f' = sym f in let g' = sym g in rw (e', f', g') refl
