-- An outbox is idle exactly where a pump sends nothing and changes nothing.
use Rattle.std.proofs.Common.{◌≡◌, ◌↔◌, ℕ, zero, suc, ◌+◌, ◌<◌, ◌≤◌, Bool, true, false, true≢false, IsTrue, nat_lt, nat_le, ◌&&◌, ◌==◌, List, [], ◌∷◌, ◌++◌, length, take, drop, map, get_or, refl, sym, ◌∙◌, ap, inl, inr, arith, if◌then◌else◌}
use Rattle.std.specs.List.{All, flat_map, list_all, position_or_len}
use Rattle.std.proofs.lemmas.Bool.{ltb-true, ltb-false, eqb-true, cases_Bool}
use Rattle.std.proofs.lemmas.List.{length-drop, length-map, length-take}
use Rattle.bac_values.specs.declared.note.Note.{Note}
use Rattle.outbox.specs.Notifying.{datagram_of}
use Rattle.outbox.specs.Delivery.{Timing, is_confirmed, is_awaited}
use Rattle.outbox.specs.Posts.{IsPost, post_pumped, post_sends, is_post_idle, MailboxState}
use Rattle.outbox.specs.Outboxes.{OutboxState, IsOutbox, timing_of, pumped, sends_of, is_idle}
use Rattle.outbox.proofs.Keeping.{filled_by}
use Rattle.outbox.proofs.Settling.{with_posts}

nothing_long : (notes : List Note) → length notes ≡ 0 → notes ≡ []
nothing_long [] e = refl
nothing_long (note ∷ notes) e = absurd (omega (arith, e))

some_sent : (n : ℕ) (post : MailboxState) → 0 < n → 0 < length post.notes → length (map (datagram_of post.peer post.next_invoke) (take n post.notes)) ≡ 0 → ⊥
some_sent n post some there none =
    let mapped = length-map (take n post.notes) (datagram_of post.peer post.next_invoke) in
    let taken = length-take n post.notes in
    omega (arith, mapped, taken, some, there, none)

-- one recipient
module _ (timing : Timing) (moment : ℕ) (post : MailboxState) (is : IsPost timing.retries post) where
  resting_idle : post.attempts ≡ 0 → length post.notes ≡ 0 → (post_sends timing moment post ≡ []) × (post_pumped timing moment post ≡ post)
  resting_idle rests empty =
      let none : nat_lt 0 post.attempts ≡ false = ap (nat_lt 0) rests in
      let notes : post.notes ≡ [] = nothing_long post.notes empty in
      let deadline : post.deadline ≡ 0 = is.resting rests in (
        rw (none, notes) refl,
        rw none (λ k. record {
          peer = post.peer;
          next_invoke = post.next_invoke;
          attempts = (ap (λ (ns : List Note). if nat_lt (position_or_len is_confirmed ns) (length ns) then 1 else 0) notes ∙ sym rests) k;
          deadline = (ap (λ (ns : List Note). if nat_lt (position_or_len is_confirmed ns) (length ns) then moment + timing.timeout else 0) notes ∙ sym deadline) k;
          notes = (ap (λ (ns : List Note). drop (position_or_len is_confirmed ns) ns) notes ∙ sym notes) k;
        }),
      )

  pub post_idle : is_post_idle moment post ≡ true → (post_sends timing moment post ≡ []) × (post_pumped timing moment post ≡ post)
  post_idle idle = by_test (is_awaited moment post.attempts post.deadline) refl
    where
      both : (a b : Bool) → (a && b) ≡ true → (a ≡ true) × (b ≡ true)
      both true b e = (refl, e)
      both false b e = absurd (true≢false (sym e))

      by_test : (a : Bool) → is_awaited moment post.attempts post.deadline ≡ a → (post_sends timing moment post ≡ []) × (post_pumped timing moment post ≡ post)
      by_test true e = (rw e refl, rw e refl)
      by_test false e =
          let parts = both (post.attempts == 0) (length post.notes == 0) (rw e at idle) in
          resting_idle (eqb-true post.attempts 0 parts.0) (eqb-true (length post.notes) 0 parts.1)

  pub post_busy : is_post_idle moment post ≡ false → post_sends timing moment post ≡ [] → post_pumped timing moment post ≡ post → ⊥
  post_busy busy silent same = by_test (nat_lt 0 post.attempts) (nat_lt moment post.deadline) (nat_le post.attempts timing.retries) timing.flush_silent refl refl refl refl
    where
      none_sent : length (post_sends timing moment post) ≡ 0
      none_sent = ap length silent

      kept : length (post_pumped timing moment post).notes ≡ length post.notes
      kept = ap (λ (p : MailboxState). length p.notes) same

      by_test : (a b c s : Bool) → nat_lt 0 post.attempts ≡ a → nat_lt moment post.deadline ≡ b → nat_le post.attempts timing.retries ≡ c → timing.flush_silent ≡ s → ⊥
      by_test true true c s e f g h = true≢false (rw (e, f) at busy)
      by_test true false true s e f g h = some_sent 1 post (omega arith) (filled_by timing.retries post is (ltb-true 0 post.attempts e)) (rw (e, f, g) at none_sent)
      by_test true false false true e f g h =
          let there = filled_by timing.retries post is (ltb-true 0 post.attempts e) in
          let left : 0 ≡ length post.notes = rw (e, f, g, h) at kept in
          omega (arith, there, left)
      by_test true false false false e f g h =
          let there = filled_by timing.retries post is (ltb-true 0 post.attempts e) in
          let left : length (drop (position_or_len is_confirmed (drop 1 post.notes)) (drop 1 post.notes)) ≡ length post.notes = rw (e, f, g, h) at kept in
          let first = length-drop 1 post.notes in
          let rest = length-drop (position_or_len is_confirmed (drop 1 post.notes)) (drop 1 post.notes) in
          omega (arith, there, left, first, rest)
      by_test false b c s e f g h =
          let rests : post.attempts ≡ 0 = zero_at (ltb-false 0 post.attempts e) in
          let more : (post.attempts == 0 && length post.notes == 0) ≡ false = rw e at busy in
          let there : 0 < length post.notes = some_at (length post.notes) (ap (λ n. n == 0 && length post.notes == 0) (sym rests) ∙ more) in
          some_sent (position_or_len is_confirmed post.notes + 1) post (omega arith) there (rw e at none_sent)
        where
          zero_at : post.attempts ≤ 0 → post.attempts ≡ 0
          zero_at h = omega (arith, h)

          some_at : (n : ℕ) → (n == 0) ≡ false → 0 < n
          some_at zero h = absurd (true≢false h)
          some_at (suc n) h = omega arith

-- all of them
nothing_of : {X : Type 0} (xs ys : List X) → xs ++ ys ≡ [] → (xs ≡ []) × (ys ≡ [])
nothing_of [] ys e = (refl, e)
nothing_of (x ∷ xs) ys e = absurd (never (ap length e))
  where
    never : suc (length (xs ++ ys)) ≡ 0 → ⊥
    never h = omega (arith, h)

module _ (timing : Timing) (moment : ℕ) where
  idle_all : (posts : List MailboxState) → All (IsPost timing.retries) posts → list_all (is_post_idle moment) posts ≡ true →
      (flat_map (post_sends timing moment) posts ≡ []) × (map (post_pumped timing moment) posts ≡ posts)
  idle_all [] is idle = (refl, refl)
  idle_all (post ∷ posts) is idle =
      let parts = both (is_post_idle moment post) (list_all (is_post_idle moment) posts) idle in
      let first = post_idle timing moment post (is 0 post (omega arith)) parts.0 in
      let rest = idle_all posts (λ k d within. is (suc k) d (omega (arith, within))) parts.1 in
      (λ k. first.0 k ++ rest.0 k, λ k. first.1 k ∷ rest.1 k)
    where
      both : (a b : Bool) → (a && b) ≡ true → (a ≡ true) × (b ≡ true)
      both true b e = (refl, e)
      both false b e = absurd (true≢false (sym e))

  all_idle : (posts : List MailboxState) → All (IsPost timing.retries) posts → flat_map (post_sends timing moment) posts ≡ [] → map (post_pumped timing moment) posts ≡ posts →
      list_all (is_post_idle moment) posts ≡ true
  all_idle [] is silent same = refl
  all_idle (post ∷ posts) is silent same =
      let none = nothing_of (post_sends timing moment post) (flat_map (post_sends timing moment) posts) silent in
      let rest = all_idle posts (λ k d within. is (suc k) d (omega (arith, within))) none.1 (ap (drop 1) same) in
      elim (cases_Bool (is_post_idle moment post)) [
        | inl idle ↦ rw idle rest
        | inr busy ↦ absurd (post_busy timing moment post (is 0 post (omega arith)) busy none.0 (ap (λ ps. get_or ps 0 post) same))
      ]

pub idle_law : (moment : ℕ) (outbox : OutboxState) → IsOutbox outbox → IsTrue (is_idle moment outbox) ↔ ((sends_of moment outbox ≡ []) × (pumped moment outbox ≡ outbox))
idle_law moment outbox is = (
  λ idle. let both = idle_all (timing_of outbox) moment outbox.posts is.posts idle in (both.0, ap (with_posts outbox) both.1),
  λ both. all_idle (timing_of outbox) moment outbox.posts is.posts both.0 (ap (λ (o : OutboxState). o.posts) both.1),
)
