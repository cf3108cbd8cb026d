-- What is so of every outbox stays so.
use Rattle.bac_values.specs.Limits.{most_note_octets}
use Rattle.std.proofs.Common.{◌≡◌, ℕ, suc, ◌+◌, ◌^◌, ◌<◌, ◌≤◌, Bool, true, false, true≢false, nat_lt, nat_le, ◌||◌, IsTrue, List, [], ◌∷◌, length, drop, map, refl, sym, ◌∙◌, subst, inl, inr, arith, rules}
use Rattle.std.specs.List.{list_any, position_or_len, All, slice_get}
use Rattle.std.specs.Option.{IsSomeAnd}
use Rattle.std.proofs.Math.Nat.{mod-lt}
use Rattle.bac_values.specs.Moments.{IsMoment}
use Rattle.std.proofs.lemmas.Bool.{ltb-true, cases_Bool}
use Rattle.std.proofs.lemmas.List.{length-drop}
use Rattle.std.proofs.lemmas.List.Elements.{All-map, All-weaker, All-drop}
use Rattle.std.proofs.lemmas.List.Sums.{sum_by-cons}
use Rattle.bac_values.specs.Address.{PeerData}
use Rattle.bac_values.specs.declared.note.Note.{Note}
use Rattle.bac_values.specs.Orders.{is_same, IsAscending}
use Rattle.outbox.specs.Delivery.{Timing, is_confirmed, is_awaited, is_repeated, gives_up}
use Rattle.outbox.specs.Posts.{IsPost, without_first, post_given_up, unsent, post_sent, post_pumped, post_answered, is_in_flight, MailboxState}
use Rattle.outbox.specs.Outboxes.{OutboxState, IsOutbox, timing_of, unfinished_in, pumped, answered, answered_by, is_flight_to}
use Rattle.outbox.proofs.Standing.{peers_stay, pumped_peer, answered_peer}

-- the first note behind the unconfirmed ones is to be confirmed
first_confirmed : (notes : List Note) → position_or_len is_confirmed notes < length notes → IsSomeAnd (slice_get (drop (position_or_len is_confirmed notes) notes) 0) (λ (note : Note). IsTrue note.confirmed)
first_confirmed [] h = absurd (omega (arith, h))
first_confirmed (note ∷ notes) h = elim (cases_Bool (is_confirmed note)) [
  | inl e ↦ rw e refl
  | inr e ↦
      let next : 1 + position_or_len is_confirmed notes ≡ suc (position_or_len is_confirmed notes) = omega arith in
      let later : 1 + position_or_len is_confirmed notes < suc (length notes) = rw e at h in
      rw (e, next) (first_confirmed notes (omega arith))
]

without_first_keeps : (retries : ℕ) (post : MailboxState) → IsPost retries post → IsPost retries (without_first post)
without_first_keeps retries post is = record {
  number = mod-lt (post.next_invoke + 1) (omega arith);
  fits = omega arith;
  attempts = omega arith;
  in_flight = λ h. absurd (omega (arith, h));
  resting = λ h. refl;
  short = All-drop (λ (note : Note). length note.body ≤ most_note_octets) 1 post.notes is.short;
  own = All-drop (λ (note : Note). note.peer ≡ post.peer) 1 post.notes is.own;
}

post_given_up_keeps : (retries : ℕ) (post : MailboxState) → IsPost retries (post_given_up post)
post_given_up_keeps retries post = record {
  number = mod-lt (post.next_invoke + 1) (omega arith);
  fits = omega arith;
  attempts = omega arith;
  in_flight = λ h. absurd (omega (arith, h));
  resting = λ h. refl;
  short = λ k d h. absurd (omega (arith, h));
  own = λ k d h. absurd (omega (arith, h));
}

unsent_keeps : (retries : ℕ) (post : MailboxState) → IsPost retries post → IsPost retries (unsent post)
unsent_keeps retries post is = by_test (nat_lt 0 post.attempts) refl
  where
    by_test : (b : Bool) → nat_lt 0 post.attempts ≡ b → IsPost retries (unsent post)
    by_test true e = rw e (without_first_keeps retries post is)
    by_test false e = rw e is

-- a deadline from this moment on fits 64 bits
abbrev pub EndsInTime : Timing → ℕ → Type 0
EndsInTime timing moment = moment + timing.timeout < 2 ^ 64

pub ends_in_time : (timing : Timing) (moment : ℕ) → IsMoment moment → timing.timeout ≤ 3_600_000 → EndsInTime timing moment
ends_in_time timing moment in_range short = omega (arith, in_range.1, short)

post_sent_keeps : (timing : Timing) (moment : ℕ) (post : MailboxState) → EndsInTime timing moment → IsPost timing.retries post → IsPost timing.retries (post_sent timing moment post)
post_sent_keeps timing moment post ends is = by_test (nat_lt count (length post.notes)) refl
  where
    count : ℕ
    count = position_or_len is_confirmed post.notes

    by_test : (b : Bool) → nat_lt (position_or_len is_confirmed post.notes) (length post.notes) ≡ b → IsPost timing.retries (post_sent timing moment post)
    by_test true e = record {
      number = is.number;
      fits = rw e ends;
      attempts = rw e (omega arith);
      in_flight = λ h. first_confirmed post.notes (ltb-true _ _ e);
      resting = rw e (λ h. absurd (omega (arith, h)));
      short = All-drop (λ (note : Note). length note.body ≤ most_note_octets) (position_or_len is_confirmed post.notes) post.notes is.short;
      own = All-drop (λ (note : Note). note.peer ≡ post.peer) (position_or_len is_confirmed post.notes) post.notes is.own;
    }
    by_test false e = record {
      number = is.number;
      fits = rw e (omega arith);
      attempts = rw e (omega arith);
      in_flight = rw e (λ h. absurd (omega (arith, h)));
      resting = rw e (λ h. refl);
      short = All-drop (λ (note : Note). length note.body ≤ most_note_octets) (position_or_len is_confirmed post.notes) post.notes is.short;
      own = All-drop (λ (note : Note). note.peer ≡ post.peer) (position_or_len is_confirmed post.notes) post.notes is.own;
    }

le-true : (a b : ℕ) → nat_le a b ≡ true → a ≤ b
le-true a b e = search (rules, e)

post_pumped_keeps : (timing : Timing) (moment : ℕ) → EndsInTime timing moment → (post : MailboxState) → IsPost timing.retries post → IsPost timing.retries (post_pumped timing moment post)
post_pumped_keeps timing moment ends post is = by_test (is_awaited moment post.attempts post.deadline) (nat_lt 0 post.attempts) (nat_le post.attempts timing.retries) timing.flush_silent refl refl refl refl
  where
    by_test : (a b c s : Bool) → is_awaited moment post.attempts post.deadline ≡ a → nat_lt 0 post.attempts ≡ b → nat_le post.attempts timing.retries ≡ c → timing.flush_silent ≡ s → IsPost timing.retries (post_pumped timing moment post)
    by_test true b c s e f g h = rw e is
    by_test false true true s e f g h =
        let most = le-true post.attempts timing.retries g in
        rw (e, f, g) (record {
          number = is.number;
          fits = ends;
          attempts = omega arith;
          in_flight = λ k. is.in_flight (ltb-true 0 post.attempts f);
          resting = λ k. absurd (omega (arith, k));
          short = is.short;
          own = is.own;
        })
    by_test false true false true e f g h = rw (e, f, g, h) (post_given_up_keeps timing.retries post)
    by_test false true false false e f g h = rw (e, f, g, h) (post_sent_keeps timing moment (without_first post) ends (without_first_keeps timing.retries post is))
    by_test false false c s e f g h = rw (e, f) (post_sent_keeps timing moment post ends is)

post_answered_keeps : (retries invoke : ℕ) (post : MailboxState) → IsPost retries post → IsPost retries (post_answered invoke post)
post_answered_keeps retries invoke post is = by_test (is_in_flight invoke post) refl
  where
    by_test : (b : Bool) → is_in_flight invoke post ≡ b → IsPost retries (post_answered invoke post)
    by_test true e = rw e (without_first_keeps retries post is)
    by_test false e = rw e is

-- fewer notes in each post are fewer in all
module _ (change : MailboxState → MailboxState) (fewer : (post : MailboxState) → length (change post).notes ≤ length post.notes) where
  pub fewer_in_all : (posts : List MailboxState) → unfinished_in (map change posts) ≤ unfinished_in posts
  fewer_in_all [] = omega arith
  fewer_in_all (post ∷ posts) =
      let left = sum_by-cons (λ (p : MailboxState). length p.notes) (change post) (map change posts) in
      let right = sum_by-cons (λ (p : MailboxState). length p.notes) post posts in
      omega (arith, left, right, fewer post, fewer_in_all posts)

pub pumped_fewer : (timing : Timing) (moment : ℕ) (post : MailboxState) → length (post_pumped timing moment post).notes ≤ length post.notes
pumped_fewer timing moment post = by_test (is_awaited moment post.attempts post.deadline) (is_repeated timing.retries post.attempts) (gives_up timing.flush_silent post.attempts) (nat_lt 0 post.attempts) refl refl refl refl
  where
    by_test : (a b s c : Bool) → is_awaited moment post.attempts post.deadline ≡ a → is_repeated timing.retries post.attempts ≡ b → gives_up timing.flush_silent post.attempts ≡ s → nat_lt 0 post.attempts ≡ c → length (post_pumped timing moment post).notes ≤ length post.notes
    by_test true b s c e f h g = rw e (omega arith)
    by_test false true s c e f h g = rw (e, f) (omega arith)
    by_test false false true c e f h g = rw (e, f, h) (omega arith)
    by_test false false false true e f h g = rw (e, f, h, g) (omega (arith, length-drop (position_or_len is_confirmed (drop 1 post.notes)) (drop 1 post.notes), length-drop 1 post.notes))
    by_test false false false false e f h g = rw (e, f, h, g) (omega (arith, length-drop (position_or_len is_confirmed post.notes) post.notes))

pub pump_keeps : (moment : ℕ) (outbox : OutboxState) → IsMoment moment → IsOutbox outbox → IsOutbox (pumped moment outbox)
pump_keeps moment outbox in_range is =
    let ends : EndsInTime (timing_of outbox) moment = ends_in_time (timing_of outbox) moment in_range is.settings.ends in
    let timing = timing_of outbox in
    let change : MailboxState → MailboxState = post_pumped (timing_of outbox) moment in
    let less = fewer_in_all change (pumped_fewer (timing_of outbox) moment) outbox.posts in
    record {
      settings = is.settings;
      ascending = subst IsAscending (sym (peers_stay change (pumped_peer (timing_of outbox) moment) outbox.posts)) is.ascending;
      posts = All-map (IsPost outbox.retries) change outbox.posts (All-weaker (IsPost outbox.retries) (λ post. IsPost outbox.retries (change post)) (post_pumped_keeps (timing_of outbox) moment ends) outbox.posts is.posts);
      room = omega (arith, less, is.room);
    }

answered_by_keeps : (retries : ℕ) (from : PeerData) (invoke : ℕ) (post : MailboxState) → IsPost retries post → IsPost retries (answered_by from invoke post)
answered_by_keeps retries from invoke post is = by_test (is_same post.peer from) refl
  where
    by_test : (b : Bool) → is_same post.peer from ≡ b → IsPost retries (answered_by from invoke post)
    by_test true e = rw e (post_answered_keeps retries invoke post is)
    by_test false e = rw e is

pub answered_fewer : (from : PeerData) (invoke : ℕ) (post : MailboxState) → length (answered_by from invoke post).notes ≤ length post.notes
answered_fewer from invoke post = by_test (is_same post.peer from) (is_in_flight invoke post) refl refl
  where
    by_test : (b c : Bool) → is_same post.peer from ≡ b → is_in_flight invoke post ≡ c → length (answered_by from invoke post).notes ≤ length post.notes
    by_test true true e f = rw (e, f) (omega (arith, length-drop 1 post.notes))
    by_test true false e f = rw (e, f) (omega arith)
    by_test false c e f = rw e (omega arith)

pub answer_keeps : (from : PeerData) (invoke : ℕ) (outbox : OutboxState) → IsOutbox outbox → IsOutbox (answered from invoke outbox)
answer_keeps from invoke outbox is =
    let change : MailboxState → MailboxState = answered_by from invoke in
    let less = fewer_in_all change (answered_fewer from invoke) outbox.posts in
    record {
      settings = is.settings;
      ascending = subst IsAscending (sym (peers_stay change (answered_peer from invoke) outbox.posts)) is.ascending;
      posts = All-map (IsPost outbox.retries) change outbox.posts (All-weaker (IsPost outbox.retries) (λ post. IsPost outbox.retries (change post)) (answered_by_keeps outbox.retries from invoke) outbox.posts is.posts);
      room = omega (arith, less, is.room);
    }

-- a note in flight is there
pub filled_by : (retries : ℕ) (post : MailboxState) → IsPost retries post → 0 < post.attempts → 0 < length post.notes
filled_by retries post is sent = by_notes post.notes (is.in_flight sent)
  where
    by_notes : (notes : List Note) → IsSomeAnd (slice_get notes 0) (λ (note : Note). IsTrue note.confirmed) → 0 < length notes
    by_notes [] h = absurd h
    by_notes (note ∷ notes) h = omega arith

pub all_filled : (outbox : OutboxState) → IsOutbox outbox → All (λ (post : MailboxState). 0 < post.attempts → 0 < length post.notes) outbox.posts
all_filled outbox is = All-weaker (IsPost outbox.retries) (λ (post : MailboxState). 0 < post.attempts → 0 < length post.notes) (filled_by outbox.retries) outbox.posts is.posts

-- where no note of the peer is in flight with the invoke ID, an answer changes nothing
pub stray_same : (from : PeerData) (invoke : ℕ) (posts : List MailboxState) → false ≡ list_any (is_flight_to from invoke) posts → map (answered_by from invoke) posts ≡ posts
stray_same from invoke [] none = refl
stray_same from invoke (post ∷ posts) none =
    let apart = neither (is_flight_to from invoke post) (list_any (is_flight_to from invoke) posts) (sym none) in
    λ k. stays (is_same post.peer from) (is_in_flight invoke post) refl refl apart.0 k ∷ stray_same from invoke posts (sym apart.1) k
  where
    neither : (a b : Bool) → (a || b) ≡ false → (a ≡ false) × (b ≡ false)
    neither true b e = absurd (true≢false e)
    neither false b e = (refl, e)

    stays : (a b : Bool) → is_same post.peer from ≡ a → is_in_flight invoke post ≡ b → is_flight_to from invoke post ≡ false → answered_by from invoke post ≡ post
    stays true true e f g = absurd (true≢false (sym (rw (e, f) refl) ∙ g))
    stays true false e f g = rw (e, f) refl
    stays false b e f g = rw e refl
