-- An outbox goes on to stand for the operations of each recipient.
use Rattle.std.proofs.Common.{◌≡◌, ℕ, suc, Bool, true, false, true≢false, ◌||◌, List, [], ◌∷◌, ◌++◌, map, reverse, get_or, nat_lt, refl, sym, ◌∙◌, ap, inl, inr, arith}
use Rattle.std.specs.List.{All, flat_map}
use Rattle.std.proofs.lemmas.Bool.{cases_Bool}
use Rattle.std.proofs.lemmas.List.{get_or-map, length-map}
use Rattle.bac_values.specs.Address.{PeerData}
use Rattle.bac_values.specs.declared.note.Note.{Note}
use Rattle.bac_values.specs.declared.note.Send.{Send}
use Rattle.bac_values.specs.Orders.{is_same}
use Rattle.bac_values.proofs.OrderLemmas.{tied}
use Rattle.outbox.specs.Delivery.{Operation, NoteQueued, PumpedAt, AnswerCame, Timing, nothing_queued, pumped_at, answered_with, delivery_after, sent_at, is_awaited, is_repeated, gives_up}
use Rattle.outbox.specs.Posts.{empty_post, post_of, post_after, post_pumped, post_sends, is_in_flight, MailboxState}
use Rattle.outbox.specs.Outboxes.{OutboxState, timing_of, peers_of, notes_for, is_known, AreKnown, new_outbox, flushing, with_notes, queued, pumped, sends_of, answered_by, answered}
use Rattle.outbox.specs.Following.{Operations, StandsFor, no_operations, after_queue, after_pump, after_answer, Follows, AreSent}
use Rattle.outbox.proofs.Laws.{after_pump_law, after_answer_law, after_sends_law, after_queue_law}

-- a change of each post alone
module _ (change : MailboxState → MailboxState) (same : (post : MailboxState) → (change post).peer ≡ post.peer) where
  pub peers_stay : (posts : List MailboxState) → peers_of (map change posts) ≡ peers_of posts
  peers_stay [] = refl
  peers_stay (post ∷ posts) = λ k. same post k ∷ peers_stay posts k

map_map : {X Y Z : Type 0} (f : Y → Z) (g : X → Y) (h : X → Z) → ((x : X) → f (g x) ≡ h x) → (xs : List X) → map f (map g xs) ≡ map h xs
map_map f g h same [] = refl
map_map f g h same (x ∷ xs) = λ k. same x k ∷ map_map f g h same xs k

flat_map_map : {X Y Z : Type 0} (f : Y → List Z) (g : X → Y) (h : X → List Z) → ((x : X) → f (g x) ≡ h x) → (xs : List X) → flat_map f (map g xs) ≡ flat_map h xs
flat_map_map f g h same [] = refl
flat_map_map f g h same (x ∷ xs) = λ k. same x k ++ flat_map_map f g h same xs k

-- the same peers have posts
known_stays : (change : MailboxState → MailboxState) → ((post : MailboxState) → (change post).peer ≡ post.peer) → (posts : List MailboxState) (peer : PeerData) → is_known peer (map change posts) ≡ is_known peer posts
known_stays change same [] peer = refl
known_stays change same (post ∷ posts) peer = λ k. is_same (same post k) peer || known_stays change same posts peer k

-- where every post goes through what its recipient's operations come to, and nothing is queued for another peer
follows_by : (old : OutboxState) (change : MailboxState → MailboxState) (call : Operations → Operations) → ((post : MailboxState) → (change post).peer ≡ post.peer) →
    ((operations : Operations) (peer : PeerData) → change (post_after (timing_of old) peer (operations peer)) ≡ post_after (timing_of old) peer (call operations peer)) →
    ((operations : Operations) (peer : PeerData) → is_known peer old.posts ≡ false → delivery_after (timing_of old) (operations peer) ≡ nothing_queued → delivery_after (timing_of old) (call operations peer) ≡ nothing_queued) →
    Follows call old (record old { posts = map change old.posts })
follows_by old change call same each leaves = record {
  peers = peers_stay change same old.posts;
  after = λ operations stands. record {
    posts = ap (map change) stands.posts ∙ map_map change (λ peer. post_after (timing_of old) peer (operations peer)) (λ peer. post_after (timing_of old) peer (call operations peer)) (each operations) (peers_of old.posts)
        ∙ ap (map (λ peer. post_after (timing_of old) peer (call operations peer))) (sym (peers_stay change same old.posts));
    strangers = λ peer unknown. let before = sym (known_stays change same old.posts peer) ∙ unknown in leaves operations peer before (stands.strangers peer before);
  };
}

pub pumped_peer : (timing : Timing) (moment : ℕ) (post : MailboxState) → (post_pumped timing moment post).peer ≡ post.peer
pumped_peer timing moment post = by_test _ _ _ _ refl refl refl refl
  where
    by_test : (a b s c : Bool) → is_awaited moment post.attempts post.deadline ≡ a → is_repeated timing.retries post.attempts ≡ b → gives_up timing.flush_silent post.attempts ≡ s → nat_lt 0 post.attempts ≡ c → (post_pumped timing moment post).peer ≡ post.peer
    by_test true b s c e f h g = rw e refl
    by_test false true s c e f h g = rw (e, f) refl
    by_test false false true c e f h g = rw (e, f, h) refl
    by_test false false false true e f h g = rw (e, f, h, g) refl
    by_test false false false false e f h g = rw (e, f, h, g) refl

pub answered_peer : (from : PeerData) (invoke : ℕ) (post : MailboxState) → (answered_by from invoke post).peer ≡ post.peer
answered_peer from invoke post = by_test _ _ refl refl
  where
    by_test : (a b : Bool) → is_same post.peer from ≡ a → is_in_flight invoke post ≡ b → (answered_by from invoke post).peer ≡ post.peer
    by_test true true e f = rw (e, f) refl
    by_test true false e f = rw (e, f) refl
    by_test false b e f = rw e refl

nothing_pumped : (timing : Timing) (moment : ℕ) (older : List Operation) → delivery_after timing older ≡ nothing_queued → delivery_after timing (PumpedAt moment ∷ older) ≡ nothing_queued
unfolding delivery_after
nothing_pumped timing moment older none = ap (pumped_at timing moment) none

nothing_answered : (timing : Timing) (invoke : ℕ) (older : List Operation) → delivery_after timing older ≡ nothing_queued → delivery_after timing (AnswerCame invoke ∷ older) ≡ nothing_queued
unfolding delivery_after
nothing_answered timing invoke older none = ap (answered_with invoke) none

pub pump_follows : (moment : ℕ) (old : OutboxState) → Follows (after_pump moment) old (pumped moment old)
pump_follows moment old = follows_by old (post_pumped (timing_of old) moment) (after_pump moment) (pumped_peer (timing_of old) moment)
    (λ operations peer. sym (after_pump_law (timing_of old) peer (operations peer) moment))
    (λ operations peer unknown none. nothing_pumped (timing_of old) moment (operations peer) none)

pub answer_follows : (from : PeerData) (invoke : ℕ) (old : OutboxState) → Follows (after_answer from invoke) old (answered from invoke old)
answer_follows from invoke old = follows_by old (answered_by from invoke) (after_answer from invoke) (answered_peer from invoke)
    (λ operations peer. by_peer operations peer (is_same peer from) refl)
    (λ operations peer unknown none. nothing_by_peer operations peer (is_same peer from) refl none)
  where
    by_peer : (operations : Operations) (peer : PeerData) (b : Bool) → is_same peer from ≡ b → answered_by from invoke (post_after (timing_of old) peer (operations peer)) ≡ post_after (timing_of old) peer (after_answer from invoke operations peer)
    by_peer operations peer true e = rw e (sym (after_answer_law (timing_of old) peer (operations peer) invoke))
    by_peer operations peer false e = rw e refl

    nothing_by_peer : (operations : Operations) (peer : PeerData) (b : Bool) → is_same peer from ≡ b → delivery_after (timing_of old) (operations peer) ≡ nothing_queued → delivery_after (timing_of old) (after_answer from invoke operations peer) ≡ nothing_queued
    nothing_by_peer operations peer true e none = rw e (nothing_answered (timing_of old) invoke (operations peer) none)
    nothing_by_peer operations peer false e none = rw e none

-- no note is for a peer without a post, where each note's peer has one
none_for : (peer : PeerData) (posts : List MailboxState) (notes : List Note) → is_known peer posts ≡ false → AreKnown notes posts → notes_for peer notes ≡ []
none_for peer posts [] unknown known = refl
none_for peer posts (note ∷ notes) unknown known = elim (cases_Bool (is_same peer note.peer)) [
  | inl same ↦ absurd (true≢false (sym (ap (λ p. is_known p posts) (tied peer note.peer same) ∙ known 0 note (omega arith)) ∙ unknown))
  | inr other ↦ rw other (none_for peer posts notes unknown (λ k d within. known (suc k) d (omega (arith, within))))
]

pub queue_follows : (notes : List Note) (old : OutboxState) → AreKnown notes old.posts → Follows (after_queue notes) old (queued notes old)
queue_follows notes old known = follows_by old (with_notes notes) (after_queue notes) (λ post. refl)
    (λ operations peer. sym (after_queue_law (timing_of old) peer (notes_for peer notes) (operations peer)))
    (λ operations peer unknown none. ap (λ (ns : List Note). delivery_after (timing_of old) (reverse (map (λ note. NoteQueued note) ns) ++ operations peer)) (none_for peer old.posts notes unknown known) ∙ none)

-- each post is what belongs to its recipient
module _ (kept : PeerData → MailboxState) where
  abbrev pub Fits : MailboxState → Type 0
  Fits post = post ≡ kept post.peer

  pub fits_from : (posts : List MailboxState) → posts ≡ map kept (peers_of posts) → All Fits posts
  fits_from posts same k d within =
      let size = length-map posts (λ (post : MailboxState). post.peer) in
      ap (λ ps. get_or ps k d) same ∙ get_or-map kept (peers_of posts) k d.peer d (omega (arith, size, within)) ∙ ap kept (get_or-map (λ (post : MailboxState). post.peer) posts k d d.peer within)

  pub fits_to : (posts : List MailboxState) → All Fits posts → posts ≡ map kept (peers_of posts)
  fits_to [] all = refl
  fits_to (post ∷ posts) all = λ k. all 0 post (omega arith) k ∷ fits_to posts (λ j d within. all (suc j) d (omega (arith, within))) k

-- what is kept of a peer for which nothing was queued
pub nothing_kept : (timing : Timing) (peer : PeerData) (older : List Operation) → delivery_after timing older ≡ nothing_queued → empty_post peer ≡ post_after timing peer older
nothing_kept timing peer older none = sym (ap (post_of peer) none)

-- a new outbox stands for no operations
pub new_stands : (peers : List PeerData) (limit timeout retries : ℕ) → StandsFor (new_outbox peers limit timeout retries) no_operations
unfolding delivery_after
new_stands peers limit timeout retries = record {
  posts = by_peers peers;
  strangers = λ peer unknown. refl;
}
  where
    timing : Timing
    timing = record { timeout = timeout; retries = retries; flush_silent = false }

    by_peers : (peers : List PeerData) → map empty_post peers ≡ map (λ peer. post_after timing peer []) (peers_of (map empty_post peers))
    by_peers [] = refl
    by_peers (peer ∷ peers) = λ k. nothing_kept timing peer [] refl k ∷ by_peers peers k

-- an outbox that stands for no operations stands for none with another choice
pub flushing_stands : (flush_silent : Bool) (outbox : OutboxState) → StandsFor outbox no_operations → StandsFor (flushing flush_silent outbox) no_operations
unfolding delivery_after
flushing_stands flush_silent outbox stands = record { posts = stands.posts; strangers = λ peer unknown. refl }

pub are_sent : (moment : ℕ) (old : OutboxState) (sends : List Send) → sends ≡ sends_of moment old → AreSent moment old sends
are_sent moment old sends is = record {
  sent = λ operations stands. is ∙ ap (flat_map (post_sends (timing_of old) moment)) stands.posts
      ∙ flat_map_map (post_sends (timing_of old) moment) (λ peer. post_after (timing_of old) peer (operations peer)) (λ peer. sent_at (timing_of old) moment peer (delivery_after (timing_of old) (operations peer)))
      (λ peer. sym (after_sends_law (timing_of old) peer (operations peer) moment)) (peers_of old.posts);
}
