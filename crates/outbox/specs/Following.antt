-- An outbox stands for what was done for each recipient.
use Rattle.std.specs.Prelude.{◌≡◌, ℕ, false, ◌||◌, List, [], ◌∷◌, ◌++◌, map, reverse, flat_map, if◌then◌else◌}
use Rattle.std.specs.List.{list_any}
use Rattle.bac_values.specs.Address.{PeerData}
use Rattle.bac_values.specs.declared.note.Note.{Note}
use Rattle.bac_values.specs.declared.note.Send.{Send}
use Rattle.bac_values.specs.Orders.{is_same}
use Rattle.outbox.specs.Delivery.{Operation, NoteQueued, PumpedAt, AnswerCame, nothing_queued, delivery_after, sent_at}
use Rattle.outbox.specs.Posts.{post_after}
use Rattle.outbox.specs.Outboxes.{OutboxState, timing_of, peers_of, notes_for, is_known}

-- the operations of each peer, the newest first
abbrev pub Operations : Type 0
Operations = PeerData → List Operation

-- each post is what these operations leave of its recipient, and for a peer without a post nothing was queued
pub record StandsFor (outbox : OutboxState) (operations : Operations) : Type 0 where
  pub posts : outbox.posts ≡ map (λ peer. post_after (timing_of outbox) peer (operations peer)) (peers_of outbox.posts)
  pub strangers : (peer : PeerData) → is_known peer outbox.posts ≡ false → delivery_after (timing_of outbox) (operations peer) ≡ nothing_queued

-- nothing was done yet
abbrev pub no_operations : Operations
no_operations = λ peer. []

-- each recipient's own notes were queued for it, one after the other
abbrev pub after_queue : List Note → Operations → Operations
after_queue notes operations = λ peer. reverse (map (λ note. NoteQueued note) (notes_for peer notes)) ++ operations peer

-- every peer was pumped
abbrev pub after_pump : ℕ → Operations → Operations
after_pump moment operations = λ peer. PumpedAt moment ∷ operations peer

-- an answer came from one peer
abbrev pub after_answer : PeerData → ℕ → Operations → Operations
after_answer from invoke operations = λ peer. if is_same peer from then AnswerCame invoke ∷ operations peer else operations peer

-- whatever operations the outbox stood for, it stands now for these and those of a call
pub record Follows (call : Operations → Operations) (old new : OutboxState) : Type 0 where
  pub peers : peers_of new.posts ≡ peers_of old.posts
  pub after : (operations : Operations) → StandsFor old operations → StandsFor new (call operations)

-- these peers are known too, and whatever operations the outbox stood for, it stands for them still
pub record Learns (peers : List PeerData) (old new : OutboxState) : Type 0 where
  pub known : (peer : PeerData) → is_known peer new.posts ≡ (is_known peer old.posts || list_any (λ learned. is_same learned peer) peers)
  pub after : (operations : Operations) → StandsFor old operations → StandsFor new operations

-- whatever operations the outbox stood for, this is what a pump sends after them, in the order of the recipients
pub record AreSent (moment : ℕ) (old : OutboxState) (sends : List Send) : Type 0 where
  pub sent : (operations : Operations) → StandsFor old operations →
      sends ≡ flat_map (λ peer. sent_at (timing_of old) moment peer (delivery_after (timing_of old) (operations peer))) (peers_of old.posts)
