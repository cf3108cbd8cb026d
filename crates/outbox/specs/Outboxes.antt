-- The notes of all recipients, as plain data.
use Rattle.std.specs.Prelude.{◌≡◌, ℕ, ◌≤◌, ◌==◌, nat_le, Bool, false, ◌&&◌, IsTrue, List, [], ◌∷◌, ◌++◌, length, take, drop, map, filter, sum_by, All, flat_map, if◌then◌else◌}
use Rattle.bac_values.specs.Limits.{most_outbox}
use Rattle.std.specs.Ordering.{is_lt}
use Rattle.std.specs.List.{list_any, list_all}
use Rattle.bac_values.specs.Address.{PeerData}
use Rattle.bac_values.specs.declared.note.Note.{Note}
use Rattle.bac_values.specs.declared.note.Send.{Send}
use Rattle.bac_values.specs.Orders.{peer_order, is_same, IsAscending}
use Rattle.outbox.specs.declared.post.Post.{Post}
use Rattle.outbox.specs.Delivery.{Timing}
use Rattle.outbox.specs.Posts.{IsPost, is_post, empty_post, is_in_flight, post_answered, post_pumped, post_sends, is_post_idle, MailboxState}

-- the posts in the order of their recipients, how many notes there may be that are not finished, APDU_Timeout and Number_Of_APDU_Retries,
-- and whether a note that is given up takes along all that stands behind it
pub record OutboxState : Type 0 where
  pub posts : List MailboxState
  pub limit : ℕ
  pub timeout : ℕ
  pub retries : ℕ
  pub flush_silent : Bool

abbrev pub timing_of : OutboxState → Timing
timing_of outbox = record { timeout = outbox.timeout; retries = outbox.retries; flush_silent = outbox.flush_silent }

abbrev pub peers_of : List MailboxState → List PeerData
peers_of posts = map (λ (post : MailboxState). post.peer) posts

-- how many notes are not finished
abbrev pub unfinished_in : List MailboxState → ℕ
unfinished_in posts = sum_by (λ (post : MailboxState). length post.notes) posts

-- the limits of the settings
pub record AreSettings (limit timeout retries : ℕ) : Type 0 where
  pub fits : limit ≤ most_outbox
  pub ends : timeout ≤ 3_600_000
  pub stops : retries ≤ 15

-- what is so of every outbox
pub record IsOutbox (outbox : OutboxState) : Type 0 where
  pub settings : AreSettings outbox.limit outbox.timeout outbox.retries
  pub ascending : IsAscending (peers_of outbox.posts)
  pub posts : All (IsPost outbox.retries) outbox.posts
  pub room : unfinished_in outbox.posts ≤ outbox.limit

abbrev pub new_outbox : List PeerData → ℕ → ℕ → ℕ → OutboxState
new_outbox peers limit timeout retries = record { posts = map empty_post peers; limit = limit; timeout = timeout; retries = retries; flush_silent = false }

-- the same outbox, where a note that is given up takes along all that stands behind it, or doesn't
abbrev pub flushing : Bool → OutboxState → OutboxState
flushing flush_silent outbox = record outbox { flush_silent = flush_silent }

-- the notes for one peer, in their order
abbrev pub notes_for : PeerData → List Note → List Note
notes_for peer notes = filter (λ (note : Note). is_same peer note.peer) notes

-- behind its own notes each recipient has those that are for it
abbrev pub with_notes : List Note → MailboxState → MailboxState
with_notes notes post = record post { notes = post.notes ++ notes_for post.peer notes }

abbrev pub queued : List Note → OutboxState → OutboxState
queued notes outbox = record outbox { posts = map (with_notes notes) outbox.posts }

-- every recipient is pumped
abbrev pub pumped : ℕ → OutboxState → OutboxState
pumped moment outbox = record outbox { posts = map (post_pumped (timing_of outbox) moment) outbox.posts }

-- what a pump sends, in the order of the recipients
abbrev pub sends_of : ℕ → OutboxState → List Send
sends_of moment outbox = flat_map (post_sends (timing_of outbox) moment) outbox.posts

-- whether the post is that of this peer, and a note with this invoke ID is in flight
abbrev pub is_flight_to : PeerData → ℕ → MailboxState → Bool
is_flight_to peer invoke post = is_same post.peer peer && is_in_flight invoke post

-- whether a note to this peer with this invoke ID is in flight
abbrev pub has_in_flight : PeerData → ℕ → OutboxState → Bool
has_in_flight peer invoke outbox = list_any (is_flight_to peer invoke) outbox.posts

-- one recipient's answer came
abbrev pub answered_by : PeerData → ℕ → MailboxState → MailboxState
answered_by peer invoke post = if is_same post.peer peer then post_answered invoke post else post

abbrev pub answered : PeerData → ℕ → OutboxState → OutboxState
answered peer invoke outbox = record outbox { posts = map (answered_by peer invoke) outbox.posts }

-- whether no recipient has anything to send or to finish
abbrev pub is_idle : ℕ → OutboxState → Bool
is_idle moment outbox = list_all (is_post_idle moment) outbox.posts

-- whether a peer has a post
abbrev pub is_known : PeerData → List MailboxState → Bool
is_known peer posts = list_any (λ (post : MailboxState). is_same post.peer peer) posts

-- with an empty post for a peer that has none, between the posts of those below it and those above it
abbrev pub mailboxes_with : PeerData → List MailboxState → List MailboxState
mailboxes_with peer posts =
    if is_known peer posts then posts
    else filter (λ (post : MailboxState). is_lt (peer_order post.peer peer)) posts ++ empty_post peer ∷ filter (λ (post : MailboxState). is_lt (peer_order peer post.peer)) posts

-- with each of the peers
abbrev pub mailboxes_with_all : List PeerData → List MailboxState → List MailboxState
mailboxes_with_all [] posts = posts
mailboxes_with_all (peer ∷ peers) posts = mailboxes_with_all peers (mailboxes_with peer posts)

abbrev pub learned : List PeerData → OutboxState → OutboxState
learned peers outbox = record outbox { posts = mailboxes_with_all peers outbox.posts }

-- what is told of a post
abbrev pub shown : MailboxState → Post
shown post = record { peer = post.peer; next_invoke = post.next_invoke; attempts = post.attempts; deadline = post.deadline; notes = length post.notes }

-- a post of which this was told, with its notes
abbrev pub restored_post : Post → List Note → MailboxState
restored_post post notes = record { peer = post.peer; next_invoke = post.next_invoke; attempts = post.attempts; deadline = post.deadline; notes = notes }

-- posts of which this was told, whose notes stand one post's after the other's
abbrev pub restored_posts : List Post → List Note → List MailboxState
restored_posts [] notes = []
restored_posts (post ∷ posts) notes = restored_post post (take post.notes notes) ∷ restored_posts posts (drop post.notes notes)

abbrev pub restored : List Post → List Note → ℕ → ℕ → ℕ → OutboxState
restored posts notes limit timeout retries = record { posts = restored_posts posts notes; limit = limit; timeout = timeout; retries = retries; flush_silent = false }

-- how many notes the posts of which this was told have
abbrev pub notes_told : List Post → ℕ
notes_told posts = sum_by (λ (post : Post). post.notes) posts

-- Posts of which this was told and notes make an outbox with these settings: each note belongs to a post, and what comes of them
-- is an outbox.
abbrev pub AreParts : List Post → List Note → ℕ → ℕ → ℕ → Type 0
AreParts posts notes limit timeout retries = (notes_told posts ≡ length notes) × IsOutbox (restored posts notes limit timeout retries)

-- whether each post of which this was told has its notes among these, none is left, and it is a post
abbrev pub are_posts : ℕ → List Post → List Note → Bool
are_posts retries [] notes = length notes == 0
are_posts retries (post ∷ posts) notes =
    nat_le post.notes (length notes) && (is_post retries (restored_post post (take post.notes notes)) && are_posts retries posts (drop post.notes notes))

-- the notes of all posts, one post's after the other's
abbrev pub notes_of : List MailboxState → List Note
notes_of posts = flat_map (λ (post : MailboxState). post.notes) posts

-- what is left of a note whose octets were moved
abbrev pub without_body : Note → Note
without_body note = record note { body = [] }

-- the peer of each note has a post
abbrev pub AreKnown : List Note → List MailboxState → Type 0
AreKnown notes posts = All (λ (note : Note). IsTrue (is_known note.peer posts)) notes
