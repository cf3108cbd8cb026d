-- What is kept of one recipient: what is not finished.
use Rattle.std.specs.Prelude.{◌≡◌, ℕ, ◌+◌, ◌%◌, ◌^◌, ◌<◌, ◌≤◌, ◌↔◌, Bool, false, ◌&&◌, ◌||◌, IsTrue, IsSomeAnd, nat_lt, nat_le, ◌==◌, List, [], ◌∷◌, ◌++◌, length, take, drop, map, slice_get, All, if◌then◌else◌}
use Rattle.bac_values.specs.Limits.{most_note_octets}
use Rattle.std.specs.List.{list_all, position_or_len}
use Rattle.std.specs.Option.{option_map_or}
use Rattle.bac_values.specs.Address.{PeerData}
use Rattle.bac_values.specs.declared.note.Note.{Note}
use Rattle.bac_values.specs.declared.note.Send.{Send}
use Rattle.bac_values.specs.Orders.{is_same}
use Rattle.outbox.specs.Notifying.{datagram_of}
use Rattle.outbox.specs.Delivery.{Operation, Timing, Delivery, delivery_after, invoke_id, is_confirmed, is_awaited, is_repeated, gives_up}

-- the recipient, the invoke ID of its next confirmed note, how often its first note was sent, until when an answer to that
-- is awaited, and its notes that are not finished
pub record MailboxState : Type 0 where
  pub peer : PeerData
  pub next_invoke : ℕ
  pub attempts : ℕ
  pub deadline : ℕ
  pub notes : List Note

-- what is kept of a delivery
abbrev pub post_of : PeerData → Delivery → MailboxState
post_of peer delivery = record {
  peer = peer;
  next_invoke = invoke_id delivery.all delivery.finished;
  attempts = delivery.attempts;
  deadline = delivery.deadline;
  notes = drop delivery.finished delivery.all;
}

-- what is kept of a recipient after some operations
abbrev pub post_after : Timing → PeerData → List Operation → MailboxState
post_after timing peer operations = post_of peer (delivery_after timing operations)

-- what is so of every post: an invoke ID of 8 bits and a deadline of 64, at most one more transmission than there are retries,
-- a note in flight is to be confirmed, no deadline where none is, and short notes for this recipient
pub record IsPost (retries : ℕ) (post : MailboxState) : Type 0 where
  pub number : post.next_invoke < 256
  pub fits : post.deadline < 2 ^ 64
  pub attempts : post.attempts ≤ 1 + retries
  pub in_flight : 0 < post.attempts → IsSomeAnd (slice_get post.notes 0) (λ (note : Note). IsTrue note.confirmed)
  pub resting : post.attempts ≡ 0 → post.deadline ≡ 0
  pub short : All (λ (note : Note). length note.body ≤ most_note_octets) post.notes
  pub own : All (λ (note : Note). note.peer ≡ post.peer) post.notes

-- whether a note is short, and for this recipient
abbrev pub is_own : PeerData → Note → Bool
is_own peer note = nat_le (length note.body) most_note_octets && is_same note.peer peer

-- whether it is so of a post's attempts and deadline: none where its first note isn't to be confirmed, or isn't there
abbrev pub is_tried : ℕ → MailboxState → Bool
is_tried retries post =
    if post.attempts == 0 then post.deadline == 0
    else nat_le post.attempts (1 + retries) && option_map_or is_confirmed (slice_get post.notes 0) false

-- whether it is so of a post
abbrev pub is_post : ℕ → MailboxState → Bool
is_post retries post = (nat_lt post.next_invoke 256 && nat_lt post.deadline (2 ^ 64)) && (is_tried retries post && list_all (is_own post.peer) post.notes)

-- the test tells it exactly
abbrev pub TestsPosts : Type 0
TestsPosts = (retries : ℕ) (post : MailboxState) → IsTrue (is_post retries post) ↔ IsPost retries post

abbrev pub empty_post : PeerData → MailboxState
empty_post peer = record { peer = peer; next_invoke = 0; attempts = 0; deadline = 0; notes = [] }

-- with one more note, behind the others
abbrev pub with_note : Note → MailboxState → MailboxState
with_note note post = record post { notes = post.notes ++ note ∷ [] }

-- without the note in flight, which is finished
abbrev pub without_first : MailboxState → MailboxState
without_first post = record post { next_invoke = (post.next_invoke + 1) % 256; attempts = 0; deadline = 0; notes = drop 1 post.notes }

-- whether a note with this invoke ID is in flight
abbrev pub is_in_flight : ℕ → MailboxState → Bool
is_in_flight invoke post = nat_lt 0 post.attempts && invoke == post.next_invoke

abbrev pub post_answered : ℕ → MailboxState → MailboxState
post_answered invoke post = if is_in_flight invoke post then without_first post else post

-- without a note in flight whose last deadline has come
abbrev pub unsent : MailboxState → MailboxState
unsent post = if nat_lt 0 post.attempts then without_first post else post

-- without the note in flight and all that stands behind it
abbrev pub post_given_up : MailboxState → MailboxState
post_given_up post = record post { next_invoke = (post.next_invoke + 1) % 256; attempts = 0; deadline = 0; notes = [] }

-- with the notes sent that were never sent, up to and with the first that is to be confirmed
abbrev pub post_sent : Timing → ℕ → MailboxState → MailboxState
post_sent timing moment post =
    let count = position_or_len is_confirmed post.notes in
    record {
      peer = post.peer;
      next_invoke = post.next_invoke;
      attempts = if nat_lt count (length post.notes) then 1 else 0;
      deadline = if nat_lt count (length post.notes) then moment + timing.timeout else 0;
      notes = drop count post.notes;
    }

-- after a pump
abbrev pub post_pumped : Timing → ℕ → MailboxState → MailboxState
post_pumped timing moment post =
    if is_awaited moment post.attempts post.deadline then post
    else (if is_repeated timing.retries post.attempts then
    record post { attempts = post.attempts + 1; deadline = moment + timing.timeout }
    else (if gives_up timing.flush_silent post.attempts then post_given_up post
    else post_sent timing moment (unsent post)))

abbrev pub first_datagrams : ℕ → MailboxState → List Send
first_datagrams count post = map (datagram_of post.peer post.next_invoke) (take count post.notes)

-- what a pump sends
abbrev pub post_sends : Timing → ℕ → MailboxState → List Send
post_sends timing moment post =
    if is_awaited moment post.attempts post.deadline then []
    else (if is_repeated timing.retries post.attempts then first_datagrams 1 post
    else (if gives_up timing.flush_silent post.attempts then []
    else first_datagrams (position_or_len is_confirmed (unsent post).notes + 1) (unsent post)))

-- whether there is nothing to send and nothing to finish
abbrev pub is_post_idle : ℕ → MailboxState → Bool
is_post_idle moment post =
    is_awaited moment post.attempts post.deadline || (post.attempts == 0 && length post.notes == 0)
