-- What is so of every outbox stays so when notes are queued.
use Rattle.bac_values.specs.Limits.{most_note_octets}
use Rattle.std.proofs.Common.{◌≡◌, ℕ, suc, ◌+◌, ◌≤◌, true, IsTrue, List, [], ◌∷◌, ◌++◌, length, map, get_or, refl, sym, ◌∙◌, ap, subst, arith, length-append}
use Rattle.std.specs.List.{All, slice_get}
use Rattle.std.specs.Option.{IsSomeAnd}
use Rattle.std.proofs.lemmas.List.{get_or_default}
use Rattle.std.proofs.lemmas.List.Elements.{All-map, All-weaker, All-append, All-filter, filter_passes}
use Rattle.std.proofs.lemmas.List.Folds.{Any-from_list_any}
use Rattle.std.proofs.lemmas.List.Sums.{sum_by-set}
use Rattle.bac_values.specs.Address.{PeerData}
use Rattle.bac_values.specs.declared.note.Note.{Note}
use Rattle.bac_values.specs.Orders.{is_same, IsAscending}
use Rattle.bac_values.proofs.OrderLemmas.{tied}
use Rattle.outbox.specs.Posts.{IsPost, with_note, MailboxState}
use Rattle.outbox.specs.Outboxes.{OutboxState, IsOutbox, peers_of, unfinished_in, notes_for, with_notes, queued, is_known, AreKnown}
use Rattle.outbox.specs.Places.{IsPlaceOf}
use Rattle.outbox.proofs.QueueLemmas.{put_one, more_notes, no_notes, known_after, rising_still}
use Rattle.outbox.proofs.Standing.{peers_stay}

-- a peer that is known has a place
place_of : (peer : PeerData) (posts : List MailboxState) → is_known peer posts ≡ true → (k : ℕ) × (MailboxState × IsPlaceOf peer posts k)
place_of peer posts known =
    let found = Any-from_list_any (λ (post : MailboxState). is_same post.peer peer) posts known in
    (found.0, (found.1, (found.2, λ d. ap (λ (post : MailboxState). post.peer) (get_or_default posts found.0 d found.1 found.2 ∙ found.3) ∙ tied (found.1).peer peer found.4)))

-- one note more
one_longer : (note : Note) (posts : List MailboxState) → IsAscending (peers_of posts) → is_known note.peer posts ≡ true → unfinished_in (map (with_notes (note ∷ [])) posts) ≡ unfinished_in posts + 1
one_longer note posts ascending known =
    let at = place_of note.peer posts known in
    let place = at.0 in
    let old = (at.1).0 in
    let there = (at.1).1 in
    let new = with_note note (get_or posts place old) in
    let put = put_one note posts place new old ascending there refl in
    let sums = sum_by-set (λ (p : MailboxState). length p.notes) posts place new old there.0 in
    let size = length-append (get_or posts place old).notes (note ∷ []) in
    let counts = ap unfinished_in put in
    omega (arith, sums, size, counts)

-- each note is one more
pub all_longer : (notes : List Note) (posts : List MailboxState) → IsAscending (peers_of posts) → AreKnown notes posts → unfinished_in (map (with_notes notes) posts) ≡ unfinished_in posts + length notes
all_longer [] posts ascending known = let counts = ap unfinished_in (no_notes posts) in omega (arith, counts)
all_longer (note ∷ notes) posts ascending known =
    let one = one_longer note posts ascending (known 0 note (omega arith)) in
    let rising = rising_still (note ∷ []) posts (map (with_notes (note ∷ [])) posts) refl ascending in
    let rest = all_longer notes (map (with_notes (note ∷ [])) posts) rising (λ k d h. known_after (note ∷ []) posts (get_or notes k d).peer ∙ known (suc k) d (omega arith)) in
    let together = ap unfinished_in (more_notes (note ∷ []) notes posts) in
    omega (arith, one, rest, together)

first_stays : (notes more : List Note) → IsSomeAnd (slice_get notes 0) (λ (note : Note). IsTrue note.confirmed) → IsSomeAnd (slice_get (notes ++ more) 0) (λ (note : Note). IsTrue note.confirmed)
first_stays [] more h = absurd h
first_stays (note ∷ notes) more h = h

with_notes_keeps : (retries : ℕ) (notes : List Note) → All (λ (note : Note). length note.body ≤ most_note_octets) notes → (post : MailboxState) → IsPost retries post → IsPost retries (with_notes notes post)
with_notes_keeps retries notes short post is = record {
  number = is.number;
  fits = is.fits;
  attempts = is.attempts;
  in_flight = λ h. first_stays post.notes (notes_for post.peer notes) (is.in_flight h);
  resting = is.resting;
  short = All-append (λ (note : Note). length note.body ≤ most_note_octets) post.notes (notes_for post.peer notes) is.short (All-filter (λ (note : Note). is_same post.peer note.peer) (λ (note : Note). length note.body ≤ most_note_octets) notes short);
  own = All-append (λ (note : Note). note.peer ≡ post.peer) post.notes (notes_for post.peer notes) is.own
      (All-weaker (λ (note : Note). is_same post.peer note.peer ≡ true) (λ (note : Note). note.peer ≡ post.peer) (λ note e. sym (tied post.peer note.peer e)) (notes_for post.peer notes) (filter_passes (λ (note : Note). is_same post.peer note.peer) notes));
}

pub queue_keeps : (notes : List Note) (outbox : OutboxState) → IsOutbox outbox → AreKnown notes outbox.posts → All (λ (note : Note). length note.body ≤ most_note_octets) notes → unfinished_in outbox.posts + length notes ≤ outbox.limit → IsOutbox (queued notes outbox)
queue_keeps notes outbox is known short fits =
    let counts = all_longer notes outbox.posts is.ascending known in
    record {
      settings = is.settings;
      ascending = subst IsAscending (sym (peers_stay (with_notes notes) (λ post. refl) outbox.posts)) is.ascending;
      posts = All-map (IsPost outbox.retries) (with_notes notes) outbox.posts (All-weaker (IsPost outbox.retries) (λ post. IsPost outbox.retries (with_notes notes post)) (with_notes_keeps outbox.retries notes short) outbox.posts is.posts);
      room = omega (arith, counts);
    }
