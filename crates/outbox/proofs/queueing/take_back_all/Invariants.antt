use Rattle.std.proofs.Common.{◌≡◌, ◌≤◌, ◌++◌, List, map, take, drop}
use Rattle.bac_values.specs.declared.note.Note.{Note}
use Rattle.bac_values.specs.Orders.{IsAscending}
use Rattle.outbox.specs.Posts.{MailboxState}
use Rattle.outbox.specs.Outboxes.{peers_of, with_notes, without_body, AreKnown}
use Rattle.outbox.proofs.queueing.take_back_all.Given as goal

abbrev pub invariant-loop-place : goal.invariant-loop-place
invariant-loop-place l = record {
  within : l.place ≤ l.count;
  ascending : IsAscending (peers_of l.mailboxes);
  back : (posts : List MailboxState) (whole : List Note) → AreKnown whole posts → l.initial.mailboxes ≡ map (with_notes (take l.count whole)) posts
      → l.initial.notes ≡ map without_body (take l.count whole) ++ drop l.count whole
      → (l.mailboxes ≡ map (with_notes (take l.place whole)) posts) × (l.notes ≡ map without_body (take l.place whole) ++ drop l.place whole);
}

abbrev pub decreases-loop-place : goal.decreases-loop-place
decreases-loop-place l = l.place
