use Rattle.std.proofs.Common.{◌≡◌, ◌++◌, map, take, drop}
use Rattle.outbox.specs.Outboxes.{with_notes, without_body}
use Rattle.outbox.proofs.queueing.put_all.Given as goal

abbrev pub invariant-loop-place : goal.invariant-loop-place
invariant-loop-place l = record {
  put : l.mailboxes ≡ map (with_notes (take l.place l.fn.notes.items)) l.initial.mailboxes;
  left : l.notes.items ≡ map without_body (take l.place l.fn.notes.items) ++ drop l.place l.fn.notes.items;
}
