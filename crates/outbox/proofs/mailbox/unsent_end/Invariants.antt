use Rattle.std.proofs.Common.{◌≡◌, ◌+◌, ◌-◌, ◌≤◌, length, drop}
use Rattle.std.specs.List.{position_or_len}
use Rattle.outbox.specs.Delivery.{is_confirmed}
use Rattle.outbox.proofs.mailbox.unsent_end.Given as goal

abbrev pub invariant-loop-note : goal.invariant-loop-note
invariant-loop-note l = record {
  above : l.from ≤ l.place;
  same : l.from + position_or_len is_confirmed (drop l.from l.notes.items) ≡ l.place + position_or_len is_confirmed (drop l.place l.notes.items);
}

abbrev pub decreases-loop-note : goal.decreases-loop-note
decreases-loop-note l = length l.notes.items - l.place
