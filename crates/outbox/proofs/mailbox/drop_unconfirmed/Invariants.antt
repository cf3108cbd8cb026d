use Rattle.std.proofs.Common.{◌≡◌, drop}
use Rattle.std.specs.List.{position_or_len}
use Rattle.std.specs.VecDeque.{deque_len}
use Rattle.outbox.specs.Delivery.{is_confirmed}
use Rattle.outbox.proofs.mailbox.drop_unconfirmed.Given as goal

abbrev pub invariant-loop-note : goal.invariant-loop-note
invariant-loop-note l =
    drop (position_or_len is_confirmed l.initial.notes.items) l.initial.notes.items ≡ drop (position_or_len is_confirmed l.notes.items) l.notes.items

abbrev pub decreases-loop-note : goal.decreases-loop-note
decreases-loop-note l = deque_len l.notes
