use Rattle.std.proofs.Common.{◌≡◌, ◌-◌, ◌≤◌, ◌++◌, map, take, drop, min, max}
use Rattle.std.specs.VecDeque.{deque_len}
use Rattle.outbox.specs.Notifying.{datagram_of}
use Rattle.outbox.proofs.mailbox.append_between.Given as goal

abbrev pub invariant-loop-place : goal.invariant-loop-place
invariant-loop-place l = record {
  near : l.place ≤ max l.fn.places.start (min l.fn.places.end (deque_len l.notes));
  appended : l.sends.items ≡ l.initial.sends.items ++ map (datagram_of l.peer l.invoke) (take (l.place - l.fn.places.start) (drop l.fn.places.start l.notes.items));
}
