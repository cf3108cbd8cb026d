use Rattle.std.proofs.Common.{◌≡◌, ◌+◌, ◌≤◌, ◌++◌}
use Rattle.std.specs.VecDeque.{deque_len, deque_capacity}
use Rattle.std.specs.List.{flat_map}
use Rattle.floor_desk.specs.Owed.{sends_of}
use Rattle.floor_desk.proofs.pending.joined.Given as goal

abbrev pub invariant-loop-owed : goal.invariant-loop-owed
invariant-loop-owed l = record {
  together : l.all.items ++ flat_map sends_of l.waiting.items ≡ flat_map sends_of l.fn.waiting.items;
  room : deque_len l.waiting + 1 ≤ deque_capacity l.waiting;
}

abbrev pub decreases-loop-owed : goal.decreases-loop-owed
decreases-loop-owed l = deque_len l.waiting
