use Rattle.std.proofs.Common.{◌≡◌, take, drop}
use Rattle.outbox.proofs.restoring.take_next.Given as goal

abbrev pub invariant-loop-index : goal.invariant-loop-index
invariant-loop-index l = record {
  taken : l.taken.items ≡ take l._index l.initial.notes.items;
  left : l.notes.items ≡ drop l._index l.initial.notes.items;
}
