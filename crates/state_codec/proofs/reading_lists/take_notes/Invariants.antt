use Rattle.std.proofs.Common.{◌≡◌, ◌-◌}
use Rattle.state_codec.specs.SnapshotSteps.{note_at, times_at}
use Rattle.state_codec.proofs.Loops.{in_front}
use Rattle.state_codec.proofs.reading_lists.take_notes.Given as goal

abbrev pub invariant-loop : goal.invariant-loop
invariant-loop l = in_front l.notes.items (times_at (note_at l.peer) (l.count - l.counter) l.bytes.now) ≡ times_at (note_at l.peer) l.count l.fn.bytes.now
