use Rattle.std.proofs.Common.{◌≡◌}
use Rattle.state_codec.specs.SnapshotSteps.{each_at, entry_at, numbers_up_to}
use Rattle.state_codec.proofs.Loops.{in_front}
use Rattle.state_codec.proofs.reading_lists.take_entries.Given as goal

abbrev pub invariant-loop-left : goal.invariant-loop-left
invariant-loop-left l = in_front l.entries.items (each_at (entry_at l.has_rule l.zone) (numbers_up_to l.total l.left) l.bytes.now) ≡ each_at (entry_at l.has_rule l.zone) (numbers_up_to l.total l.count) l.fn.bytes.now

abbrev pub decreases-loop-left : goal.decreases-loop-left
decreases-loop-left l = l.left
