use Rattle.std.proofs.Common.{◌≡◌, drop}
use Rattle.state_codec.specs.SnapshotSteps.{classes_at}
use Rattle.state_codec.proofs.Loops.{in_front}
use Rattle.state_codec.proofs.reading_lists.take_classes.Given as goal

abbrev pub invariant-loop-listed : goal.invariant-loop-listed
invariant-loop-listed l = in_front l.classes.items (classes_at (drop l.listed-index l.sites) l.bytes.now) ≡ classes_at l.sites l.fn.bytes.now
