use Rattle.std.proofs.Common.{◌≡◌, length}
use Rattle.state_codec.specs.SnapshotSteps.{each_at, row_at}
use Rattle.state_codec.proofs.Loops.{in_front}
use Rattle.state_codec.proofs.reading_lists.take_rows.Given as goal

abbrev pub invariant-loop-site : goal.invariant-loop-site
invariant-loop-site l = in_front l.rows.items (each_at row_at l.left.rest.items l.bytes.now) ≡ each_at row_at l.fn.sites.items l.fn.bytes.now

abbrev pub decreases-loop-site : goal.decreases-loop-site
decreases-loop-site l = length l.left.rest.items
