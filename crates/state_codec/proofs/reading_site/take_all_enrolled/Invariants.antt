use Rattle.std.proofs.Common.{◌≡◌, length}
use Rattle.std.specs.List.{zip}
use Rattle.state_codec.specs.SnapshotSteps.{all_enrolled_at}
use Rattle.state_codec.proofs.Loops.{in_front}
use Rattle.state_codec.proofs.reading_site.take_all_enrolled.Given as goal

abbrev pub invariant-loop-site : goal.invariant-loop-site
invariant-loop-site l = record {
  read : in_front (zip l.alarms.items l.enrollments.items) (all_enrolled_at l.table l.last l.left.rest.items l.bytes.now) ≡ all_enrolled_at l.table l.last l.fn.sites.items l.fn.bytes.now;
  paired : length l.alarms.items ≡ length l.enrollments.items;
}

abbrev pub decreases-loop-site : goal.decreases-loop-site
decreases-loop-site l = length l.left.rest.items
