use Rattle.std.proofs.Common.{◌≡◌, drop}
use Rattle.state_codec.specs.SnapshotSteps.{alarms_at}
use Rattle.state_codec.proofs.Loops.{in_front}
use Rattle.state_codec.proofs.reading_site.take_alarms.Given as goal

abbrev pub invariant-loop-subject : goal.invariant-loop-subject
invariant-loop-subject l = in_front l.alarms.items (alarms_at l.table l.last (drop l.subject-index l.subjects) l.bytes.now) ≡ alarms_at l.table l.last l.subjects l.fn.bytes.now
