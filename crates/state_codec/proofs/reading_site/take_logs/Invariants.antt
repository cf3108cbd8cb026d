use Rattle.std.proofs.Common.{◌≡◌, drop}
use Rattle.state_codec.specs.SnapshotSteps.{logs_at}
use Rattle.state_codec.proofs.Loops.{in_front}
use Rattle.state_codec.proofs.reading_site.take_logs.Given as goal

abbrev pub invariant-loop-listed : goal.invariant-loop-listed
invariant-loop-listed l = in_front l.logs.items (logs_at l.has_rule l.zone (drop l.listed-index l.sites) l.bytes.now) ≡ logs_at l.has_rule l.zone l.sites l.fn.bytes.now
