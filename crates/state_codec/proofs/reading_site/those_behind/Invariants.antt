use Rattle.std.proofs.Common.{◌≡◌, filter, take}
use Rattle.state_codec.specs.SnapshotSteps.{is_behind}
use Rattle.state_codec.proofs.reading_site.those_behind.Given as goal

abbrev pub invariant-loop-subject : goal.invariant-loop-subject
invariant-loop-subject l = l.those.items ≡ filter is_behind (take l.subject-index l.subjects)
