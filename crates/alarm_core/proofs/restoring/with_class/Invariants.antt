use Rattle.std.proofs.Common.{◌≡◌, filter, take}
use Rattle.alarm_core.specs.Subjects.{has_class}
use Rattle.alarm_core.proofs.restoring.with_class.Given as goal

abbrev pub invariant-loop-subject : goal.invariant-loop-subject
invariant-loop-subject l = l.those.items ≡ filter has_class (take l.subject-index l.subjects)
