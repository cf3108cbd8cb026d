use Rattle.std.proofs.Common.{◌≡◌, ◌++◌, take, flat_map}
use Rattle.state_codec.specs.WritingSteps.{written_if_alarm}
use Rattle.state_codec.proofs.writing_alarms.put_subjects.Given as goal

abbrev pub invariant-loop-subject : goal.invariant-loop-subject
invariant-loop-subject l = l.out.items ≡ l.fn.out.items ++ flat_map (written_if_alarm l.core) (take l.subject-index l.subjects)
