use Rattle.std.proofs.Common.{filter, ap, ◌∙◌}
use Rattle.std.proofs.lemmas.List.{take_all}
use Rattle.alarm_core.specs.Subjects.{has_class}
use Rattle.alarm_core.proofs.restoring.with_class.Goals as goal

pub returns : goal.returns
returns c =
    record { those = c.loop-subject.invariant ∙ ap (filter has_class) (take_all c.loop-subject.subject-index c.args.subjects.now c.loop-subject-test.false) }
