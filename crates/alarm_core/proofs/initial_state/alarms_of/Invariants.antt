use Rattle.std.proofs.Common.{◌≡◌, filter, map, take}
use Rattle.enrollment.specs.Subjects.{is_detecting}
use Rattle.alarm_core.specs.CoreSteps.{first_with}
use Rattle.alarm_core.specs.Subjects.{ack_required_of}
use Rattle.alarm_core.proofs.initial_state.alarms_of.Given as goal

abbrev pub invariant-loop-subject : goal.invariant-loop-subject
invariant-loop-subject l = l.alarms.items ≡ map (λ subject. first_with l.at (ack_required_of l.site subject) l.objects subject) (filter is_detecting (take l.subject-index l.subjects))
