use Rattle.std.proofs.Common.{List, filter, map, ap, ◌∙◌}
use Rattle.std.proofs.lemmas.List.{take_all}
use Rattle.std.proofs.lemmas.Result.{IfOk-from_err}
use Rattle.enrollment.specs.Subjects.{is_detecting}
use Rattle.enrollment.specs.declared.subject.Subject.{Subject}
use Rattle.alarm_core.specs.CoreSteps.{first_with}
use Rattle.alarm_core.specs.Subjects.{ack_required_of}
use Rattle.alarm_core.proofs.Kept.{kept_map_more}
use Rattle.alarm_core.proofs.initial_state.alarms_of.Goals as goal

pub loop-subject-preserved : goal.loop-subject-preserved
loop-subject-preserved c =
    kept_map_more (λ subject. first_with c.args.at.now (ack_required_of c.args.site.now subject) c.args.objects.now subject) is_detecting
    c.args.subjects.now c.loop-subject.subject-index c.subject-item.result c.loop-subject.alarms.items c.add_first.new.alarms.items c.loop-subject-test.true c.subject-item.is c.loop-subject.invariant c.in_ok-add_first.ensures.added

pub returns-in_err-add_first : goal.returns-in_err-add_first
returns-in_err-add_first c = record { alarms = IfOk-from_err c.from_residual.result _ c.from_residual.ensures.0 }

pub returns : goal.returns
returns c =
    let first = λ (subjects : List Subject). map (λ (subject : Subject). first_with c.args.at.now (ack_required_of c.args.site.now subject) c.args.objects.now subject) (filter is_detecting subjects) in
    record { alarms = c.loop-subject.invariant ∙ ap first (take_all c.loop-subject.subject-index c.args.subjects.now c.loop-subject-test.false) }
