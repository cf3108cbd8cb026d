use Rattle.std.proofs.Common.{◌∙◌, map, ap}
use Rattle.enrollment.specs.Objects.{ObjectsState}
use Rattle.alarm_core.specs.CoreSteps.{first_with}
use Rattle.alarm_core.specs.DueSteps.{DetectionsState}
use Rattle.alarm_core.specs.Subjects.{ack_required_of, detecting_subjects}
use Rattle.alarm_core.proofs.initial_state.first_detections.Goals as goal

pub returns-clause-alarms : goal.returns-clause-alarms
returns-clause-alarms c =
    let site = c.args.site.now in
    let detected = λ (values : ObjectsState). map (λ subject. first_with c.args.at.now (ack_required_of site subject) values subject) (detecting_subjects site) in
    ap (λ (d : DetectionsState). d.alarms) c.in_ok-detections.ensures.detections ∙ (c.in_ok-alarms.ensures.alarms ∙ ap detected c.in_ok-objects.ensures.objects)
