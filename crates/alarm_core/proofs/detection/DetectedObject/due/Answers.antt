use Rattle.std.proofs.Common.{◌≡◌, ◌∙◌, rules}
use Rattle.alarm_core.specs.Evaluations.{point_in}
use Rattle.alarm_core.specs.DueSteps.{due_by}
use Rattle.alarm_core.proofs.Dues.{due_at}
use Rattle.alarm_core.proofs.detection.DetectedObject.due.Goals as goal

pub returns : goal.returns
returns c =
    let at = c.args.at.now in
    let values = c.args.objects.now in
    let detected = c.args.self.now in
    let seen : c.due_by.result ≡ due_by detected.algorithm (point_in at detected.ack_required detected.object values) detected.alarm = search rules in
    record { due = seen ∙ due_at at values detected }
