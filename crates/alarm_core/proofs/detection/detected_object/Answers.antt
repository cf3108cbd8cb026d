use Rattle.std.proofs.Common.{◌∙◌, Some, sym, ap}
use Rattle.alarm_core.proofs.Places.{alarm_at}
use Rattle.alarm_core.proofs.detection.detected_object.Goals as goal

pub returns-in-Ok : goal.returns-in-Ok
returns-in-Ok c =
    let x = c.index-alarms-place.result in
    record { found = sym (alarm_at c.args.object c.args.alarms.now c.in-Ok.place x c.in-Ok.ensures.found ∙ ap Some (sym c.index-alarms-place.is)) }
