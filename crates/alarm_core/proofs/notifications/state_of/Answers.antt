use Rattle.std.proofs.Common.{◌≡◌, ◌∙◌, Some, None, ap, sym, rules}
use Rattle.alarm_core.specs.Found.{detected_object_in}
use Rattle.alarm_core.proofs.ToldBy.{state_is_shown, state_shown}
use Rattle.alarm_core.proofs.notifications.state_of.Goals as goal

pub returns-in-Some : goal.returns-in-Some
returns-in-Some c =
    let found : detected_object_in c.args.object c.args.alarms.now ≡ Some c.in-Some.detected.now = search rules in
    let state : c.state.result ≡ c.in-Some.detected.now.alarm.state = search rules in
    record { state = state ∙ sym (state_is_shown c.args.object c.args.alarms.now ∙ ap state_shown found) }

pub returns-in-None : goal.returns-in-None
returns-in-None c =
    let found : detected_object_in c.args.object c.args.alarms.now ≡ None = search rules in
    record { state = sym (state_is_shown c.args.object c.args.alarms.now ∙ ap state_shown found) }
