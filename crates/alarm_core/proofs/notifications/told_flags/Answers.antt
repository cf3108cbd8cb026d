use Rattle.std.proofs.Common.{◌≡◌, ◌∙◌, Some, ap, sym, rules}
use Rattle.enrollment.specs.Enrollments.{site_of}
use Rattle.alarm_core.specs.Notes.{told_flags}
use Rattle.alarm_core.specs.ViewSteps.{transition_in}
use Rattle.alarm_core.proofs.notifications.told_flags.Goals as goal

pub returns-in-Some : goal.returns-in-Some
returns-in-Some c =
    let seen = c.args.view.now in
    let transition = c.args.transition.now in
    let found : site_of transition.object seen.values.enrollments ≡ Some c.in-Some.site.now = search rules in
    record { flags = c.enrollment_flags.ensures.flags ∙ ap (λ listed. told_flags listed (transition_in seen transition)) (sym found) }
