use Rattle.std.proofs.Common.{◌≡◌, ◌∙◌, Some, None, List, set, sym, ap, subst, rules}
use Rattle.std.proofs.lemmas.List.{set-get_or}
use Rattle.alarm_core.specs.Found.{detected_object_in}
use Rattle.alarm_core.specs.State.{DetectedObjectState}
use Rattle.alarm_core.specs.DueSteps.{StandsAt}
use Rattle.alarm_core.proofs.Places.{nobody, once_at, once_nobody}
use Rattle.alarm_core.proofs.Rounds.{undoes_on}
use Rattle.alarm_core.proofs.due_looks.touch.Goals as goal

pub returns-in_default-clause-timers : goal.returns-in_default-clause-timers
returns-in_default-clause-timers c =
    let timed = c.args.timed.now in
    let absent : detected_object_in c.args.object timed.alarms.items ≡ None = search rules in
    sym (once_nobody c.args.object timed.alarms.items timed.timers c.requires.timed (nobody c.args.object timed.alarms.items absent))

pub returns-clause-timers : goal.returns-clause-timers
returns-clause-timers c =
    let timed = c.args.timed.now in
    let found : StandsAt c.args.object timed.alarms.items c.in-Ok.place = subst (λ (alarms : List DetectedObjectState). StandsAt c.args.object alarms c.in-Ok.place) c.deref.ensures.value c.in-Ok.ensures.found in
    c.set_due.ensures.set ∙ sym (once_at c.args.object timed.alarms.items timed.timers c.in-Ok.place c.requires.timed found)

pub returns-clause-undoes : goal.returns-clause-undoes
returns-clause-undoes c =
    let timed = c.args.timed.now in
    let alarms = timed.alarms.items in
    let place = c.in-Ok.place in
    let x = c.index.result.now in
    let found : StandsAt c.args.object alarms place = subst (λ (ds : List DetectedObjectState). StandsAt c.args.object ds place) c.deref.ensures.value c.in-Ok.ensures.found in
    let same : alarms ≡ set alarms place x = sym (ap (set alarms place) c.index.ensures ∙ set-get_or alarms place x) in
    λ before undoes. undoes_on c.args.round.now.formers.items (record { index = place; detected = x }) before alarms timed.timers x (Some 0) c.push.new.items.items alarms c.set_due.new.self
    undoes found.within c.index.ensures c.in_ok-push.ensures.added same c.set_due.ensures.set
