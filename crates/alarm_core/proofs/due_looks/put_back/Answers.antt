use Rattle.std.proofs.Common.{◌≡◌, List, [], map, slice_set, refl, sym, subst, ap, ◌∙◌, rules, arith}
use Rattle.alarm_core.specs.declared.due_looks.Former.{Former}
use Rattle.alarm_core.specs.DueSteps.{DetectionsState, Undoes, due_of, restored}
use Rattle.alarm_core.proofs.Undoing.{has_place, undoes_less, undone_timers}
use Rattle.alarm_core.proofs.due_looks.put_back.Goals as goal

pub set_due-requires : goal.set_due-requires
set_due-requires c =
    let l = c.loop-former in
    let place = has_place l.formers.items c.pop.new.self.items c.in-Some.former (record { values = c.args.objects.now; alarms = restored c.args.formers.now.items c.args.timed.now.alarms.items })
    l.timed.alarms.items l.timed.timers l.invariant c.in-Some.ensures.items in
    record { within = place.timer }

pub index_mut-requires : goal.index_mut-requires
index_mut-requires c =
    let l = c.loop-former in
    let place = has_place l.formers.items c.pop.new.self.items c.in-Some.former (record { values = c.args.objects.now; alarms = restored c.args.formers.now.items c.args.timed.now.alarms.items })
    l.timed.alarms.items l.timed.timers l.invariant c.in-Some.ensures.items in
    omega (arith, place.alarm)

pub loop-former-preserved : goal.loop-former-preserved
loop-former-preserved c =
    let l = c.loop-former in
    let before : DetectionsState = record { values = c.args.objects.now; alarms = restored c.args.formers.now.items c.args.timed.now.alarms.items } in
    let due : c.set_due.new.self ≡ slice_set l.timed.timers c.in-Some.former.index (due_of c.args.objects.now c.in-Some.former.detected) =
    c.set_due.ensures.set ∙ ap (slice_set l.timed.timers c.in-Some.former.index) c.due-due.ensures.due in
    undoes_less l.formers.items c.pop.new.self.items c.in-Some.former before l.timed.alarms.items _ l.timed.timers c.set_due.new.self l.invariant c.in-Some.ensures.items refl due

pub returns-clause-timers : goal.returns-clause-timers
returns-clause-timers c =
    let l = c.loop-former in
    let before : DetectionsState = record { values = c.args.objects.now; alarms = restored c.args.formers.now.items c.args.timed.now.alarms.items } in
    let empty : l.formers.items ≡ [] = search rules in
    let undone = subst (λ (formers : List Former). Undoes formers before l.timed.alarms.items l.timed.timers) empty l.invariant in
    undone_timers before l.timed.alarms.items l.timed.timers undone ∙ ap (map (due_of c.args.objects.now)) (sym undone.puts_back)
