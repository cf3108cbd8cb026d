use Rattle.std.proofs.Common.{◌≡◌, ◌∷◌, Ok, Err, max, ap, ◌∙◌, rules, of_z, to_z, w32}
use Rattle.std.proofs.lemmas.Result.{err_from_is_err_and}
use Rattle.bac_values.specs.declared.input.Input.TheVariants.{Set}
use Rattle.bac_values.specs.declared.value.Value.TheVariants.{Signed}
use Rattle.event_machine.specs.Points.{Looked, newest_of}
use Rattle.alarm_server.specs.Looks.{point_at, seen_again, seen_with}
use Rattle.alarm_server.proofs.Course.{again_is, changed_is, seen_on, transitions_on, transitions_then, tick_only, event_fault}
use Rattle.alarm_server.proofs.trial.take.Goals as goal

pub returns-in_err-look_at-clause-sends : goal.returns-in_err-look_at-clause-sends
returns-in_err-look_at-clause-sends g c = λ first later seen.
    let p = err_from_is_err_and c.from_residual.result c.from_residual.ensures.1 in
    let fault = c.in_err-look_at.field-0.0 in
    let watch = c.args.watch.now in
    let moment = c.args.line.moment in
    let a = g.G.Ground.told c.args.device.now in
    let b = g.G.Ground.told c.look_at.new.device in
    let raised = c.max-moment.ensures ∙ ap (max moment) c.moment.ensures.moment in
    let last = to_z w32 (of_z w32 c.value-last.result) in
    let same : last ≡ watch.value = search rules in
    let again = again_is first later watch moment c.max-moment.result last seen raised same in
    rw (p.1, p.2)
    (event_fault (Unit {0}) fault c.args.line.input moment first later a b c.requires.input
    (transitions_on {A = Unit {0}} (Err fault) first later (point_at watch.settings c.max-moment.result (Signed last)) (seen_again moment (newest_of first later)) a b again (c.in_err-look_at.ensures.sends first later seen)))

pub returns-in_default-clause-seen : goal.returns-in_default-clause-seen
returns-in_default-clause-seen g c = λ first later seen.
    let watch = c.args.watch.now in
    let moment = c.args.line.moment in
    let raised = c.max-moment.ensures ∙ ap (max moment) c.moment.ensures.moment in
    let last = to_z w32 (of_z w32 c.value-last.result) in
    let same : last ≡ watch.value = search rules in
    let again = again_is first later watch moment c.max-moment.result last seen raised same in
    rw (tick_only c.args.line.input c.requires.input c.in_default.not-Set)
    (seen_on first later (point_at watch.settings c.max-moment.result (Signed last)) (seen_again moment (newest_of first later)) c.look_at.new.watch again (c.in_ok-look_at.ensures.seen first later seen))

pub returns-in_default-clause-sends : goal.returns-in_default-clause-sends
returns-in_default-clause-sends g c = λ first later seen.
    let watch = c.args.watch.now in
    let moment = c.args.line.moment in
    let raised = c.max-moment.ensures ∙ ap (max moment) c.moment.ensures.moment in
    let last = to_z w32 (of_z w32 c.value-last.result) in
    let same : last ≡ watch.value = search rules in
    let again = again_is first later watch moment c.max-moment.result last seen raised same in
    rw (tick_only c.args.line.input c.requires.input c.in_default.not-Set)
    (transitions_on (Ok c.in_ok-look_at.field-0) first later (point_at watch.settings c.max-moment.result (Signed last)) (seen_again moment (newest_of first later)) (g.G.Ground.told c.args.device.now) (g.G.Ground.told c.look_at.new.device) again (c.in_ok-look_at.ensures.sends first later seen))

pub returns-clause-sends : goal.returns-clause-sends
returns-clause-sends g c = λ first later seen.
    let watch = c.args.watch.now in
    let between = c.look_at.new.watch in
    let moment = c.args.line.moment in
    let number = c.in-Signed.number in
    let raised = c.max-moment.ensures ∙ ap (max moment) c.moment.ensures.moment in
    let last = to_z w32 (of_z w32 c.value-last.result) in
    let same : last ≡ watch.value = search rules in
    let again = again_is first later watch moment c.max-moment.result last seen raised same in
    let point = seen_again moment (newest_of first later) in
    let changed = seen_with (Signed number) point in
    let given = to_z w32 (of_z w32 number) in
    let same_number : given ≡ number = search rules in
    let is = changed_is watch.settings between.settings c.max-moment.result last number given point again c.in_ok-look_at.ensures.settings same_number in
    let known = seen_on first later (point_at watch.settings c.max-moment.result (Signed last)) point between again (c.in_ok-look_at.ensures.seen first later seen) in
    let told = g.G.Ground.told c.args.device.now in
    let told_between = g.G.Ground.told c.look_at.new.device in
    let told_now = g.G.Ground.told c.look_at-2.new.device in
    rw (c.in-Set.is ∙ ap (λ v. Set c.in-Set.object v) c.in-Signed.is)
    (transitions_then c.in_ok-look_at.field-0 c.look_at-2.result first later (Looked point ∷ later) (Looked changed ∷ Looked point ∷ later) told told_between told_now
    (transitions_on (Ok c.in_ok-look_at.field-0) first later (point_at watch.settings c.max-moment.result (Signed last)) point told told_between again (c.in_ok-look_at.ensures.sends first later seen))
    (transitions_on c.look_at-2.result first (Looked point ∷ later) (point_at between.settings c.max-moment.result (Signed given)) changed told_between told_now is (c.look_at-2.ensures.sends first (Looked point ∷ later) known)))
