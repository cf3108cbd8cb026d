use Rattle.std.proofs.Common.{◌≡◌, ◌∙◌, ℕ, ◌+◌, List, Vec, Global, length, map, refl, ap, sym, subst, arith}
use Rattle.std.specs.List.{flat_map}
use Rattle.event_log.specs.History.{Call}
use Rattle.outbox.specs.Outboxes.{AreKnown}
use Rattle.alarm_core.specs.CoreSteps.{evaluated_all, transitions_all, transitions_by}
use Rattle.alarm_core.specs.DueSteps.{detections_of}
use Rattle.alarm_core.specs.Evaluations.{site_moment}
use Rattle.alarm_core.specs.History.{StateTransition, moved_by}
use Rattle.alarm_core.specs.Logs.{records_of, SiteLogState}
use Rattle.alarm_core.specs.Notes.{notes_of_transitions}
use Rattle.alarm_core.specs.State.{CoreState}
use Rattle.alarm_core.specs.ViewSteps.{HasRoom, seen_in}
use Rattle.alarm_core.proofs.Looking.{looked_at}
use Rattle.alarm_core.proofs.MovesTold.{at_site}
use Rattle.alarm_core.proofs.ToldKnown.{look_known}
use Rattle.alarm_core.proofs.Undoing.{leads_nowhere}
use Rattle.alarm_core.proofs.state.Core.look.Goals as goal

pub returns-in_err-evaluate-clause-undoes : goal.returns-in_err-evaluate-clause-undoes
returns-in_err-evaluate-clause-undoes g c =
    let old = c.args.self.now in
    c.evaluate.ensures.undoes (detections_of old) (leads_nowhere c.args.round.now.formers.items (detections_of old) c.self.inside.detections c.requires.none (ap detections_of (sym c.self.view_is)))

pub returns-in_err-count-clause-undoes : goal.returns-in_err-count-clause-undoes
returns-in_err-count-clause-undoes g c =
    let old = c.args.self.now in
    c.evaluate.ensures.undoes (detections_of old) (leads_nowhere c.args.round.now.formers.items (detections_of old) c.self.inside.detections c.requires.none (ap detections_of (sym c.self.view_is)))

pub returns-in_err-told-clause-undoes : goal.returns-in_err-told-clause-undoes
returns-in_err-told-clause-undoes g c =
    let old = c.args.self.now in
    c.evaluate.ensures.undoes (detections_of old) (leads_nowhere c.args.round.now.formers.items (detections_of old) c.self.inside.detections c.requires.none (ap detections_of (sym c.self.view_is)))

behind_none : (count more : ℕ) → count ≡ 0 + more → count ≡ more
behind_none count more e = omega (arith, e)

pub returns-clause-count : goal.returns-clause-count
returns-clause-count g c =
    let old = c.args.self.now in
    let at = c.args.at.now in
    let core = c.self.inside in
    let made : c.deref.result.now ≡ flat_map (transitions_by at core.detections.values) core.detections.alarms = c.deref.ensures.value ∙ c.in_ok-evaluate.ensures.transitions in
    let looked = looked_at old _ at c.evaluate.new.self.values c.evaluate.new.self.alarms c.deref.result.now c.self.view_is (at_site at old.site at.moment c.requires.zone refl)
    c.evaluate.ensures.values c.in_ok-evaluate.ensures.alarms made in
    let count = c.in_ok-count.count in
    let counted = λ (s : CoreState) (ts : List StateTransition). count ≡ 0 + length (notes_of_transitions s.site s.classes ts) in
    let all = transitions_all (site_moment old.site at.moment) old.values old.alarms in
    behind_none count (length (notes_of_transitions old.site old.classes all))
    (subst (λ (s : CoreState). counted s all) c.self.view_is (subst (λ (ts : List StateTransition). counted (record old { site = core.site; classes = core.classes.items; logs = core.logs.items }) ts) looked c.in_ok-count.ensures.count))

pub returns-clause-moves : goal.returns-clause-moves
returns-clause-moves g c = λ room.
    let old = c.args.self.now in
    let at = c.args.at.now in
    let core = c.self.inside in
    let fit = c.that_fit.ensures.fit (subst (λ (s : CoreState). HasRoom c.in_ok-count.count s.outbox) (sym c.self.view_is) room) in
    let made : c.that_fit.result.now ≡ flat_map (transitions_by at core.detections.values) core.detections.alarms = fit ∙ (c.deref-2.ensures.value ∙ c.in_ok-evaluate.ensures.transitions) in
    let looked = looked_at old _ at c.evaluate.new.self.values c.evaluate.new.self.alarms c.that_fit.result.now c.self.view_is (at_site at old.site at.moment c.requires.zone refl)
    c.evaluate.ensures.values c.in_ok-evaluate.ensures.alarms made in
    subst (λ (ts : List StateTransition). c.in_ok-told.told.moves.items ≡ map moved_by ts) looked c.in_ok-told.ensures.moves

pub returns-clause-notes : goal.returns-clause-notes
returns-clause-notes g c = λ room.
    let old = c.args.self.now in
    let at = c.args.at.now in
    let core = c.self.inside in
    let fit = c.that_fit.ensures.fit (subst (λ (s : CoreState). HasRoom c.in_ok-count.count s.outbox) (sym c.self.view_is) room) in
    let made : c.that_fit.result.now ≡ flat_map (transitions_by at core.detections.values) core.detections.alarms = fit ∙ (c.deref-2.ensures.value ∙ c.in_ok-evaluate.ensures.transitions) in
    let looked = looked_at old _ at c.evaluate.new.self.values c.evaluate.new.self.alarms c.that_fit.result.now c.self.view_is (at_site at old.site at.moment c.requires.zone refl)
    c.evaluate.ensures.values c.in_ok-evaluate.ensures.alarms made in
    let told = λ (s : CoreState) (ts : List StateTransition). c.in_ok-told.told.notes.items ≡ notes_of_transitions s.site s.classes ts in
    let all = transitions_all (site_moment old.site at.moment) old.values old.alarms in
    subst (λ (s : CoreState). told s all) c.self.view_is
    (subst (λ (ts : List StateTransition). told (record old { site = core.site; classes = core.classes.items; logs = core.logs.items }) ts) looked c.in_ok-told.ensures.notes)

pub returns-clause-records : goal.returns-clause-records
returns-clause-records g c = λ room.
    let old = c.args.self.now in
    let at = c.args.at.now in
    let core = c.self.inside in
    let fit = c.that_fit.ensures.fit (subst (λ (s : CoreState). HasRoom c.in_ok-count.count s.outbox) (sym c.self.view_is) room) in
    let made : c.that_fit.result.now ≡ flat_map (transitions_by at core.detections.values) core.detections.alarms = fit ∙ (c.deref-2.ensures.value ∙ c.in_ok-evaluate.ensures.transitions) in
    let looked = looked_at old _ at c.evaluate.new.self.values c.evaluate.new.self.alarms c.that_fit.result.now c.self.view_is (at_site at old.site at.moment c.requires.zone refl)
    c.evaluate.ensures.values c.in_ok-evaluate.ensures.alarms made in
    let told = λ (s : CoreState) (ts : List StateTransition).
    map (λ (list : Vec Call Global). list.items) c.in_ok-told.told.records.items ≡ map (λ (kept : SiteLogState). records_of s.site s.classes kept.site ts) s.logs in
    let all = transitions_all (site_moment old.site at.moment) old.values old.alarms in
    subst (λ (s : CoreState). told s all) c.self.view_is
    (subst (λ (ts : List StateTransition). told (record old { site = core.site; classes = core.classes.items; logs = core.logs.items }) ts) looked c.in_ok-told.ensures.records)

pub returns-clause-known : goal.returns-clause-known
returns-clause-known g c =
    let core = c.self.inside in
    let old = c.args.self.now in
    let seen = seen_in c.args.at.now.moment (record old { values = c.evaluate.new.self.values; alarms = c.evaluate.new.self.alarms }) c.that_fit.result.now in
    let notes : c.in_ok-told.told.notes.items ≡ notes_of_transitions core.site core.classes.items seen = c.in_ok-told.ensures.notes in
    let known = look_known core.site core.classes.items core.peers core.outbox.posts (record { peers_are = c.self.invariant.peers; knows = c.self.invariant.known }) old.values seen in
    subst (λ (s : CoreState). AreKnown c.in_ok-told.told.notes.items s.outbox.posts) c.self.view_is (subst (λ notes. AreKnown notes core.outbox.posts) (sym notes) known)

pub returns-clause-undoes : goal.returns-clause-undoes
returns-clause-undoes g c =
    let old = c.args.self.now in
    c.evaluate.ensures.undoes (detections_of old) (leads_nowhere c.args.round.now.formers.items (detections_of old) c.self.inside.detections c.requires.none (ap detections_of (sym c.self.view_is)))

pub returns-clause-alarms : goal.returns-clause-alarms
returns-clause-alarms g c =
    let old = c.args.self.now in
    let at = c.args.at.now in
    let core = c.self.inside in
    let look = site_moment old.site at.moment in
    let here = at_site at old.site at.moment c.requires.zone refl in
    c.in_ok-evaluate.ensures.alarms
    ∙ (ap (λ a. evaluated_all a core.detections.values core.detections.alarms) here ∙ ap (λ (s : CoreState). evaluated_all look s.values s.alarms) c.self.view_is)
