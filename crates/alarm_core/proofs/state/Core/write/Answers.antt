use Rattle.std.proofs.Common.{◌≡◌, ◌∙◌, ◌++◌, Err, List, [], Vec, Global, map, refl, sym, ap, subst, arith, rules}
use Rattle.event_log.specs.History.{Call}
use Rattle.event_log.specs.declared.log_site.LogSite.{LogSite}
use Rattle.outbox.specs.Outboxes.{queued}
use Rattle.enrollment.specs.Objects.{written}
use Rattle.alarm_core.specs.CoreSteps.{after_calls, evaluated_all, transitions_all}
use Rattle.alarm_core.specs.DueSteps.{DetectionsState, LeadsBack, detections_of, start_of}
use Rattle.alarm_core.specs.Evaluations.{site_moment}
use Rattle.alarm_core.specs.History.{StateTransition, moved_by}
use Rattle.alarm_core.specs.Logs.{HasNoLog, call_of_change, records_of, SiteLogState}
use Rattle.alarm_core.specs.Notes.{notes_of_transitions}
use Rattle.alarm_core.specs.State.{CoreState}
use Rattle.alarm_core.specs.Verdicts.{Answers, queue_verdict}
use Rattle.alarm_core.specs.ViewSteps.{HasRoom}
use Rattle.alarm_core.specs.declared.step.Done.{Done}
use Rattle.alarm_core.proofs.Apart.{written_apart}
use Rattle.alarm_core.proofs.MovesTold.{at_site}
use Rattle.alarm_core.proofs.Undoing.{leads_nowhere, starts_from}
use Rattle.alarm_core.proofs.Written.{second_look, second_steps, written_moves, written_state, written_verdict}
use Rattle.alarm_core.proofs.state.Core.write.Goals as goal
use Rattle.alarm_core.proofs.state.Core.write.Goals.{in-Some, in_default}

pub invariant_of-self : goal.invariant_of-self
invariant_of-self g c =
    let undo = c.in-Some.undo in
    let undone : c.undo_write.new.self.values ≡ written undo c.self.inside.detections.values = ap (λ (d : DetectionsState). d.values) c.undo_write.ensures.undone in
    record {
      site = c.self.invariant.site;
      zone = c.self.invariant.zone;
      moment = c.self.invariant.moment;
      limit = c.self.invariant.limit;
      peers = c.self.invariant.peers;
      known = c.self.invariant.known;
      lists = c.self.invariant.lists;
      members = c.self.invariant.members;
      identifiers = c.self.invariant.identifiers;
      apart = subst HasNoLog (sym undone) (written_apart undo c.self.inside.detections.values c.self.invariant.apart);
    }

pub returns-in_err-undo-clause-steps : goal.returns-in_err-undo-clause-steps
returns-in_err-undo-clause-steps g c =
    let old = c.args.self.now in
    let at = c.args.at.now in
    let second = second_steps old c.look.new.self at c.args.change.now.object c.look.ensures.rest c.in_ok-before.ensures.alarms (at_site at old.site at.moment c.requires.zone refl) in
    omega (arith, c.look.ensures.steps, c.change.ensures.steps, second)

pub returns-in-Ok-clause-state : goal.returns-in-Ok-clause-state
returns-in-Ok-clause-state g c =
    let old = c.args.self.now in
    let moment = c.args.at.now.moment in
    let made = c.deref.ensures.value ∙ c.in_ok-undo.ensures.transitions in
    let second = second_look old c.look.new.self c.change.new.self moment c.args.change.now c.deref.result.now c.look.ensures.rest c.in_ok-before.ensures.alarms
    c.change.ensures.rest c.in_ok-undo.ensures.values c.in_ok-undo.ensures.alarms made in
    let between = evaluated_all (site_moment old.site moment) old.values old.alarms in
    let values = written c.args.change.now old.values in
    let room : HasRoom c.in_ok-before.before.count old.outbox = subst (λ (s : CoreState). HasRoom c.in_ok-before.before.count s.outbox) second.state c.in-Ok.ensures.room in
    let notes = c.in_ok-before.before.told.notes.items in
    let logs = c.finish_write.new.self.logs in
    let second_ones = transitions_all (site_moment old.site moment) values between in
    let first = λ (listed : LogSite). records_of old.site old.classes listed (transitions_all (site_moment old.site moment) old.values old.alarms) in
    let calls = λ (s : CoreState) (ts : List StateTransition). map (λ (kept : SiteLogState). record kept {
      log = after_calls (first kept.site ++ (call_of_change kept.site c.args.change.now ++ records_of s.site s.classes kept.site ts)) kept.log;
    }) s.logs in
    let records : map (λ (list : Vec Call Global). list.items) c.in_ok-before.before.told.records.items ≡ map (λ (kept : SiteLogState). first kept.site) c.change.new.self.logs =
    c.in_ok-before.ensures.records room ∙ ap (λ (s : CoreState). map (λ (kept : SiteLogState). first kept.site) s.logs) (sym second.state) in
    let state = c.in-Ok.ensures.state ∙ (λ k. record (second.state k) {
      outbox = queued (notes ++ notes_of_transitions (second.state k).site (second.state k).classes (second.seen k)) (second.state k).outbox;
      logs = logs;
    }) in
    written_state old moment c.args.change.now values refl between refl notes (c.in_ok-before.ensures.notes room) c.finish_write.new.self logs state
    (c.in-Ok.ensures.logs first records ∙ (λ k. calls (second.state k) (second.seen k)))

pub returns-in-Ok-clause-moves : goal.returns-in-Ok-clause-moves
returns-in-Ok-clause-moves g c =
    let old = c.args.self.now in
    let moment = c.args.at.now.moment in
    let made = c.deref.ensures.value ∙ c.in_ok-undo.ensures.transitions in
    let second = second_look old c.look.new.self c.change.new.self moment c.args.change.now c.deref.result.now c.look.ensures.rest c.in_ok-before.ensures.alarms
    c.change.ensures.rest c.in_ok-undo.ensures.values c.in_ok-undo.ensures.alarms made in
    let between = evaluated_all (site_moment old.site moment) old.values old.alarms in
    let values = written c.args.change.now old.values in
    let room : HasRoom c.in_ok-before.before.count old.outbox = subst (λ (s : CoreState). HasRoom c.in_ok-before.before.count s.outbox) second.state c.in-Ok.ensures.room in
    let notes = c.in_ok-before.before.told.notes.items in
    let moves = c.in_ok-before.before.told.moves.items in
    c.in-Ok.ensures.moves ∙ (ap (λ ts. moves ++ map moved_by ts) second.seen
    ∙ written_moves old moment c.args.change.now values refl between refl notes (c.in_ok-before.ensures.notes room) moves (c.in_ok-before.ensures.moves room))

pub returns-in-Ok-clause-verdict : goal.returns-in-Ok-clause-verdict
returns-in-Ok-clause-verdict g c =
    let old = c.args.self.now in
    let moment = c.args.at.now.moment in
    let made = c.deref.ensures.value ∙ c.in_ok-undo.ensures.transitions in
    let second = second_look old c.look.new.self c.change.new.self moment c.args.change.now c.deref.result.now c.look.ensures.rest c.in_ok-before.ensures.alarms
    c.change.ensures.rest c.in_ok-undo.ensures.values c.in_ok-undo.ensures.alarms made in
    let between = evaluated_all (site_moment old.site moment) old.values old.alarms in
    let values = written c.args.change.now old.values in
    let first = notes_of_transitions old.site old.classes (transitions_all (site_moment old.site moment) old.values old.alarms) in
    let told = λ (room : HasRoom c.in_ok-before.before.count c.change.new.self.outbox). c.in_ok-before.ensures.notes (subst (λ (s : CoreState). HasRoom c.in_ok-before.before.count s.outbox) second.state room) in
    let same = (λ k. queue_verdict (first ++ notes_of_transitions (second.state k).site (second.state k).classes (second.seen k)) (second.state k).outbox)
    ∙ written_verdict old moment c.args.change.now values refl between refl first refl in
    sym same ∙ c.in-Ok.ensures.verdict first (sym c.in_ok-before.ensures.count) told

pub returns-in-Ok-clause-steps : goal.returns-in-Ok-clause-steps
returns-in-Ok-clause-steps g c =
    let old = c.args.self.now in
    let at = c.args.at.now in
    let second = second_steps old c.look.new.self at c.args.change.now.object c.look.ensures.rest c.in_ok-before.ensures.alarms (at_site at old.site at.moment c.requires.zone refl) in
    omega (arith, c.look.ensures.steps, c.change.ensures.steps, second)

pub returns-after-undo-4-clause-undoes : goal.returns-after-undo-4-clause-undoes
returns-after-undo-4-clause-undoes g c =
    let old = c.args.self.now in
    let first = starts_from c.look.new.round.formers.items (detections_of old) (detections_of c.look.new.self) (ap (λ (s : CoreState). s.values) (sym c.look.ensures.rest)) c.look.ensures.undoes in
    let led = subst (λ (s : DetectionsState). LeadsBack c.change.new.round.formers.items s (detections_of c.change.new.self)) (sym first) c.change.ensures.undoes in
    let formers = c.change.new.round.formers.items in
    let start : c.look.new.self.values ≡ old.values = ap (λ (s : CoreState). s.values) c.look.ensures.rest in
    let whole = c.self.view_is ∙ c.in-Err.ensures.same in
    elim c.match-undo-4.branch [
      | in-Some w ↦
          let undo = w.in-Some.undo in
          let none : c.match-undo-4.round.formers.items ≡ [] = search rules in
          let back : written undo c.change.new.self.values ≡ c.look.new.self.values = search rules in
          let values = back ∙ start in
          let undone : detections_of old ≡ record (start_of formers (detections_of c.change.new.self)) { values = written undo c.change.new.self.values } =
          λ k. record { values = sym values k; alarms = sym led.undoes.puts_back k } in
          let viewed = ap (λ (s : CoreState). record (start_of formers (detections_of s)) { values = written undo s.values }) (sym whole) in
          leads_nowhere c.match-undo-4.round.formers.items (detections_of old) (detections_of c.match-undo-4.self) none
          (undone ∙ (viewed ∙ (sym w.undo_write.ensures.undone ∙ sym (ap detections_of w.self-is))))
      | in_default w ↦
          let round : c.match-undo-4.round.formers.items ≡ formers = search rules in
          let here : c.match-undo-4.self ≡ c.change.new.self = search rules in
          subst (λ fs. LeadsBack fs (detections_of old) (detections_of c.match-undo-4.self)) (sym round)
          (subst (λ (s : CoreState). LeadsBack formers (detections_of old) (detections_of s)) (sym here) led)
    ]

pub returns-after-undo-4-clause-verdict : goal.returns-after-undo-4-clause-verdict
returns-after-undo-4-clause-verdict g c =
    let old = c.args.self.now in
    let moment = c.args.at.now.moment in
    let made = c.deref.ensures.value ∙ c.in_ok-undo.ensures.transitions in
    let second = second_look old c.look.new.self c.change.new.self moment c.args.change.now c.deref.result.now c.look.ensures.rest c.in_ok-before.ensures.alarms
    c.change.ensures.rest c.in_ok-undo.ensures.values c.in_ok-undo.ensures.alarms made in
    let between = evaluated_all (site_moment old.site moment) old.values old.alarms in
    let values = written c.args.change.now old.values in
    let first = notes_of_transitions old.site old.classes (transitions_all (site_moment old.site moment) old.values old.alarms) in
    let told = λ (room : HasRoom c.in_ok-before.before.count c.change.new.self.outbox). c.in_ok-before.ensures.notes (subst (λ (s : CoreState). HasRoom c.in_ok-before.before.count s.outbox) second.state room) in
    let same = (λ k. queue_verdict (first ++ notes_of_transitions (second.state k).site (second.state k).classes (second.seen k)) (second.state k).outbox)
    ∙ written_verdict old moment c.args.change.now values refl between refl first refl in
    subst (Answers {A = Done} (Err c.in-Err.fault)) same (c.in-Err.ensures.verdict first (sym c.in_ok-before.ensures.count) told)

pub returns-after-undo-4-clause-steps : goal.returns-after-undo-4-clause-steps
returns-after-undo-4-clause-steps g c =
    let old = c.args.self.now in
    let at = c.args.at.now in
    let second = second_steps old c.look.new.self at c.args.change.now.object c.look.ensures.rest c.in_ok-before.ensures.alarms (at_site at old.site at.moment c.requires.zone refl) in
    omega (arith, c.look.ensures.steps, c.change.ensures.steps, second)
