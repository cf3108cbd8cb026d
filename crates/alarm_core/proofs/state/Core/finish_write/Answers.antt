use Rattle.std.proofs.Common.{◌≡◌, ◌++◌, ◌∙◌, Ok, Vec, Global, map, sym, ap, subst, rules}
use Rattle.std.proofs.lemmas.Simd.{map-map}
use Rattle.event_log.specs.History.{Call}
use Rattle.outbox.specs.Outboxes.{AreKnown, queued}
use Rattle.event_log.specs.declared.log_site.LogSite.{LogSite}
use Rattle.alarm_core.specs.Logs.{records_of, SiteLogState}
use Rattle.alarm_core.specs.Notes.{notes_of_transitions}
use Rattle.alarm_core.specs.State.{CoreState}
use Rattle.alarm_core.specs.Verdicts.{Answers, queue_verdict}
use Rattle.alarm_core.specs.ViewSteps.{seen_in}
use Rattle.alarm_core.proofs.Logging.{changed_log, entered, logs_between}
use Rattle.alarm_core.proofs.ToldKnown.{more_known}
use Rattle.alarm_core.proofs.state.Core.finish_write.Goals as goal

pub queue_all-requires-clause-known : goal.queue_all-requires-clause-known
queue_all-requires-clause-known c =
    let core = c.self.inside in
    let old = c.args.self.now in
    let seen = seen_in c.args.at.now.moment old c.args.transitions.now in
    let added : c.add_notes.new.notes.items ≡ c.args.before.told.notes.items ++ c.in_ok-after.after.notes.items = search rules in
    let later : c.in_ok-after.after.notes.items ≡ notes_of_transitions core.site core.classes.items seen =
    c.in_ok-after.ensures.notes ∙ ap (λ (s : CoreState). notes_of_transitions s.site s.classes seen) (sym c.self.view_is) in
    let notes = added ∙ ap (λ ns. c.args.before.told.notes.items ++ ns) later in
    let before : AreKnown c.args.before.told.notes.items core.outbox.posts = subst (λ (s : CoreState). AreKnown c.args.before.told.notes.items s.outbox.posts) (sym c.self.view_is) c.requires.known in
    subst (λ notes. AreKnown notes core.outbox.posts) (sym notes)
    (more_known core.site core.classes.items core.peers core.outbox.posts (record { peers_are = c.self.invariant.peers; knows = c.self.invariant.known })
    old.values c.args.before.told.notes.items seen before)

pub returns-clause-state : goal.returns-clause-state
returns-clause-state c =
    let old = c.args.self.now in
    let seen = seen_in c.args.at.now.moment old c.args.transitions.now in
    let added : c.add_notes.new.notes.items ≡ c.args.before.told.notes.items ++ c.in_ok-after.after.notes.items = search rules in
    let notes = added ∙ ap (λ ns. c.args.before.told.notes.items ++ ns) c.in_ok-after.ensures.notes in
    let outbox : c.queue_all.new.outbox ≡ queued (c.args.before.told.notes.items ++ notes_of_transitions old.site old.classes seen) old.outbox =
    c.in_ok-queue_all.ensures.queued ∙ (λ k. queued (notes k) (c.self.view_is k).outbox) in
    λ k. record (c.self.view_is k) { outbox = outbox k; logs = c.enter_all-2.new.logs.items }

pub returns-clause-logs : goal.returns-clause-logs
returns-clause-logs c = λ first same.
    let old = c.args.self.now in
    let change = changed_log c.args.change.now in
    let kept : c.self.inside.logs.items ≡ old.logs = ap (λ (s : CoreState). s.logs) c.self.view_is in
    let second = λ (listed : LogSite). records_of old.site old.classes listed (seen_in c.args.at.now.moment old c.args.transitions.now) in
    let firsts = λ (kept : SiteLogState). first kept.site in
    let seconds = λ (kept : SiteLogState). second kept.site in
    let records : map (λ (list : Vec Call Global). list.items) c.in_ok-after.after.records.items ≡ map seconds old.logs = c.in_ok-after.ensures.records in
    let one : c.enter_all.new.logs.items ≡ map (entered first) old.logs =
    c.enter_all.ensures.logs firsts (same ∙ ap (map firsts) (sym kept)) ∙ ap (map (entered first)) kept in
    let two : c.change_all.new.logs.items ≡ map change (map (entered first) old.logs) = c.change_all.ensures.logs ∙ ap (map change) one in
    let sites : map seconds (map change (map (entered first) old.logs)) ≡ map seconds old.logs =
    map-map seconds change (map (entered first) old.logs) ∙ map-map seconds (entered first) old.logs in
    let three : c.enter_all-2.new.logs.items ≡ map (entered second) (map change (map (entered first) old.logs)) =
    c.enter_all-2.ensures.logs seconds (records ∙ (sym sites ∙ ap (map seconds) (sym two))) ∙ ap (map (entered second)) two in
    three ∙ logs_between c.args.change.now first second old.logs

pub returns-in_err-queue_all-clause-verdict : goal.returns-in_err-queue_all-clause-verdict
returns-in_err-queue_all-clause-verdict c = λ first many same.
    let old = c.args.self.now in
    let later = notes_of_transitions old.site old.classes (seen_in c.args.at.now.moment old c.args.transitions.now) in
    let result = c.from_residual-in_err-queue_all.result in
    let added : c.add_notes.new.notes.items ≡ c.args.before.told.notes.items ++ c.in_ok-after.after.notes.items = search rules in
    let notes = added ∙ (ap (λ ns. c.args.before.told.notes.items ++ ns) c.in_ok-after.ensures.notes ∙ ap (λ ns. ns ++ later) (same c.in_ok-see_room.ensures.room)) in
    let told : Answers result (queue_verdict c.add_notes.new.notes.items c.self.inside.outbox) = search rules in
    subst (λ notes. Answers result (queue_verdict notes old.outbox)) notes
    (subst (λ (s : CoreState). Answers result (queue_verdict c.add_notes.new.notes.items s.outbox)) c.self.view_is told)

pub returns-clause-verdict : goal.returns-clause-verdict
returns-clause-verdict c = λ first many same.
    let old = c.args.self.now in
    let later = notes_of_transitions old.site old.classes (seen_in c.args.at.now.moment old c.args.transitions.now) in
    let added : c.add_notes.new.notes.items ≡ c.args.before.told.notes.items ++ c.in_ok-after.after.notes.items = search rules in
    let notes = added ∙ (ap (λ ns. c.args.before.told.notes.items ++ ns) c.in_ok-after.ensures.notes ∙ ap (λ ns. ns ++ later) (same c.in_ok-see_room.ensures.room)) in
    let told : queue_verdict c.add_notes.new.notes.items c.self.inside.outbox ≡ Ok tt = search rules in
    subst (λ notes. queue_verdict notes old.outbox ≡ Ok tt) notes
    (subst (λ (s : CoreState). queue_verdict c.add_notes.new.notes.items s.outbox ≡ Ok tt) c.self.view_is told)
