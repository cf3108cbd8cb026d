use Rattle.std.proofs.Common.{◌≡◌, ◌∙◌, Vec, Global, map, ap, sym, subst}
use Rattle.event_log.specs.History.{Call}
use Rattle.outbox.specs.Outboxes.{queued}
use Rattle.alarm_core.specs.Evaluations.{site_moment}
use Rattle.alarm_core.specs.Logs.{records_of, SiteLogState}
use Rattle.alarm_core.specs.CoreSteps.{after_calls, transitions_all}
use Rattle.alarm_core.specs.State.{CoreState}
use Rattle.alarm_core.specs.ViewSteps.{HasRoom}
use Rattle.alarm_core.proofs.Written.{ticked}
use Rattle.alarm_core.proofs.state.Core.tick.Goals as goal

pub returns-clause-state : goal.returns-clause-state
returns-clause-state g c =
    let old = c.args.self.now in
    let transitions = transitions_all (site_moment old.site c.args.at.now.moment) old.values old.alarms in
    let told = c.in_ok-look.look.told in
    let notes = told.notes.items in
    let now = c.self.view_is ∙ c.look.ensures.rest in
    let room : HasRoom c.in_ok-look.look.count old.outbox = subst (λ (s : CoreState). HasRoom c.in_ok-look.look.count s.outbox) now c.in_ok-see_room.ensures.room in
    let outbox : c.queue_all.new.outbox ≡ queued notes old.outbox = c.in_ok-queue_all.ensures.queued ∙ ap (λ (s : CoreState). queued notes s.outbox) now in
    let kept : c.self.inside.logs.items ≡ old.logs = ap (λ (s : CoreState). s.logs) now in
    let calls = λ (kept : SiteLogState). records_of old.site old.classes kept.site transitions in
    let records : map (λ (list : Vec Call Global). list.items) told.records.items ≡ map calls old.logs = c.in_ok-look.ensures.records room in
    let logs = c.enter_all.ensures.logs calls (records ∙ ap (map calls) (sym kept)) ∙ ap (map (λ (kept : SiteLogState). record kept { log = after_calls (calls kept) kept.log })) kept in
    ticked old c.args.at.now.moment _ c.look.new.self.alarms notes c.queue_all.new.outbox c.enter_all.new.logs.items
    (ap (λ (s : CoreState). record s { outbox = c.queue_all.new.outbox; logs = c.enter_all.new.logs.items }) now) c.in_ok-look.ensures.alarms outbox (c.in_ok-look.ensures.notes room) logs
