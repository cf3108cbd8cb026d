use Rattle.std.proofs.Common.{◌≡◌, IfOk, List, Vec, Global, map, subst, rules}
use Rattle.event_log.specs.History.{Call}
use Rattle.alarm_core.specs.Logs.{records_of, SiteLogState}
use Rattle.alarm_core.specs.ViewSteps.{transition_in, SiteViewData}
use Rattle.alarm_core.proofs.state.Core.told.Goals as goal

pub returns-clause-records : goal.returns-clause-records
returns-clause-records c =
    let old = c.args.self.now in
    let logs : c.deref.result.now ≡ old.logs = search rules in
    let told = λ (s : SiteViewData) (logs : List SiteLogState). IfOk c.tell.result (λ told. map (λ (list : Vec Call Global). list.items) told.records.items
    ≡ map (λ (kept : SiteLogState). records_of s.site s.classes kept.site (map (transition_in s) c.args.transitions.now)) logs) in
    subst (λ (s : SiteViewData). told s old.logs) c.view-view.ensures.view (subst (told c.view-view.result) logs c.tell.ensures.records)
