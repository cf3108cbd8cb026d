use Rattle.std.proofs.Common.{rules, ◌≡◌, ◌∙◌, Option, Some, Result, Ok, Err, IfOk, IsTrue, List, ap, subst, sym, inr}
use Rattle.std.specs.Option.{IsSomeAnd}
use Rattle.bac_values.specs.Identifier.{ObjectIdData}
use Rattle.event_log.specs.declared.log_site.LogSite.{LogSite}
use Rattle.object_table.specs.declared.change.Change.{Change}
use Rattle.object_table.specs.declared.faults.WriteFault.{WriteFault}
use Rattle.object_table.specs.Rows.{is_object}
use Rattle.enrollment.proofs.Parted.{same_object}
use Rattle.alarm_core.specs.declared.event.Act.TheVariants.{Write}
use Rattle.alarm_core.specs.Allowed.{IsAllowed}
use Rattle.alarm_core.specs.Logs.{IsTakenByLog, kept_log, takes, SiteLogState}
use Rattle.alarm_core.specs.State.{CoreState}
use Rattle.alarm_core.proofs.Searches.{passes}
use Rattle.alarm_core.proofs.state.Core.check_write.Goals as goal

-- a change of the log that was found stands under that log's identifier
taken_by_found : (object : ObjectIdData) (logs : List SiteLogState) (kept : SiteLogState) (change : Change) → kept_log object logs ≡ Some kept → change.object ≡ kept.site.object → IsTrue (takes change.what) →
    IsTakenByLog change logs
taken_by_found object logs kept change found own taken =
    let same = own ∙ same_object object kept.site.object (passes (λ (k : SiteLogState). is_object object k.site.object) kept logs found) in
    subst (λ (log : Option SiteLogState). IsSomeAnd log (λ k. IsTrue (takes change.what))) (sym (ap (λ i. kept_log i logs) same ∙ found)) taken

allowed_where : (state : CoreState) (object : ObjectIdData) (kept : SiteLogState) (result : Result Change WriteFault) → kept_log object state.logs ≡ Some kept → IfOk result (λ change. change.object ≡ kept.site.object) →
    IfOk result (λ change. IsTrue (takes change.what)) → IfOk result (λ change. IsAllowed state (Write change))
allowed_where state object kept (Ok change) found own taken = inr (taken_by_found object state.logs kept change found own taken)
allowed_where state object kept (Err fault) found own taken = tt

-- src/reading.rt:220:5
pub returns-in-Some-clause-takes : goal.returns-in-Some-clause-takes
returns-in-Some-clause-takes c =
    let kept = c.in-Some.kept.now in
    let own : IfOk c.log_write.result (λ change. change.object ≡ kept.site.object) =
    subst (λ (site : LogSite). IfOk c.log_write.result (λ change. change.object ≡ site.object)) c.site.ensures.site c.log_write.ensures.object in
    allowed_where c.args.self.now c.args.object kept c.log_write.result (search rules) own c.log_write.ensures.takes
