use Rattle.std.proofs.Common.{List, map, ap, ◌∙◌}
use Rattle.std.specs.List.{flat_map}
use Rattle.std.proofs.lemmas.List.{take_all}
use Rattle.std.proofs.lemmas.Result.{IfOk-from_err}
use Rattle.alarm_core.specs.Logs.{SiteLogState}
use Rattle.alarm_core.specs.ViewSteps.{record_to}
use Rattle.alarm_core.proofs.RecordedBy.{calls_more}
use Rattle.alarm_core.proofs.logs.records_of_all.Goals as goal

pub loop-kept-preserved : goal.loop-kept-preserved
loop-kept-preserved c =
    calls_more (λ (kept : SiteLogState). flat_map (record_to c.args.at.now kept.site) c.args.addressed.now) c.args.logs.now
    c.loop-kept.kept-index c.kept-item.result c.loop-kept.lists.items c.push.new.items.items c.in_ok-entries.entries c.loop-kept-test.true c.kept-item.is c.loop-kept.invariant
    c.in_ok-entries.ensures.records c.in_ok-push.ensures.added

pub returns-in_err-entries : goal.returns-in_err-entries
returns-in_err-entries c = record { records = IfOk-from_err c.from_residual.result _ c.from_residual.ensures.0 }

pub returns-in_err-push : goal.returns-in_err-push
returns-in_err-push c = record { records = IfOk-from_err c.from_residual-in_err-push.result _ c.from_residual-in_err-push.ensures.0 }

pub returns : goal.returns
returns c =
    let records = λ (logs : List SiteLogState). map (λ (kept : SiteLogState). flat_map (record_to c.args.at.now kept.site) c.args.addressed.now) logs in
    record { records = c.loop-kept.invariant ∙ ap records (take_all c.loop-kept.kept-index c.args.logs.now c.loop-kept-test.false) }
