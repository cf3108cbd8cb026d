use Rattle.std.proofs.Common.{[], ◌++◌, List, ap, ◌∙◌}
use Rattle.std.proofs.lemmas.Result.{IfOk-from_err}
use Rattle.event_log.specs.History.{Call}
use Rattle.enrollment.proofs.Appended.{gives_next, gives_all}
use Rattle.alarm_core.specs.ViewSteps.{record_to}
use Rattle.alarm_core.proofs.logs.SiteLog.records_of.Goals as goal

pub loop-told-preserved : goal.loop-told-preserved
loop-told-preserved c =
    let now = c.loop-told.entries.items in
    gives_next (record_to c.args.at.now c.args.self.now.site) c.args.addressed.now c.loop-told.told-index c.told-item.result [] now c.add_entry.new.entries.items
    c.loop-told-test.true c.told-item.is c.loop-told.invariant
    (c.in_ok-add_entry.ensures.added ∙ ap (λ (calls : List Call). now ++ calls) c.in_ok-entry.ensures.record)

pub returns-in_err-entry : goal.returns-in_err-entry
returns-in_err-entry c = record { records = IfOk-from_err c.from_residual.result _ c.from_residual.ensures.0 }

pub returns-in_err-add_entry : goal.returns-in_err-add_entry
returns-in_err-add_entry c = record { records = IfOk-from_err c.from_residual-in_err-add_entry.result _ c.from_residual-in_err-add_entry.ensures.0 }

pub returns : goal.returns
returns c =
    record { records = gives_all (record_to c.args.at.now c.args.self.now.site) c.args.addressed.now c.loop-told.told-index [] c.loop-told.entries.items c.loop-told-test.false c.loop-told.invariant }
