use Rattle.std.proofs.lemmas.Result.{IfOk-from_err}
use Rattle.enrollment.proofs.Appended.{makes_next, makes_all}
use Rattle.event_log.specs.declared.log_site.LogSite.{LogSite}
use Rattle.alarm_core.proofs.identifiers.add_logs.Goals as goal

pub loop-log-preserved : goal.loop-log-preserved
loop-log-preserved c =
    makes_next (λ (log : LogSite). log.object) c.args.logs.now c.loop-log.log-index c.log-item.result c.args.identifiers.now.items c.loop-log.identifiers.items c.push.new.items.items
    c.loop-log-test.true c.log-item.is c.loop-log.invariant c.in_ok-push.ensures.added

pub returns-in_err-push : goal.returns-in_err-push
returns-in_err-push c = record { added = IfOk-from_err c.from_residual.result _ c.from_residual.ensures.0 }

pub returns : goal.returns
returns c =
    record { added = makes_all (λ (log : LogSite). log.object) c.args.logs.now c.loop-log.log-index c.args.identifiers.now.items c.loop-log.identifiers.items c.loop-log-test.false c.loop-log.invariant }
