use Rattle.std.proofs.Common.{◌≡◌, ◌++◌, map, take}
use Rattle.event_log.specs.declared.log_site.LogSite.{LogSite}
use Rattle.alarm_core.proofs.identifiers.add_logs.Given as goal

abbrev pub invariant-loop-log : goal.invariant-loop-log
invariant-loop-log l = l.identifiers.items ≡ l.initial.identifiers.items ++ map (λ (log : LogSite). log.object) (take l.log-index l.logs)
