use Rattle.std.proofs.Common.{◌≡◌, ◌++◌, map, take, drop}
use Rattle.alarm_core.specs.Logs.{call_of_change, SiteLogState}
use Rattle.alarm_core.specs.CoreSteps.{after_calls}
use Rattle.alarm_core.proofs.logs.change_all.Given as goal

abbrev pub invariant-loop-kept : goal.invariant-loop-kept
invariant-loop-kept l = l.kept-items ≡ map (λ (kept : SiteLogState). record kept { log = after_calls (call_of_change kept.site l.change) kept.log }) (take l.kept-index l.fn.logs.items) ++ drop l.kept-index l.fn.logs.items
