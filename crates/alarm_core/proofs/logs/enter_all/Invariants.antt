use Rattle.std.proofs.Common.{◌≡◌, List, map}
use Rattle.event_log.specs.History.{Call}
use Rattle.alarm_core.specs.Logs.{SiteLogState}
use Rattle.alarm_core.proofs.Entering.{AreTaken, calls_in}
use Rattle.alarm_core.proofs.logs.enter_all.Given as goal

abbrev pub invariant-loop-kept : goal.invariant-loop-kept
invariant-loop-kept l = (calls : SiteLogState → List Call) → map calls_in l.fn.entries.items ≡ map calls l.fn.logs.items → AreTaken calls l.fn.logs.items l.kept-index l.kept-items l.lists.rest.items
