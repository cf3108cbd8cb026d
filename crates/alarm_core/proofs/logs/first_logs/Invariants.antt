use Rattle.std.proofs.Common.{◌≡◌, map, take}
use Rattle.alarm_core.specs.CoreSteps.{first_kept}
use Rattle.alarm_core.proofs.logs.first_logs.Given as goal

abbrev pub invariant-loop-listed : goal.invariant-loop-listed
invariant-loop-listed l = l.logs.items ≡ map first_kept (take l.listed-index l.site.logs)
