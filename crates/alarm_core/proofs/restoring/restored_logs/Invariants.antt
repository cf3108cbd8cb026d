use Rattle.std.proofs.Common.{◌≡◌, ◌++◌, drop, map}
use Rattle.std.specs.List.{zip}
use Rattle.alarm_core.specs.Parts.{kept_by}
use Rattle.alarm_core.proofs.restoring.restored_logs.Given as goal

-- what is done and what is left is the whole
abbrev pub invariant-loop-listed : goal.invariant-loop-listed
invariant-loop-listed l = l.logs.items ++ map kept_by (zip (drop l.listed-index l.site.logs) l.told.rest.items) ≡ map kept_by (zip l.site.logs l.fn.logs.items)
