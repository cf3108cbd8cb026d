use Rattle.std.proofs.Common.{◌≡◌, ◌*◌, ◌≤◌, take}
use Rattle.std.specs.Prelude.{sum_by}
use Rattle.site_config.specs.Limits.{size_of}
use Rattle.site_config.proofs.limits.are_large.Given as goal

abbrev pub invariant-loop-log : goal.invariant-loop-log
invariant-loop-log l = (l.total ≡ sum_by size_of (take l.log-index l.logs)) × (l.total ≤ l.log-index * 4294967295)
