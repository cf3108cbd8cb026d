use Rattle.std.proofs.Common.{◌≡◌, ◌+◌, ◌-◌, ◌≤◌, ◌++◌}
use Rattle.work_load.specs.Script.{lines_from, workload_script}
use Rattle.work_load.proofs.script.make_script.Given as goal

-- what is written, and the lines to come
abbrev pub invariant-loop-place : goal.invariant-loop-place
invariant-loop-place l = workload_script l.seed l.count ≡ l.script.items ++ lines_from (l.place + 1) l.draws.seed (l.count - l.place)
