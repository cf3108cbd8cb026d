use Rattle.std.proofs.Common.{◌≡◌, ◌++◌, take, flat_map}
use Rattle.state_codec.specs.Snapshots.{written_log}
use Rattle.state_codec.proofs.writing_rest.put_logs.Given as goal

abbrev pub invariant-loop-kept : goal.invariant-loop-kept
invariant-loop-kept l = l.out.items ≡ l.fn.out.items ++ flat_map (written_log l.has_rule) (take l.kept-index l.logs)
