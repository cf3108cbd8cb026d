use Rattle.std.proofs.Common.{◌≡◌, take, sum_by}
use Rattle.alarm_core.specs.Limits.{size_of}
use Rattle.state_codec.proofs.sizes.count_records.Given as goal

abbrev pub invariant-loop-listed : goal.invariant-loop-listed
invariant-loop-listed l = l.count ≡ sum_by size_of (take l.listed-index l.logs)
