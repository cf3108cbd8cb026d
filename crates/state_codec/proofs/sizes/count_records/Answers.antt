use Rattle.std.proofs.Common.{◌+◌, ◌≤◌, sum_by, take, get_or, arith}
use Rattle.std.proofs.lemmas.List.Sums.{sum_by_more, sum_by_more_le}
use Rattle.alarm_core.specs.Limits.{size_of}
use Rattle.state_codec.proofs.sizes.count_records.Goals as goal

pub overflow_add-count : goal.overflow_add-count
overflow_add-count c =
    let it = c.listed-item.result in
    let within : sum_by size_of (take c.loop-listed.listed-index c.args.logs.now) + (get_or c.args.logs.now c.loop-listed.listed-index it).size ≤ sum_by size_of c.args.logs.now = sum_by_more_le size_of c.args.logs.now c.loop-listed.listed-index it (omega arith) in
    grind (arith, within, c.listed-item.is, c.loop-listed.invariant, c.requires.few)

pub loop-listed-preserved : goal.loop-listed-preserved
loop-listed-preserved c =
    let it = c.listed-item.result in
    let more = sum_by_more size_of c.args.logs.now c.loop-listed.listed-index it (omega arith) in
    grind (arith, more, c.listed-item.is, c.loop-listed.invariant)
