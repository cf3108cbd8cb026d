use Rattle.std.proofs.Common.{◌≤◌, length, arith, rules}
use Rattle.standby.proofs.Endings.{rises, starts_within}
use Rattle.standby.proofs.ends.between.Goals as goal

pub slice_bounds-result-count : goal.slice_bounds-result-count
slice_bounds-result-count c =
    omega (arith, c.start_of-start.ensures.start, c.start_of-end.ensures.start, rises c.args.records.now c.args.ends.now c.requires.ends c.args.first c.args.last c.requires.order c.requires.there)

pub slice_bounds-result-start : goal.slice_bounds-result-start
slice_bounds-result-start c =
    let order : c.start_of-start.result ≤ c.start_of-end.result =
    omega (arith, c.start_of-start.ensures.start, c.start_of-end.ensures.start, rises c.args.records.now c.args.ends.now c.requires.ends c.args.first c.args.last c.requires.order c.requires.there) in
    search rules

pub slice_bounds-result-end : goal.slice_bounds-result-end
slice_bounds-result-end c =
    let within : c.start_of-end.result ≤ length c.args.records.now = omega (arith, c.start_of-end.ensures.start, starts_within c.args.records.now c.args.ends.now c.requires.ends c.args.last c.requires.there) in
    search rules
