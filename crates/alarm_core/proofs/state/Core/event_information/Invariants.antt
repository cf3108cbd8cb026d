use Rattle.std.proofs.Common.{◌≡◌, ◌++◌, length, take, drop, map, filter, nat_lt}
use Rattle.alarm_core.specs.Information.{has_more, is_told, summaries_of, summary_of}
use Rattle.alarm_core.proofs.state.Core.event_information.Given as goal

-- what was told, and as many of those behind as there is room for, are what is to be told
abbrev pub invariant-loop-detected : goal.invariant-loop-detected
invariant-loop-detected l =
    let rest = filter (is_told l.fn.last) (drop l.detected-index l.behind) in
    (l.summaries.items ++ map (summary_of l.self) (take l.left rest) ≡ summaries_of l.fn.last l.fn.room l.self)
    × (nat_lt l.left (length rest) ≡ has_more l.fn.last l.fn.room l.self)
