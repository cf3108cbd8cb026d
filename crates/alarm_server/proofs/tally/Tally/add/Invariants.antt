use Rattle.std.proofs.Common.{◌≡◌, take}
use Rattle.alarm_server.specs.Tallies.{tally_with}
use Rattle.alarm_server.proofs.tally.Tally.add.Given as goal

abbrev pub invariant-loop-line : goal.invariant-loop-line
invariant-loop-line l = l.self ≡ tally_with (take l.line-index l.piece) l.initial.self
