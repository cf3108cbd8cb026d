use Rattle.std.proofs.Common.{◌≡◌, ◌++◌, map, take}
use Rattle.bac_values.specs.declared.report.ReportLine.TheVariants.{Change}
use Rattle.alarm_server.proofs.taken.add_changes.Given as goal

abbrev pub invariant-loop-moved : goal.invariant-loop-moved
invariant-loop-moved l = l.piece.items ≡ l.initial.piece.items ++ map (λ moved. Change l.number moved) (take l.moved-index l.moves)
