use Rattle.std.proofs.Common.{◌≡◌, take}
use Rattle.std.specs.List.{flat_map}
use Rattle.script_lines.specs.Report.{report_text}
use Rattle.alarm_server.proofs.pieces.write_piece.Given as goal

abbrev pub invariant-loop-line : goal.invariant-loop-line
invariant-loop-line l = l.octets.items ≡ flat_map report_text (take l.line-index l.piece)
