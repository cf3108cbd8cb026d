use Rattle.std.proofs.Common.{◌≡◌, ◌++◌, map}
use Rattle.alarm_server.specs.Pieces.{send_line}
use Rattle.alarm_server.proofs.taken.add_sends.Given as goal

abbrev pub invariant-loop-send : goal.invariant-loop-send
invariant-loop-send l = l.piece.items ≡ l.initial.piece.items ++ map (send_line l.number) l.yielded
