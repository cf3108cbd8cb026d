use Rattle.std.proofs.Common.{◌∙◌, arith}
use Rattle.alarm_server.specs.Pieces.{piece_text}
use Rattle.alarm_server.proofs.AtRest.{throughout_now}
use Rattle.alarm_server.proofs.OneEmission.{one_lost}
use Rattle.alarm_server.proofs.Sending.{loses_line}
use Rattle.alarm_server.proofs.pieces.emit_piece.Goals as goal

pub returns-in_err-write_piece-clause-any_moment : goal.returns-in_err-write_piece-clause-any_moment
returns-in_err-write_piece-clause-any_moment g c = λ journal content rests. throughout_now journal content (g.G.Ground.told c.args.press.now.device) rests.1

pub returns-then-emits-gt0-clause-sends : goal.returns-then-emits-gt0-clause-sends
returns-then-emits-gt0-clause-sends g c =
    let before = g.G.Ground.told c.args.press.now.device in
    let after = g.G.Ground.told c.emit_all-emits.new.self.device in
    let emits = c.emit_all-emits.result in
    loses_line piece_text c.args.piece.now c.console.result c.of-bytes.result before after c.console.ensures.console (c.of-bytes.ensures.same ∙ c.in_ok-write_piece.ensures.text)
    (one_lost (record { peer = c.console.result; bytes = c.of-bytes.result }) emits.sent emits.lost before after c.emit_all-emits.ensures.told (omega arith))
