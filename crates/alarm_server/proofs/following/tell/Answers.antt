use Rattle.std.proofs.Common.{◌∙◌, arith}
use Rattle.alarm_server.proofs.AtRest.{throughout_now}
use Rattle.alarm_server.proofs.OneEmission.{one_lost}
use Rattle.alarm_server.proofs.Telling.{line_lost}
use Rattle.alarm_server.proofs.following.tell.Goals as goal

pub returns-in_err-write_report-clause-any_moment : goal.returns-in_err-write_report-clause-any_moment
returns-in_err-write_report-clause-any_moment g c = λ journal content rests. throughout_now journal content (g.G.Ground.told c.args.follower.now.press.device) rests.1

pub returns-then-emits-gt0-clause-tells : goal.returns-then-emits-gt0-clause-tells
returns-then-emits-gt0-clause-tells g c =
    let before = g.G.Ground.told c.args.follower.now.press.device in
    let after = g.G.Ground.told c.emit_all-emits.new.self.press.device in
    let emits = c.emit_all-emits.result in
    line_lost c.args.line.now c.console.result c.of-bytes.result before after c.console.ensures.console (c.of-bytes.ensures.same ∙ c.in_ok-write_report.ensures.text)
    (one_lost (record { peer = c.console.result; bytes = c.of-bytes.result }) emits.sent emits.lost before after c.emit_all-emits.ensures.told (omega arith))
