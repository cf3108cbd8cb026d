use Rattle.std.proofs.Common.{map, sym, subst}
use Rattle.std.specs.Option.{option_to_list}
use Rattle.std.proofs.lemmas.List.{map-append}
use Rattle.std.proofs.lemmas.Result.{err_from_is_err_and}
use Rattle.ground_io.specs.Trace.{Adds}
use Rattle.script_lines.specs.Report.{report_text}
use Rattle.alarm_server.specs.Emission.{Sends, SendsUpTo}
use Rattle.alarm_server.specs.Trial.{move_line}
use Rattle.alarm_server.proofs.Sending.{adds, front_more, sends_then}
use Rattle.alarm_server.proofs.trial.emit_moves.Goals as goal

pub returns-in_err-emit_move-clause-sends : goal.returns-in_err-emit_move-clause-sends
returns-in_err-emit_move-clause-sends g c =
    let p = err_from_is_err_and c.from_residual.result c.from_residual.ensures.1 in
    let fault = c.in_err-emit_move.field-0.0 in
    let line = move_line c.args.moment in
    let first = option_to_list c.args.changed.first in
    let second = option_to_list c.args.changed.second in
    let before = g.G.Ground.told c.args.device.now in
    let after = g.G.Ground.told c.emit_move.new.device in
    rw (p.1, p.2)
    (subst (λ lines. SendsUpTo Adds report_text fault lines before after) (sym (map-append line first second))
    (front_more Adds report_text fault before after (map line first) (map line second) c.in_err-emit_move.ensures.sends))

pub returns-clause-sends : goal.returns-clause-sends
returns-clause-sends g c =
    let line = move_line c.args.moment in
    let first = option_to_list c.args.changed.first in
    let second = option_to_list c.args.changed.second in
    let before = g.G.Ground.told c.args.device.now in
    let between = g.G.Ground.told c.emit_move.new.device in
    let after = g.G.Ground.told c.emit_move-2.new.device in
    subst (λ lines. Sends Adds report_text c.emit_move-2.result lines before after) (sym (map-append line first second))
    (sends_then Adds adds report_text c.emit_move-2.result before between after (map line first) (map line second) c.in_ok-emit_move.ensures.sends c.emit_move-2.ensures.sends)
