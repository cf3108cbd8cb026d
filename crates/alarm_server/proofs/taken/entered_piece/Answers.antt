use Rattle.std.proofs.Common.{◌≡◌, ◌++◌, ◌∷◌, [], map}
use Rattle.bac_values.specs.declared.report.ReportLine.TheVariants.{Entered, Change}
use Rattle.service_desk.specs.Answers.{if_owed}
use Rattle.alarm_server.specs.Pieces.{send_line}
use Rattle.alarm_server.proofs.taken.entered_piece.Goals as goal

pub returns : goal.returns
returns c =
    let number = c.args.number in
    let outcome = c.args.outcome in
    let moves : c.as_slice.result.now ≡ outcome.moves = c.as_slice.ensures.same in
    let gone : c.into_vec.result.items ≡ outcome.sends = c.into_vec.ensures.same in
    let first : c.in_ok-piece.piece.items ≡ Entered number c.args.event outcome.moment ∷ [] = c.in_ok-piece.ensures.single in
    let changes : c.add_changes.new.piece.items ≡ c.in_ok-piece.piece.items ++ map (λ moved. Change number moved) c.as_slice.result.now = c.in_ok-add_changes.ensures.changes in
    let sends : c.add_sends.new.piece.items ≡ c.add_changes.new.piece.items ++ map (send_line number) c.into_vec.result.items = c.in_ok-add_sends.ensures.sends in
    let reply : c.add_reply.new.piece.items ≡ c.add_sends.new.piece.items ++ map (send_line number) (if_owed c.args.reply) = c.in_ok-add_reply.ensures.reply in
    record { piece = cc }
