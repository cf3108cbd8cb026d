use Rattle.std.proofs.Common.{◌∷◌, [], ◌∙◌, subst, arith}
use Rattle.std.proofs.lemmas.Result.{err_from_is_err_and}
use Rattle.ground_io.specs.Trace.{Adds}
use Rattle.alarm_server.specs.Emission.{sent, SendsUpTo}
use Rattle.state_codec.specs.Keeping.{Commits, HoldsHistory}
use Rattle.alarm_server.specs.Pieces.{piece_of, piece_text}
use Rattle.alarm_server.proofs.Emitting.{emits_sent}
use Rattle.alarm_server.proofs.KeptLine.{line_ends, line_sent, line_told, not_taken, with_line}
use Rattle.alarm_server.proofs.KeptLines.{committed}
use Rattle.alarm_server.proofs.KeptProgress.{few_sent}
use Rattle.alarm_server.proofs.session.play_line.Goals as goal

pub returns-in-Err-clause-keeps : goal.returns-in-Err-clause-keeps
returns-in-Err-clause-keeps g c = λ journal history stands holds.
    rw c.into_ground.ensures.same (not_taken journal c.args.core.now.site history c.args.press.layout (g.G.Ground.told c.args.press.device) c.args.line.now holds)

pub returns-in_err-press-clause-keeps : goal.returns-in_err-press-clause-keeps
returns-in_err-press-clause-keeps g c = λ journal history stands holds.
    let p = err_from_is_err_and c.from_residual.result c.from_residual.ensures.1 in
    let old = g.G.Ground.told c.args.press.device in
    let new = g.G.Ground.told c.in_err-press.field-0.0.0 in
    let next = c.in-Ok.ensures.represents history stands in
    rw (p.1, p.2)
    (committed journal c.args.core.now.site history c.args.line.now old new
    (with_line c.args.core.now c.count_line.new.core c.args.line.now c.in-Ok.taken.event history stands c.in-Ok.ensures.event c.in-Ok.ensures.site next
    (λ s h. HoldsHistory journal s h c.args.press.layout old) (λ s h. Commits journal s history h old new) (c.in_err-press.ensures.keeps journal history) holds))

pub returns-in-Ok-emit_piece-clause-sends : goal.returns-in-Ok-emit_piece-clause-sends
returns-in-Ok-emit_piece-clause-sends g c =
    let old = g.G.Ground.told c.args.press.device in
    let mid = g.G.Ground.told c.in_ok-press.press.device in
    let new = g.G.Ground.told c.emit_piece.new.press.device in
    let same = c.as_slice.ensures.value ∙ c.in-Ok.ensures.piece in
    line_sent (piece_of c.args.core.now c.args.line.now) old mid new c.in_ok-press.ensures.quiet (subst (λ piece. Adds mid new (sent piece_text (piece ∷ []))) same c.in-Ok-emit_piece.ensures.sends)

pub returns-in-Ok-emit_piece-clause-holds : goal.returns-in-Ok-emit_piece-clause-holds
returns-in-Ok-emit_piece-clause-holds g c = λ journal history stands holds.
    let old = g.G.Ground.told c.args.press.device in
    let mid = g.G.Ground.told c.in_ok-press.press.device in
    let (content, rests, stood) = with_line c.args.core.now c.count_line.new.core c.args.line.now c.in-Ok.taken.event history stands c.in-Ok.ensures.event c.in-Ok.ensures.site (c.in-Ok.ensures.represents history stands)
    (λ s h. HoldsHistory journal s h c.args.press.layout old) (λ s h. HoldsHistory journal s h c.in_ok-press.press.layout mid) (c.in_ok-press.ensures.holds journal history) holds in
    (content, c.emit_piece.ensures.rests journal content rests, stood)

pub returns-in-Ok-emit_piece-clause-keeps : goal.returns-in-Ok-emit_piece-clause-keeps
returns-in-Ok-emit_piece-clause-keeps g c = λ journal history stands holds.
    let old = g.G.Ground.told c.args.press.device in
    let mid = g.G.Ground.told c.in_ok-press.press.device in
    let new = g.G.Ground.told c.emit_piece.new.press.device in
    let site = c.args.core.now.site in
    let line = c.args.line.now in
    let next = c.in-Ok.ensures.represents history stands in
    let piece = c.as_slice.result.now in
    line_told journal site history line c.in_ok-press.press.layout old mid new (sent piece_text (piece ∷ []))
    (with_line c.args.core.now c.count_line.new.core line c.in-Ok.taken.event history stands c.in-Ok.ensures.event c.in-Ok.ensures.site next
    (λ s h. HoldsHistory journal s h c.args.press.layout old) (λ s h. Commits journal s history h old mid) (c.in_ok-press.ensures.keeps journal history) holds)
    (with_line c.args.core.now c.count_line.new.core line c.in-Ok.taken.event history stands c.in-Ok.ensures.event c.in-Ok.ensures.site next
    (λ s h. HoldsHistory journal s h c.args.press.layout old) (λ s h. HoldsHistory journal s h c.in_ok-press.press.layout mid) (c.in_ok-press.ensures.holds journal history) holds)
    c.in_ok-press.ensures.quiet (c.emit_piece.ensures.any_moment journal) (emits_sent piece_text (piece ∷ []) mid new c.in-Ok-emit_piece.ensures.sends) (omega arith)

pub returns-clause-sends : goal.returns-clause-sends
returns-clause-sends g c =
    let old = g.G.Ground.told c.args.press.device in
    let mid = g.G.Ground.told c.in_ok-press.press.device in
    let new = g.G.Ground.told c.emit_piece.new.press.device in
    let same = c.as_slice.ensures.value ∙ c.in-Ok.ensures.piece in
    let unsent = c.in-Err-emit_piece.unsent in
    rw (c.into_ground-in-Err-emit_piece.ensures.same, c.from.ensures)
    (line_ends (piece_of c.args.core.now c.args.line.now) unsent old mid new c.in_ok-press.ensures.quiet (subst (λ piece. SendsUpTo Adds piece_text unsent (piece ∷ []) mid new) same c.in-Err-emit_piece.ensures.sends))

pub returns-clause-keeps : goal.returns-clause-keeps
returns-clause-keeps g c = λ journal history stands holds.
    let old = g.G.Ground.told c.args.press.device in
    let mid = g.G.Ground.told c.in_ok-press.press.device in
    let new = g.G.Ground.told c.emit_piece.new.press.device in
    let site = c.args.core.now.site in
    let line = c.args.line.now in
    let next = c.in-Ok.ensures.represents history stands in
    let piece = c.as_slice.result.now in
    let (gone, goes, few) = few_sent piece_text c.in-Err-emit_piece.unsent piece mid new c.in-Err-emit_piece.ensures.sends in
    rw c.into_ground-in-Err-emit_piece.ensures.same
    (line_told journal site history line c.in_ok-press.press.layout old mid new gone
    (with_line c.args.core.now c.count_line.new.core line c.in-Ok.taken.event history stands c.in-Ok.ensures.event c.in-Ok.ensures.site next
    (λ s h. HoldsHistory journal s h c.args.press.layout old) (λ s h. Commits journal s history h old mid) (c.in_ok-press.ensures.keeps journal history) holds)
    (with_line c.args.core.now c.count_line.new.core line c.in-Ok.taken.event history stands c.in-Ok.ensures.event c.in-Ok.ensures.site next
    (λ s h. HoldsHistory journal s h c.args.press.layout old) (λ s h. HoldsHistory journal s h c.in_ok-press.press.layout mid) (c.in_ok-press.ensures.holds journal history) holds)
    c.in_ok-press.ensures.quiet (c.emit_piece.ensures.any_moment journal) goes few)
