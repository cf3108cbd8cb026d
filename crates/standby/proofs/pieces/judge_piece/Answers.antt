use Rattle.std.proofs.Common.{◌≡◌, ◌∙◌, ℕ, ◌<◌, List, Option, Some, ap, subst, sym, arith}
use Rattle.std.proofs.lemmas.Result.{IfOk-weaker}
use Rattle.alarm_core.specs.Fits.{FitsSite}
use Rattle.alarm_core.specs.declared.site.Site.{Site}
use Rattle.state_codec.specs.Sizes.{snapshot_bound}
use Rattle.standby.specs.Judging.{ComesTo, PieceIs}
use Rattle.standby.specs.Packets.{PieceData, SpellsPiece, piece_seen}
use Rattle.standby.specs.Takes.{gathered, gathered_by}
use Rattle.standby.proofs.Judged.{by_piece, gathered_first, gathered_later, old_piece, piece_there}
use Rattle.standby.proofs.Spelling.{IsPart}
use Rattle.standby.proofs.pieces.judge_piece.Goals as goal

pub returns-then-frame-events-clause-comes : goal.returns-then-frame-events-clause-comes
returns-then-frame-events-clause-comes c = λ packet is.
    let core = c.args.core.now in
    let bound : ℕ = snapshot_bound core.site in
    let piece : PieceData = piece_seen c.args.frame.now in
    let bound_is : c.snapshot_bound.result ≡ bound = c.snapshot_bound.ensures.bound ∙ ap (λ (s : Site). snapshot_bound s) c.site-2.ensures.site in
    let part : IsPart piece = record { events = omega arith; whole = omega arith; place = omega arith; body = c.requires.short } in
    let spells : SpellsPiece bound packet piece = piece_there bound c.bound_is_low.ensures.low packet piece is part (omega (arith, bound_is)) (omega arith) in
    old_piece core packet c.args.gathering.now piece c.events-events.result c.events-events.ensures.events spells (omega arith)

pub returns-then-frame-eq0-clause-comes : goal.returns-then-frame-eq0-clause-comes
returns-then-frame-eq0-clause-comes c = λ packet is.
    let core = c.args.core.now in
    let bound : ℕ = snapshot_bound core.site in
    let piece : PieceData = piece_seen c.args.frame.now in
    let old = c.args.gathering.now in
    let new = c.begin.new.gathering in
    let bound_is : c.snapshot_bound.result ≡ bound = c.snapshot_bound.ensures.bound ∙ ap (λ (s : Site). snapshot_bound s) c.site-2.ensures.site in
    let part : IsPart piece = record { events = omega arith; whole = omega arith; place = omega arith; body = c.requires.short } in
    let spells : SpellsPiece bound packet piece = piece_there bound c.bound_is_low.ensures.low packet piece is part (omega (arith, bound_is)) (omega arith) in
    let typed : FitsSite core.site = subst (λ (s : Site). FitsSite s) c.site.ensures.site c.site_fits.ensures.fits in
    let first : gathered old piece ≡ Some piece.octets = gathered_first old piece (omega arith) in
    let more : core.events < piece.events = omega (arith, c.events-events.ensures.events) in
    IfOk-weaker c.begin.result (PieceIs core piece (Some piece.octets) old new) (ComesTo core packet old new)
    (λ judged pieced. by_piece core c.site.ensures.keeps typed c.snapshots_are_short.ensures.short packet old piece spells more new judged (subst (λ (o : Option (List ℕ)). PieceIs core piece o old new judged) (sym first) pieced)) c.begin.ensures.begins

pub returns-clause-comes : goal.returns-clause-comes
returns-clause-comes c = λ packet is.
    let core = c.args.core.now in
    let bound : ℕ = snapshot_bound core.site in
    let piece : PieceData = piece_seen c.args.frame.now in
    let old = c.args.gathering.now in
    let new = c.continue_with.new.gathering in
    let bound_is : c.snapshot_bound.result ≡ bound = c.snapshot_bound.ensures.bound ∙ ap (λ (s : Site). snapshot_bound s) c.site-2.ensures.site in
    let part : IsPart piece = record { events = omega arith; whole = omega arith; place = omega arith; body = c.requires.short } in
    let spells : SpellsPiece bound packet piece = piece_there bound c.bound_is_low.ensures.low packet piece is part (omega (arith, bound_is)) (omega arith) in
    let typed : FitsSite core.site = subst (λ (s : Site). FitsSite s) c.site.ensures.site c.site_fits.ensures.fits in
    let on : gathered old piece ≡ gathered_by old piece = gathered_later old piece (λ e. omega (arith, e)) in
    let more : core.events < piece.events = omega (arith, c.events-events.ensures.events) in
    IfOk-weaker c.continue_with.result (PieceIs core piece (gathered_by old piece) old new) (ComesTo core packet old new)
    (λ judged pieced. by_piece core c.site.ensures.keeps typed c.snapshots_are_short.ensures.short packet old piece spells more new judged (subst (λ (o : Option (List ℕ)). PieceIs core piece o old new judged) (sym on) pieced)) c.continue_with.ensures.goes_on
