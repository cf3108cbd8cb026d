use Rattle.std.proofs.Common.{◌≡◌, ℕ, List, [], None, subst, rules, arith}
use Rattle.std.proofs.lemmas.List.{nil_from_length}
use Rattle.std.proofs.lemmas.Result.{err_from_is_err_and}
use Rattle.state_codec.specs.ReadingSteps.{Fails}
use Rattle.state_codec.specs.declared.reading.ReadFault.{ReadFault}
use Rattle.state_codec.specs.declared.reading.ReadFault.TheVariants.{NothingThere}
use Rattle.standby.specs.FrameSteps.{piece_packet_at}
use Rattle.standby.proofs.Spelling.{left_over, no_piece, none_there, piece_found}
use Rattle.standby.proofs.packet.read_piece.Goals as goal

pub returns-then-is_empty-clause-found : goal.returns-then-is_empty-clause-found
returns-then-is_empty-clause-found c =
    let left : List ℕ = c.take_piece_packet.new.bytes.now in
    let none : left ≡ [] = nil_from_length left (search rules) in
    piece_found c.args.packet.now left _ (λ i. omega (arith, c.type_inv.packet i)) c.in_ok-frame.ensures.exact none

pub returns-else-is_empty-clause-only : goal.returns-else-is_empty-clause-only
returns-else-is_empty-clause-only c = λ e.
    let left : List ℕ = c.take_piece_packet.new.bytes.now in
    no_piece c.args.packet.now _ c.in_ok-frame.ensures.exact (λ x e. absurd (let none : left ≡ [] = left_over _ x left e in search rules))

pub returns-in_err-frame-clause-only : goal.returns-in_err-frame-clause-only
returns-in_err-frame-clause-only c = λ e.
    let p = err_from_is_err_and c.from_residual.result c.from_residual.ensures.1 in
    let is : c.in_err-frame.field-0.0 ≡ NothingThere = cc in
    let none : piece_packet_at c.args.packet.now ≡ None = subst (λ (fault : ReadFault). Fails fault (piece_packet_at c.args.packet.now)) is c.in_err-frame.ensures.exact in
    no_piece c.args.packet.now None none none_there
