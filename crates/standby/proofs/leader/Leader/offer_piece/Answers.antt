use Rattle.std.proofs.Common.{ap, ◌∙◌}
use Rattle.standby.specs.Offers.{LeaderState, piece_from}
use Rattle.standby.specs.Packets.{PieceData, written_piece}
use Rattle.standby.proofs.Offered.{piece_is}
use Rattle.standby.proofs.leader.Leader.offer_piece.Goals as goal

pub returns-clause-packet : goal.returns-clause-packet
returns-clause-packet c =
    let inside : LeaderState = record { events = c.self.inside.events; snapshot = c.self.inside.snapshot.items; records = c.self.inside.records.items; ends = c.self.inside.ends.items; place = c.self.inside.place; next = c.self.inside.next } in
    c.in_ok-packet.ensures.written
    ∙ (ap (λ (piece : PieceData). written_piece piece) (piece_is inside c.args.place c.min-end.result c.as_slice-snapshot.result.now c.as_slice-snapshot.ensures.value c.min-end.ensures)
    ∙ ap (λ (s : LeaderState). written_piece (piece_from s c.args.place)) c.self.view_is)
