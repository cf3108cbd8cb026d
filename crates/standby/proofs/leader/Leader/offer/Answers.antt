use Rattle.std.proofs.Common.{List, Some, ap, ◌∙◌, ℕ, subst, sym}
use Rattle.standby.specs.Offers.{IsLeader, LeaderState, NextPiece, NextRecords}
use Rattle.standby.proofs.Offered.{offered}
use Rattle.standby.proofs.leader.Leader.offer.Goals as goal

pub returns-in_ok-offer_piece-in-Some-clause-next : goal.returns-in_ok-offer_piece-in-Some-clause-next
returns-in_ok-offer_piece-in-Some-clause-next c =
    NextPiece c.in-Some.place (ap (λ (s : LeaderState). s.place) (sym c.self.view_is) ∙ c.in-Some.is) (ap (λ (l : List ℕ). Some l) c.in_ok-offer_piece-in-Some.ensures.packet) c.in_ok-offer_piece-in-Some.ensures.behind

pub returns-in_ok-offer_piece-in-Some-clause-offered : goal.returns-in_ok-offer_piece-in-Some-clause-offered
returns-in_ok-offer_piece-in-Some-clause-offered c = λ site history leads.
    let so : IsLeader c.args.self.now = subst IsLeader c.self.view_is c.self.invariant in
    offered c.snapshots_are_short.ensures.short site history c.args.self.now c.offer_piece.new.self c.in_ok-offer_piece-in-Some.field-0.items so leads
    (NextPiece c.in-Some.place (ap (λ (s : LeaderState). s.place) (sym c.self.view_is) ∙ c.in-Some.is) (ap (λ (l : List ℕ). Some l) c.in_ok-offer_piece-in-Some.ensures.packet) c.in_ok-offer_piece-in-Some.ensures.behind)

pub returns-in_ok-offer_records-in-None-clause-next : goal.returns-in_ok-offer_records-in-None-clause-next
returns-in_ok-offer_records-in-None-clause-next c =
    let (count, fit, packet_is, new_is) = c.in_ok-offer_records-in-None.ensures.packet in
    NextRecords count (ap (λ (s : LeaderState). s.place) (sym c.self.view_is) ∙ c.in-None.is) fit (ap (λ (l : List ℕ). Some l) packet_is) new_is

pub returns-in_ok-offer_records-in-None-clause-offered : goal.returns-in_ok-offer_records-in-None-clause-offered
returns-in_ok-offer_records-in-None-clause-offered c = λ site history leads.
    let so : IsLeader c.args.self.now = subst IsLeader c.self.view_is c.self.invariant in
    let (count, fit, packet_is, new_is) = c.in_ok-offer_records-in-None.ensures.packet in
    offered c.snapshots_are_short.ensures.short site history c.args.self.now c.offer_records.new.self c.in_ok-offer_records-in-None.field-0.items so leads
    (NextRecords count (ap (λ (s : LeaderState). s.place) (sym c.self.view_is) ∙ c.in-None.is) fit (ap (λ (l : List ℕ). Some l) packet_is) new_is)
