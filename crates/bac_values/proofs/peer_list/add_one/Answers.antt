use Rattle.std.proofs.Common.{◌∙◌, Ok, Err, List, sym, ap, subst}
use Rattle.std.specs.List.{insert}
use Rattle.bac_values.specs.Address.{PeerData}
use Rattle.bac_values.specs.Orders.{IsAscending, peer_with}
use Rattle.bac_values.proofs.Placing.{searched}
use Rattle.bac_values.proofs.Inserting.{itself, at_place, at_gap, ascends_with, made_sure}
use Rattle.bac_values.proofs.peer_list.add_one.Goals as goal

pub returns-in-Err-clause-added : goal.returns-in-Err-clause-added
returns-in-Err-clause-added c =
    let known = c.args.peers.now.items in
    let peer = c.args.peer in
    let place = c.in-Err.place in
    let seen = c.deref.ensures.value in
    let slice = c.deref.result.now in
    let gap = searched itself peer slice (Err place) (subst IsAscending (sym seen) c.requires.ascending) c.in-Err.ensures.bound c.in-Err.ensures.position in
    c.insert-inserted.ensures.items
    ∙ made_sure c.insert-inserted.result _ known (c.insert-inserted.ensures.succeeds c.requires.room)
    ∙ ap (λ (ps : List PeerData). insert ps place peer) (sym seen)
    ∙ at_gap peer slice place gap
    ∙ ap (peer_with peer) seen

pub returns-in-Err-clause-ascending : goal.returns-in-Err-clause-ascending
returns-in-Err-clause-ascending c = subst IsAscending (sym (returns-in-Err-clause-added c)) (ascends_with c.args.peer c.args.peers.now.items c.requires.ascending)

pub returns-in_default-clause-added : goal.returns-in_default-clause-added
returns-in_default-clause-added c =
    let seen = c.deref.ensures.value in
    let slice = c.deref.result.now in
    let place = c.in_default.field-0 in
    let there = searched itself c.args.peer slice (Ok place) (subst IsAscending (sym seen) c.requires.ascending) c.in_default.ensures.bound c.in_default.ensures.position in
    sym seen ∙ at_place c.args.peer slice place there ∙ ap (peer_with c.args.peer) seen
