use Rattle.std.proofs.Common.{◌≡◌, ◌∙◌, ◌+◌, ◌∷◌, drop, sym, ap, arith}
use Rattle.std.proofs.lemmas.List.{drop_more, length-drop}
use Rattle.bac_values.specs.Orders.{peers_with}
use Rattle.bac_values.proofs.peer_list.add_all.Goals as goal

pub loop-other-preserved : goal.loop-other-preserved
loop-other-preserved c =
    let others = c.args.others.now in
    let i = c.loop-other.other-index in
    let p = c.other-item.result in
    let old = c.loop-other.peers.items in
    let next : drop i others ≡ p ∷ drop (i + 1) others = drop_more others i p c.loop-other-test.true ∙ ap (λ q. q ∷ drop (i + 1) others) (sym c.other-item.is) in
    let before = length-drop i others in
    let behind = length-drop (i + 1) others in
    let longer = c.add_one.ensures.length in
    let wider = c.add_one.ensures.capacity in
    let room = c.loop-other.invariant.room in
    let within = c.loop-other-test.true in
    record {
      added = ap (peers_with (drop (i + 1) others)) c.add_one.ensures.added ∙ ap (λ ps. peers_with ps old) (sym next) ∙ c.loop-other.invariant.added;
      ascending = c.add_one.ensures.ascending;
      room = omega (arith, before, behind, longer, wider, room, within);
    }
