use Rattle.std.proofs.Common.{◌≡◌, ◌∙◌, ◌+◌, ◌∷◌, drop, sym, ap, arith}
use Rattle.std.proofs.lemmas.List.{drop_more, length-drop}
use Rattle.outbox.specs.Outboxes.{mailboxes_with_all}
use Rattle.outbox.proofs.Learning.{ascends_still}
use Rattle.outbox.proofs.all.add_all.Goals as goal

pub loop-peer-preserved : goal.loop-peer-preserved
loop-peer-preserved c =
    let peers = c.args.peers.now in
    let i = c.loop-peer.peer-index in
    let p = c.peer-item.result in
    let old = c.loop-peer.mailboxes.items in
    let next : drop i peers ≡ p ∷ drop (i + 1) peers = drop_more peers i p c.loop-peer-test.true ∙ ap (λ q. q ∷ drop (i + 1) peers) (sym c.peer-item.is) in
    let before = length-drop i peers in
    let behind = length-drop (i + 1) peers in
    let longer = c.add_one.ensures.length in
    let wider = c.add_one.ensures.capacity in
    let room = c.loop-peer.invariant.room in
    let within = c.loop-peer-test.true in
    record {
      added = ap (mailboxes_with_all (drop (i + 1) peers)) c.add_one.ensures.added ∙ ap (λ ps. mailboxes_with_all ps old) (sym next) ∙ c.loop-peer.invariant.added;
      ascending = ascends_still p old c.add_one.new.mailboxes.items c.add_one.ensures.added c.loop-peer.invariant.ascending;
      room = omega (arith, before, behind, longer, wider, room, within);
    }
