use Rattle.std.proofs.Common.{arith, ◌∙◌, Bool, not, take, ap}
use Rattle.bac_values.specs.Orders.{is_among}
use Rattle.notify_class.specs.Recipients.{DestinationData}
use Rattle.notify_class.specs.Edits.{known_with, recipient_peers}
use Rattle.notify_class.proofs.UnionLemmas.{length-new, length-known}
use Rattle.notify_class.proofs.edit.new_peers.Goals as goal
use Rattle.notify_class.proofs.edit.new_peers.Goals.{then-is_new, else-is_new}

pub loop-place-preserved : goal.loop-place-preserved
loop-place-preserved c =
    let together = c.loop-place.invariant.together in
    let most = c.loop-place.invariant.most in
    let known = c.args.known.now in
    let destinations = c.args.destinations.now in
    let place = c.loop-place.place in
    let destination = c.index-destinations-place.result in
    let is_new : DestinationData → Bool = λ it. not (is_among (known_with known (recipient_peers (take place destinations))) it.peer) in
    let same = ap is_new c.destination.view_is in
    elim c.if-is_new.branch [
      | then-is_new w ↦
          let longer = length-new known destinations place destination c.loop-place-test.true c.index-destinations-place.is (w.if-is_new.ensures.new ∙ same) in
          record { together = omega arith; most = omega arith }
      | else-is_new w ↦
          let as_long = length-known known destinations place destination c.loop-place-test.true c.index-destinations-place.is (w.if-is_new.ensures.new ∙ same) in
          record { together = omega arith; most = omega arith }
    ]
