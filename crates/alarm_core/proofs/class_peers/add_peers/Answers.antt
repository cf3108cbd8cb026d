use Rattle.std.proofs.Common.{[], ◌∷◌, ◌++◌, ap, ◌∙◌}
use Rattle.std.proofs.lemmas.Result.{IfOk-from_err}
use Rattle.notify_class.specs.Recipients.{DestinationData}
use Rattle.enrollment.proofs.Appended.{makes_next, makes_all}
use Rattle.alarm_core.proofs.class_peers.add_peers.Goals as goal

pub loop-destination-preserved : goal.loop-destination-preserved
loop-destination-preserved c =
    makes_next (λ (destination : DestinationData). destination.peer) c.args.destinations.now c.loop-destination.destination-index c.destination-item.result c.args.peers.now.items c.loop-destination.peers.items c.push.new.items.items
    c.loop-destination-test.true c.destination-item.is c.loop-destination.invariant (c.in_ok-push.ensures.added ∙ ap (λ (destination : DestinationData). c.loop-destination.peers.items ++ destination.peer ∷ []) c.destination.view_is)

pub returns-in_err-push : goal.returns-in_err-push
returns-in_err-push c = record { added = IfOk-from_err c.from_residual.result _ c.from_residual.ensures.0 }

pub returns : goal.returns
returns c =
    record {
      added = makes_all (λ (destination : DestinationData). destination.peer) c.args.destinations.now c.loop-destination.destination-index c.args.peers.now.items c.loop-destination.peers.items
          c.loop-destination-test.false c.loop-destination.invariant;
    }
