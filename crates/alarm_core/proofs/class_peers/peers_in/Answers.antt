use Rattle.std.proofs.Common.{[], ◌++◌, List, ap, ◌∙◌}
use Rattle.std.proofs.lemmas.Result.{IfOk-from_err}
use Rattle.notify_class.specs.declared.class.Class.{Class}
use Rattle.notify_class.specs.Recipients.{DestinationData}
use Rattle.notify_class.specs.Edits.{recipient_peers}
use Rattle.enrollment.proofs.Appended.{gives_next, gives_all}
use Rattle.alarm_core.proofs.class_peers.peers_in.Goals as goal

pub loop-class-preserved : goal.loop-class-preserved
loop-class-preserved c =
    let now = c.loop-class.peers.items in
    gives_next (λ (class : Class). recipient_peers class.destinations) c.args.classes.now c.loop-class.class-index c.class-item.result [] now c.add_peers.new.peers.items
    c.loop-class-test.true c.class-item.is c.loop-class.invariant (c.in_ok-add_peers.ensures.added ∙ ap (λ (recipients : List DestinationData). now ++ recipient_peers recipients) c.as_slice.ensures.same)

pub returns-in_err-add_peers : goal.returns-in_err-add_peers
returns-in_err-add_peers c = record { peers = IfOk-from_err c.from_residual.result _ c.from_residual.ensures.0 }

pub returns : goal.returns
returns c =
    record { peers = gives_all (λ (class : Class). recipient_peers class.destinations) c.args.classes.now c.loop-class.class-index [] c.loop-class.peers.items c.loop-class-test.false c.loop-class.invariant }
