use Rattle.std.proofs.Common.{◌≡◌, [], IfOk, List, subst, ap, ◌∙◌}
use Rattle.bac_values.specs.Address.{PeerData}
use Rattle.bac_values.specs.Orders.{peers_with}
use Rattle.alarm_core.proofs.Restored.{put_in}
use Rattle.alarm_core.proofs.restoring.peer_list.Goals as goal

pub returns : goal.returns
returns c =
    let peers = c.args.peers.now in
    record { same = subst (λ (ps : List PeerData). IfOk c.with-2.result (λ list. list ≡ ps)) (ap (peers_with peers) c.new.ensures.empty ∙ put_in peers [] c.requires.ascending) c.with-2.ensures.together }
