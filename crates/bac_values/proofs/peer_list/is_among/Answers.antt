use Rattle.std.proofs.Common.{◌∙◌}
use Rattle.bac_values.specs.Address.{PeerData}
use Rattle.bac_values.proofs.Placing.{searched}
use Rattle.bac_values.proofs.Inserting.{found_by_search}
use Rattle.bac_values.proofs.peer_list.is_among.Goals as goal

pub returns : goal.returns
returns c =
    let known = c.args.peers.now in
    let peer = c.args.peer.now in
    let answer = c.binary_search.result in
    record {
      among = c.is_ok.ensures.value ∙ found_by_search known peer answer (searched (λ (it : PeerData). it) peer known answer c.requires.ascending c.binary_search.ensures.bound c.binary_search.ensures.position);
    }
