use Rattle.recipients.proofs.WrittenPeers.{peer_written, peer_back, local_peer}
use Rattle.recipients.proofs.laws.written_peers_are_read.Goals as goal

pub returns-clause-spelled : goal.returns-clause-spelled
returns-clause-spelled c = peer_written

pub returns-clause-read : goal.returns-clause-read
returns-clause-read c = peer_back

pub returns-clause-peer : goal.returns-clause-peer
returns-clause-peer c = local_peer
