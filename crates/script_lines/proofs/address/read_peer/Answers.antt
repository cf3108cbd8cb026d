use Rattle.script_lines.proofs.AddressText.{named}
use Rattle.script_lines.proofs.address.read_peer.Goals as goal

pub returns-clause-written : goal.returns-clause-written
returns-clause-written c = λ peer. named peer c.args.text.now c.peer.result c.peer.ensures.peer
