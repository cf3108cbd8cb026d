use Rattle.std.proofs.Common.{◌≡◌, take}
use Rattle.alarm_core.specs.Classes.{peers_in}
use Rattle.alarm_core.proofs.class_peers.peers_in.Given as goal

abbrev pub invariant-loop-class : goal.invariant-loop-class
invariant-loop-class l = l.peers.items ≡ peers_in (take l.class-index l.classes)
