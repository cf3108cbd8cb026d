use Rattle.std.proofs.Common.{◌≡◌, ◌++◌, take}
use Rattle.notify_class.specs.Edits.{recipient_peers}
use Rattle.alarm_core.proofs.class_peers.add_peers.Given as goal

abbrev pub invariant-loop-destination : goal.invariant-loop-destination
invariant-loop-destination l = l.peers.items ≡ l.initial.peers.items ++ recipient_peers (take l.destination-index l.destinations)
