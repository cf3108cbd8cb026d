use Rattle.std.proofs.Common.{◌≡◌, ◌+◌, ◌≤◌, length, take}
use Rattle.notify_class.specs.Edits.{known_with, recipient_peers}
use Rattle.notify_class.proofs.edit.new_peers.Given as goal

abbrev pub invariant-loop-place : goal.invariant-loop-place
invariant-loop-place l = record {
  together : length l.known + l.count ≡ length (known_with l.known (recipient_peers (take l.place l.destinations)));
  most : l.count ≤ l.place;
}
