use Rattle.std.proofs.Common.{◌≡◌, ◌+◌, ◌≤◌, drop, length}
use Rattle.std.specs.Prelude.{vec_len, vec_capacity}
use Rattle.bac_values.specs.Orders.{IsAscending, peers_with}
use Rattle.bac_values.proofs.peer_list.add_all.Given as goal

abbrev pub invariant-loop-other : goal.invariant-loop-other
invariant-loop-other l = record {
  added : peers_with (drop l.other-index l.others) l.peers.items ≡ peers_with l.others l.initial.peers.items;
  ascending : IsAscending l.peers.items;
  room : vec_len l.peers + length (drop l.other-index l.others) ≤ vec_capacity l.peers;
}
