use Rattle.std.proofs.Common.{◌≡◌, ◌+◌, ◌≤◌, drop, length}
use Rattle.std.specs.Prelude.{vec_len, vec_capacity}
use Rattle.bac_values.specs.Orders.{IsAscending}
use Rattle.outbox.specs.Outboxes.{peers_of, mailboxes_with_all}
use Rattle.outbox.proofs.all.add_all.Given as goal

abbrev pub invariant-loop-peer : goal.invariant-loop-peer
invariant-loop-peer l = record {
  added : mailboxes_with_all (drop l.peer-index l.peers) l.mailboxes.items ≡ mailboxes_with_all l.peers l.initial.mailboxes.items;
  ascending : IsAscending (peers_of l.mailboxes.items);
  room : vec_len l.mailboxes + length (drop l.peer-index l.peers) ≤ vec_capacity l.mailboxes;
}
