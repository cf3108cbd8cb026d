use Rattle.std.proofs.Common.{◌≡◌, ◌≤◌, length, IsTrue}
use Rattle.std.specs.Prelude.{◌⊎◌}
use Rattle.bac_values.specs.Limits.{most_datagram_octets}
use Rattle.ground_io.specs.Counts.{HasCause}
use Rattle.ground_io.specs.declared.gate.Worker.TheVariants.{Receiver}
use Rattle.turnstile.specs.Passes.{IsOf}
use Rattle.floor_desk.specs.Workers.{GoesThrough, HasReceived}
use Rattle.floor_desk.proofs.receiver.receive_all.Given as goal

-- so far these datagrams were tried; the link's count has risen only where it is told
abbrev pub invariant-loop : goal.invariant-loop
invariant-loop g l = record {
  here : IsOf l.fn.desk l.pass;
  received : HasReceived (g.K.Clock.shows l.fn.clock) (g.L.Link.left l.fn.link) (g.L.Link.left l.link) l.fn.pass l.pass l.ends;
  worker : l.steps.worker ≡ Receiver;
  turns : GoesThrough (g.W.Gate.passed l.fn.gate Receiver) 0 l.steps.count l.fn.pass l.pass;
  few : l.ends.received ≤ l.fn.count;
  lost : l.ends.lost ≤ l.ends.received;
  whole : length l.into ≡ most_datagram_octets;
  cause : HasCause (g.L.Link.faults l.fn.link) (g.L.Link.faults l.link) (IsTrue l.ends.link_fault);
  counted : IsTrue l.ends.link_fault ⊎ (g.L.Link.faults l.link ≡ g.L.Link.faults l.fn.link);
}
