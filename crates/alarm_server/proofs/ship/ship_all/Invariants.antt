use Rattle.std.proofs.Common.{◌≡◌, ◌<◌, ◌^◌}
use Rattle.standby.specs.Offers.{left_of}
use Rattle.alarm_server.proofs.Shipped.{IsShipping}
use Rattle.alarm_server.proofs.ship.ship_all.Given as goal

-- the packets so far went out, and what is left is offered behind them; the disk is as it was, and no fault was counted
abbrev pub invariant-loop-packet : goal.invariant-loop-packet
invariant-loop-packet g l = record {
  shipping : IsShipping l.initial.leader l.leader l.packets (g.G.Ground.told l.initial.device) (g.G.Ground.told l.device);
  few : left_of l.initial.leader < 2 ^ 64;
  size : g.G.Ground.size l.device ≡ g.G.Ground.size l.initial.device;
  disk : g.G.Ground.disk_faults l.device ≡ g.G.Ground.disk_faults l.initial.device;
  emitted : g.G.Ground.emit_faults l.device ≡ g.G.Ground.emit_faults l.initial.device;
}

abbrev pub decreases-loop-packet : goal.decreases-loop-packet
decreases-loop-packet g l = left_of l.leader
