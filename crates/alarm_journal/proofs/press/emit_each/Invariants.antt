use Rattle.std.proofs.Common.{◌≡◌, ◌<◌, ◌+◌, take}
use Rattle.ground_io.specs.Counts.{HasCause}
use Rattle.alarm_journal.specs.Emissions.{EmitsAll}
use Rattle.alarm_journal.proofs.press.emit_each.Given as goal

abbrev pub invariant-loop-send : goal.invariant-loop-send
invariant-loop-send g l = record {
  same : g.G.Ground.size l.device ≡ g.G.Ground.size l.fn.device;
  disk : g.G.Ground.disk_faults l.device ≡ g.G.Ground.disk_faults l.fn.device;
  told : EmitsAll (take l.send-index l.sends) l.sent l.lost (g.G.Ground.told l.fn.device) (g.G.Ground.told l.device);
  all : l.sent + l.lost ≡ l.send-index;
  cause : HasCause (g.G.Ground.emit_faults l.fn.device) (g.G.Ground.emit_faults l.device) (0 < l.lost);
  uncounted : l.lost ≡ 0 → g.G.Ground.emit_faults l.device ≡ g.G.Ground.emit_faults l.fn.device;
}
