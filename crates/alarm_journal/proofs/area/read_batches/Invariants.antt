use Rattle.std.proofs.Common.{◌≡◌, ◌-◌, []}
use Rattle.ground_io.specs.Trace.{Adds}
use Rattle.alarm_journal.specs.Areas.{StaysAt, so_far, within}
use Rattle.alarm_journal.specs.Opened.{Shows}
use Rattle.alarm_journal.proofs.area.read_batches.Given as goal

abbrev pub invariant-loop : goal.invariant-loop
invariant-loop g l = record {
  same : g.G.Ground.size l.device ≡ g.G.Ground.size l.fn.device;
  uncounted : g.G.Ground.disk_faults l.device ≡ g.G.Ground.disk_faults l.fn.device;
  emitted : g.G.Ground.emit_faults l.device ≡ g.G.Ground.emit_faults l.fn.device;
  told : Adds (g.G.Ground.told l.fn.device) (g.G.Ground.told l.device) [];
  stays : StaysAt l.fn.area l.area;
  inside : within l.area;
  held : Shows (g.G.Ground.told l.device) (so_far l.area);
}

abbrev pub decreases-loop : goal.decreases-loop
decreases-loop g l = l.area.half - l.area.next
