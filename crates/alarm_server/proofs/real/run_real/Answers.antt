use Rattle.ground_io.specs.InMemory.{bytes_of}
use Rattle.alarm_server.proofs.RealSizes.{size_at_first}
use Rattle.alarm_server.proofs.real.run_real.Goals as goal

pub returns-clause-runs : goal.returns-clause-runs
returns-clause-runs g c =
    let came = c.run-device.ensures in
    let site = c.new-site.ensures.made in
    let script = c.new-script.ensures.made in
    let made = c.new-device.ensures.made in
    let bytes = size_at_first (bytes_of c.args.journal) g.supposed.disk in
    record {
      ends = rw (site, script, made) at came.ends;
      numbered = rw (site, script, made) at came.numbered;
      to_end = came.to_end;
      accepted = rw (site, script) at came.accepted;
      refused = rw script at came.refused;
      refuses_site = rw site at came.refuses_site;
      refuses_journal = rw (site, made) at came.refuses_journal;
      small = rw (made, bytes) at came.small;
      below = rw (site, made, bytes) at came.below;
      unplayed = rw script at came.unplayed;
      stops = rw (site, script, made) at came.stops;
      keeps = rw (site, script, made) at came.keeps;
      opened = rw (site, script, made) at came.opened;
      read_cause = rw (site, script) at came.read_cause;
      emit_cause = rw made at came.emit_cause;
      disk_cause = rw made at came.disk_cause;
      unhidden = rw made at came.unhidden;
      no_fault = rw (script, made) at came.no_fault;
      site_read = rw site at came.site_read;
      unused = rw made at came.unused;
      leaves_site = rw site at came.site;
      leaves_script = rw (site, script) at came.unread;
      leaves_disk = rw made at came.disk;
      outside = came.outside;
      size = rw (made, bytes) at came.size;
    }
