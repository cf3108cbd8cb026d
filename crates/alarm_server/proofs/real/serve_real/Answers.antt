use Rattle.std.proofs.Common.{ap, ◌∙◌}
use Rattle.ground_io.specs.InMemory.{UdpLinkState}
use Rattle.alarm_server.proofs.RealSizes.{size_at_first}
use Rattle.alarm_server.proofs.real.serve_real.Goals as goal

pub returns-clause-serves : goal.returns-clause-serves
returns-clause-serves g c =
    let came = c.serve_over-device.ensures in
    let site = c.new-site.ensures.made in
    let made = c.new-device.ensures.made in
    let inner = c.new-link.ensures.inner in
    record {
      asked = c.new-link.result;
      datagrams = ap (λ (l : UdpLinkState). l.left) inner ∙ ap (λ (l : UdpLinkState). l.left) c.new-heard.ensures.made;
      no_faults = ap (λ (l : UdpLinkState). l.faults) inner ∙ ap (λ (l : UdpLinkState). l.faults) c.new-heard.ensures.made;
      serves = rw (site, made) at came.serves;
      unused = rw (site, made) at came.unused;
      read_cause = rw site at came.read_cause;
      disk_cause = rw made at came.disk_cause;
      no_disk_fault = rw made at came.no_disk_fault;
      emit_cause = rw made at came.emit_cause;
      no_emit_fault = rw made at came.no_emit_fault;
      site_read = rw site at came.site_read;
      size = rw (made, size_at_first c.args.places.journal.bytes g.supposed.disk) at came.size;
    }
