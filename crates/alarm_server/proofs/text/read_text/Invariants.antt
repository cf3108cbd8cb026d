use Rattle.std.proofs.Common.{◌≡◌, ◌≤◌, ◌-◌, [], length}
use Rattle.std.specs.Io.KnownBytes.{prepend_known}
use Rattle.ground_io.specs.Source.{Keeps}
use Rattle.alarm_server.specs.Text.{octets_read}
use Rattle.alarm_server.proofs.text.read_text.Given as goal

-- the octets to come are the same, they aren't too many, and no fault was counted
abbrev pub invariant-loop-text : goal.invariant-loop-text
invariant-loop-text g l = record {
  octets : Keeps (prepend_known [] (g.S.Source.left l.initial.source)) (prepend_known l.text.items (g.S.Source.left l.source));
  short : length l.text.items ≤ octets_read;
  faults : g.S.Source.faults l.source ≡ g.S.Source.faults l.initial.source;
}

abbrev pub decreases-loop-text : goal.decreases-loop-text
decreases-loop-text g l = octets_read - length l.text.items
