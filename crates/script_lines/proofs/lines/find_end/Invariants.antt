use Rattle.std.proofs.Common.{◌≡◌, ◌-◌, ◌≤◌, true, length}
use Rattle.std.specs.Io.KnownBytes.{prepend_known, IsAtEnd}
use Rattle.ground_io.specs.Source.{Keeps}
use Rattle.std.specs.List.{position_or_len}
use Rattle.script_lines.specs.Script.{is_line_feed}
use Rattle.script_lines.proofs.lines.find_end.Given as goal

-- the octets to come are the same, so many of them have no line feed, and no fault was counted
abbrev pub invariant-loop-end : goal.invariant-loop-end
invariant-loop-end g l = record {
  octets : Keeps (prepend_known l.initial.pending (g.S.Source.left l.initial.source)) (prepend_known l.pending (g.S.Source.left l.source));
  seen : l.end ≤ position_or_len is_line_feed l.pending;
  source : l.ended ≡ true → IsAtEnd (g.S.Source.left l.source);
  ended : l.ended ≡ l.initial.ended;
  faults : g.S.Source.faults l.source ≡ g.S.Source.faults l.initial.source;
}

abbrev pub decreases-loop-end : goal.decreases-loop-end
decreases-loop-end g l = 4097 - length l.pending
