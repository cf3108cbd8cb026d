use Rattle.std.proofs.Common.{◌≡◌, ◌-◌, ◌≤◌, true, false}
use Rattle.std.specs.Io.KnownBytes.{IsAtEnd}
use Rattle.ground_io.specs.Trace.{WhereTold}
use Rattle.script_lines.specs.PacketLine.{packet_says}
use Rattle.script_lines.specs.Reading.{octets_to_come}
use Rattle.script_lines.specs.Script.{lines_of, next_in, TakesLines}
use Rattle.script_lines.proofs.lines.Lines.next_packet.Given as goal

-- what comes next is the same, in the same grammar, whole lines were taken unless the source's end was seen, and no fault was counted
abbrev pub invariant-loop-line : goal.invariant-loop-line
invariant-loop-line g l = record {
  next : WhereTold (octets_to_come l.initial.self (g.S.Source.left l.initial.source)) (octets_to_come l.self (g.S.Source.left l.source))
      (λ old new. next_in packet_says l.self.number (lines_of new) ≡ next_in packet_says l.initial.self.number (lines_of old));
  grammar : l.self.grammar ≡ l.initial.self.grammar;
  whole : l.self.ended ≡ false → WhereTold (octets_to_come l.initial.self (g.S.Source.left l.initial.source)) (octets_to_come l.self (g.S.Source.left l.source))
      (TakesLines l.initial.self.number l.self.number);
  source : l.self.ended ≡ true → IsAtEnd (g.S.Source.left l.source);
  ended : l.self.ended ≡ false → l.initial.self.ended ≡ false;
  grows : l.initial.self.number ≤ l.self.number;
  faults : g.S.Source.faults l.source ≡ g.S.Source.faults l.initial.source;
}

abbrev pub decreases-loop-line : goal.decreases-loop-line
decreases-loop-line g l = 1000000 - l.self.number
