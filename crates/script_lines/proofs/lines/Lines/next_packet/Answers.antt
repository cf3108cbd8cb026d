use Rattle.std.proofs.Common.{arith, rules, ◌∙◌}
use Rattle.script_lines.specs.PacketLine.{packet_says}
use Rattle.script_lines.proofs.MoreLines.{whole_then, next_then}
use Rattle.script_lines.proofs.lines.Lines.next_packet.Goals as goal

pub returns-in_err-take_packet-clause-whole_lines : goal.returns-in_err-take_packet-clause-whole_lines
returns-in_err-take_packet-clause-whole_lines g c = search (rules, whole_then)

pub returns-in-End-clause-whole_lines : goal.returns-in-End-clause-whole_lines
returns-in-End-clause-whole_lines g c = search (rules, whole_then)

pub returns-in-Took-clause-whole_lines : goal.returns-in-Took-clause-whole_lines
returns-in-Took-clause-whole_lines g c = search (rules, whole_then)

pub loop-line-preserved : goal.loop-line-preserved
loop-line-preserved g c = record {
  next = next_then packet_says c.args.self.now c.loop-line.self c.take_packet.new.self (g.S.Source.left c.args.source.now) (g.S.Source.left c.loop-line.source) (g.S.Source.left c.take_packet.new.source)
      c.loop-line.invariant.next (rw c.in-Passed.is at c.in_ok-take_packet.ensures.line);
  whole = whole_then c.args.self.now c.loop-line.self c.take_packet.new.self (g.S.Source.left c.args.source.now) (g.S.Source.left c.loop-line.source) (g.S.Source.left c.take_packet.new.source)
      c.loop-line.invariant.whole c.take_packet.ensures.ended c.take_packet.ensures.whole_lines;
  grammar = c.take_packet.ensures.grammar ∙ c.loop-line.invariant.grammar;
  source = c.take_packet.ensures.source;
  ended = λ e. c.loop-line.invariant.ended (c.take_packet.ensures.ended e);
  grows = let counts = rw c.in-Passed.is at c.in_ok-take_packet.ensures.counts in omega (arith, c.loop-line.invariant.grows);
  faults = c.in_ok-take_packet.ensures.uncounted ∙ c.loop-line.invariant.faults;
}
