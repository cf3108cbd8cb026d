use Rattle.std.proofs.Common.{◌<◌, length, rules}
use Rattle.script_lines.specs.PacketLine.{packet_line, packet_says}
use Rattle.script_lines.specs.Reading.{LinesState}
use Rattle.script_lines.proofs.FirstLine.{long_says}
use Rattle.script_lines.proofs.TakenLine.{IsFoundBy, judged, judged_whole}
use Rattle.script_lines.proofs.lines.Lines.take_packet.Goals as goal

pub returns-clause-line : goal.returns-clause-line
returns-clause-line g c =
    let now : LinesState = record { grammar = c.self.inside.grammar; pending = c.find_end.new.pending; number = c.self.inside.number; ended = c.find_end.new.ended } in
    let some : 0 < length now.pending = search rules in
    let found : IsFoundBy now = rw c.in_ok-width.ensures.end at c.in_ok-width.ensures.found in
    rw (← c.self.view_is, c.taken_of.ensures.taken)
    (judged packet_says (long_says packet_line) c.in_ok-says.says c.self.inside.pending now c.judge_packet.new.self (g.S.Source.left c.args.source.now) (g.S.Source.left c.find_end.new.source)
    c.find_end.ensures.octets some found c.find_end.ensures.source c.in_ok-says.ensures.says c.in_ok-says.ensures.rest)

pub returns-clause-whole_lines : goal.returns-clause-whole_lines
returns-clause-whole_lines g c = λ goes_on.
    let now : LinesState = record { grammar = c.self.inside.grammar; pending = c.find_end.new.pending; number = c.self.inside.number; ended = c.find_end.new.ended } in
    let found : IsFoundBy now = rw c.in_ok-width.ensures.end at c.in_ok-width.ensures.found in
    rw (← c.self.view_is)
    (judged_whole packet_says (long_says packet_line) c.in_ok-says.says c.self.inside.pending now c.judge_packet.new.self (g.S.Source.left c.args.source.now) (g.S.Source.left c.find_end.new.source)
    c.find_end.ensures.octets found c.in_ok-says.ensures.says c.in_ok-says.ensures.rest goes_on)
