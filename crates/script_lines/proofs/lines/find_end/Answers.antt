use Rattle.std.proofs.Common.{◌≡◌, ◌≤◌, length, arith, ap, ◌∙◌}
use Rattle.std.specs.List.{position_or_len}
use Rattle.ground_io.proofs.Consuming.{keeps_both}
use Rattle.script_lines.specs.Script.{is_line_feed}
use Rattle.script_lines.proofs.First.{first_within, first_past_front}
use Rattle.script_lines.proofs.lines.find_end.Goals as goal

pub loop-end-preserved : goal.loop-end-preserved
loop-end-preserved g c =
    let old = c.loop-end.pending in
    let at : c.line_end-end.result ≡ position_or_len is_line_feed old = c.line_end-end.ensures.end ∙ ap (position_or_len is_line_feed) c.octets-octets.ensures.same in
    let all : length c.octets-octets.result.now ≡ length old = ap length c.octets-octets.ensures.same in
    let none : length old ≤ position_or_len is_line_feed old = omega arith in
    let past = first_past_front is_line_feed old c.read.new.self c.read.ensures.front none in
    let within = first_within is_line_feed old in
    record {
      octets = keeps_both _ _ _ c.loop-end.invariant.octets c.read.ensures.octets;
      seen = omega arith;
      source = λ e. let wrong : ⊥ = cc in absurd wrong;
      ended = c.loop-end.invariant.ended;
      faults = c.in_ok-read.ensures.uncounted ∙ c.loop-end.invariant.faults;
    }
