use Rattle.std.proofs.Common.{rules, ◌≤◌, [], arith, length}
use Rattle.std.specs.Io.KnownBytes.{IsAtEnd, prepend_known}
use Rattle.ground_io.proofs.Consuming.{keeps_both}
use Rattle.alarm_server.specs.Text.{octets_read}
use Rattle.alarm_server.proofs.Texts.{reads_all, reads_front}
use Rattle.alarm_server.proofs.text.read_text.Goals as goal

pub returns-then-not-branch-clause-text : goal.returns-then-not-branch-clause-text
returns-then-not-branch-clause-text g c =
    let before = g.S.Source.left c.args.source.now in
    let after = g.S.Source.left c.read_more.new.source in
    let text = c.read_more.new.text.items in
    let at_end : IsAtEnd after = search rules in
    let short : length text ≤ octets_read = omega (arith, c.loop-text.invariant.short) in
    reads_all before after text (keeps_both (prepend_known [] before) (prepend_known c.loop-text.text.items (g.S.Source.left c.loop-text.source)) (prepend_known text after) c.loop-text.invariant.octets c.in_ok-read_more.ensures.octets) at_end short

pub returns-clause-text : goal.returns-clause-text
returns-clause-text g c =
    let long : octets_read ≤ length c.loop-text.text.items = omega arith in
    reads_front (g.S.Source.left c.args.source.now) (g.S.Source.left c.loop-text.source) c.loop-text.text.items c.loop-text.invariant.octets long c.loop-text.invariant.short
