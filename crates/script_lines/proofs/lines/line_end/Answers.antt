use Rattle.std.proofs.Common.{sym, ◌∙◌}
use Rattle.script_lines.specs.Script.{is_line_feed}
use Rattle.script_lines.proofs.First.{first_in_tail, nowhere_in_tail}
use Rattle.script_lines.proofs.lines.line_end.Goals as goal

pub returns-in-Some : goal.returns-in-Some
returns-in-Some c =
    record { end = first_in_tail is_line_feed c.args.octets.now c.args.seen c.in-Some.place c.requires.seen (sym c.line_feed.ensures.place ∙ c.in-Some.is) }

pub returns-in-None : goal.returns-in-None
returns-in-None c =
    record { end = nowhere_in_tail is_line_feed c.args.octets.now c.args.seen c.requires.seen (sym c.line_feed.ensures.place ∙ c.in-None.is) }
