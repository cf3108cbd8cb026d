use Rattle.std.proofs.Common.{◌≡◌, ◌-◌, true}
use Rattle.std.specs.Io.KnownBytes.{IsAtEnd}
use Rattle.script_lines.specs.declared.line.Grammar.TheVariants.{Session}
use Rattle.script_lines.specs.Reading.{octets_to_come}
use Rattle.alarm_server.proofs.KeptProgress.{Plays}
use Rattle.alarm_server.proofs.session.play_session.Given as goal

-- the lines so far were taken and kept, and their pieces went out and were counted; no fault was counted
abbrev pub invariant-loop-line : goal.invariant-loop-line
invariant-loop-line g l = record {
  plays : Plays l.fn.core (g.T.Source.left l.fn.script) (octets_to_come l.lines (g.T.Source.left l.script)) l.fn.press.layout l.press.layout (g.G.Ground.told l.fn.press.device) (g.G.Ground.told l.press.device) l.lines.number l.lines.ended l.core l.tally;
  site : l.core.site ≡ l.fn.core.site;
  grammar : l.lines.grammar ≡ Session;
  source : l.lines.ended ≡ true → IsAtEnd (g.T.Source.left l.script);
  size : g.G.Ground.size l.press.device ≡ g.G.Ground.size l.fn.press.device;
  disk : g.G.Ground.disk_faults l.press.device ≡ g.G.Ground.disk_faults l.fn.press.device;
  read : g.T.Source.faults l.script ≡ g.T.Source.faults l.fn.script;
  emitted : g.G.Ground.emit_faults l.press.device ≡ g.G.Ground.emit_faults l.fn.press.device;
}

abbrev pub decreases-loop-line : goal.decreases-loop-line
decreases-loop-line g l = 1000000 - l.lines.number
