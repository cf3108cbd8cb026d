use Rattle.std.proofs.Common.{◌≡◌, ◌-◌, true}
use Rattle.std.specs.Io.KnownBytes.{IsAtEnd}
use Rattle.script_lines.specs.declared.line.Grammar.TheVariants.{Trial}
use Rattle.script_lines.specs.Reading.{octets_to_come}
use Rattle.alarm_server.proofs.Progress.{Progress}
use Rattle.alarm_server.proofs.trial.play.Given as goal

-- the lines so far were taken, in a trial's grammar, and their moves went out; the disk is as it was, and no fault was counted
abbrev pub invariant-loop-lines : goal.invariant-loop-lines
invariant-loop-lines g l = record {
  progress : Progress l.fn.settings (g.T.Source.left l.initial.script) (octets_to_come l.lines (g.T.Source.left l.script)) (g.G.Ground.told l.initial.device) (g.G.Ground.told l.device) l.lines.number l.lines.ended l.watch;
  grammar : l.lines.grammar ≡ Trial;
  source : l.lines.ended ≡ true → IsAtEnd (g.T.Source.left l.script);
  size : g.G.Ground.size l.device ≡ g.G.Ground.size l.initial.device;
  disk : g.G.Ground.disk_faults l.device ≡ g.G.Ground.disk_faults l.initial.device;
  read : g.T.Source.faults l.script ≡ g.T.Source.faults l.initial.script;
  emitted : g.G.Ground.emit_faults l.device ≡ g.G.Ground.emit_faults l.initial.device;
}

abbrev pub decreases-loop-lines : goal.decreases-loop-lines
decreases-loop-lines g l = 1000000 - l.lines.number
