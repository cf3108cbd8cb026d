use Rattle.std.proofs.Common.{◌≡◌}
use Rattle.script_lines.specs.declared.line.Grammar.TheVariants.{Session}
use Rattle.scarce_calls.proofs.play.play_lines.Given as goal

-- the lines are those of a session
abbrev pub invariant-loop : goal.invariant-loop
invariant-loop l = l.lines.grammar ≡ Session
