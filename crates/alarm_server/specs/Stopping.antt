-- Where a script stops being read.
use Rattle.std.specs.Prelude.{◌≡◌, ℕ, position, Option, None, List, ◌++◌}
use Rattle.ground_io.specs.Trace.{Told}
use Rattle.script_lines.specs.declared.line.Says.{Says}
use Rattle.script_lines.specs.Script.{is_line_feed, IsWholeLines}
use Rattle.alarm_server.specs.Emission.{Going, sent}
use Rattle.alarm_server.specs.Script.{refused_line}

-- A script was read up to here: some whole lines, none of them outside the grammar, and the beginning of one whose line feed wasn't read. The pieces over those whole lines went out, and no more.
pub record StopsReading {X L : Type 0} (Goes : Going) (text : X → List ℕ) (pieces_over_front : List ℕ → List X) (says : ℕ → List ℕ → Says L) (script rest : List ℕ) (old new : Option Told) : Type 0 where
  pub whole : List ℕ
  pub begun : List ℕ
  pub read : script ≡ whole ++ begun ++ rest
  pub whole_lines : IsWholeLines whole
  pub accepted : refused_line says whole ≡ None
  pub no_line_feed : position is_line_feed begun ≡ None
  pub emitted : Goes old new (sent text (pieces_over_front whole))
