-- What the line at the front of a reading says.
use Rattle.std.specs.Prelude.{ℕ, ◌+◌, List}
use Rattle.std.specs.List.{before_first}
use Rattle.script_lines.specs.declared.line.Says.{Says}
use Rattle.script_lines.specs.Reading.{LinesState}
use Rattle.script_lines.specs.Script.{is_line_feed}

-- what the line at the front of the octets that were read says, by what a line says
abbrev pub front_says : {L : Type 0} → (ℕ → List ℕ → Says L) → LinesState → Says L
front_says says reading = says (reading.number + 1) (before_first is_line_feed reading.pending)
