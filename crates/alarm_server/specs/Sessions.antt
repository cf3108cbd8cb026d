-- A session from a state on, line by line: what each line comes to, and the pieces of the report.
use Rattle.std.specs.Prelude.{ℕ, List, [], ◌∷◌, ◌++◌, length}
use Rattle.bac_values.specs.declared.report.ReportLine.{ReportLine}
use Rattle.script_lines.specs.declared.line.Grammar.TheVariants.{Session}
use Rattle.script_lines.specs.Line.{line_says}
use Rattle.script_lines.specs.declared.line.Line.{Line}
use Rattle.script_lines.specs.Script.{lines_of}
use Rattle.alarm_core.specs.State.{CoreState}
use Rattle.service_desk.specs.Answers.{state_behind}
use Rattle.alarm_server.specs.Pieces.{answer_for, open_piece, piece_of, session_end}
use Rattle.alarm_server.specs.Script.{spelled_in, refused_in}

-- the state after a line
abbrev pub state_with : CoreState → Line → CoreState
state_with state line = state_behind state (answer_for state line)

-- the state after some lines, and their pieces
unfoldable pub state_over : CoreState → List Line → CoreState
state_over state [] = state
state_over state (line ∷ lines) = state_over (state_with state line) lines

unfoldable pub pieces_over : CoreState → List Line → List (List ReportLine)
pieces_over state [] = []
pieces_over state (line ∷ lines) = piece_of state line ∷ pieces_over (state_with state line) lines

-- the report of a session that begins in a state, over the texts of a script's lines
abbrev pub session_over : CoreState → List (List ℕ) → List (List ReportLine)
session_over state texts =
    (open_piece state ∷ pieces_over state (spelled_in (line_says Session) 0 texts))
    ++ session_end (refused_in (line_says Session) 0 texts) (length texts) (state_over state (spelled_in (line_says Session) 0 texts))

-- the pieces of a session that begins in a state, over a front of its script, without an end
abbrev pub state_front : CoreState → List ℕ → List (List ReportLine)
state_front state front = open_piece state ∷ pieces_over state (spelled_in (line_says Session) 0 (lines_of front))
