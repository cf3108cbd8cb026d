-- The report of a session, by the history of its events.
use Rattle.std.specs.Prelude.{ℕ, Option, Some, None, List, [], ◌∷◌, ◌++◌, length}
use Rattle.bac_values.specs.declared.report.ReportLine.{ReportLine}
use Rattle.script_lines.specs.declared.line.Grammar.TheVariants.{Session}
use Rattle.script_lines.specs.Line.{line_says}
use Rattle.script_lines.specs.declared.line.Line.{Line}
use Rattle.script_lines.specs.Script.{lines_of}
use Rattle.alarm_core.specs.declared.event.Event.{Event}
use Rattle.alarm_core.specs.declared.site.Site.{Site}
use Rattle.alarm_core.specs.State.{state_of}
use Rattle.service_desk.specs.Answers.{event_of}
use Rattle.alarm_server.specs.Script.{spelled_in, refused_in}
use Rattle.alarm_server.specs.Pieces.{answer_for, open_piece, piece_of, session_end}

abbrev pub history_by : List Event → Option Event → List Event
history_by history None = history
history_by history (Some event) = event ∷ history

-- the history with the event of a line, where the line is one
abbrev pub history_with : Site → List Event → Line → List Event
history_with site history line = history_by history (event_of (answer_for (state_of site history) line))

-- the history with the events of some lines
unfoldable pub history_over : Site → List Event → List Line → List Event
history_over site history [] = history
history_over site history (line ∷ lines) = history_over site (history_with site history line) lines

-- the pieces of some lines, each at the history so far
unfoldable pub pieces_of : Site → List Event → List Line → List (List ReportLine)
pieces_of site history [] = []
pieces_of site history (line ∷ lines) = piece_of (state_of site history) line ∷ pieces_of site (history_with site history line) lines

-- The report of a session of a site that begins at a history: how many events there are, a piece for each line of the script that isn't skipped, and the end. Where a line is outside the grammar, it ends before that line.
abbrev pub report_of : Site → List Event → List ℕ → List (List ReportLine)
report_of site history script =
    (open_piece (state_of site history) ∷ pieces_of site history (spelled_in (line_says Session) 0 (lines_of script)))
    ++ session_end (refused_in (line_says Session) 0 (lines_of script)) (length (lines_of script)) (state_of site (history_over site history (spelled_in (line_says Session) 0 (lines_of script))))

-- the pieces over a front of a script, without an end
abbrev pub front_pieces : Site → List Event → List ℕ → List (List ReportLine)
front_pieces site history front = open_piece (state_of site history) ∷ pieces_of site history (spelled_in (line_says Session) 0 (lines_of front))
