-- The piece of the report that a line gives, by the state that stands for the history before it.
use Rattle.std.specs.Prelude.{ℕ, ◌+◌, Option, Some, None, List, [], ◌∷◌, ◌++◌, map}
use Rattle.std.specs.List.{flat_map}
use Rattle.bac_values.specs.declared.note.Send.{Send}
use Rattle.bac_values.specs.declared.report.ReportLine.{ReportLine}
use Rattle.bac_values.specs.declared.report.ReportLine.TheVariants as say
use Rattle.script_lines.specs.declared.line.Line.{Line}
use Rattle.script_lines.specs.Report.{report_text}
use Rattle.alarm_core.specs.History.{StateTransition, moved_by}
use Rattle.alarm_core.specs.CoreSteps.{next_transitions}
use Rattle.alarm_core.specs.State.{CoreState}
use Rattle.service_desk.specs.Answers.{Answer, Entered, Full, Refused, Replied, Unchanged, Ignored, answer_to, dues_of}

-- the text of a piece: its lines, one after the other
abbrev pub piece_text : List ReportLine → List ℕ
piece_text piece = flat_map report_text piece

-- what a line comes to
abbrev pub answer_for : CoreState → Line → Answer
answer_for state line = answer_to state line.input line.moment

abbrev pub change_line : ℕ → StateTransition → ReportLine
change_line number transition = say.Change number (moved_by transition)

abbrev pub send_line : ℕ → Send → ReportLine
send_line number send = say.Sent number send

-- The first lines of a piece tell what its line comes to: of an event its number and its moment, and the changes of event states; of one whose notifications don't fit, how many would then wait and how many may.
abbrev pub outcome_lines : ℕ → CoreState → Answer → List ReportLine
outcome_lines number state (Entered event reply) = say.Entered number (state.events + 1) event.moment ∷ map (change_line number) (next_transitions event state)
outcome_lines number state (Full would limit reply) = say.Full number would limit ∷ []
outcome_lines number state (Refused why) = say.Refused number why ∷ []
outcome_lines number state (Replied send) = say.Reply number ∷ []
outcome_lines number state Unchanged = say.Idle number ∷ []
outcome_lines number state Ignored = say.Ignored number ∷ []

-- the piece of a line: what the line comes to, and the datagrams that it owes, in their order
abbrev pub piece_by : ℕ → CoreState → Answer → List ReportLine
piece_by number state answer = outcome_lines number state answer ++ map (send_line number) (dues_of state answer)

abbrev pub piece_of : CoreState → Line → List ReportLine
piece_of state line = piece_by line.number state (answer_for state line)

-- the first piece tells how many events there are
abbrev pub open_piece : CoreState → List ReportLine
open_piece state = say.Open state.events ∷ []

-- the last piece tells how many lines the script has, and how many events there are; there is none where a line is refused
abbrev pub end_piece : ℕ → CoreState → List ReportLine
end_piece lines state = say.End lines state.events ∷ []

abbrev pub session_end : Option ℕ → ℕ → CoreState → List (List ReportLine)
session_end None lines state = end_piece lines state ∷ []
session_end (Some refused) lines state = []
