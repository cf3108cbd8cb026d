-- A trial: what its script does to the object, and the lines of its report.
use Rattle.std.specs.Prelude.{◌≡◌, ℕ, Option, Some, None, List, [], ◌∷◌, ◌++◌, length, map, Result}
use Rattle.script_lines.specs.declared.line.Grammar.TheVariants.{Trial}
use Rattle.script_lines.specs.Line.{line_says}
use Rattle.script_lines.specs.Report.{report_text}
use Rattle.bac_values.specs.Moments.{first_moment}
use Rattle.bac_values.specs.declared.value.Value.TheVariants.{Signed}
use Rattle.bac_values.specs.declared.report.ReportLine.{ReportLine}
use Rattle.bac_values.specs.declared.report.ReportLine.TheVariants.{TrialMove, TrialEnd}
use Rattle.ground_io.specs.Trace.{Told}
use Rattle.algorithm_rules.specs.declared.table.Algorithm.TheVariants.{SignedOutOfRange}
use Rattle.event_machine.specs.declared.moves.Move.{Move}
use Rattle.event_machine.specs.Detection.{moves_at}
use Rattle.event_machine.specs.Points.{Point, Incident, newest_of}
use Rattle.script_lines.specs.declared.line.Line.{Line}
use Rattle.script_lines.specs.Script.{lines_of}
use Rattle.alarm_server.specs.declared.settings.Settings.{Settings}
use Rattle.alarm_server.specs.declared.emission.Unsent.{Unsent}
use Rattle.alarm_server.specs.Looks.{point_at, looks_after}
use Rattle.alarm_server.specs.Script.{spelled_in, refused_in}
use Rattle.alarm_server.specs.Emission.{Going, Sends}

-- the first point is at the start of the year 2000, and the object's first value is its lower limit
abbrev pub first_point : Settings → Point
first_point settings = point_at settings first_moment (Signed settings.low)

-- the course behind the first point, with the looks of some lines, each of which is one event
unfoldable pub looks_over : Point → List Incident → List Line → List Incident
looks_over first later [] = later
looks_over first later (line ∷ lines) = looks_over first (looks_after line.moment line.input first later) lines

-- a move at a moment, as a line of the report
abbrev pub move_line : ℕ → Move → ReportLine
move_line moment move = TrialMove moment move.from move.to

-- the moves at the newest of the object's incidents
abbrev pub newest_moves : Point → List Incident → List ReportLine
newest_moves first later = map (move_line (newest_of first later).moment) (moves_at SignedOutOfRange first later)

-- the moves at all points of a course, in the order of time
unfoldable pub transitions_of : Point → List Incident → List ReportLine
transitions_of first [] = []
transitions_of first (incident ∷ older) = transitions_of first older ++ newest_moves first (incident ∷ older)

-- the transitions of the object with these settings over some lines
abbrev pub transitions_over : Settings → List Line → List ReportLine
transitions_over settings lines = transitions_of (first_point settings) (looks_over (first_point settings) [] lines)

-- the last line tells how many lines the script has; there is none where one of them is refused
abbrev pub end_by : Option ℕ → ℕ → List ReportLine
end_by None lines = TrialEnd lines ∷ []
end_by (Some refused) lines = []

-- the report of a trial of the object over the texts of a script's lines: the transitions, and the end
abbrev pub report_over : Settings → List (List ℕ) → List ReportLine
report_over settings texts = transitions_over settings (spelled_in (line_says Trial) 0 texts) ++ end_by (refused_in (line_says Trial) 0 texts) (length texts)

-- the transitions over a front of a script
abbrev pub front_transitions : Settings → List ℕ → List ReportLine
front_transitions settings front = transitions_over settings (spelled_in (line_says Trial) 0 (lines_of front))

-- The transitions at the points that are new in a longer course were to go out, and they did, or something was in the way.
abbrev pub SendsTransitions : {A : Type 0} → Going → Result A Unsent → Point → List Incident → List Incident → Option Told → Option Told → Type 0
SendsTransitions Goes result first later more old new =
    (lines : List ReportLine) × (transitions_of first more ≡ transitions_of first later ++ lines) × Sends Goes report_text result lines old new
