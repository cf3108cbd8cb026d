-- How one line is taken, inside the reader of lines.
use Rattle.std.specs.Prelude.{◌≡◌, ℕ, ◌+◌, List, Some, None, Result, Ok, Err}
use Rattle.std.specs.List.{after_first}
use Rattle.script_lines.specs.declared.lines.LineFault.{LineFault}
use Rattle.script_lines.specs.declared.lines.LineFault.TheVariants as line_fault
use Rattle.script_lines.specs.declared.line.Says.{Says}
use Rattle.script_lines.specs.declared.line.Says.TheVariants.{Skipped, Outside, Spells}
use Rattle.script_lines.specs.declared.lines.Taken.{Taken}
use Rattle.script_lines.specs.declared.lines.Taken.TheVariants.{End, Passed, Took}
use Rattle.script_lines.specs.Reading.{LinesState}
use Rattle.script_lines.specs.Script.{is_line_feed, lines_of, next_in, ReadsLine}

-- what one line gave: that there is none, as ReadsLine has it for the script's end; that it was skipped, and what comes next is the same; or as ReadsLine has it
abbrev pub TakesLine : {L : Type 0} → (ℕ → List ℕ → Says L) → ℕ → ℕ → Result (Taken L) LineFault → List ℕ → List ℕ → Type 0
TakesLine says before now (Ok End) old new = ReadsLine says before now (Ok None) old new
TakesLine says before now (Ok Passed) old new = next_in says now (lines_of new) ≡ next_in says before (lines_of old)
TakesLine says before now (Ok (Took line)) old new = ReadsLine says before now (Ok (Some line)) old new
TakesLine says before now (Err fault) old new = ReadsLine says before now (Err fault) old new

-- the reader behind its first line, unless that is outside the grammar
abbrev pub behind_line : {L : Type 0} → Says L → LinesState → LinesState
behind_line Outside reading = reading
behind_line Skipped reading = record { grammar = reading.grammar; pending = after_first is_line_feed reading.pending; number = reading.number + 1; ended = reading.ended }
behind_line (Spells line) reading = record { grammar = reading.grammar; pending = after_first is_line_feed reading.pending; number = reading.number + 1; ended = reading.ended }

-- what a line with this number gave, which says this
abbrev pub taken_of : {L : Type 0} → ℕ → Says L → Result (Taken L) LineFault
taken_of number Outside = Err (line_fault.Grammar number)
taken_of number Skipped = Ok Passed
taken_of number (Spells line) = Ok (Took line)

-- this holds of a line that was taken
abbrev pub IfTook : {L : Type 0} → Taken L → (L → Type 0) → Type 0
IfTook End P = Unit {0}
IfTook Passed P = Unit {0}
IfTook (Took line) P = P line

-- a line that was taken is counted
abbrev pub CountsLine : {L : Type 0} → ℕ → ℕ → Taken L → Type 0
CountsLine before now End = now ≡ before
CountsLine before now Passed = now ≡ before + 1
CountsLine before now (Took line) = now ≡ before + 1
