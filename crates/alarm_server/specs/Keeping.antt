-- What a crash leaves of a session that keeps a journal: at each moment, the history that it began with and the events of some of its lines.
use Rattle.std.specs.Prelude.{◌⊎◌, ◌≤◌, ◌<◌, ℕ, ◌+◌, ◌-◌, Option, Some, List, [], ◌∷◌, length, take}
use Rattle.ground_io.specs.Sent.{Along}
use Rattle.ground_io.specs.Trace.{Told, Adds, disk_of}
use Rattle.ground_io.specs.declared.entry.Entry.{Entry}
use Rattle.ground_io.specs.declared.entry.Entry.TheVariants.{Synced}
use Rattle.alarm_journal.specs.Journal.{Site as Journal}
use Rattle.alarm_journal.specs.Protocol.{IfToldOn}
use Rattle.script_lines.specs.declared.line.Line.{Line}
use Rattle.alarm_core.specs.declared.event.Event.{Event}
use Rattle.alarm_core.specs.declared.site.Site.{Site}
use Rattle.state_codec.specs.Contents.{ImageStands}
use Rattle.alarm_server.specs.Report.{history_over}

-- The image stands for the history and the events of the first lines: of as many, at least, as have had their piece sent, and of at most one more. So many pieces of the report come before those of the lines, and none behind them.
abbrev pub LeavesLines : Journal → Site → List Event → List Line → ℕ → List Entry → List ℕ → Type 0
LeavesLines journal site history lines before sent image =
    (count : ℕ) × (count ≤ length lines) × (length sent ≤ before + count) × (count ≤ (length sent - before) + 1) × ImageStands journal site image (history_over site history (take count lines))

-- The image stands for the history and the events of the first lines: each line whose piece was sent is among them, and at most one more. So many pieces of the report come before those of the lines, and some may come behind them.
abbrev pub LeavesReport : Journal → Site → List Event → List Line → ℕ → List Entry → List ℕ → Type 0
LeavesReport journal site history lines before sent image =
    (count : ℕ) × (count ≤ length lines) × ((line : ℕ) → line < length lines → before + line < length sent → line < count) × (count ≤ (length sent - before) + 1) × ImageStands journal site image (history_over site history (take count lines))

-- from one to the other, at each moment, this holds of each image that a crash may leave, with what was sent by then, where it tells
abbrev pub KeepsAlong : (List Entry → List ℕ → Type 0) → Option Told → Option Told → Type 0
KeepsAlong P old new = IfToldOn old new (λ was now. (entries : List Entry) × Adds (Some was) (Some now) entries × Along P [] (disk_of was) entries)

-- the same from the first sync on; before it nothing was done but that it failed
abbrev pub KeepsFromSync : (List Entry → List ℕ → Type 0) → Option Told → Option Told → Type 0
KeepsFromSync P old new = IfToldOn old new (λ was now.
    Adds (Some was) (Some now) []
    ⊎ ((entries : List Entry) × Adds (Some was) (Some now) (Synced ∷ entries) × Along P [] (record { contents = (disk_of was).contents; loose = [] }) entries))

-- of lines
abbrev pub KeepsLines : Journal → Site → List Event → List Line → ℕ → Option Told → Option Told → Type 0
KeepsLines journal site history lines before old new = KeepsAlong (LeavesLines journal site history lines before) old new

-- of a report
abbrev pub KeepsReport : Journal → Site → List Event → List Line → ℕ → Option Told → Option Told → Type 0
KeepsReport journal site history lines before old new = KeepsAlong (LeavesReport journal site history lines before) old new

-- of a report behind an opening
abbrev pub KeepsOpened : Journal → Site → List Event → List Line → ℕ → Option Told → Option Told → Type 0
KeepsOpened journal site history lines before old new = KeepsFromSync (LeavesReport journal site history lines before) old new
