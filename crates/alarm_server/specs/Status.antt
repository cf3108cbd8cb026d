-- How a program ends, and why a line did not go out.
use Rattle.std.specs.Prelude.{ℕ, Result, Ok, Err, List, ◌++◌, codes}
use Rattle.std.specs.Fmt.{decimal}
use Rattle.script_lines.specs.declared.lines.LineFault.{LineFault}
use Rattle.script_lines.specs.declared.lines.LineFault.TheVariants.{Grammar, Read}
use Rattle.script_lines.specs.declared.lines.LineFault.TheVariants as line_fault
use Rattle.site_config.specs.declared.fault.SiteFault.{SiteFault}
use Rattle.site_config.specs.declared.fault.SiteFault.TheVariants as site_fault
use Rattle.site_config.specs.FaultTexts.{fault_text}
use Rattle.alarm_journal.specs.declared.open_fault.OpenFault.{OpenFault}
use Rattle.alarm_journal.specs.declared.open_fault.OpenFault.TheVariants as open_fault
use Rattle.state_codec.specs.declared.keep_fault.KeepFault.{KeepFault}
use Rattle.state_codec.specs.declared.keep_fault.KeepFault.TheVariants as keep_fault
use Rattle.alarm_server.specs.declared.emission.Unsent.{Unsent}
use Rattle.alarm_server.specs.declared.emission.Unsent.TheVariants.{Lost}
use Rattle.alarm_server.specs.declared.emission.Unsent.TheVariants as unsent
use Rattle.alarm_server.specs.declared.status.Status.{Status}
use Rattle.alarm_server.specs.declared.status.Status.TheVariants.{Done, Usage, SiteRefused, ScriptRefused, ReadFault, EmitFault, DiskFault, JournalRefused, NoMemory, LinkFault}

-- the exit status of a program
abbrev pub code_of : Status → ℕ
code_of Done = 0
code_of Usage = 2
code_of (SiteRefused fault) = 3
code_of (ScriptRefused line) = 4
code_of ReadFault = 5
code_of EmitFault = 6
code_of DiskFault = 7
code_of (JournalRefused fault) = 8
code_of NoMemory = 9
code_of LinkFault = 10

-- why a journal isn't opened, in words; those that are no refusal have the text of their own status
abbrev pub open_fault_text : OpenFault → List ℕ
open_fault_text open_fault.DiskFault = codes "disk fault"
open_fault_text (open_fault.SmallDevice size need) = codes "journal refused: small-device " ++ (decimal size ++ (codes " " ++ decimal need))
open_fault_text (open_fault.Foreign at) = codes "journal refused: foreign " ++ decimal at
open_fault_text (open_fault.Damaged at) = codes "journal refused: damaged " ++ decimal at
open_fault_text open_fault.NoMemory = codes "no memory"

-- the text of a status
abbrev pub status_text : Status → List ℕ
status_text Done = codes "done"
status_text Usage = codes "usage: trial LOW HIGH DEADBAND DELAY NORMAL | session SITE JOURNAL | workload SEED COUNT | serve SITE JOURNAL COUNT | ship SITE JOURNAL FROM | standby SITE JOURNAL"
status_text (SiteRefused fault) = fault_text fault
status_text (ScriptRefused line) = codes "script refused: line " ++ decimal line
status_text ReadFault = codes "read fault"
status_text EmitFault = codes "emit fault"
status_text DiskFault = codes "disk fault"
status_text (JournalRefused fault) = open_fault_text fault
status_text NoMemory = codes "no memory"
status_text LinkFault = codes "link fault"

-- a program ends where a line is lost, or finds no memory
abbrev pub of_unsent : Unsent → Status
of_unsent Lost = EmitFault
of_unsent unsent.NoMemory = NoMemory

-- a program ends where the text of its site is none
abbrev pub of_site_fault : SiteFault → Status
of_site_fault site_fault.NoMemory = NoMemory
of_site_fault fault = SiteRefused fault

-- a program ends where its journal isn't opened
abbrev pub of_open_fault : OpenFault → Status
of_open_fault open_fault.DiskFault = DiskFault
of_open_fault open_fault.NoMemory = NoMemory
of_open_fault fault = JournalRefused fault

-- a program ends where an event isn't kept
abbrev pub of_keep_fault : KeepFault → Status
of_keep_fault keep_fault.DiskFault = DiskFault
of_keep_fault keep_fault.NoMemory = NoMemory

-- a program ends where its script gives no line
abbrev pub of_line_fault : LineFault → Status
of_line_fault (Grammar line) = ScriptRefused line
of_line_fault Read = ReadFault
of_line_fault line_fault.NoMemory = NoMemory

-- how a call ended
abbrev pub status_of : {A : Type 0} → Result A Status → Status
status_of (Ok x) = Done
status_of (Err fault) = fault

-- an end before the script's end
abbrev pub IsFault : Status → Type 0
IsFault Done = ⊥
IsFault Usage = ⊥
IsFault (SiteRefused fault) = Unit {0}
IsFault (ScriptRefused line) = Unit {0}
IsFault ReadFault = Unit {0}
IsFault EmitFault = Unit {0}
IsFault DiskFault = Unit {0}
IsFault (JournalRefused fault) = Unit {0}
IsFault LinkFault = ⊥
IsFault NoMemory = Unit {0}

-- an end of a play, which has its site already
abbrev pub IsPlayFault : Status → Type 0
IsPlayFault Done = ⊥
IsPlayFault Usage = ⊥
IsPlayFault (SiteRefused fault) = ⊥
IsPlayFault (ScriptRefused line) = Unit {0}
IsPlayFault ReadFault = Unit {0}
IsPlayFault EmitFault = Unit {0}
IsPlayFault DiskFault = Unit {0}
IsPlayFault (JournalRefused fault) = ⊥
IsPlayFault LinkFault = ⊥
IsPlayFault NoMemory = Unit {0}

-- an end while a line is played: its event isn't kept, or its piece doesn't go out
abbrev pub IsLineFault : Status → Type 0
IsLineFault EmitFault = Unit {0}
IsLineFault DiskFault = Unit {0}
IsLineFault NoMemory = Unit {0}
IsLineFault status = ⊥

-- an end while an event is kept
abbrev pub IsKeepFault : Status → Type 0
IsKeepFault DiskFault = Unit {0}
IsKeepFault NoMemory = Unit {0}
IsKeepFault status = ⊥

-- an end of a session that has its site already
abbrev pub IsSessionFault : Status → Type 0
IsSessionFault Done = ⊥
IsSessionFault Usage = ⊥
IsSessionFault (SiteRefused fault) = ⊥
IsSessionFault LinkFault = ⊥
IsSessionFault status = Unit {0}

-- an end while a journal is shipped: it isn't opened, or a line doesn't go out
abbrev pub IsShippedFault : Status → Type 0
IsShippedFault EmitFault = Unit {0}
IsShippedFault DiskFault = Unit {0}
IsShippedFault (JournalRefused fault) = Unit {0}
IsShippedFault NoMemory = Unit {0}
IsShippedFault status = ⊥

-- the same where the site is found first
abbrev pub IsShipFault : Status → Type 0
IsShipFault (SiteRefused fault) = Unit {0}
IsShipFault ReadFault = Unit {0}
IsShipFault status = IsShippedFault status

-- an end while a text is read
abbrev pub IsTextFault : Status → Type 0
IsTextFault Done = ⊥
IsTextFault Usage = ⊥
IsTextFault (SiteRefused fault) = ⊥
IsTextFault (ScriptRefused line) = ⊥
IsTextFault ReadFault = Unit {0}
IsTextFault EmitFault = ⊥
IsTextFault DiskFault = ⊥
IsTextFault (JournalRefused fault) = ⊥
IsTextFault LinkFault = ⊥
IsTextFault NoMemory = Unit {0}

-- an end before a site is found
abbrev pub IsSiteFault : Status → Type 0
IsSiteFault Done = ⊥
IsSiteFault Usage = ⊥
IsSiteFault (SiteRefused fault) = Unit {0}
IsSiteFault (ScriptRefused line) = ⊥
IsSiteFault ReadFault = Unit {0}
IsSiteFault EmitFault = ⊥
IsSiteFault DiskFault = ⊥
IsSiteFault (JournalRefused fault) = ⊥
IsSiteFault LinkFault = ⊥
IsSiteFault NoMemory = Unit {0}

-- a source and a blank ground in memory, none of whose calls is to fail, fail for want of memory alone
abbrev pub of_memory : Status → Status
of_memory ReadFault = NoMemory
of_memory EmitFault = NoMemory
of_memory DiskFault = NoMemory
of_memory (JournalRefused fault) = NoMemory
of_memory status = status

-- an end where nothing comes from outside
abbrev pub IsInnerFault : Status → Type 0
IsInnerFault Done = ⊥
IsInnerFault Usage = ⊥
IsInnerFault (SiteRefused fault) = Unit {0}
IsInnerFault (ScriptRefused line) = Unit {0}
IsInnerFault ReadFault = ⊥
IsInnerFault EmitFault = ⊥
IsInnerFault DiskFault = ⊥
IsInnerFault (JournalRefused fault) = ⊥
IsInnerFault LinkFault = ⊥
IsInnerFault NoMemory = Unit {0}
