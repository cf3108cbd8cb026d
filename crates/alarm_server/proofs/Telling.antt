-- A line that a follower tells by its press.
use Rattle.std.proofs.Common.{◌≡◌, ℕ, Option, List, [], ◌∷◌}
use Rattle.bac_values.specs.Address.{console, PeerData}
use Rattle.bac_values.specs.declared.report.ReportLine.{ReportLine}
use Rattle.ground_io.specs.declared.entry.Entry.TheVariants as entry
use Rattle.ground_io.specs.Trace.{Told, Adds}
use Rattle.script_lines.specs.Report.{report_text}
use Rattle.alarm_server.specs.Emission.{lost, sent}

pub line_sent : (line : ReportLine) (peer : PeerData) (octets : List ℕ) (old new : Option Told) → peer ≡ console → octets ≡ report_text line → Adds old new (entry.Emitted peer octets ∷ []) → Adds old new (sent report_text (line ∷ []))
line_sent line peer octets old new to_console same adds = rw (← to_console, ← same) adds

pub line_lost : (line : ReportLine) (peer : PeerData) (octets : List ℕ) (old new : Option Told) → peer ≡ console → octets ≡ report_text line → Adds old new (entry.Lost peer octets ∷ []) → Adds old new (lost report_text line)
line_lost line peer octets old new to_console same adds = rw (← to_console, ← same) adds
