-- A workload: the summary of the session of the generated site by the generated script.
use Rattle.std.specs.Prelude.{◌≡◌, ℕ, Option, Some, None, Ok, List, [], ◌∷◌}
use Rattle.bac_values.specs.declared.report.ReportLine.{ReportLine}
use Rattle.bac_values.specs.declared.report.ReportLine.TheVariants.{Summary}
use Rattle.script_lines.specs.declared.line.Grammar.TheVariants.{Session}
use Rattle.script_lines.specs.Line.{line_says}
use Rattle.site_config.specs.Sites.{site_of}
use Rattle.work_load.specs.Script.{workload_script}
use Rattle.work_load.specs.Site.{workload_site}
use Rattle.alarm_server.specs.declared.tally.Tally.{Tally}
use Rattle.alarm_server.specs.GeneratedSite.{generated_site}
use Rattle.alarm_server.specs.Report.{report_of}
use Rattle.alarm_server.specs.Script.{refused_line}
use Rattle.alarm_server.specs.Tallies.{tally_of}

-- how many lines of each kind a report has, as a line
abbrev pub summary_line : ℕ → ℕ → Tally → ReportLine
summary_line seed count tally = Summary seed count tally.events tally.changes tally.sends tally.full

-- the one line that goes out; none where a line of the script is refused
abbrev pub summary_by : ℕ → ℕ → List ℕ → Option ℕ → List ReportLine
summary_by seed count script None = summary_line seed count (tally_of (report_of generated_site [] script)) ∷ []
summary_by seed count script (Some line) = []

-- of the generated site and script
abbrev pub summary_of : ℕ → ℕ → List ReportLine
summary_of seed count =
    let script = workload_script seed count in
    summary_by seed count script (refused_line (line_says Session) script)

-- every generated line is in the grammar
abbrev pub AcceptsGenerated : ℕ → ℕ → Type 0
AcceptsGenerated seed count = refused_line (line_says Session) (workload_script seed count) ≡ None

-- the generated line with this number is the first outside the grammar
abbrev pub RefusesGenerated : ℕ → ℕ → ℕ → Type 0
RefusesGenerated seed count line = refused_line (line_says Session) (workload_script seed count) ≡ Some line

-- the generated text is the generated site
abbrev pub ReadsGenerated : Type 0
ReadsGenerated = site_of workload_site ≡ Ok generated_site
