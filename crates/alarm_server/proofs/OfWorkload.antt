-- The summary of a workload, by the tally of the session that is played; and how it is refused.
use Rattle.std.proofs.Common.{◌≡◌, ℕ, None, List, [], ◌∷◌, ap, ◌∙◌, sym, subst}
use Rattle.std.specs.Prelude.{Result, Ok, Err, IfOk, OnOk}
use Rattle.bac_values.specs.declared.report.ReportLine.{ReportLine}
use Rattle.script_lines.specs.declared.line.Grammar.TheVariants.{Session}
use Rattle.script_lines.specs.Line.{line_says}
use Rattle.script_lines.specs.Script.{lines_of}
use Rattle.alarm_core.specs.Allowed.{Represents}
use Rattle.alarm_core.specs.Sites.{IsSite}
use Rattle.alarm_core.specs.State.{CoreState}
use Rattle.alarm_core.specs.declared.site.Site.{Site}
use Rattle.work_load.specs.Script.{workload_script}
use Rattle.site_config.specs.declared.fault.SiteFault.{SiteFault}
use Rattle.alarm_server.specs.declared.status.Status.{Status}
use Rattle.alarm_server.specs.declared.status.Status.TheVariants.{Done, Usage, SiteRefused, ScriptRefused, ReadFault, EmitFault, DiskFault, JournalRefused, NoMemory, LinkFault}
use Rattle.alarm_server.specs.Status.{IsInnerFault, IsPlayFault, of_memory}
use Rattle.alarm_server.specs.declared.tally.Tally.{Tally}
use Rattle.alarm_server.specs.GeneratedSite.{generated_site}
use Rattle.alarm_server.specs.Report.{report_of}
use Rattle.alarm_server.specs.Script.{refused_line}
use Rattle.alarm_server.specs.Sessions.{session_over}
use Rattle.alarm_server.specs.Tallies.{tally_of}
use Rattle.alarm_server.specs.Workloads.{summary_by, summary_line, summary_of}
use Rattle.alarm_server.proofs.ByHistory.{reports}

-- the lines of a session that begins in a state are those of the report of its history
pub reported : (site : Site) (core : CoreState) (script : List ℕ) (tally : Tally) → IsSite site → Represents core [] → core.site ≡ site
    → tally ≡ tally_of (session_over core (lines_of script)) → tally ≡ tally_of (report_of site [] script)
reported site core script tally is stands own counted = counted ∙ ap (λ (r : List (List ReportLine)). tally_of r) (reports site is [] core stands own script)

summarised_one : (seed count : ℕ) (site : Site) (script : List ℕ) (tally : Tally) → site ≡ generated_site → script ≡ workload_script seed count
    → refused_line (line_says Session) script ≡ None → tally ≡ tally_of (report_of site [] script) → summary_of seed count ≡ summary_line seed count tally ∷ []
summarised_one seed count site script tally made drawn accepted counted =
    let all = workload_script seed count in
    let none : refused_line (line_says Session) all ≡ None = subst (λ (s : List ℕ). refused_line (line_says Session) s ≡ None) drawn accepted in
    let by_history : tally ≡ tally_of (report_of generated_site [] all) =
    counted
    ∙ (ap (λ (s : Site). tally_of (report_of s [] script)) made
    ∙ ap (λ (s : List ℕ). tally_of (report_of generated_site [] s)) drawn) in
    ap (summary_by seed count all) none ∙ ap (λ (t : Tally). summary_line seed count t ∷ []) (sym by_history)

-- the summary of a workload whose session is played to its end
pub summarised : (seed count : ℕ) (site : Site) (script : List ℕ) (answer : Result Tally Status) → site ≡ generated_site → script ≡ workload_script seed count
    → OnOk answer (refused_line (line_says Session) script ≡ None) → IfOk answer (λ tally. tally ≡ tally_of (report_of site [] script))
    → IfOk answer (λ tally. summary_of seed count ≡ summary_line seed count tally ∷ [])
summarised seed count site script (Ok tally) made drawn accepted counted = summarised_one seed count site script tally made drawn accepted counted
summarised seed count site script (Err status) made drawn accepted counted = tt

-- ---- how a session over a blank ground in memory ends

pub ends_inner : (ended : Status) → IsPlayFault ended → IsInnerFault (of_memory ended)
ends_inner Done fault = absurd fault
ends_inner Usage fault = absurd fault
ends_inner (SiteRefused why) fault = absurd fault
ends_inner (ScriptRefused line) fault = tt
ends_inner ReadFault fault = tt
ends_inner EmitFault fault = tt
ends_inner DiskFault fault = tt
ends_inner (JournalRefused why) fault = absurd fault
ends_inner LinkFault fault = absurd fault
ends_inner NoMemory fault = tt

never_site : (ended : Status) (why : SiteFault) → IsPlayFault ended → of_memory ended ≡ SiteRefused why → ⊥
never_site Done why fault same = absurd fault
never_site Usage why fault same = absurd fault
never_site (SiteRefused other) why fault same = absurd fault
never_site (ScriptRefused line) why fault same = cc
never_site ReadFault why fault same = cc
never_site EmitFault why fault same = cc
never_site DiskFault why fault same = cc
never_site (JournalRefused other) why fault same = absurd fault
never_site LinkFault why fault same = absurd fault
never_site NoMemory why fault same = cc

line_of : (ended : Status) (line : ℕ) → of_memory ended ≡ ScriptRefused line → ended ≡ ScriptRefused line
line_of Done line same = same
line_of Usage line same = same
line_of (SiteRefused why) line same = same
line_of (ScriptRefused other) line same = same
line_of ReadFault line same = cc
line_of EmitFault line same = cc
line_of DiskFault line same = cc
line_of (JournalRefused why) line same = cc
line_of LinkFault line same = cc
line_of NoMemory line same = same

same_end : (x y : Status) → ◌≡◌ {A = Result Tally Status} (Err x) (Err y) → x ≡ y
same_end x y same = cc

-- the site isn't refused
pub takes_site : (ended given : Status) (why : SiteFault) → given ≡ of_memory ended → IsPlayFault ended → ◌≡◌ {A = Result Tally Status} (Err given) (Err (SiteRefused why)) → ⊥
takes_site ended given why is fault same = never_site ended why fault (sym is ∙ same_end given (SiteRefused why) same)

-- a line that is refused is one that the session refused
pub refuses_line : (ended given : Status) (line : ℕ) → given ≡ of_memory ended → ◌≡◌ {A = Result Tally Status} (Err given) (Err (ScriptRefused line)) → ended ≡ ScriptRefused line
refuses_line ended given line is same = line_of ended line (sym is ∙ same_end given (ScriptRefused line) same)
