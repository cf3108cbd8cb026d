-- A session on a site's file: what goes out, what is accepted, and where one of its sources stops being read. The sources are seen by their octets, where they tell them.
use Rattle.std.specs.Prelude.{◌≡◌, ◌≢◌, ◌⊎◌, ℕ, Option, None, Result, Ok, Err, List, [], IfSome, IsOk}
use Rattle.ground_io.specs.Trace.{Told, Adds, WhereTold}
use Rattle.alarm_core.specs.declared.event.Event.{Event}
use Rattle.script_lines.specs.declared.line.Grammar.TheVariants as grammar
use Rattle.script_lines.specs.Line.{line_says}
use Rattle.alarm_core.specs.declared.site.Site.{Site}
use Rattle.site_config.specs.declared.fault.SiteFault.{SiteFault}
use Rattle.site_config.specs.declared.fault.SiteFault.TheVariants as site_fault
use Rattle.site_config.specs.Sites.{site_of}
use Rattle.alarm_server.specs.declared.status.Status.{Status}
use Rattle.alarm_server.specs.declared.status.Status.TheVariants.{SiteRefused, ReadFault, NoMemory}
use Rattle.alarm_server.specs.Emission.{Going, Ends}
use Rattle.alarm_server.specs.Report.{front_pieces, report_of}
use Rattle.script_lines.specs.Script.{lines_of}
use Rattle.state_codec.specs.Keeping.{StoodFor, journal_of}
use Rattle.alarm_server.specs.Keeping.{KeepsOpened}
use Rattle.alarm_server.specs.Script.{refused_line, spelled_in}
use Rattle.alarm_server.specs.Pieces.{piece_text}
use Rattle.alarm_server.specs.Stopping.{StopsReading}

-- What went out, by the site that the file's text is: its report from a history on that the journal holds. Where the text is no site nothing went out, and the session ended with the text's fault, or before it was found.
abbrev pub EndsOnSite : Going → Status → List ℕ → Result Site SiteFault → List ℕ → Option Told → Option Told → Type 0
EndsOnSite Goes ended text (Ok site) script old new =
    (history : List Event) → StoodFor (journal_of site text) site history old new → Ends Goes piece_text ended (report_of site history script) old new
EndsOnSite Goes ended text (Err fault) script old new =
    ((ended ≡ SiteRefused fault) ⊎ ((ended ≡ ReadFault) ⊎ (ended ≡ NoMemory))) × Goes old new []

abbrev pub EndsOnFile : Going → Status → Option (List ℕ) → Option (List ℕ) → Option Told → Option Told → Type 0
EndsOnFile Goes ended site script old new = IfSome site (λ octets. IfSome script (λ text. EndsOnSite Goes ended octets (site_of octets) text old new))

-- the file's text is a site, and every line of the script is in the grammar
abbrev pub AcceptsOnFile : Option (List ℕ) → Option (List ℕ) → Type 0
AcceptsOnFile site script = IfSome site (λ octets. IsOk (site_of octets)) × IfSome script (λ text. refused_line (line_says grammar.Session) text ≡ None)

-- the file's text has this fault, which isn't want of memory
abbrev pub RefusesFile : Option (List ℕ) → SiteFault → Type 0
RefusesFile site fault = (fault ≢ site_fault.NoMemory) × IfSome site (λ octets. site_of octets ≡ Err fault)

-- the script of a session of this site stopped being read, and what its whole lines give went out; there is no session where the text is no site
abbrev pub StopsInScript : Going → List ℕ → Result Site SiteFault → List ℕ → List ℕ → Option Told → Option Told → Type 0
StopsInScript Goes text (Ok site) script rest old new =
    (history : List Event) → StoodFor (journal_of site text) site history old new → StopsReading Goes piece_text (front_pieces site history) (line_says grammar.Session) script rest old new
StopsInScript Goes text (Err fault) script rest old new = ⊥

-- either the file failed, and nothing was done; or the script did
abbrev pub StopsOnFile : Going → Type 0 → Type 0 → Option (List ℕ) → Option (List ℕ) → Option (List ℕ) → Option Told → Option Told → Type 0
StopsOnFile Goes FileFailed ScriptFailed site script rest old new =
    (FileFailed × Adds old new [])
    ⊎ (ScriptFailed × IfSome site (λ octets. WhereTold script rest (λ text rest. StopsInScript Goes octets (site_of octets) text rest old new)))

-- of each history that the journal holds, a crash at any moment leaves it and the events of some lines
abbrev pub KeepsOnSite : List ℕ → Result Site SiteFault → List ℕ → Option Told → Option Told → Type 0
KeepsOnSite text (Ok site) script old new =
    (history : List Event) → StoodFor (journal_of site text) site history old new → KeepsOpened (journal_of site text) site history (spelled_in (line_says grammar.Session) 0 (lines_of script)) 1 old new
KeepsOnSite text (Err fault) script old new = Adds old new []

abbrev pub KeepsOnFile : Option (List ℕ) → Option (List ℕ) → Option Told → Option Told → Type 0
KeepsOnFile site script old new = IfSome site (λ octets. IfSome script (λ text. KeepsOnSite octets (site_of octets) text old new))
