-- What the journal of a file's site opens to, and what a session plays from there; or why it is refused, by its octets.
use Rattle.std.specs.Prelude.{◌≡◌, ◌⊎◌, ℕ, Option, List, [], ◌∷◌, Result, Ok, Err, IfSome}
use Rattle.ground_io.specs.Trace.{Adds, Told}
use Rattle.ground_io.specs.declared.entry.Entry.TheVariants.{Synced}
use Rattle.alarm_journal.specs.Journal.{Site as Journal}
use Rattle.alarm_journal.specs.Press.{Reopens}
use Rattle.alarm_journal.specs.declared.open_fault.OpenFault.{OpenFault}
use Rattle.alarm_core.specs.declared.event.Event.{Event}
use Rattle.alarm_core.specs.declared.site.Site.{Site}
use Rattle.site_config.specs.declared.fault.SiteFault.{SiteFault}
use Rattle.site_config.specs.Sites.{site_of}
use Rattle.alarm_core.specs.State.{CoreState}
use Rattle.script_lines.specs.Script.{lines_of}
use Rattle.state_codec.specs.Emission.{Emits}
use Rattle.state_codec.specs.Keeping.{StoodFor, journal_of}
use Rattle.state_codec.specs.Openings.{IsRefusedFor, OpenedTo}
use Rattle.alarm_server.specs.declared.status.Status.{Status}
use Rattle.alarm_server.specs.declared.status.Status.TheVariants.{DiskFault, JournalRefused, NoMemory, ReadFault}
use Rattle.alarm_server.specs.Emission.{Ends}
use Rattle.alarm_server.specs.Pieces.{piece_text}
use Rattle.alarm_server.specs.Sessions.{session_over}

-- the octets of a journal stand for no history of the site
abbrev pub StandsForNone : Journal → Site → Option Told → Option Told → Type 0
StandsForNone journal site old new = (history : List Event) → StoodFor journal site history old new → ⊥

-- the journal of the file's site is refused for this, and its octets stand for no history; it was synced, and nothing else was done
abbrev pub RefusesOnSite : List ℕ → Result Site SiteFault → Option Told → Option Told → OpenFault → Type 0
RefusesOnSite text (Ok site) old new fault = IsRefusedFor site text old new fault × Adds old new (Synced ∷ []) × StandsForNone (journal_of site text) site old new
RefusesOnSite text (Err refused) old new fault = ⊥

abbrev pub RefusesJournal : Option (List ℕ) → Option Told → Option Told → OpenFault → Type 0
RefusesJournal site old new fault = IfSome site (λ octets. RefusesOnSite octets (site_of octets) old new fault)

-- a session may end so before its script is played, and what ships a journal before it is open: a call failed, the journal is refused, or memory is
abbrev pub IsUnplayed : Status → Type 0
IsUnplayed ReadFault = Unit {0}
IsUnplayed DiskFault = Unit {0}
IsUnplayed (JournalRefused fault) = Unit {0}
IsUnplayed NoMemory = Unit {0}
IsUnplayed status = ⊥

-- It ended before its script was played: with ReadFault it was the site's source that failed. Nothing went out, and at each moment from the first sync on a crash leaves what opens as the octets did before.
pub record EndsUnplayed (FileFailed : Type 0) (journal : Journal) (ended : Status) (old new : Option Told) : Type 0 where
  pub unplayed : IsUnplayed ended
  pub file : ended ≡ ReadFault → FileFailed
  pub quiet : Emits old new []
  pub reopens : Reopens journal old new

-- The octets of the journal of the file's site opened and lead to a state, and the report goes on from that, or a front of it, as the status says; or the session ended before.
abbrev pub OpensOnSite : Type 0 → List ℕ → Result Site SiteFault → Status → List ℕ → Option Told → Option Told → Type 0
OpensOnSite FileFailed text (Ok site) ended script old new =
    EndsUnplayed FileFailed (journal_of site text) ended old new ⊎ ((state : CoreState) × OpenedTo site text old new state × Ends Emits piece_text ended (session_over state (lines_of script)) old new)
OpensOnSite FileFailed text (Err refused) ended script old new = Emits old new []

abbrev pub OpensOnFile : Type 0 → Option (List ℕ) → Status → Option (List ℕ) → Option Told → Option Told → Type 0
OpensOnFile FileFailed site ended script old new = IfSome site (λ octets. IfSome script (λ text. OpensOnSite FileFailed octets (site_of octets) ended text old new))
