-- What becomes of a server on a site's file: five ways, of which in the last a desk was opened.
use Rattle.std.specs.Prelude.{◌≡◌, ◌≢◌, ◌<◌, ℕ, List, [], ◌∷◌, length, Option, Ok, IfSome}
use Rattle.ground_io.specs.Counts.{HasCause}
use Rattle.ground_io.specs.Trace.{Adds, Told}
use Rattle.ground_io.specs.declared.entry.Entry.TheVariants.{Synced}
use Rattle.bac_values.specs.declared.note.Send.{Send}
use Rattle.alarm_core.specs.declared.event.Event.{Event}
use Rattle.alarm_core.specs.declared.site.Site.{Site}
use Rattle.alarm_journal.specs.Press.{IsBelow, IsRefusal, IsSmall, Reopens}
use Rattle.alarm_journal.specs.declared.open_fault.OpenFault.{OpenFault}
use Rattle.alarm_journal.specs.declared.open_fault.OpenFault.TheVariants.{DiskFault}
use Rattle.state_codec.specs.Emission.{Emits}
use Rattle.state_codec.specs.Keeping.{StoodFor, journal_of}
use Rattle.state_codec.specs.Openings.{IsRefusedFor}
use Rattle.state_codec.specs.Sizes.{need}
use Rattle.site_config.specs.declared.fault.SiteFault.{SiteFault}
use Rattle.site_config.specs.Sites.{site_of}
use Rattle.alarm_server.specs.declared.serve.Served.{Served}
use Rattle.alarm_server.specs.declared.status.Status.TheVariants.{NoMemory, ReadFault, SiteRefused}
use Rattle.alarm_server.specs.OnFile.{RefusesFile}
use Rattle.alarm_server.specs.ServedSites.{HasServedSite, IsUnserved}
use Rattle.alarm_server.specs.Status.{of_open_fault}

-- a site was found: where the source tells, its octets are the site's text
abbrev pub IsSiteIn : Option (List ℕ) → Site → List ℕ → Type 0
IsSiteIn file site text = IfSome file (λ octets. (octets ≡ text) × (site_of octets ≡ Ok site))

module _ {G : Type 0} (told : G → Option Told) (size disk_faults emit_faults : G → ℕ) where
  -- The journal wasn't opened, and nothing was sent. A device that was refused was synced, and nothing else. One that is smaller than it must be failed or is refused as small, with its size, whether it tells its octets or not.
  pub record IsNotOpened (site : Site) (text : List ℕ) (before after : G) (served : Served) : Type 0 where
    pub fault : OpenFault
    pub unserved : IsUnserved served (of_open_fault fault)
    pub refused : IsRefusal fault → IsRefusedFor site text (told before) (told after) fault
    pub unchanged : IsRefusal fault → Adds (told before) (told after) (Synced ∷ [])
    pub small : IsSmall (size before) fault
    pub below : size before < need site (length text) → IsBelow (size before) (need site (length text)) fault
    pub stands : (history : List Event) → StoodFor (journal_of site text) site history (told before) (told after) → IsRefusal fault → ⊥
    pub reopens : Reopens (journal_of site text) (told before) (told after)
    pub quiet : Emits (told before) (told after) []
    pub cause : HasCause (disk_faults before) (disk_faults after) (fault ≡ DiskFault)
    pub unhidden : fault ≢ DiskFault → disk_faults after ≡ disk_faults before

module _ {G L : Type 0} (told : G → Option Told) (size disk_faults emit_faults : G → ℕ) where
  -- What becomes of a server that understands its words:
  pub data ServesFile (shows : ℕ → Type 0) (file : Option (List ℕ)) (count : ℕ) (link rest : L) (old new : Option (List Send)) (before after : G) (served : Served) : Type 0 where
    -- the site's source failed, and nothing was done
    NotRead : IsUnserved served ReadFault → after ≡ before → rest ≡ link → ServesFile shows file count link rest old new before after served
    -- memory was refused before there was a site, and nothing was done
    OutOfMemory : IsUnserved served NoMemory → after ≡ before → rest ≡ link → ServesFile shows file count link rest old new before after served
    -- the text is no site, and this is its fault, which isn't want of memory; nothing was done
    NoSite : (fault : SiteFault) → RefusesFile file fault → IsUnserved served (SiteRefused fault) → after ≡ before → rest ≡ link → ServesFile shows file count link rest old new before after served
    -- the journal of the site wasn't opened, and no datagram was taken
    NotOpened : (site : Site) (text : List ℕ) → IsSiteIn file site text → IsNotOpened told size disk_faults emit_faults site text before after served → rest ≡ link → ServesFile shows file count link rest old new before after served
    -- a desk was opened on the journal of the site, and served
    Opened : (site : Site) (text : List ℕ) → IsSiteIn file site text → HasServedSite told size disk_faults emit_faults shows site text count old new before after served → ServesFile shows file count link rest old new before after served
