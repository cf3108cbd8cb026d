-- What is shipped of a journal: the packets by which a standby that has so many events comes to have all that the journal holds.
use Rattle.std.specs.Prelude.{◌≡◌, ◌⊎◌, ℕ, ⊤, All, Option, Some, None, Result, Ok, Err, List, [], ◌∷◌, ◌++◌, length, map, IfSome}
use Rattle.bac_values.specs.declared.report.ReportLine.{ReportLine}
use Rattle.bac_values.specs.declared.report.ReportLine.TheVariants as say
use Rattle.ground_io.specs.Disk.{Always}
use Rattle.ground_io.specs.Trace.{Told, Adds, disk_of}
use Rattle.ground_io.specs.declared.entry.Entry.{Entry}
use Rattle.ground_io.specs.declared.entry.Entry.TheVariants.{Synced}
use Rattle.script_lines.specs.Report.{report_text}
use Rattle.alarm_journal.specs.Journal.{Content, OpenAlike, OpensTo, batches_of}
use Rattle.alarm_journal.specs.Journal.{Site as Journal}
use Rattle.alarm_core.specs.declared.event.Event.{Event}
use Rattle.alarm_core.specs.declared.site.Site.{Site}
use Rattle.alarm_core.specs.State.{CoreState}
use Rattle.site_config.specs.declared.fault.SiteFault.{SiteFault}
use Rattle.site_config.specs.Sites.{site_of}
use Rattle.state_codec.specs.Damage.{ContentLeadsTo}
use Rattle.state_codec.specs.Emission.{Emits}
use Rattle.state_codec.specs.Keeping.{StoodFor, journal_of}
use Rattle.standby.specs.Offers.{IsLeaderOf, LeaderState, heard_by}
use Rattle.standby.specs.Reaches.{OffersAll}
use Rattle.standby.specs.Runs.{IsOffered}
use Rattle.alarm_server.specs.declared.status.Status.{Status}
use Rattle.alarm_server.specs.declared.status.Status.TheVariants.{NoMemory, ReadFault, SiteRefused}
use Rattle.alarm_server.specs.Emission.{Ends}
use Rattle.alarm_server.specs.Openings.{IsUnplayed}

-- the lines over some packets: each of them, and behind them how many they are and how many events the journal has
abbrev pub ship_report : List (List ℕ) → ℕ → List ReportLine
ship_report packets events = map (λ packet. say.Packet packet) packets ++ say.ShipEnd (length packets) events ∷ []

-- Packets are all that a leader offers behind so many events which has what a content has: its snapshot, and the records of its bodies, one behind the other, that lead from the state of the snapshot to this one.
pub record AreShipped (site : Site) (content : Content) (state : CoreState) (from : ℕ) (packets : List (List ℕ)) : Type 0 where
  pub lead : ContentLeadsTo site content state
  pub leader : LeaderState
  pub leads : IsLeaderOf lead.begun.events content.snapshot (batches_of content) leader
  pub offers : OffersAll (heard_by from leader) packets

-- they are so of the content to which the octets of a device opened, where its ground told them and still tells
abbrev pub ShippedOf : Site → List ℕ → ℕ → Option Told → Option Told → CoreState → List (List ℕ) → Type 0
ShippedOf site text from (Some old) (Some new) state packets = (content : Content) × OpensTo (journal_of site text) (disk_of old).contents content × AreShipped site content state from packets
ShippedOf site text from None new state packets = ⊤
ShippedOf site text from old None state packets = ⊤

-- The packets of what the journal opened to went out, and behind them how many they are and how many events the journal has, or a front of these lines, as the status says. Each packet is part of every history that the octets stood for.
pub record Ships (site : Site) (text : List ℕ) (from : ℕ) (ended : Status) (old new : Option Told) : Type 0 where
  pub state : CoreState
  pub packets : List (List ℕ)
  pub shipped : ShippedOf site text from old new state packets
  pub offered : (history : List Event) → StoodFor (journal_of site text) site history old new → All (IsOffered site history) packets
  pub ends : Ends Emits report_text ended (ship_report packets state.events) old new

-- of the site that the file's text is; or it ended before the journal was open, and nothing went out
abbrev pub ShipsOnSite : ℕ → List ℕ → Result Site SiteFault → Status → Option Told → Option Told → Type 0
ShipsOnSite from text (Ok site) ended old new = (IsUnplayed ended × Emits old new []) ⊎ Ships site text from ended old new
ShipsOnSite from text (Err fault) ended old new = ((ended ≡ SiteRefused fault) ⊎ ((ended ≡ ReadFault) ⊎ (ended ≡ NoMemory))) × Emits old new []

abbrev pub ShipsOnFile : ℕ → Option (List ℕ) → Status → Option Told → Option Told → Type 0
ShipsOnFile from site ended old new = IfSome site (λ octets. ShipsOnSite from octets (site_of octets) ended old new)

-- From the first sync on, each image that a crash may leave opens to what the device opened to, or is refused as it was; before it nothing was done but that it failed. So it stands for each history for which the device stood, and for no other one.
abbrev pub KeepsAlike : Journal → Option Told → Option Told → Type 0
KeepsAlike journal old None = ⊤
KeepsAlike journal None (Some new) = ⊥
KeepsAlike journal (Some old) (Some new) =
    Adds (Some old) (Some new) []
    ⊎ ((entries : List Entry) × Adds (Some old) (Some new) (Synced ∷ entries)
    × Always (λ image. OpenAlike journal image (disk_of old).contents) (record { contents = (disk_of old).contents; loose = [] }) entries)

-- of the site that the file's text is; nothing was done where it is none
abbrev pub KeepsAlikeOnSite : List ℕ → Result Site SiteFault → Option Told → Option Told → Type 0
KeepsAlikeOnSite text (Ok site) old new = KeepsAlike (journal_of site text) old new
KeepsAlikeOnSite text (Err fault) old new = Adds old new []

abbrev pub KeepsShipped : Option (List ℕ) → Option Told → Option Told → Type 0
KeepsShipped site old new = IfSome site (λ octets. KeepsAlikeOnSite octets (site_of octets) old new)
