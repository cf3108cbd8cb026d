-- A journal that is opened, and what is shipped of it; what a crash leaves meanwhile; and where it isn't opened.
use Rattle.std.proofs.Common.{◌≡◌, inl, inr, ℕ, Option, Some, None, Result, Ok, Err, List, [], ◌∷◌, ◌++◌, All, OnOk, refl, sym, subst}
use Rattle.std.proofs.lemmas.List.{append-nil}
use Rattle.ground_io.specs.Disk.{Always, Disk, Each, disk_after}
use Rattle.ground_io.specs.Trace.{Told, Adds, disk_of}
use Rattle.ground_io.specs.declared.entry.Entry.{Entry}
use Rattle.ground_io.specs.declared.entry.Entry.TheVariants.{Synced}
use Rattle.ground_io.proofs.Crashes.{adds_both, adds_none, always-append, each_at}
use Rattle.bac_values.specs.declared.report.ReportLine.{ReportLine}
use Rattle.script_lines.specs.Report.{report_text}
use Rattle.alarm_journal.specs.Journal.{Content, OpenAlike, batches_of}
use Rattle.alarm_journal.specs.Journal.{Site as Journal}
use Rattle.alarm_journal.specs.Laws.{OpensOnce}
use Rattle.alarm_journal.specs.Press.{Answers, Reopens, ReopensSynced}
use Rattle.alarm_journal.specs.declared.open_fault.OpenFault.{OpenFault}
use Rattle.alarm_core.specs.declared.event.Event.{Event}
use Rattle.alarm_core.specs.declared.site.Site.{Site}
use Rattle.alarm_core.specs.State.{CoreState}
use Rattle.site_config.specs.declared.fault.SiteFault.{SiteFault}
use Rattle.site_config.specs.Sites.{site_of}
use Rattle.state_codec.specs.Contents.{StandsForHistory}
use Rattle.state_codec.specs.Damage.{ContentLeadsTo}
use Rattle.state_codec.specs.Emission.{Emits}
use Rattle.state_codec.specs.Keeping.{StoodFor, journal_of}
use Rattle.standby.specs.Offers.{IsLeaderOf, LeaderState, LeadsFor, heard_by}
use Rattle.standby.specs.Reaches.{HasPackets}
use Rattle.standby.specs.Runs.{IsOffered}
use Rattle.alarm_server.specs.declared.emission.Unsent.{Unsent}
use Rattle.alarm_server.specs.declared.emission.Unsent.TheVariants.{Lost, NoMemory}
use Rattle.alarm_server.specs.declared.status.Status.{Status}
use Rattle.alarm_server.specs.declared.status.Status.TheVariants.{Done, SiteRefused}
use Rattle.alarm_server.specs.Emission.{Ends, Sends, SendsUpTo, lost, sent}
use Rattle.alarm_server.specs.OnFile.{RefusesFile}
use Rattle.alarm_server.specs.Shipping.{AreShipped, KeepsAlike, KeepsAlikeOnSite, KeepsShipped, ShippedOf, Ships, ShipsOnFile, ShipsOnSite, ship_report}
use Rattle.alarm_server.specs.Status.{IsSiteFault, of_open_fault, of_unsent}
use Rattle.alarm_server.proofs.BehindOpening.{unplayed}
use Rattle.alarm_server.proofs.Emitting.{emits, emits_sent, emits_up_to}
use Rattle.alarm_server.proofs.OnFile.{own_fault, unplayed_by}

-- ---- what goes out behind the opening is all that goes out

pub ends_sent : (lines : List ReportLine) (old mid new : Option Told) → Emits old mid [] → Adds mid new (sent report_text lines) → Ends Emits report_text Done lines old new
ends_sent lines old mid new quiet goes = emits.followed old mid new [] (sent report_text lines) quiet (emits_sent report_text lines mid new goes)

pub ends_unsent : (fault : Unsent) (lines : List ReportLine) (old mid new : Option Told) → Emits old mid [] → SendsUpTo Adds report_text fault lines mid new → Ends Emits report_text (of_unsent fault) lines old new
ends_unsent Lost lines old mid new quiet sends =
    let (front, next, back, whole, goes) = emits_up_to report_text Lost lines mid new sends in
    (front, next, back, whole, emits.followed old mid new [] (sent report_text front ++ lost report_text next) quiet goes)
ends_unsent NoMemory lines old mid new quiet sends =
    let (front, back, whole, goes) = emits_up_to report_text NoMemory lines mid new sends in
    (front, back, whole, emits.followed old mid new [] (sent report_text front) quiet goes)

-- ---- emissions leave the disk as it is

along_sent : (P : List ℕ → Type 0) (disk : Disk) (lines : List ReportLine) → Each P disk → Always P disk (sent report_text lines)
along_sent P disk [] each = each
along_sent P disk (line ∷ lines) each = (each, along_sent P disk lines each)

along_lost : (P : List ℕ → Type 0) (disk : Disk) (lines : List ReportLine) (next : ReportLine) → Each P disk → Always P disk (sent report_text lines ++ lost report_text next)
along_lost P disk [] next each = (each, each)
along_lost P disk (line ∷ lines) next each = (each, along_lost P disk lines next each)

-- what was added, and that it leaves the disk so
pub record Added (mid new : Option Told) : Type 1 where
  pub entries : List Entry
  pub adds : Adds mid new entries
  pub leaves : (P : List ℕ → Type 0) (disk : Disk) → Each P disk → Always P disk entries

pub nothing_added : (told : Option Told) → Added told told
nothing_added told = record { entries = []; adds = adds_none told; leaves = λ P disk each. each }

pub sends_added : {A : Type 0} (result : Result A Unsent) (lines : List ReportLine) (mid new : Option Told) → Sends Adds report_text result lines mid new → Added mid new
sends_added (Ok x) lines mid new goes = record { entries = sent report_text lines; adds = goes; leaves = λ P disk each. along_sent P disk lines each }
sends_added (Err Lost) lines mid new (front, next, back, whole, goes) =
    record { entries = sent report_text front ++ lost report_text next; adds = goes; leaves = λ P disk each. along_lost P disk front next each }
sends_added (Err NoMemory) lines mid new (front, back, whole, goes) = record { entries = sent report_text front; adds = goes; leaves = λ P disk each. along_sent P disk front each }

-- ---- what a crash leaves

module _ (journal : Journal) where
  pub keeps_opening : (old new : Option Told) → Reopens journal old new → KeepsAlike journal old new
  keeps_opening old None opens = tt
  keeps_opening None (Some new) opens = absurd opens
  keeps_opening (Some old) (Some new) (inl nothing) = inl nothing
  keeps_opening (Some old) (Some new) (inr opens) = inr (opens.entries, opens.adds, opens.always)

  pub keeps_behind : (old mid new : Option Told) → ReopensSynced journal old mid → Added mid new → KeepsAlike journal old new
  keeps_behind old mid None opens added = tt
  keeps_behind old None (Some new) opens added = absurd added.adds
  keeps_behind None (Some mid) (Some new) opens added = absurd opens
  keeps_behind (Some old) (Some mid) (Some new) opens added =
      let P : List ℕ → Type 0 = λ image. OpenAlike journal image (disk_of old).contents in
      let begun : Disk = record { contents = (disk_of old).contents; loose = [] } in
      let last : Each P (disk_after opens.entries begun) = each_at P begun opens.entries [] (subst (λ (l : List Entry). Always P begun l) (sym (append-nil opens.entries)) opens.always) in
      inr (
        opens.entries ++ added.entries,
        adds_both (Some old) (Some mid) (Some new) (Synced ∷ opens.entries) added.entries opens.adds added.adds,
        always-append P begun opens.entries added.entries opens.always (added.leaves P (disk_after opens.entries begun) last),
      )

-- ---- what is shipped of what was opened

module _ (site : Site) (text : List ℕ) (from : ℕ) (core : CoreState) (own : core.site ≡ site) (content : Content) (leader : LeaderState) (has : HasPackets (heard_by from leader)) where
  -- it is of the content to which the octets opened
  shipped_of : (old mid new : Option Told) → Added mid new → Answers (journal_of site text) old mid (Ok content) → AreShipped site content core from has.packets → ShippedOf site text from old new core has.packets
  shipped_of old mid None added opened are = by old
    where
      by : (told : Option Told) → ShippedOf site text from told None core has.packets
      by None = tt
      by (Some told) = tt
  shipped_of old None (Some new) added opened are = absurd added.adds
  shipped_of None (Some mid) (Some new) added opened are = tt
  shipped_of (Some old) (Some mid) (Some new) added opened are = (content, opened, are)

  -- and part of each history for which they stood
  offered_of : OpensOnce → (old mid new : Option Told) → Added mid new → Answers (journal_of site text) old mid (Ok content)
      → ((history : List Event) → StandsForHistory site content history → LeadsFor site history (heard_by from leader))
      → (history : List Event) → StoodFor (journal_of site text) site history old new → All (IsOffered site history) has.packets
  offered_of once old mid None added opened leads history stood = by old stood
    where
      by : (told : Option Told) → StoodFor (journal_of site text) site history told None → All (IsOffered site history) has.packets
      by None none = absurd none
      by (Some told) none = absurd none
  offered_of once old None (Some new) added opened leads history stood = absurd added.adds
  offered_of once None (Some mid) (Some new) added opened leads history stood = absurd stood
  offered_of once (Some old) (Some mid) (Some new) added opened leads history stood =
      let same : stood.content ≡ content = once.content (journal_of site text) (disk_of old).contents stood.content content stood.opens opened in
      has.offered site history (leads history (subst (λ (c : Content). StandsForHistory site c history) same stood.stands))

  pub ships : (ended : Status) (old mid new : Option Told) → OpensOnce → Added mid new → Answers (journal_of site text) old mid (Ok content) → (lead : ContentLeadsTo site content core)
      → IsLeaderOf lead.begun.events content.snapshot (batches_of content) leader
      → ((history : List Event) → StandsForHistory core.site content history → LeadsFor core.site history (heard_by from leader))
      → Ends Emits report_text ended (ship_report has.packets core.events) old new → Ships site text from ended old new
  ships ended old mid new once added opened lead made leads ends = record {
    state = core;
    packets = has.packets;
    shipped = shipped_of old mid new added opened (record { lead = lead; leader = leader; leads = made; offers = has.all });
    offered = offered_of once old mid new added opened
        (λ history stands. subst (λ (s : Site). LeadsFor s history (heard_by from leader)) own (leads history (subst (λ (s : Site). StandsForHistory s content history) (sym own) stands)));
    ends = ends;
  }

-- ---- what the opening gives, at its own site

-- a leader that is made of a way from the state's own site is made of each way from the site
pub made_at : (site : Site) (core : CoreState) (content : Content) (leader : LeaderState) → core.site ≡ site → (lead : ContentLeadsTo site content core)
    → ((own : ContentLeadsTo core.site content core) → IsLeaderOf own.begun.events content.snapshot (batches_of content) leader) → IsLeaderOf lead.begun.events content.snapshot (batches_of content) leader
made_at site core content leader own lead made = subst (λ (s : Site). (way : ContentLeadsTo s content core) → IsLeaderOf way.begun.events content.snapshot (batches_of content) leader) own made lead

-- what a leader that has heard leads, in the words of what it heard
pub leads_heard : (site : Site) (from : ℕ) (leader heard : LeaderState) → heard ≡ heard_by from leader → (P : List Event → Type 0)
    → ((history : List Event) → P history → LeadsFor site history leader) → ((history : List Event) → LeadsFor site history leader → LeadsFor site history heard)
    → (history : List Event) → P history → LeadsFor site history (heard_by from leader)
leads_heard site from leader heard is P leads hears history stands = subst (λ (l : LeaderState). LeadsFor site history l) is (hears history (leads history stands))

-- what went out behind the opening, of so many events, in the words of the state that was opened
pub went_as : {A : Type 0} (text : ReportLine → List ℕ) (result : Result A Unsent) (packets : List (List ℕ)) (counted events : ℕ) (begun mid new : Option Told) → counted ≡ events → begun ≡ mid
    → Sends Adds text result (ship_report packets counted) begun new → Sends Adds text result (ship_report packets events) mid new
went_as text result packets counted events begun mid new same_events same_told goes =
    subst (λ (n : ℕ). Sends Adds text result (ship_report packets n) mid new) same_events (subst (λ (told : Option Told). Sends Adds text result (ship_report packets counted) told new) same_told goes)

-- what is so anyway is so where a call ended well
pub on_ok_all : {A E : Type 0} (P : Type 0) (result : Result A E) → P → OnOk result P
on_ok_all P (Ok x) p = p
on_ok_all P (Err fault) p = tt

-- ---- where the journal wasn't opened, or the site wasn't found

pub ships_refused : (site : Site) (text : List ℕ) (from : ℕ) (fault : OpenFault) (old new : Option Told) → Emits old new [] → ShipsOnSite from text (Ok site) (of_open_fault fault) old new
ships_refused site text from fault old new quiet = inl (unplayed fault, quiet)

ships_by : (octets : List ℕ) (from : ℕ) (ended : Status) (told : Option Told) (says : Result Site SiteFault) → site_of octets ≡ says → IsSiteFault ended → ((f : SiteFault) → ended ≡ SiteRefused f → RefusesFile (Some octets) f)
    → ShipsOnSite from octets says ended told told
ships_by octets from ended told (Ok site) says fault refused = inl (unplayed_by octets site ended says fault refused, emits.nothing told)
ships_by octets from ended told (Err f) says fault refused = (own_fault octets f ended says fault refused, emits.nothing told)

pub ships_unopened : (site : Option (List ℕ)) (from : ℕ) (ended : Status) (told : Option Told) → IsSiteFault ended → ((f : SiteFault) → ended ≡ SiteRefused f → RefusesFile site f) → ShipsOnFile from site ended told told
ships_unopened None from ended told fault refused = tt
ships_unopened (Some octets) from ended told fault refused = ships_by octets from ended told (site_of octets) refl fault refused

alike_by : (octets : List ℕ) (told : Option Told) (says : Result Site SiteFault) → KeepsAlikeOnSite octets says told told
alike_by octets None (Ok site) = tt
alike_by octets (Some told) (Ok site) = inl (adds_none (Some told))
alike_by octets told (Err f) = adds_none told

pub keeps_unopened : (site : Option (List ℕ)) (told : Option Told) → KeepsShipped site told told
keeps_unopened None told = tt
keeps_unopened (Some octets) told = alike_by octets told (site_of octets)
