-- A standby on a site's file: behind the opening of its journal, at which nothing goes out, and where it wasn't opened.
use Rattle.std.proofs.Common.{◌≡◌, ◌⊎◌, ℕ, ◌≤◌, Option, Some, None, Result, Ok, Err, List, [], ◌∷◌, ◌++◌, IfSome, length, refl, ap, ◌∙◌, sym, subst, inl, inr}
use Rattle.std.proofs.lemmas.List.Elements.{All-nil}
use Rattle.ground_io.specs.Trace.{Told, WhereTold, still}
use Rattle.ground_io.specs.declared.entry.Entry.{Entry}
use Rattle.ground_io.proofs.Crashes.{adds_none}
use Rattle.bac_values.specs.declared.report.ReportLine.{ReportLine}
use Rattle.script_lines.specs.declared.packet_line.PacketLine.{PacketLine}
use Rattle.script_lines.specs.PacketLine.{packet_says}
use Rattle.script_lines.specs.Report.{report_text}
use Rattle.script_lines.specs.Script.{lines_of}
use Rattle.alarm_journal.specs.Journal.{Site as Journal}
use Rattle.alarm_journal.specs.Press.{Reopens, ReopensSynced}
use Rattle.alarm_journal.specs.declared.layout.Layout.{Layout}
use Rattle.alarm_journal.specs.declared.open_fault.OpenFault.{OpenFault}
use Rattle.alarm_journal.specs.declared.open_fault.OpenFault.TheVariants as open_fault
use Rattle.alarm_core.specs.declared.event.Event.{Event}
use Rattle.alarm_core.specs.declared.site.Site.{Site}
use Rattle.alarm_core.specs.Allowed.{Represents}
use Rattle.alarm_core.specs.State.{CoreState, state_of}
use Rattle.site_config.specs.declared.fault.SiteFault.{SiteFault}
use Rattle.site_config.specs.Sites.{site_of}
use Rattle.state_codec.specs.Contents.{ImageStands}
use Rattle.state_codec.specs.Emission.{Emits}
use Rattle.state_codec.specs.Keeping.{HoldsHistory, StoodFor, journal_of}
use Rattle.state_codec.specs.Openings.{OpenedTo}
use Rattle.standby.specs.Takes.{following}
use Rattle.alarm_server.specs.declared.status.Status.{Status}
use Rattle.alarm_server.specs.declared.status.Status.TheVariants.{Done, Usage, SiteRefused, ScriptRefused, ReadFault, EmitFault, DiskFault, JournalRefused, NoMemory, LinkFault}
use Rattle.alarm_server.specs.Emission.{Ends, lost, sent}
use Rattle.alarm_server.specs.Following.{Follows, IsSent, LeavesFollower, MayReach, Sender, StopsFollowing, TakesEach, closing_lines, opening_line, packets_of}
use Rattle.alarm_server.specs.Keeping.{KeepsAlong, KeepsFromSync}
use Rattle.alarm_server.specs.OnFile.{RefusesFile}
use Rattle.alarm_server.specs.Script.{refused_line}
use Rattle.alarm_server.specs.StandingBy.{FollowsOnFile, FollowsOnSite, GoesOnFromFile, GoesOnFromSite, KeepsBehindFile, KeepsBehindSite}
use Rattle.alarm_server.specs.Status.{IsSiteFault, of_open_fault}
use Rattle.alarm_server.proofs.BehindOpening.{no_read, opened_ended, tells_ended, unplayed}
use Rattle.alarm_server.proofs.Emitting.{emits}
use Rattle.alarm_server.proofs.Known.{in_any}
use Rattle.alarm_server.proofs.OnFile.{ends_more, own_fault, reopens_same, unplayed_by}
use Rattle.alarm_server.proofs.Senders.{reaches_at_once}
use Rattle.alarm_server.proofs.KeptAlong.{kept_opened, kept_unopened}

-- ---- what goes out behind the opening is all that goes out

ends_behind : (ended : Status) (lines : List ReportLine) (old mid new : Option Told) → Emits old mid [] → Ends Emits report_text ended lines mid new → Ends Emits report_text ended lines old new
ends_behind Done lines old mid new quiet goes = emits.followed old mid new [] (sent report_text lines) quiet goes
ends_behind Usage lines old mid new quiet goes = emits.followed old mid new [] [] quiet goes
ends_behind (SiteRefused fault) lines old mid new quiet goes = emits.followed old mid new [] [] quiet goes
ends_behind (ScriptRefused line) lines old mid new quiet goes = emits.followed old mid new [] (sent report_text lines) quiet goes
ends_behind ReadFault lines old mid new quiet (front, back, whole, goes) = (front, back, whole, emits.followed old mid new [] (sent report_text front) quiet goes)
ends_behind EmitFault lines old mid new quiet (front, next, back, whole, goes) = (front, next, back, whole, emits.followed old mid new [] (sent report_text front ++ lost report_text next) quiet goes)
ends_behind DiskFault lines old mid new quiet (front, back, whole, goes) = (front, back, whole, emits.followed old mid new [] (sent report_text front) quiet goes)
ends_behind (JournalRefused fault) lines old mid new quiet goes = emits.followed old mid new [] [] quiet goes
ends_behind LinkFault lines old mid new quiet goes = emits.followed old mid new [] [] quiet goes
ends_behind NoMemory lines old mid new quiet (front, back, whole, goes) = (front, back, whole, emits.followed old mid new [] (sent report_text front) quiet goes)

follows_behind : (ended : Status) (state : CoreState) (script : List ℕ) (old mid new : Option Told) → Emits old mid [] → Follows Emits ended state script mid new → Follows Emits ended state script old new
follows_behind ended state script old mid new quiet f = record {
  packets = f.packets;
  left = f.left;
  split = f.split;
  each = f.each;
  lines = f.lines;
  reached = f.reached;
  reports = f.reports;
  went = ends_behind ended (opening_line state ∷ (f.lines ++ closing_lines f.left (refused_line packet_says script) (length (lines_of script)) f.reached)) old mid new quiet f.went;
}

-- nothing went out
follows_nothing : (ended : Status) (state : CoreState) (script : List ℕ) (old new : Option Told) → ((left : List PacketLine) → TakesEach ended left) → ((lines : List ReportLine) → Ends Emits report_text ended lines old new) → Follows Emits ended state script old new
follows_nothing ended state script old new each goes = record {
  packets = [];
  left = packets_of script;
  split = refl;
  each = each (packets_of script);
  lines = [];
  reached = following state None;
  reports = refl;
  went = goes (opening_line state ∷ closing_lines (packets_of script) (refused_line packet_says script) (length (lines_of script)) (following state None));
}

follows_refused : (fault : OpenFault) (state : CoreState) (script : List ℕ) (old new : Option Told) → Emits old new [] → Follows Emits (of_open_fault fault) state script old new
follows_refused open_fault.DiskFault state script old new quiet = follows_nothing DiskFault state script old new (λ left. tt) (λ lines. ([], lines, refl, quiet))
follows_refused (open_fault.SmallDevice size need) state script old new quiet = follows_nothing (JournalRefused (open_fault.SmallDevice size need)) state script old new (λ left. tt) (λ lines. quiet)
follows_refused (open_fault.Foreign at) state script old new quiet = follows_nothing (JournalRefused (open_fault.Foreign at)) state script old new (λ left. tt) (λ lines. quiet)
follows_refused (open_fault.Damaged at) state script old new quiet = follows_nothing (JournalRefused (open_fault.Damaged at)) state script old new (λ left. tt) (λ lines. quiet)
follows_refused open_fault.NoMemory state script old new quiet = follows_nothing NoMemory state script old new (λ left. tt) (λ lines. ([], lines, refl, quiet))

pub ends_refused : (fault : OpenFault) (state : CoreState) (text : Option (List ℕ)) (old new : Option Told) → Emits old new [] → IfSome text (λ t. Follows Emits (of_open_fault fault) state t old new)
ends_refused fault state text old new quiet = in_any (λ t. Follows Emits (of_open_fault fault) state t old new) text (λ t. follows_refused fault state t old new quiet)

pub opens_refused : (site : Site) (octets : List ℕ) (fault : OpenFault) (old new : Option Told) (text : Option (List ℕ)) → Emits old new [] → Reopens (journal_of site octets) old new → IfSome text (λ t. GoesOnFromSite ⊥ (of_open_fault fault) octets (Ok site) t old new)
opens_refused site octets fault old new text quiet opens = in_any (λ t. GoesOnFromSite ⊥ (of_open_fault fault) octets (Ok site) t old new) text (λ t. inl (record { unplayed = unplayed fault; file = no_read fault; quiet = quiet; reopens = opens }))

-- an image of what was held before, where nothing was told
stands_before : (journal : Journal) (site : Site) (sender : Sender) (begun : List Event) → MayReach sender begun begun → (image : List ℕ) → ImageStands journal site image begun → LeavesFollower journal site sender begun [] image
stands_before journal site sender begun there image stands = record { lines = []; went = inl refl; reached = begun; there = there; covers = All-nil (λ (known : ℕ). known ≤ length begun); stands = stands }

pub keeps_refused : (journal : Journal) (site : Site) (sender : Sender) (older : List Event) (old new : Option Told) (text : Option (List ℕ)) → StoodFor journal site older old new → Reopens journal old new → IfSome text (λ t. IsSent site sender older t → KeepsFromSync (LeavesFollower journal site sender older) old new)
keeps_refused journal site sender older old new text stood opens =
    in_any (λ t. IsSent site sender older t → KeepsFromSync (LeavesFollower journal site sender older) old new) text
    (λ t leads. kept_unopened (LeavesFollower journal site sender older) journal site older old new stood opens (stands_before journal site sender older (reaches_at_once site sender older leads.begins)))

-- ---- it was opened

-- the lines go on from the state to which the octets lead
pub opens_standby : (site : Site) (octets : List ℕ) (core : CoreState) (ended : Status) (old mid new : Option Told) (text : Option (List ℕ)) → Emits old mid [] → OpenedTo site octets old mid core → IfSome text (λ t. Follows Emits ended core t mid new)
    → IfSome text (λ t. GoesOnFromSite ⊥ ended octets (Ok site) t old new)
opens_standby site octets core ended old mid new None quiet opened follows = tt
opens_standby site octets core ended old mid new (Some t) quiet opened f =
    let lines : List ReportLine = opening_line core ∷ (f.lines ++ closing_lines f.left (refused_line packet_says t) (length (lines_of t)) f.reached) in
    inr (core, opened_ended report_text site octets core ended lines old mid new f.went opened, follows_behind ended core t old mid new quiet f)

module _ (journal : Journal) (site : Site) (core : CoreState) (own : core.site ≡ site) (layout : Layout) (older : List Event) (ended : Status) (old mid new : Option Told) (stood : StoodFor journal site older old new) (quiet : Emits old mid []) (represents : StoodFor journal site older old mid → Represents core older) where
  stood_mid : (t : List ℕ) → Follows Emits ended core t mid new → StoodFor journal site older old mid
  stood_mid t f = tells_ended report_text journal site older ended (opening_line core ∷ (f.lines ++ closing_lines f.left (refused_line packet_says t) (length (lines_of t)) f.reached)) old mid new f.went stood

  state_is : StoodFor journal site older old mid → core ≡ state_of site older
  state_is before = (represents before).shows ∙ ap (λ (s : Site). state_of s older) own

  -- the lines go on from the state of the history
  pub ends_standby : (text : Option (List ℕ)) → IfSome text (λ t. Follows Emits ended core t mid new) → IfSome text (λ t. Follows Emits ended (state_of site older) t old new)
  ends_standby None follows = tt
  ends_standby (Some t) f = subst (λ (s : CoreState). Follows Emits ended s t old new) (state_is (stood_mid t f)) (follows_behind ended core t old mid new quiet f)

  stops_by : (t rest : List ℕ) → StopsFollowing Emits core t rest mid new → StopsFollowing Emits core t rest old new
  stops_by t rest s = record {
    whole = s.whole;
    begun = s.begun;
    read = s.read;
    whole_lines = s.whole_lines;
    accepted = s.accepted;
    no_line_feed = s.no_line_feed;
    lines = s.lines;
    reached = s.reached;
    reports = s.reports;
    went = emits.followed old mid new [] (sent report_text (opening_line core ∷ s.lines)) quiet s.went;
  }

  pub stops_standby : (text left : Option (List ℕ)) → IfSome (still text left) (λ t. Follows Emits ended core t mid new) → WhereTold text left (λ t rest. StopsFollowing Emits core t rest mid new) → WhereTold text left (λ t rest. StopsFollowing Emits (state_of site older) t rest old new)
  stops_standby text None follows stops = tt
  stops_standby None (Some rest) follows stops = absurd stops
  stops_standby (Some t) (Some rest) f stops = subst (λ (s : CoreState). StopsFollowing Emits s t rest old new) (state_is (stood_mid t f)) (stops_by t rest stops)

  -- and what a crash may leave does so from the opening's first sync on
  pub keeps_standby : (sender : Sender) (text : Option (List ℕ)) → ReopensSynced journal old mid → (StoodFor journal site older old mid → HoldsHistory journal site older layout mid) → IfSome text (λ t. Follows Emits ended core t mid new)
      → (Represents core older → HoldsHistory journal core.site older layout mid → IfSome text (λ t. IsSent core.site sender older t → KeepsAlong (LeavesFollower journal core.site sender older) mid new))
      → IfSome text (λ t. IsSent site sender older t → KeepsFromSync (LeavesFollower journal site sender older) old new)
  keeps_standby sender None synced holds follows keeps = tt
  keeps_standby sender (Some t) synced holds f keeps = λ leads.
      let before = stood_mid t f in
      let held = subst (λ (s : Site). HoldsHistory journal s older layout mid) (sym own) (holds before) in
      let kept : IsSent site sender older t → KeepsAlong (LeavesFollower journal site sender older) mid new = subst (λ (s : Site). IsSent s sender older t → KeepsAlong (LeavesFollower journal s sender older) mid new) own (keeps (represents before) held) in
      kept_opened (LeavesFollower journal site sender older) journal site older old mid new before synced (stands_before journal site sender older (reaches_at_once site sender older leads.begins)) (kept leads)

-- ---- the site wasn't read

follows_unread : (state : CoreState) (ended : Status) (script : List ℕ) (told : Option Told) → IsSiteFault ended → Follows Emits ended state script told told
follows_unread state Done script told fault = absurd fault
follows_unread state Usage script told fault = absurd fault
follows_unread state (SiteRefused f) script told fault = follows_nothing (SiteRefused f) state script told told (λ left. tt) (λ lines. emits.nothing told)
follows_unread state (ScriptRefused line) script told fault = absurd fault
follows_unread state ReadFault script told fault = follows_nothing ReadFault state script told told (λ left. tt) (λ lines. ([], lines, refl, emits.nothing told))
follows_unread state EmitFault script told fault = absurd fault
follows_unread state DiskFault script told fault = absurd fault
follows_unread state (JournalRefused why) script told fault = absurd fault
follows_unread state LinkFault script told fault = absurd fault
follows_unread state NoMemory script told fault = follows_nothing NoMemory state script told told (λ left. tt) (λ lines. ([], lines, refl, emits.nothing told))

ends_by : (octets script : List ℕ) (ended : Status) (told : Option Told) (says : Result Site SiteFault) → site_of octets ≡ says → IsSiteFault ended → ((f : SiteFault) → ended ≡ SiteRefused f → RefusesFile (Some octets) f) → FollowsOnSite ended octets says script told told
ends_by octets script ended told (Ok site) says fault refused = λ older stood. follows_unread (state_of site older) ended script told fault
ends_by octets script ended told (Err f) says fault refused = (own_fault octets f ended says fault refused, adds_none told)

pub ends_unopened : (site script : Option (List ℕ)) (ended : Status) (told : Option Told) → IsSiteFault ended → ((f : SiteFault) → ended ≡ SiteRefused f → RefusesFile site f) → FollowsOnFile ended site script told told
ends_unopened None script ended told fault refused = tt
ends_unopened (Some octets) None ended told fault refused = tt
ends_unopened (Some octets) (Some text) ended told fault refused = ends_by octets text ended told (site_of octets) refl fault refused

-- nothing was done
kept_untouched : (P : List Entry → List ℕ → Type 0) (told : Option Told) → KeepsFromSync P told told
kept_untouched P None = tt
kept_untouched P (Some told) = inl (adds_none (Some told))

keeps_by : (octets script : List ℕ) (told : Option Told) (says : Result Site SiteFault) → KeepsBehindSite octets says script told told
keeps_by octets script told (Ok site) = λ sender begun stood leads. kept_untouched (LeavesFollower (journal_of site octets) site sender begun) told
keeps_by octets script told (Err f) = adds_none told

pub keeps_unopened : (site script : Option (List ℕ)) (told : Option Told) → KeepsBehindFile site script told told
keeps_unopened None script told = tt
keeps_unopened (Some octets) None told = tt
keeps_unopened (Some octets) (Some text) told = keeps_by octets text told (site_of octets)

module _ (FileFailed : Type 0) where
  opens_by : (octets script : List ℕ) (ended : Status) (told : Option Told) (says : Result Site SiteFault) → site_of octets ≡ says → IsSiteFault ended → ((f : SiteFault) → ended ≡ SiteRefused f → RefusesFile (Some octets) f) → (ended ≡ ReadFault → FileFailed) → GoesOnFromSite FileFailed ended octets says script told told
  opens_by octets script ended told (Ok site) says fault refused file =
      inl (record { unplayed = unplayed_by octets site ended says fault refused; file = file; quiet = emits.nothing told; reopens = reopens_same (journal_of site octets) told })
  opens_by octets script ended told (Err f) says fault refused file = emits.nothing told

  pub opens_unopened : (site script : Option (List ℕ)) (ended : Status) (told : Option Told) → IsSiteFault ended → ((f : SiteFault) → ended ≡ SiteRefused f → RefusesFile site f) → (ended ≡ ReadFault → FileFailed) → GoesOnFromFile FileFailed ended site script told told
  opens_unopened None script ended told fault refused file = tt
  opens_unopened (Some octets) None ended told fault refused file = tt
  opens_unopened (Some octets) (Some text) ended told fault refused file = opens_by octets text ended told (site_of octets) refl fault refused file

  -- what ended before the script was played for nothing of the file's source ended so whatever this has done
  opens_more : (octets script : List ℕ) (ended : Status) (old new : Option Told) (says : Result Site SiteFault) → GoesOnFromSite ⊥ ended octets says script old new → GoesOnFromSite FileFailed ended octets says script old new
  opens_more octets script ended old new (Ok site) (inl ends) = inl (ends_more FileFailed ends)
  opens_more octets script ended old new (Ok site) (inr opened) = inr opened
  opens_more octets script ended old new (Err f) opens = opens

  pub opens_behind : (octets : List ℕ) (script : Option (List ℕ)) (ended : Status) (old new : Option Told) (says : Result Site SiteFault) → IfSome script (λ t. GoesOnFromSite ⊥ ended octets says t old new) → IfSome script (λ t. GoesOnFromSite FileFailed ended octets says t old new)
  opens_behind octets None ended old new says opens = tt
  opens_behind octets (Some t) ended old new says opens = opens_more octets t ended old new says opens

-- of each sender and each script, whatever history there was before it
pub each_leader : {A B C : Type 0} (P : A → Type 0) (Q : B → C → A → Type 0) (script : Option B) → ((c : C) (a : A) → P a → IfSome script (λ t. Q t c a)) → IfSome script (λ t. (c : C) (a : A) → P a → Q t c a)
each_leader P Q None all = tt
each_leader P Q (Some t) all = all
