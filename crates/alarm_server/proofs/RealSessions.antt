-- Sessions over their real ends, where these tell to the end.
use Rattle.std.proofs.Common.{◌≡◌, ◌==◌, ℕ, List, [], Option, Some, None, Result, Ok, Err, length, take, refl, sym, ap, ◌∙◌, subst, inl, inr, arith, cond, Bool, true, false}
use Rattle.ground_io.specs.Disk.{MayLeave}
use Rattle.ground_io.specs.Record.{Supposed, told_by}
use Rattle.ground_io.specs.Trace.{Told}
use Rattle.ground_io.specs.declared.entry.Entry.{Entry}
use Rattle.ground_io.proofs.Crashes.{only_read}
use Rattle.script_lines.specs.Script.{lines_of}
use Rattle.alarm_journal.specs.Journal.{Site as Journal}
use Rattle.alarm_core.specs.declared.event.Event.{Event}
use Rattle.alarm_core.specs.declared.site.Site.{Site}
use Rattle.site_config.specs.declared.fault.SiteFault.{SiteFault}
use Rattle.site_config.specs.Sites.{site_of}
use Rattle.state_codec.specs.Contents.{ImageStands}
use Rattle.state_codec.specs.Emission.{Emits}
use Rattle.state_codec.specs.Keeping.{journal_of}
use Rattle.alarm_server.specs.declared.status.Status.{Status}
use Rattle.alarm_server.specs.declared.status.Status.TheVariants.{Done, Usage, SiteRefused, ScriptRefused, ReadFault, EmitFault, DiskFault, JournalRefused, NoMemory, LinkFault}
use Rattle.alarm_server.specs.Emission.{Ends}
use Rattle.alarm_server.specs.Keeping.{KeepsOpened, LeavesReport}
use Rattle.alarm_server.specs.OnFile.{EndsOnSite, KeepsOnSite}
use Rattle.alarm_server.specs.Openings.{OpensOnSite}
use Rattle.alarm_server.specs.Pieces.{piece_text}
use Rattle.alarm_server.specs.Real.{RunEnds, first_told}
use Rattle.alarm_server.specs.RealLaws.{PlaysFrom, SessionsAreTold, SessionsGoOn, found, script_of}
use Rattle.alarm_server.specs.Report.{history_over, report_of}
use Rattle.alarm_server.specs.Sessions.{session_over}
use Rattle.alarm_server.proofs.KeptLines.{history-none}
use Rattle.alarm_server.proofs.RealCrashes.{left_by}

-- ---- what went out of a report, by how a program ended

pub went : {X : Type 0} (text : X → List ℕ) (status : Status) (pieces : List X) (old new : Option Told) → Ends Emits text status pieces old new → (entries : List Entry) × Emits old new entries
went text Done pieces old new goes = (_, goes)
went text Usage pieces old new goes = (_, goes)
went text (SiteRefused fault) pieces old new goes = (_, goes)
went text (ScriptRefused line) pieces old new goes = (_, goes)
went text ReadFault pieces old new (front, back, whole, goes) = (_, goes)
went text EmitFault pieces old new (front, next, back, whole, goes) = (_, goes)
went text DiskFault pieces old new (front, back, whole, goes) = (_, goes)
went text (JournalRefused fault) pieces old new goes = (_, goes)
went text LinkFault pieces old new goes = (_, goes)
went text NoMemory pieces old new (front, back, whole, goes) = (_, goes)

-- ---- a ground that tells now told before

opened_none : (FileFailed : Type 0) (octets script : List ℕ) (status : Status) (says : Result Site SiteFault) (now : Told) → OpensOnSite FileFailed octets says status script None (Some now) → ⊥
opened_none FileFailed octets script status (Err fault) now (more, adds, are) = adds
opened_none FileFailed octets script status (Ok site) now (inl ends) = let (more, adds, are) = ends.quiet in adds
opened_none FileFailed octets script status (Ok site) now (inr (state, opened, ends)) =
    let (entries, (more, adds, are)) = went piece_text status (session_over state (lines_of script)) None (Some now) ends in
    adds

-- what a ground told at first, by whether the contents were as many as the file's octets
pub data Began (disk : Supposed) (told : Option Told) : Type 0 where
  Not : told ≡ None → Began disk told
  As : told ≡ Some (found disk) → Began disk told

begun_by : (disk : Supposed) (same : Bool) → Began disk (told_by (cond same (Some (record { first = disk.first; trace = []; left = disk.left })) None))
begun_by disk true = As refl
begun_by disk false = Not refl

pub begun_as : (bytes : ℕ) (disk : Supposed) → Began disk (first_told bytes disk)
begun_as bytes disk = begun_by disk (length disk.first == bytes)

-- ---- what is told of a session that is told to the end

module _ (ends : RunEnds) (site : Site) (history : List Event) (status : Status) (now : Told) (stands : ImageStands (journal_of site ends.site) site ends.disk.first history) where
  abbrev first : Option Told
  first = Some (found ends.disk)

  plays : Ends Emits piece_text status (report_of site history ends.script) first (Some now) → KeepsOpened (journal_of site ends.site) site history (script_of ends) 1 first (Some now) → PlaysFrom ends site history status now
  plays report kept =
      let (entries, (more, adds, are)) = went piece_text status (report_of site history ends.script) first (Some now) report in
      record { first = adds.0; report = report; kept = kept }

  on_site : (says : Result Site SiteFault) → says ≡ Ok site → EndsOnSite Emits status ends.site says ends.script first (Some now) → KeepsOnSite ends.site says ends.script first (Some now) → PlaysFrom ends site history status now
  on_site (Err fault) is goes keeps = absurd cc
  on_site (Ok same_site) is goes keeps =
      let same : same_site ≡ site = cc in
      plays
      (subst (λ (s : Site). EndsOnSite Emits status ends.site (Ok s) ends.script first (Some now)) same goes history stands)
      (subst (λ (s : Site). KeepsOnSite ends.site (Ok s) ends.script first (Some now)) same keeps history stands)

  by_first : (FileFailed : Type 0) (old : Option Told) → Began ends.disk old → site_of ends.site ≡ Ok site
      → OpensOnSite FileFailed ends.site (site_of ends.site) status ends.script old (Some now) → EndsOnSite Emits status ends.site (site_of ends.site) ends.script old (Some now) → KeepsOnSite ends.site (site_of ends.site) ends.script old (Some now)
      → PlaysFrom ends site history status now
  by_first FileFailed old (Not is) says opens goes keeps =
      let never : ⊥ = opened_none FileFailed ends.site ends.script status (site_of ends.site) now (subst (λ (o : Option Told). OpensOnSite FileFailed ends.site (site_of ends.site) status ends.script o (Some now)) is opens) in
      absurd never
  by_first FileFailed old (As is) says opens goes keeps =
      on_site (site_of ends.site) says
      (subst (λ (o : Option Told). EndsOnSite Emits status ends.site (site_of ends.site) ends.script o (Some now)) is goes)
      (subst (λ (o : Option Told). KeepsOnSite ends.site (site_of ends.site) ends.script o (Some now)) is keeps)

pub sessions_are_told : SessionsAreTold
sessions_are_told ends site history status now ran holds =
    by_first ends site history status now holds.stands _ (first_told ran.bytes ends.disk) (begun_as ran.bytes ends.disk) holds.is_site
    (rw (ran.text_tells, ran.script_tells, ran.device_tells) at ran.runs.opened)
    (rw (ran.text_tells, ran.script_tells, ran.device_tells) at ran.runs.ends)
    (rw (ran.text_tells, ran.script_tells, ran.device_tells) at ran.runs.keeps)

-- ---- two sessions

module _ (ends : RunEnds) (site : Site) (history : List Event) where
  abbrev journal : Journal
  journal = journal_of site ends.site

  abbrev Leaves : List Entry → List ℕ → Type 0
  Leaves sent image = LeavesReport journal site history (script_of ends) 1 sent image

  -- nothing has come yet
  at_first : (image : List ℕ) → ImageStands journal site ends.disk.first history → MayLeave (record { contents = ends.disk.first; loose = [] }) image → Leaves [] image
  at_first image stands leaves =
      let same : image ≡ ends.disk.first = only_read ends.disk.first image leaves in
      let begun : ImageStands journal site image (history_over site history []) = subst (λ (h : List Event). ImageStands journal site image h) (sym (history-none site history)) (subst (λ (i : List ℕ). ImageStands journal site i history) (sym same) stands) in
      (0, omega arith, (λ line within sent. absurd (omega (arith, sent))), omega arith, begun)

pub sessions_go_on : SessionsGoOn
sessions_go_on ends later site history status status' now now' before behind ran holds crash same_text ran' =
    let played = sessions_are_told ends site history status now ran holds in
    let (count, within, told, few, stands) = left_by (Leaves ends site history) ends.disk now later.disk.first before behind crash (at_first ends site history later.disk.first holds.stands) played.kept in
    let lines = script_of ends in
    let is_site : site_of later.site ≡ Ok site = ap site_of same_text ∙ holds.is_site in
    let found_later : ImageStands (journal_of site later.site) site later.disk.first (history_over site history (take count lines)) =
    subst (λ (t : List ℕ). ImageStands (journal_of site t) site later.disk.first (history_over site history (take count lines))) (sym same_text) stands in
    (count, within, told, sessions_are_told later site (history_over site history (take count lines)) status' now' ran' (record { is_site = is_site; stands = found_later }))
