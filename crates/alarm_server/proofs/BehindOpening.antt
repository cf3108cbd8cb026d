-- A session behind the opening of its journal, at which nothing goes out.
use Rattle.std.proofs.Common.{◌≡◌, ℕ, Option, Some, None, Ok, List, [], ◌++◌, IfSome, refl, sym, subst, inl, inr}
use Rattle.ground_io.specs.declared.entry.Entry.{Entry}
use Rattle.ground_io.specs.Trace.{Told, WhereTold}
use Rattle.script_lines.specs.declared.line.Grammar.TheVariants.{Session}
use Rattle.script_lines.specs.Line.{line_says}
use Rattle.script_lines.specs.Script.{lines_of}
use Rattle.alarm_journal.specs.Journal.{Site as Journal}
use Rattle.alarm_journal.specs.Press.{Reopens, ReopensSynced}
use Rattle.alarm_journal.specs.declared.layout.Layout.{Layout}
use Rattle.alarm_journal.specs.declared.open_fault.OpenFault.{OpenFault}
use Rattle.alarm_journal.specs.declared.open_fault.OpenFault.TheVariants as open_fault
use Rattle.alarm_core.specs.declared.event.Event.{Event}
use Rattle.alarm_core.specs.declared.site.Site.{Site}
use Rattle.alarm_core.specs.Allowed.{Represents}
use Rattle.alarm_core.specs.Sites.{IsSite}
use Rattle.alarm_core.specs.State.{CoreState}
use Rattle.alarm_server.specs.declared.status.Status.{Status}
use Rattle.alarm_server.specs.declared.status.Status.TheVariants.{Done, Usage, SiteRefused, ScriptRefused, ReadFault, EmitFault, DiskFault, JournalRefused, NoMemory, LinkFault}
use Rattle.state_codec.specs.Emission.{Emits}
use Rattle.alarm_server.specs.Emission.{Ends, lost, sent}
use Rattle.state_codec.specs.Keeping.{HoldsHistory, StoodFor, journal_of}
use Rattle.state_codec.specs.Openings.{OpenedTo}
use Rattle.alarm_server.specs.Openings.{IsUnplayed, OpensOnSite}
use Rattle.alarm_server.specs.Keeping.{KeepsOpened, KeepsReport}
use Rattle.alarm_server.specs.Pieces.{piece_text}
use Rattle.alarm_server.specs.Report.{front_pieces, report_of}
use Rattle.alarm_server.specs.Script.{spelled_in}
use Rattle.alarm_server.specs.Sessions.{session_over, state_front}
use Rattle.alarm_server.specs.Status.{of_open_fault}
use Rattle.alarm_server.specs.Stopping.{StopsReading}
use Rattle.alarm_server.proofs.ByHistory.{reports, stops_by_history}
use Rattle.alarm_server.proofs.Emitting.{emits}
use Rattle.alarm_server.proofs.KeptOpenings.{session_kept}

-- what tells behind some emissions told before them
tells_before : (journal : Journal) (site : Site) (history : List Event) (old mid new : Option Told) (entries : List Entry) → Emits mid new entries → StoodFor journal site history old new → StoodFor journal site history old mid
tells_before journal site history None mid new entries goes stood = stood
tells_before journal site history (Some old) mid None entries goes stood = absurd stood
tells_before journal site history (Some old) None (Some new) entries (more, adds, are) stood = absurd adds
tells_before journal site history (Some old) (Some mid) (Some new) entries goes stood = stood

opened_before : (site : Site) (octets : List ℕ) (state : CoreState) (old mid new : Option Told) (entries : List Entry) → Emits mid new entries → OpenedTo site octets old mid state → OpenedTo site octets old new state
opened_before site octets state None mid new entries goes opened = tt
opened_before site octets state (Some old) mid None entries goes opened = tt
opened_before site octets state (Some old) None (Some new) entries (more, adds, are) opened = absurd adds
opened_before site octets state (Some old) (Some mid) (Some new) entries goes opened = opened

-- a journal that isn't opened ends a session before its script is played
pub unplayed : (fault : OpenFault) → IsUnplayed (of_open_fault fault)
unplayed open_fault.DiskFault = tt
unplayed (open_fault.SmallDevice size need) = tt
unplayed (open_fault.Foreign at) = tt
unplayed (open_fault.Damaged at) = tt
unplayed open_fault.NoMemory = tt

-- no call for octets of a script failed
pub no_read : (fault : OpenFault) → of_open_fault fault ≡ ReadFault → ⊥
no_read open_fault.DiskFault same = absurd cc
no_read (open_fault.SmallDevice size need) same = absurd cc
no_read (open_fault.Foreign at) same = absurd cc
no_read (open_fault.Damaged at) same = absurd cc
no_read open_fault.NoMemory same = absurd cc

module _ {X : Type 0} (text : X → List ℕ) where
  pub tells_ended : (journal : Journal) (site : Site) (history : List Event) (ended : Status) (pieces : List X) (old mid new : Option Told) → Ends Emits text ended pieces mid new → StoodFor journal site history old new → StoodFor journal site history old mid
  tells_ended journal site history Done pieces old mid new goes = tells_before journal site history old mid new (sent text pieces) goes
  tells_ended journal site history Usage pieces old mid new goes = tells_before journal site history old mid new [] goes
  tells_ended journal site history (SiteRefused fault) pieces old mid new goes = tells_before journal site history old mid new [] goes
  tells_ended journal site history (ScriptRefused line) pieces old mid new goes = tells_before journal site history old mid new (sent text pieces) goes
  tells_ended journal site history ReadFault pieces old mid new (front, back, whole, goes) = tells_before journal site history old mid new (sent text front) goes
  tells_ended journal site history EmitFault pieces old mid new (front, next, back, whole, goes) = tells_before journal site history old mid new (sent text front ++ lost text next) goes
  tells_ended journal site history DiskFault pieces old mid new (front, back, whole, goes) = tells_before journal site history old mid new (sent text front) goes
  tells_ended journal site history (JournalRefused fault) pieces old mid new goes = tells_before journal site history old mid new [] goes
  tells_ended journal site history LinkFault pieces old mid new goes = tells_before journal site history old mid new [] goes
  tells_ended journal site history NoMemory pieces old mid new (front, back, whole, goes) = tells_before journal site history old mid new (sent text front) goes

  -- what was opened before some emissions was opened before them, where it still tells
  pub opened_ended : (site : Site) (octets : List ℕ) (state : CoreState) (ended : Status) (pieces : List X) (old mid new : Option Told) → Ends Emits text ended pieces mid new → OpenedTo site octets old mid state → OpenedTo site octets old new state
  opened_ended site octets state Done pieces old mid new goes = opened_before site octets state old mid new (sent text pieces) goes
  opened_ended site octets state Usage pieces old mid new goes = opened_before site octets state old mid new [] goes
  opened_ended site octets state (SiteRefused fault) pieces old mid new goes = opened_before site octets state old mid new [] goes
  opened_ended site octets state (ScriptRefused line) pieces old mid new goes = opened_before site octets state old mid new (sent text pieces) goes
  opened_ended site octets state ReadFault pieces old mid new (front, back, whole, goes) = opened_before site octets state old mid new (sent text front) goes
  opened_ended site octets state EmitFault pieces old mid new (front, next, back, whole, goes) = opened_before site octets state old mid new (sent text front ++ lost text next) goes
  opened_ended site octets state DiskFault pieces old mid new (front, back, whole, goes) = opened_before site octets state old mid new (sent text front) goes
  opened_ended site octets state (JournalRefused fault) pieces old mid new goes = opened_before site octets state old mid new [] goes
  opened_ended site octets state LinkFault pieces old mid new goes = opened_before site octets state old mid new [] goes
  opened_ended site octets state NoMemory pieces old mid new (front, back, whole, goes) = opened_before site octets state old mid new (sent text front) goes

  -- what goes out behind the opening is all that goes out
  ends_behind : (ended : Status) (pieces : List X) (old mid new : Option Told) → Emits old mid [] → Ends Emits text ended pieces mid new → Ends Emits text ended pieces old new
  ends_behind Done pieces old mid new quiet goes = emits.followed old mid new [] (sent text pieces) quiet goes
  ends_behind Usage pieces old mid new quiet goes = emits.followed old mid new [] [] quiet goes
  ends_behind (SiteRefused fault) pieces old mid new quiet goes = emits.followed old mid new [] [] quiet goes
  ends_behind (ScriptRefused line) pieces old mid new quiet goes = emits.followed old mid new [] (sent text pieces) quiet goes
  ends_behind ReadFault pieces old mid new quiet (front, back, whole, goes) = (front, back, whole, emits.followed old mid new [] (sent text front) quiet goes)
  ends_behind EmitFault pieces old mid new quiet (front, next, back, whole, goes) = (front, next, back, whole, emits.followed old mid new [] (sent text front ++ lost text next) quiet goes)
  ends_behind DiskFault pieces old mid new quiet (front, back, whole, goes) = (front, back, whole, emits.followed old mid new [] (sent text front) quiet goes)
  ends_behind (JournalRefused fault) pieces old mid new quiet goes = emits.followed old mid new [] [] quiet goes
  ends_behind LinkFault pieces old mid new quiet goes = emits.followed old mid new [] [] quiet goes
  ends_behind NoMemory pieces old mid new quiet (front, back, whole, goes) = (front, back, whole, emits.followed old mid new [] (sent text front) quiet goes)

  -- a journal that isn't opened
  pub ends_refused : (fault : OpenFault) (pieces : List X) (old new : Option Told) → Emits old new [] → Ends Emits text (of_open_fault fault) pieces old new
  ends_refused open_fault.DiskFault pieces old new quiet = ([], pieces, refl, quiet)
  ends_refused (open_fault.SmallDevice size need) pieces old new quiet = quiet
  ends_refused (open_fault.Foreign at) pieces old new quiet = quiet
  ends_refused (open_fault.Damaged at) pieces old new quiet = quiet
  ends_refused open_fault.NoMemory pieces old new quiet = ([], pieces, refl, quiet)

-- ---- a session behind it

-- its report goes on from the state to which the octets lead
pub opens_session : (site : Site) (octets : List ℕ) (core : CoreState) (ended : Status) (old mid new : Option Told) (text : Option (List ℕ)) → Emits old mid [] → OpenedTo site octets old mid core → IfSome text (λ t. Ends Emits piece_text ended (session_over core (lines_of t)) mid new)
    → IfSome text (λ t. OpensOnSite ⊥ octets (Ok site) ended t old new)
opens_session site octets core ended old mid new None quiet opened ends = tt
opens_session site octets core ended old mid new (Some t) quiet opened ends =
    let pieces = session_over core (lines_of t) in
    inr (core, opened_ended piece_text site octets core ended pieces old mid new ends opened, ends_behind piece_text ended pieces old mid new quiet ends)

-- the journal wasn't opened
pub opens_refused : (site : Site) (octets : List ℕ) (fault : OpenFault) (old new : Option Told) (text : Option (List ℕ)) → Emits old new [] → Reopens (journal_of site octets) old new → IfSome text (λ t. OpensOnSite ⊥ octets (Ok site) (of_open_fault fault) t old new)
opens_refused site octets fault old new None quiet reopens = tt
opens_refused site octets fault old new (Some t) quiet reopens = inl (record { unplayed = unplayed fault; file = no_read fault; quiet = quiet; reopens = reopens })

module _ (journal : Journal) (site : Site) (is : IsSite site) (core : CoreState) (own : core.site ≡ site) (layout : Layout) (history : List Event) (ended : Status) (old mid new : Option Told) (stood : StoodFor journal site history old new) (quiet : Emits old mid []) (represents : StoodFor journal site history old mid → Represents core history) where
  -- its report goes on from the history
  pub ends_session : (text : Option (List ℕ)) → IfSome text (λ t. Ends Emits piece_text ended (session_over core (lines_of t)) mid new) → IfSome text (λ t. Ends Emits piece_text ended (report_of site history t) old new)
  ends_session None ends = tt
  ends_session (Some t) ends =
      let stands = represents (tells_ended piece_text journal site history ended (session_over core (lines_of t)) old mid new ends stood) in
      ends_behind piece_text ended (report_of site history t) old mid new quiet (subst (λ ps. Ends Emits piece_text ended ps mid new) (reports site is history core stands own t) ends)

  pub stops_session : (text left : Option (List ℕ)) → WhereTold text left (λ t rest. StopsReading Emits piece_text (state_front core) (line_says Session) t rest mid new) → WhereTold text left (λ t rest. StopsReading Emits piece_text (front_pieces site history) (line_says Session) t rest old new)
  stops_session text None stops = tt
  stops_session None (Some rest) stops = absurd stops
  stops_session (Some t) (Some rest) stops =
      let stands = represents (tells_before journal site history old mid new (sent piece_text (state_front core stops.whole)) stops.emitted stood) in
      let by = stops_by_history site is history core stands own Emits t rest mid new stops in
      record {
        whole = by.whole;
        begun = by.begun;
        read = by.read;
        whole_lines = by.whole_lines;
        accepted = by.accepted;
        no_line_feed = by.no_line_feed;
        emitted = emits.followed old mid new [] (sent piece_text (front_pieces site history by.whole)) quiet by.emitted;
      }

  -- and it keeps the history and the events of some lines
  pub keeps_session : (text : Option (List ℕ)) → ReopensSynced journal old mid → (StoodFor journal site history old mid → HoldsHistory journal site history layout mid) → IfSome text (λ t. Ends Emits piece_text ended (session_over core (lines_of t)) mid new)
      → (Represents core history → HoldsHistory journal core.site history layout mid → IfSome text (λ t. KeepsReport journal core.site history (spelled_in (line_says Session) 0 (lines_of t)) 1 mid new))
      → IfSome text (λ t. KeepsOpened journal site history (spelled_in (line_says Session) 0 (lines_of t)) 1 old new)
  keeps_session None synced holds ends keeps = tt
  keeps_session (Some t) synced holds ends keeps =
      let stood_mid = tells_ended piece_text journal site history ended (session_over core (lines_of t)) old mid new ends stood in
      let held = subst (λ (s : Site). HoldsHistory journal s history layout mid) (sym own) (holds stood_mid) in
      let kept = subst (λ (s : Site). KeepsReport journal s history (spelled_in (line_says Session) 0 (lines_of t)) 1 mid new) own (keeps (represents stood_mid) held) in
      behind old mid new synced stood_mid kept
    where
      behind : (old mid new : Option Told) → ReopensSynced journal old mid → StoodFor journal site history old mid → KeepsReport journal site history (spelled_in (line_says Session) 0 (lines_of t)) 1 mid new → KeepsOpened journal site history (spelled_in (line_says Session) 0 (lines_of t)) 1 old new
      behind None mid new synced stood kept = absurd stood
      behind (Some old) None new synced stood kept = absurd stood
      behind (Some old) (Some mid) new synced stood kept = session_kept journal site history (spelled_in (line_says Session) 0 (lines_of t)) 1 old mid new stood synced kept
