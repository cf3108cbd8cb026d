-- How far a session has come that keeps its journal.
use Rattle.std.proofs.Common.{◌≡◌, ℕ, ◌+◌, ◌≤◌, Option, Some, None, Ok, Err, Bool, false, List, [], ◌∷◌, ◌++◌, IfSome, length, refl, ap, ◌∙◌, sym, subst, arith}
use Rattle.std.proofs.lemmas.List.{append-nil, length-append}
use Rattle.std.specs.Io.KnownBytes.{prepend_known}
use Rattle.bac_values.specs.declared.report.ReportLine.{ReportLine}
use Rattle.ground_io.specs.declared.entry.Entry.{Entry}
use Rattle.ground_io.specs.Trace.{Told, Adds, WhereTold, still}
use Rattle.script_lines.specs.declared.line.Grammar.TheVariants.{Session}
use Rattle.script_lines.specs.Line.{line_says}
use Rattle.script_lines.specs.declared.line.Line.{Line}
use Rattle.script_lines.specs.declared.lines.LineFault.{LineFault}
use Rattle.script_lines.specs.Script.{lines_of, ReadsLine, TakesLines}
use Rattle.alarm_journal.specs.Journal.{Content}
use Rattle.alarm_journal.specs.Journal.{Site as Journal}
use Rattle.alarm_journal.specs.Press.{Throughout}
use Rattle.alarm_journal.specs.declared.layout.Layout.{Layout}
use Rattle.alarm_core.specs.declared.event.Event.{Event}
use Rattle.alarm_core.specs.declared.site.Site.{Site}
use Rattle.alarm_core.specs.Allowed.{Represents}
use Rattle.alarm_core.specs.State.{CoreState}
use Rattle.alarm_server.specs.declared.emission.Unsent.{Unsent}
use Rattle.alarm_server.specs.declared.emission.Unsent.TheVariants.{Lost, NoMemory}
use Rattle.alarm_server.specs.declared.tally.Tally.{Tally}
use Rattle.state_codec.specs.Emission.{Emits}
use Rattle.alarm_server.specs.Emission.{sent, lost, SendsUpTo}
use Rattle.state_codec.specs.Keeping.{HoldsHistory, Rests}
use Rattle.alarm_server.specs.Keeping.{KeepsLines, KeepsReport}
use Rattle.alarm_server.specs.Pieces.{open_piece, piece_of, piece_text}
use Rattle.alarm_server.specs.Report.{history_over, history_with}
use Rattle.alarm_server.specs.Script.{spelled_in}
use Rattle.alarm_server.specs.Sessions.{pieces_over, state_with}
use Rattle.alarm_server.specs.Tallies.{no_tally, tally_with}
use Rattle.alarm_server.proofs.AtRest.{throughout_now}
use Rattle.alarm_server.proofs.Emitting.{emits, emits_up_to}
use Rattle.alarm_server.proofs.KeptLines.{all_kept, front_kept, history-append, history-none, history-one, lines_then, opened_lines}
use Rattle.alarm_server.proofs.Played.{pieces-first, pieces-none}
use Rattle.alarm_server.proofs.SessionProgress.{begins, begins-lines, front, goes_on, goes_on-lines, Progress, Remains, remains_next}
use Rattle.alarm_server.proofs.Spelled.{spells_none}

-- from a history on: what a crash may leave so far, what the press holds, and what the core represents
pub record Kept (journal : Journal) (site : Site) (history : List Event) (lines : List Line) (old new : Option Told) (layout : Layout) (state : CoreState) : Type 0 where
  pub keeps : KeepsLines journal site history lines 1 old new
  pub holds : HoldsHistory journal site (history_over site history lines) layout new
  pub stands : Represents state (history_over site history lines)

-- these lines were taken, and kept, whatever history there was before them
pub record Plays (start : CoreState) (text come : Option (List ℕ)) (first layout : Layout) (old new : Option Told) (number : ℕ) (ended : Bool) (state : CoreState) (tally : Tally) : Type 0 where
  pub progress : Progress Emits start text come old new number ended state tally
  pub kept : (journal : Journal) (history : List Event) → Represents start history → HoldsHistory journal start.site history first old → Kept journal start.site history progress.lines old new layout state

-- ---- counts of pieces

pieces-length : (lines : List Line) (state : CoreState) → length (pieces_over state lines) ≡ length lines
pieces-length [] state = ap (λ (l : List (List ReportLine)). length l) (pieces-none state)
pieces-length (line ∷ lines) state = ap (λ (l : List (List ReportLine)). length l) (pieces-first state line lines) ∙ omega (arith, pieces-length lines (state_with state line))

sent-length : {X : Type 0} (text : X → List ℕ) (pieces : List X) → length (sent text pieces) ≡ length pieces
sent-length text [] = refl
sent-length text (piece ∷ pieces) = omega (arith, sent-length text pieces)

front-length : (start : CoreState) (lines : List Line) → length (sent piece_text (front start lines)) ≡ 1 + length lines
front-length start lines = sent-length piece_text (front start lines) ∙ omega (arith, pieces-length lines start)

-- of one piece at most one goes out, in part at least
pub few_sent : {X : Type 0} (text : X → List ℕ) (fault : Unsent) (piece : X) (old new : Option Told) → SendsUpTo Adds text fault (piece ∷ []) old new → (gone : List Entry) × Emits old new gone × (length gone ≤ 1)
few_sent text Lost piece old new sends =
    let (front, next, back, whole, goes) = emits_up_to text Lost (piece ∷ []) old new sends in
    (sent text front ++ lost text next, goes, omega (arith, length-append (sent text front) (lost text next), sent-length text front, length-append front (next ∷ back), ap (λ l. length l) whole))
few_sent text NoMemory piece old new sends =
    let (front, back, whole, goes) = emits_up_to text NoMemory (piece ∷ []) old new sends in
    (sent text front, goes, omega (arith, sent-length text front, length-append front back, ap (λ l. length l) whole))

-- ---- before the first line

-- nothing was done yet
pub kept_at_once : (journal : Journal) (site : Site) (history : List Event) (layout : Layout) (told : Option Told) (lines : List Line) → HoldsHistory journal site history layout told → KeepsReport journal site history lines 1 told told
kept_at_once journal site history layout told lines (content, rests, stands) =
    front_kept journal site history [] lines 1 told told
    (opened_lines journal site history content told told [] stands (throughout_now journal content told rests.1) (emits.nothing told) (omega arith))

-- the first piece was in the way
pub kept_at_first : (journal : Journal) (site : Site) (history : List Event) (layout : Layout) (old new : Option Told) (lines : List Line) (fault : Unsent) (piece : List ReportLine) → HoldsHistory journal site history layout old
    → ((content : Content) → Rests journal layout old content → Throughout journal content old new) → SendsUpTo Adds piece_text fault (piece ∷ []) old new → KeepsReport journal site history lines 1 old new
kept_at_first journal site history layout old new lines fault piece (content, rests, stands) throughout sends =
    let (gone, goes, few) = few_sent piece_text fault piece old new sends in
    front_kept journal site history [] lines 1 old new (opened_lines journal site history content old new gone stands (throughout content rests) goes few)

-- ---- line by line

-- behind the first piece
pub plays_first : (start : CoreState) (text : Option (List ℕ)) (first layout : Layout) (old new : Option Told) (tally : Tally) → tally ≡ no_tally → Emits old new (sent piece_text (open_piece start ∷ []))
    → ((journal : Journal) (content : Content) → Rests journal first old content → Throughout journal content old new) → ((journal : Journal) (content : Content) → Rests journal first old content → Rests journal layout new content)
    → Plays start text (prepend_known [] text) first layout old new 0 false start tally
plays_first start text first layout old new tally none opened throughout rests = record {
  progress = begins Emits emits start text old new tally none opened;
  kept = λ journal history stands (content, rest, stood).
      subst (λ (lines : List Line). Kept journal start.site history lines old new layout start) (sym (begins-lines Emits emits start text old new tally none opened))
      (record {
        keeps = opened_lines journal start.site history content old new (sent piece_text (open_piece start ∷ [])) stood (throughout journal content rest) opened (omega arith);
        holds = subst (λ (h : List Event). HoldsHistory journal start.site h layout new) (sym (history-none start.site history)) (content, rests journal content rest, stood);
        stands = subst (λ (h : List Event). Represents start h) (sym (history-none start.site history)) stands;
      });
}

-- what one line more leaves
pub record KeepsLine (site : Site) (state state' : CoreState) (line : Line) (layout layout' : Layout) (new new' : Option Told) : Type 0 where
  pub keeps : (journal : Journal) (history : List Event) → Represents state history → HoldsHistory journal site history layout new → KeepsLines journal site history (line ∷ []) 0 new new'
  pub holds : (journal : Journal) (history : List Event) → Represents state history → HoldsHistory journal site history layout new → HoldsHistory journal site (history_with site history line) layout' new'
  pub stands : (history : List Event) → Represents state history → Represents state' (history_with site history line)

one_more : (journal : Journal) (site : Site) (history : List Event) (start : CoreState) (lines : List Line) (line : Line) (state state' : CoreState) (layout layout' : Layout) (old new new' : Option Told) → Emits old new (sent piece_text (front start lines))
    → Kept journal site history lines old new layout state → KeepsLine site state state' line layout layout' new new' → Kept journal site history (lines ++ line ∷ []) old new' layout' state'
one_more journal site history start lines line state state' layout layout' old new new' out kept next =
    let before = history_over site history lines in
    let after : history_over site history (lines ++ line ∷ []) ≡ history_with site before line = history-append site lines (line ∷ []) history ∙ history-one site before line in
    record {
      keeps = lines_then journal site history lines (line ∷ []) 1 old new new' (sent piece_text (front start lines)) out (front-length start lines) kept.keeps (next.keeps journal before kept.stands kept.holds);
      holds = subst (λ (h : List Event). HoldsHistory journal site h layout' new') (sym after) (next.holds journal before kept.stands kept.holds);
      stands = subst (λ (h : List Event). Represents state' h) (sym after) (next.stands before kept.stands);
    }

-- one more line
pub plays_on : (start : CoreState) (text come come' : Option (List ℕ)) (first layout layout' : Layout) (old new new' : Option Told) (number number' : ℕ) (ended ended' : Bool) (state state' : CoreState) (tally tally' : Tally) (line : Line) → Plays start text come first layout old new number ended state tally → WhereTold come come' (ReadsLine (line_says Session) number number' (Ok (Some line))) →
    (ended' ≡ false → ended ≡ false) → (ended' ≡ false → WhereTold come come' (TakesLines number number')) → state' ≡ state_with state line → tally' ≡ tally_with (piece_of state line) tally → Emits new new' (sent piece_text (piece_of state line ∷ [])) → KeepsLine start.site state state' line layout layout' new new'
    → Plays start text come' first layout' old new' number' ended' state' tally'
plays_on start text come come' first layout layout' old new new' number number' ended ended' state state' tally tally' line p read stays taken moved counts sends next = record {
  progress = goes_on Emits emits start text come come' old new new' number number' ended ended' state state' tally tally' line (piece_of state line) p.progress read stays taken moved refl counts sends;
  kept = λ journal history stands holds.
      subst (λ (lines : List Line). Kept journal start.site history lines old new' layout' state') (sym (goes_on-lines Emits emits start text come come' old new new' number number' ended ended' state state' tally tally' line (piece_of state line) p.progress read stays taken moved refl counts sends))
      (one_more journal start.site history start p.progress.lines line state state' layout layout' old new new' p.progress.out (p.kept journal history stands holds) next);
}

-- ---- a session that ends before its script does, or with it

module _ (start : CoreState) (text come : Option (List ℕ)) (first layout : Layout) (old new : Option Told) (number : ℕ) (ended : Bool) (state : CoreState) (tally : Tally) (p : Plays start text come first layout old new number ended state tally) (journal : Journal) (history : List Event) (stands : Represents start history) (holds : HoldsHistory journal start.site history first old) where
  kept_now : Kept journal start.site history p.progress.lines old new layout state
  kept_now = p.kept journal history stands holds

  -- it ends where a line can't be read
  pub kept_between : (come' : Option (List ℕ)) (number' : ℕ) (fault : LineFault) → WhereTold come come' (ReadsLine (line_says Session) number number' (Err fault)) → IfSome (still text come') (λ t. KeepsReport journal start.site history (spelled_in (line_says Session) 0 (lines_of t)) 1 old new)
  kept_between come' number' fault read = between text come come' p.progress.remains read
    where
      between : (text come come' : Option (List ℕ)) → WhereTold text come (Remains p.progress.lines number) → WhereTold come come' (ReadsLine (line_says Session) number number' (Err fault)) → IfSome (still text come') (λ t. KeepsReport journal start.site history (spelled_in (line_says Session) 0 (lines_of t)) 1 old new)
      between text come None remains read = tt
      between None come (Some rest) remains read = tt
      between (Some t) None (Some rest) remains read = absurd read
      between (Some t) (Some octets) (Some rest) remains read =
          subst (λ (ls : List Line). KeepsReport journal start.site history ls 1 old new) (sym remains.spelled)
          (front_kept journal start.site history p.progress.lines (spelled_in (line_says Session) number (lines_of octets)) 1 old new kept_now.keeps)

  -- a line is in the way, whose event may be kept
  pub kept_at_line : (come' : Option (List ℕ)) (new' : Option Told) (number' : ℕ) (line : Line) → WhereTold come come' (ReadsLine (line_says Session) number number' (Ok (Some line)))
      → ((journal : Journal) (history : List Event) → Represents state history → HoldsHistory journal start.site history layout new → KeepsLines journal start.site history (line ∷ []) 0 new new')
      → IfSome (still text come') (λ t. KeepsReport journal start.site history (spelled_in (line_says Session) 0 (lines_of t)) 1 old new')
  kept_at_line come' new' number' line read next = at_line text come come' p.progress.remains read
    where
      lines : List Line
      lines = p.progress.lines

      keeps : KeepsLines journal start.site history (lines ++ line ∷ []) 1 old new'
      keeps = lines_then journal start.site history lines (line ∷ []) 1 old new new' (sent piece_text (front start lines)) p.progress.out (front-length start lines) kept_now.keeps (next journal (history_over start.site history lines) kept_now.stands kept_now.holds)

      at_line : (text come come' : Option (List ℕ)) → WhereTold text come (Remains lines number) → WhereTold come come' (ReadsLine (line_says Session) number number' (Ok (Some line))) → IfSome (still text come') (λ t. KeepsReport journal start.site history (spelled_in (line_says Session) 0 (lines_of t)) 1 old new')
      at_line text come None remains read = tt
      at_line None come (Some rest) remains read = tt
      at_line (Some t) None (Some rest) remains read = absurd read
      at_line (Some t) (Some octets) (Some rest) remains read =
          let next_remains = remains_next Emits emits lines number number' line t octets rest remains read in
          subst (λ (ls : List Line). KeepsReport journal start.site history ls 1 old new') (sym next_remains.spelled)
          (front_kept journal start.site history (lines ++ line ∷ []) (spelled_in (line_says Session) number' (lines_of rest)) 1 old new' keeps)

  -- the end piece is sent, or is in the way
  pub kept_at_end : (come' : Option (List ℕ)) (new' : Option Told) (number' : ℕ) → WhereTold come come' (ReadsLine (line_says Session) number number' (Ok None)) → ((content : Content) → Rests journal layout new content → Throughout journal content new new')
      → IfSome (still text come') (λ t. KeepsReport journal start.site history (spelled_in (line_says Session) 0 (lines_of t)) 1 old new')
  kept_at_end come' new' number' read throughout = at_end text come come' p.progress.remains read
    where
      lines : List Line
      lines = p.progress.lines

      keeps : KeepsReport journal start.site history lines 1 old new'
      keeps = let (content, rests, stood) = kept_now.holds in all_kept journal start.site history lines 1 content old new new' (sent piece_text (front start lines)) p.progress.out (front-length start lines) stood kept_now.keeps (throughout content rests)

      at_end : (text come come' : Option (List ℕ)) → WhereTold text come (Remains lines number) → WhereTold come come' (ReadsLine (line_says Session) number number' (Ok None)) → IfSome (still text come') (λ t. KeepsReport journal start.site history (spelled_in (line_says Session) 0 (lines_of t)) 1 old new')
      at_end text come None remains read = tt
      at_end None come (Some rest) remains read = tt
      at_end (Some t) None (Some rest) remains read = absurd read
      at_end (Some t) (Some octets) (Some rest) remains read =
          let none = (spells_none (line_says Session) (lines_of octets) number number' read.0).spelled in
          subst (λ (ls : List Line). KeepsReport journal start.site history ls 1 old new') (sym (remains.spelled ∙ (ap (λ (l : List Line). lines ++ l) none ∙ append-nil lines))) keeps
