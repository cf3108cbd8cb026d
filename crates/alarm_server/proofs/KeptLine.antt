-- One line of a session that keeps its journal: its event is committed, and then its piece goes out.
use Rattle.std.proofs.Common.{◌≡◌, ◌≤◌, Option, List, [], ◌∷◌, length, ap, ◌∙◌, sym, subst}
use Rattle.bac_values.specs.declared.report.ReportLine.{ReportLine}
use Rattle.ground_io.specs.declared.entry.Entry.{Entry}
use Rattle.ground_io.specs.Trace.{Told, Adds}
use Rattle.script_lines.specs.declared.line.Line.{Line}
use Rattle.alarm_journal.specs.Journal.{Content}
use Rattle.alarm_journal.specs.Journal.{Site as Journal}
use Rattle.alarm_journal.specs.Press.{Throughout}
use Rattle.alarm_journal.specs.declared.layout.Layout.{Layout}
use Rattle.alarm_core.specs.declared.event.Event.{Event}
use Rattle.alarm_core.specs.declared.site.Site.{Site}
use Rattle.alarm_core.specs.Allowed.{Represents}
use Rattle.alarm_core.specs.State.{CoreState}
use Rattle.service_desk.specs.Answers.{event_of}
use Rattle.alarm_server.specs.declared.emission.Unsent.{Unsent}
use Rattle.state_codec.specs.Emission.{Emits}
use Rattle.alarm_server.specs.Emission.{Ends, sent, SendsUpTo}
use Rattle.state_codec.specs.Keeping.{Commits, HoldsHistory, Rests}
use Rattle.alarm_server.specs.Keeping.{KeepsLines}
use Rattle.alarm_server.specs.Pieces.{answer_for, piece_text}
use Rattle.alarm_server.specs.Report.{history_by, history_with}
use Rattle.alarm_server.specs.Status.{of_unsent}
use Rattle.alarm_server.proofs.Emitting.{emits, emits_sent, emits_up_to}
use Rattle.alarm_server.proofs.KeptLines.{committed, told_line, untouched}
use Rattle.alarm_server.proofs.Sending.{front_then}
use Rattle.alarm_server.proofs.SessionProgress.{ends_front}

-- what holds with a line's event holds with the line
pub with_line : (state state' : CoreState) (line : Line) (event : Option Event) (history : List Event) → Represents state history → event ≡ event_of (answer_for state line) → state'.site ≡ state.site → Represents state' (history_with state.site history line)
    → (P Q : Site → List Event → Type 0) → (Represents state' (history_by history event) → P state'.site history → Q state'.site (history_by history event)) → P state.site history → Q state.site (history_with state.site history line)
with_line state state' line event history stands is own next P Q to p =
    let same : history_by history event ≡ history_with state.site history line = ap (λ (e : Option Event). history_by history e) is ∙ ap (λ (s : CoreState). history_by history (event_of (answer_for s line))) stands.shows in
    let got : Q state'.site (history_by history event) = to (subst (λ (h : List Event). Represents state' h) (sym same) next) (subst (λ (s : Site). P s history) (sym own) p) in
    subst (λ (s : Site). Q s (history_with state.site history line)) own (subst (λ (h : List Event). Q state'.site h) same got)

-- the line wasn't taken
pub not_taken : (journal : Journal) (site : Site) (history : List Event) (layout : Layout) (told : Option Told) (line : Line) → HoldsHistory journal site history layout told → KeepsLines journal site history (line ∷ []) 0 told told
not_taken journal site history layout told line (content, rests, stands) = untouched journal site history (line ∷ []) 0 content told stands rests.1

-- and then its piece goes out, in part at least
pub line_told : (journal : Journal) (site : Site) (history : List Event) (line : Line) (layout : Layout) (old mid new : Option Told) (piece : List Entry) → Commits journal site history (history_with site history line) old mid
    → HoldsHistory journal site (history_with site history line) layout mid → Emits old mid [] → ((content : Content) → Rests journal layout mid content → Throughout journal content mid new) → Emits mid new piece → length piece ≤ 1 → KeepsLines journal site history (line ∷ []) 0 old new
line_told journal site history line layout old mid new piece commits (content, rests, stands) quiet throughout goes few =
    told_line journal site history line content old mid new piece stands (committed journal site history line old mid commits) quiet (throughout content rests) goes few

-- what goes out of the piece
pub line_sent : (piece : List ReportLine) (old mid new : Option Told) → Emits old mid [] → Adds mid new (sent piece_text (piece ∷ [])) → Emits old new (sent piece_text (piece ∷ []))
line_sent piece old mid new quiet sends = emits.followed old mid new [] (sent piece_text (piece ∷ [])) quiet (emits_sent piece_text (piece ∷ []) mid new sends)

pub line_ends : (piece : List ReportLine) (fault : Unsent) (old mid new : Option Told) → Emits old mid [] → SendsUpTo Adds piece_text fault (piece ∷ []) mid new → Ends Emits piece_text (of_unsent fault) (piece ∷ []) old new
line_ends piece fault old mid new quiet sends =
    ends_front Emits emits fault (piece ∷ []) old new (front_then Emits emits piece_text fault old mid new [] (piece ∷ []) quiet (emits_up_to piece_text fault (piece ∷ []) mid new sends))
