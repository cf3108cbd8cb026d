use Rattle.std.proofs.Common.{◌≡◌, ◌∷◌, [], List, Err, ap, subst, ◌∙◌, refl}
use Rattle.ground_io.specs.Trace.{WhereTold, still}
use Rattle.script_lines.specs.declared.line.Grammar.TheVariants.{Session}
use Rattle.script_lines.specs.Line.{line_says}
use Rattle.script_lines.specs.Reading.{octets_to_come}
use Rattle.script_lines.specs.Script.{lines_of, ReadsLine}
use Rattle.alarm_server.specs.declared.status.Status.TheVariants.{ScriptRefused, ReadFault}
use Rattle.alarm_journal.specs.Journal.{Site as Journal}
use Rattle.alarm_core.specs.declared.event.Event.{Event}
use Rattle.alarm_core.specs.declared.site.Site.{Site}
use Rattle.alarm_core.specs.Allowed.{Represents}
use Rattle.state_codec.specs.Keeping.{HoldsHistory}
use Rattle.alarm_server.specs.Keeping.{KeepsLines, KeepsReport}
use Rattle.alarm_server.specs.Pieces.{end_piece, open_piece, piece_of, piece_text}
use Rattle.state_codec.specs.Emission.{Emits}
use Rattle.alarm_server.specs.Script.{spelled_in}
use Rattle.alarm_server.specs.Sessions.{session_over}
use Rattle.alarm_server.specs.Status.{of_line_fault}
use Rattle.alarm_server.proofs.Emitting.{emits, emits_sent, emits_up_to}
use Rattle.alarm_server.proofs.Known.{in_any}
use Rattle.alarm_server.proofs.KeptProgress.{KeepsLine, kept_at_end, kept_at_first, kept_at_line, kept_at_once, kept_between, plays_first, plays_on}
use Rattle.alarm_server.proofs.LineFaults.{ends_script_as, sends_by, way_of}
use Rattle.alarm_server.proofs.Progress.{grammar_fault, read_fault}
use Rattle.alarm_server.proofs.SessionProgress.{accepts, ends, ends_at_end, ends_at_first, ends_at_line, ends_at_piece, reaches, refused_first, stops_reading, tallies}
use Rattle.alarm_server.proofs.Ending.{still_behind}
use Rattle.alarm_server.proofs.session.play_session.Goals as goal

pub returns-in-Err-clause-keeps : goal.returns-in-Err-clause-keeps
returns-in-Err-clause-keeps g c = λ journal history stands holds.
    rw c.into_ground.ensures.same
    (in_any (λ t. KeepsReport journal c.args.core.now.site history (spelled_in (line_says Session) 0 (lines_of t)) 1 (g.G.Ground.told c.args.press.device) (g.G.Ground.told c.args.press.device)) (still (g.T.Source.left c.args.script.now) (g.T.Source.left c.args.script.now))
    (λ t. kept_at_once journal c.args.core.now.site history c.args.press.layout (g.G.Ground.told c.args.press.device) (spelled_in (line_says Session) 0 (lines_of t)) holds))

pub returns-in-Err-begin-clause-ends : goal.returns-in-Err-begin-clause-ends
returns-in-Err-begin-clause-ends g c =
    let old = g.G.Ground.told c.args.press.device in
    let new = g.G.Ground.told c.begin.new.press.device in
    let fault = c.in-Err-begin.unsent in
    rw (c.into_ground-in-Err-begin.ensures.same, c.from.ensures)
    (ends_at_first Emits emits c.args.core.now (still (g.T.Source.left c.args.script.now) (g.T.Source.left c.args.script.now)) old new fault (emits_up_to piece_text fault (open_piece c.args.core.now ∷ []) old new c.in-Err-begin.ensures.sends))

pub returns-in-Err-begin-clause-keeps : goal.returns-in-Err-begin-clause-keeps
returns-in-Err-begin-clause-keeps g c = λ journal history stands holds.
    let old = g.G.Ground.told c.args.press.device in
    let new = g.G.Ground.told c.begin.new.press.device in
    rw c.into_ground-in-Err-begin.ensures.same
    (in_any (λ t. KeepsReport journal c.args.core.now.site history (spelled_in (line_says Session) 0 (lines_of t)) 1 old new) (still (g.T.Source.left c.args.script.now) (g.T.Source.left c.args.script.now))
    (λ t. kept_at_first journal c.args.core.now.site history c.args.press.layout old new (spelled_in (line_says Session) 0 (lines_of t)) c.in-Err-begin.unsent (open_piece c.args.core.now) holds (c.begin.ensures.any_moment journal) c.in-Err-begin.ensures.sends))

pub loop-line-init : goal.loop-line-init
loop-line-init g c =
    rw c.in-Ok.ensures.start
    (record {
      plays = plays_first c.args.core.now (g.T.Source.left c.args.script.now) c.args.press.layout c.begin.new.press.layout (g.G.Ground.told c.args.press.device) (g.G.Ground.told c.begin.new.press.device) c.new-tally.result c.new-tally.ensures.nothing
          (emits_sent piece_text (open_piece c.args.core.now ∷ []) (g.G.Ground.told c.args.press.device) (g.G.Ground.told c.begin.new.press.device) c.in_default.ensures.sends) c.begin.ensures.any_moment c.begin.ensures.rests;
      site = refl;
      grammar = refl;
      source = λ e. absurd cc;
      size = c.begin.ensures.size;
      disk = c.begin.ensures.disk;
      read = refl;
      emitted = c.in_default.ensures.uncounted;
    })

pub returns-in-Err-next_line-clause-ends : goal.returns-in-Err-next_line-clause-ends
returns-in-Err-next_line-clause-ends g c =
    let here = c.loop-line in
    let next = c.next_line.new in
    rw (c.into_ground-in-Err-next_line.ensures.same, c.from-in-Err-next_line.ensures)
    (still_behind (g.T.Source.left c.args.script.now) (g.T.Source.left c.next_line.new.source) c.next_line.new.self.pending _ (ends_at_line Emits emits c.args.core.now (g.T.Source.left c.args.script.now) (octets_to_come here.lines (g.T.Source.left here.script)) (octets_to_come next.self (g.T.Source.left next.source)) (g.G.Ground.told c.args.press.device) (g.G.Ground.told here.press.device) here.lines.number next.self.number here.lines.ended here.core here.tally c.in-Err-next_line.fault here.invariant.plays.progress (rw here.invariant.grammar at c.in-Err-next_line.ensures.line)))

pub returns-in-Err-next_line-clause-keeps : goal.returns-in-Err-next_line-clause-keeps
returns-in-Err-next_line-clause-keeps g c = λ journal history stands holds.
    let here = c.loop-line in
    rw c.into_ground-in-Err-next_line.ensures.same
    (still_behind (g.T.Source.left c.args.script.now) (g.T.Source.left c.next_line.new.source) c.next_line.new.self.pending _ (kept_between c.args.core.now (g.T.Source.left c.args.script.now) (octets_to_come here.lines (g.T.Source.left here.script)) c.args.press.layout here.press.layout (g.G.Ground.told c.args.press.device) (g.G.Ground.told here.press.device) here.lines.number here.lines.ended here.core here.tally here.invariant.plays journal history stands holds (octets_to_come c.next_line.new.self (g.T.Source.left c.next_line.new.source)) c.next_line.new.self.number c.in-Err-next_line.fault (rw here.invariant.grammar at c.in-Err-next_line.ensures.line)))

pub returns-in-Err-next_line-clause-refused : goal.returns-in-Err-next_line-clause-refused
returns-in-Err-next_line-clause-refused g c = λ line e.
    let same : of_line_fault c.in-Err-next_line.fault ≡ ScriptRefused line = cc in
    let fault = grammar_fault c.in-Err-next_line.fault line same in
    let here = c.loop-line in
    let next = c.next_line.new in
    let come = octets_to_come here.lines (g.T.Source.left here.script) in
    let come' = octets_to_come next.self (g.T.Source.left next.source) in
    let read = subst (λ f. WhereTold come come' (ReadsLine (line_says Session) here.lines.number next.self.number (Err f))) fault (rw here.invariant.grammar at c.in-Err-next_line.ensures.line) in
    still_behind (g.T.Source.left c.args.script.now) (g.T.Source.left c.next_line.new.source) c.next_line.new.self.pending _ (refused_first Emits emits c.args.core.now (g.T.Source.left c.args.script.now) come come' (g.G.Ground.told c.args.press.device) (g.G.Ground.told here.press.device) here.lines.number next.self.number here.lines.ended here.core here.tally line here.invariant.plays.progress read)

pub returns-in-Err-next_line-clause-stops : goal.returns-in-Err-next_line-clause-stops
returns-in-Err-next_line-clause-stops g c = λ e.
    let same : of_line_fault c.in-Err-next_line.fault ≡ ReadFault = cc in
    let fault = read_fault c.in-Err-next_line.fault same in
    let here = c.loop-line in
    let next = c.next_line.new in
    let text = g.T.Source.left c.args.script.now in
    let come = octets_to_come here.lines (g.T.Source.left here.script) in
    let come' = octets_to_come next.self (g.T.Source.left next.source) in
    let old = g.G.Ground.told c.args.press.device in
    let mid = g.G.Ground.told here.press.device in
    let read = subst (λ f. WhereTold come come' (ReadsLine (line_says Session) here.lines.number next.self.number (Err f))) fault (rw here.invariant.grammar at c.in-Err-next_line.ensures.line) in
    rw c.into_ground-in-Err-next_line.ensures.same
    (stops_reading Emits emits c.args.core.now text come (g.T.Source.left next.source) next.self.pending old mid here.lines.number next.self.number here.lines.ended next.self.ended here.core here.tally here.invariant.plays.progress read c.next_line.ensures.ended c.next_line.ensures.whole_lines (c.next_line.ensures.waits (c.in-Err-next_line.is ∙ ap Err fault)))

pub returns-in-Err-play_line-clause-ends : goal.returns-in-Err-play_line-clause-ends
returns-in-Err-play_line-clause-ends g c =
    let here = c.loop-line in
    let next = c.next_line.new in
    let text = g.T.Source.left c.args.script.now in
    let come = octets_to_come here.lines (g.T.Source.left here.script) in
    let come' = octets_to_come next.self (g.T.Source.left next.source) in
    let old = g.G.Ground.told c.args.press.device in
    let mid = g.G.Ground.told here.press.device in
    let read = rw (c.in-Ok-Some.field-0-is, here.invariant.grammar) at c.in-Ok-Some.ensures.line in
    let line = c.in-Ok-Some.line in
    let lost = c.in-Err-play_line.status in
    let new = g.G.Ground.told c.in-Err-play_line.device in
    let fault = c.in-Err-play_line.ensures.fault in
    still_behind (g.T.Source.left c.args.script.now) (g.T.Source.left c.next_line.new.source) c.next_line.new.self.pending _ (ends_script_as Emits piece_text lost (λ t. session_over c.args.core.now (lines_of t)) (still text come') old new fault
    (ends_at_piece Emits emits c.args.core.now text come come' old mid new here.lines.number next.self.number here.lines.ended here.core here.tally line (piece_of here.core line) (way_of lost) here.invariant.plays.progress read refl
    (sends_by Emits piece_text lost (piece_of here.core line ∷ []) mid new fault c.in-Err-play_line.ensures.sends)))

pub returns-in-Err-play_line-clause-keeps : goal.returns-in-Err-play_line-clause-keeps
returns-in-Err-play_line-clause-keeps g c = λ journal history stands holds.
    let here = c.loop-line in
    let next = c.next_line.new in
    let text = g.T.Source.left c.args.script.now in
    let come = octets_to_come here.lines (g.T.Source.left here.script) in
    let come' = octets_to_come next.self (g.T.Source.left next.source) in
    let old = g.G.Ground.told c.args.press.device in
    let mid = g.G.Ground.told here.press.device in
    let read = rw (c.in-Ok-Some.field-0-is, here.invariant.grammar) at c.in-Ok-Some.ensures.line in
    still_behind (g.T.Source.left c.args.script.now) (g.T.Source.left c.next_line.new.source) c.next_line.new.self.pending _ (kept_at_line c.args.core.now text come c.args.press.layout here.press.layout old mid here.lines.number here.lines.ended here.core here.tally here.invariant.plays journal history stands holds come' (g.G.Ground.told c.in-Err-play_line.device) next.self.number c.in-Ok-Some.line read
    (subst (λ (s : Site). (journal : Journal) (history : List Event) → Represents here.core history → HoldsHistory journal s history here.press.layout mid → KeepsLines journal s history (c.in-Ok-Some.line ∷ []) 0 mid (g.G.Ground.told c.in-Err-play_line.device)) here.invariant.site c.in-Err-play_line.ensures.keeps))

pub loop-line-preserved : goal.loop-line-preserved
loop-line-preserved g c =
    let here = c.loop-line in
    let next = c.next_line.new in
    let text = g.T.Source.left c.args.script.now in
    let come = octets_to_come here.lines (g.T.Source.left here.script) in
    let come' = octets_to_come next.self (g.T.Source.left next.source) in
    let old = g.G.Ground.told c.args.press.device in
    let mid = g.G.Ground.told here.press.device in
    let new = g.G.Ground.told c.in-Ok-play_line.press.device in
    let read = rw (c.in-Ok-Some.field-0-is, here.invariant.grammar) at c.in-Ok-Some.ensures.line in
    let line = c.in-Ok-Some.line in
    let kept : KeepsLine here.core.site here.core c.play_line.new.core line here.press.layout c.in-Ok-play_line.press.layout mid new = record { keeps = c.in-Ok-play_line.ensures.keeps; holds = c.in-Ok-play_line.ensures.holds; stands = c.in-Ok-play_line.ensures.represents } in
    record {
      plays = plays_on c.args.core.now text come come' c.args.press.layout here.press.layout c.in-Ok-play_line.press.layout old mid new here.lines.number next.self.number here.lines.ended next.self.ended here.core c.play_line.new.core here.tally c.play_line.new.tally line here.invariant.plays read c.next_line.ensures.ended c.next_line.ensures.whole_lines c.in-Ok-play_line.ensures.state c.in-Ok-play_line.ensures.tally c.in-Ok-play_line.ensures.sends
          (subst (λ (s : Site). KeepsLine s here.core c.play_line.new.core line here.press.layout c.in-Ok-play_line.press.layout mid new) here.invariant.site kept);
      site = c.in-Ok-play_line.ensures.site ∙ here.invariant.site;
      grammar = c.next_line.ensures.grammar ∙ here.invariant.grammar;
      source = c.next_line.ensures.source;
      size = c.in-Ok-play_line.ensures.size ∙ here.invariant.size;
      disk = c.in-Ok-play_line.ensures.disk_cause ∙ here.invariant.disk;
      read = c.in-Ok-Some.ensures.uncounted ∙ here.invariant.read;
      emitted = c.in-Ok-play_line.ensures.emit_cause ∙ here.invariant.emitted;
    }

pub loop-line-preserved-in-Ok-play_line : goal.loop-line-preserved-in-Ok-play_line
loop-line-preserved-in-Ok-play_line g c =
    let here = c.loop-line in
    let next = c.next_line.new in
    let text = g.T.Source.left c.args.script.now in
    let come = octets_to_come here.lines (g.T.Source.left here.script) in
    let come' = octets_to_come next.self (g.T.Source.left next.source) in
    let old = g.G.Ground.told c.args.press.device in
    let mid = g.G.Ground.told here.press.device in
    let new = g.G.Ground.told c.in-Ok-play_line.press.device in
    let read = rw (c.in-Ok-Some.field-0-is, here.invariant.grammar) at c.in-Ok-Some.ensures.line in
    let line = c.in-Ok-Some.line in
    let kept : KeepsLine here.core.site here.core c.play_line.new.core line here.press.layout c.in-Ok-play_line.press.layout mid new = record { keeps = c.in-Ok-play_line.ensures.keeps; holds = c.in-Ok-play_line.ensures.holds; stands = c.in-Ok-play_line.ensures.represents } in
    record {
      plays = plays_on c.args.core.now text come come' c.args.press.layout here.press.layout c.in-Ok-play_line.press.layout old mid new here.lines.number next.self.number here.lines.ended next.self.ended here.core c.play_line.new.core here.tally c.play_line.new.tally line here.invariant.plays read c.next_line.ensures.ended c.next_line.ensures.whole_lines c.in-Ok-play_line.ensures.state c.in-Ok-play_line.ensures.tally c.in-Ok-play_line.ensures.sends
          (subst (λ (s : Site). KeepsLine s here.core c.play_line.new.core line here.press.layout c.in-Ok-play_line.press.layout mid new) here.invariant.site kept);
      site = c.in-Ok-play_line.ensures.site ∙ here.invariant.site;
      grammar = c.next_line.ensures.grammar ∙ here.invariant.grammar;
      source = c.next_line.ensures.source;
      size = c.in-Ok-play_line.ensures.size ∙ here.invariant.size;
      disk = c.in-Ok-play_line.ensures.disk_cause ∙ here.invariant.disk;
      read = c.in-Ok-Some.ensures.uncounted ∙ here.invariant.read;
      emitted = c.in-Ok-play_line.ensures.emit_cause ∙ here.invariant.emitted;
    }

pub loop-line-preserved-in-Ok-play_line-2 : goal.loop-line-preserved-in-Ok-play_line-2
loop-line-preserved-in-Ok-play_line-2 g c =
    let here = c.loop-line in
    let next = c.next_line.new in
    let text = g.T.Source.left c.args.script.now in
    let come = octets_to_come here.lines (g.T.Source.left here.script) in
    let come' = octets_to_come next.self (g.T.Source.left next.source) in
    let old = g.G.Ground.told c.args.press.device in
    let mid = g.G.Ground.told here.press.device in
    let new = g.G.Ground.told c.in-Ok-play_line.press.device in
    let read = rw (c.in-Ok-Some.field-0-is, here.invariant.grammar) at c.in-Ok-Some.ensures.line in
    let line = c.in-Ok-Some.line in
    let kept : KeepsLine here.core.site here.core c.play_line.new.core line here.press.layout c.in-Ok-play_line.press.layout mid new = record { keeps = c.in-Ok-play_line.ensures.keeps; holds = c.in-Ok-play_line.ensures.holds; stands = c.in-Ok-play_line.ensures.represents } in
    record {
      plays = plays_on c.args.core.now text come come' c.args.press.layout here.press.layout c.in-Ok-play_line.press.layout old mid new here.lines.number next.self.number here.lines.ended next.self.ended here.core c.play_line.new.core here.tally c.play_line.new.tally line here.invariant.plays read c.next_line.ensures.ended c.next_line.ensures.whole_lines c.in-Ok-play_line.ensures.state c.in-Ok-play_line.ensures.tally c.in-Ok-play_line.ensures.sends
          (subst (λ (s : Site). KeepsLine s here.core c.play_line.new.core line here.press.layout c.in-Ok-play_line.press.layout mid new) here.invariant.site kept);
      site = c.in-Ok-play_line.ensures.site ∙ here.invariant.site;
      grammar = c.next_line.ensures.grammar ∙ here.invariant.grammar;
      source = c.next_line.ensures.source;
      size = c.in-Ok-play_line.ensures.size ∙ here.invariant.size;
      disk = c.in-Ok-play_line.ensures.disk_cause ∙ here.invariant.disk;
      read = c.in-Ok-Some.ensures.uncounted ∙ here.invariant.read;
      emitted = c.in-Ok-play_line.ensures.emit_cause ∙ here.invariant.emitted;
    }

pub loop-line-preserved-in-Ok-play_line-3 : goal.loop-line-preserved-in-Ok-play_line-3
loop-line-preserved-in-Ok-play_line-3 g c =
    let here = c.loop-line in
    let next = c.next_line.new in
    let text = g.T.Source.left c.args.script.now in
    let come = octets_to_come here.lines (g.T.Source.left here.script) in
    let come' = octets_to_come next.self (g.T.Source.left next.source) in
    let old = g.G.Ground.told c.args.press.device in
    let mid = g.G.Ground.told here.press.device in
    let new = g.G.Ground.told c.in-Ok-play_line.press.device in
    let read = rw (c.in-Ok-Some.field-0-is, here.invariant.grammar) at c.in-Ok-Some.ensures.line in
    let line = c.in-Ok-Some.line in
    let kept : KeepsLine here.core.site here.core c.play_line.new.core line here.press.layout c.in-Ok-play_line.press.layout mid new = record { keeps = c.in-Ok-play_line.ensures.keeps; holds = c.in-Ok-play_line.ensures.holds; stands = c.in-Ok-play_line.ensures.represents } in
    record {
      plays = plays_on c.args.core.now text come come' c.args.press.layout here.press.layout c.in-Ok-play_line.press.layout old mid new here.lines.number next.self.number here.lines.ended next.self.ended here.core c.play_line.new.core here.tally c.play_line.new.tally line here.invariant.plays read c.next_line.ensures.ended c.next_line.ensures.whole_lines c.in-Ok-play_line.ensures.state c.in-Ok-play_line.ensures.tally c.in-Ok-play_line.ensures.sends
          (subst (λ (s : Site). KeepsLine s here.core c.play_line.new.core line here.press.layout c.in-Ok-play_line.press.layout mid new) here.invariant.site kept);
      site = c.in-Ok-play_line.ensures.site ∙ here.invariant.site;
      grammar = c.next_line.ensures.grammar ∙ here.invariant.grammar;
      source = c.next_line.ensures.source;
      size = c.in-Ok-play_line.ensures.size ∙ here.invariant.size;
      disk = c.in-Ok-play_line.ensures.disk_cause ∙ here.invariant.disk;
      read = c.in-Ok-Some.ensures.uncounted ∙ here.invariant.read;
      emitted = c.in-Ok-play_line.ensures.emit_cause ∙ here.invariant.emitted;
    }

pub returns-in-Ok-end-clause-ends : goal.returns-in-Ok-end-clause-ends
returns-in-Ok-end-clause-ends g c =
    let here = c.loop-line in
    let next = c.next_line.new in
    let text = g.T.Source.left c.args.script.now in
    let come = octets_to_come here.lines (g.T.Source.left here.script) in
    let come' = octets_to_come next.self (g.T.Source.left next.source) in
    let old = g.G.Ground.told c.args.press.device in
    let mid = g.G.Ground.told here.press.device in
    let read = rw (c.in-Ok-None.field-0-is, here.invariant.grammar) at c.in-Ok-None.ensures.line in
    let new = g.G.Ground.told c.end.new.press.device in
    rw c.into_ground-in-Ok-end.ensures.same
    (still_behind (g.T.Source.left c.args.script.now) (g.T.Source.left c.next_line.new.source) c.next_line.new.self.pending _ (ends Emits emits c.args.core.now text come come' old mid new here.lines.number next.self.number here.lines.ended here.core here.tally (end_piece c.count.result here.core) here.invariant.plays.progress read (ap (λ n. end_piece n here.core) c.count.ensures.number)
    (emits_sent piece_text (end_piece c.count.result here.core ∷ []) mid new c.in-Ok-end.ensures.sends)))

pub returns-in-Ok-end-clause-tally : goal.returns-in-Ok-end-clause-tally
returns-in-Ok-end-clause-tally g c =
    let here = c.loop-line in
    let next = c.next_line.new in
    let text = g.T.Source.left c.args.script.now in
    let come = octets_to_come here.lines (g.T.Source.left here.script) in
    let come' = octets_to_come next.self (g.T.Source.left next.source) in
    let old = g.G.Ground.told c.args.press.device in
    let mid = g.G.Ground.told here.press.device in
    let read = rw (c.in-Ok-None.field-0-is, here.invariant.grammar) at c.in-Ok-None.ensures.line in
    let new = g.G.Ground.told c.end.new.press.device in
    still_behind (g.T.Source.left c.args.script.now) (g.T.Source.left c.next_line.new.source) c.next_line.new.self.pending _ (tallies Emits emits c.args.core.now text come come' old mid here.lines.number next.self.number here.lines.ended here.core here.tally here.invariant.plays.progress read)

pub returns-in-Ok-end-clause-state : goal.returns-in-Ok-end-clause-state
returns-in-Ok-end-clause-state g c =
    let here = c.loop-line in
    let next = c.next_line.new in
    let text = g.T.Source.left c.args.script.now in
    let come = octets_to_come here.lines (g.T.Source.left here.script) in
    let come' = octets_to_come next.self (g.T.Source.left next.source) in
    let old = g.G.Ground.told c.args.press.device in
    let mid = g.G.Ground.told here.press.device in
    let read = rw (c.in-Ok-None.field-0-is, here.invariant.grammar) at c.in-Ok-None.ensures.line in
    let new = g.G.Ground.told c.end.new.press.device in
    still_behind (g.T.Source.left c.args.script.now) (g.T.Source.left c.next_line.new.source) c.next_line.new.self.pending _ (reaches Emits emits c.args.core.now text come come' old mid here.lines.number next.self.number here.lines.ended here.core here.tally here.invariant.plays.progress read)

pub returns-in-Ok-end-clause-accepted : goal.returns-in-Ok-end-clause-accepted
returns-in-Ok-end-clause-accepted g c =
    let here = c.loop-line in
    let next = c.next_line.new in
    let text = g.T.Source.left c.args.script.now in
    let come = octets_to_come here.lines (g.T.Source.left here.script) in
    let come' = octets_to_come next.self (g.T.Source.left next.source) in
    let old = g.G.Ground.told c.args.press.device in
    let mid = g.G.Ground.told here.press.device in
    let read = rw (c.in-Ok-None.field-0-is, here.invariant.grammar) at c.in-Ok-None.ensures.line in
    let new = g.G.Ground.told c.end.new.press.device in
    still_behind (g.T.Source.left c.args.script.now) (g.T.Source.left c.next_line.new.source) c.next_line.new.self.pending _ (accepts Emits emits c.args.core.now text come come' old mid here.lines.number next.self.number here.lines.ended here.core here.tally here.invariant.plays.progress read)

pub returns-in-Ok-end-clause-keeps : goal.returns-in-Ok-end-clause-keeps
returns-in-Ok-end-clause-keeps g c = λ journal history stands holds.
    let here = c.loop-line in
    let next = c.next_line.new in
    let text = g.T.Source.left c.args.script.now in
    let come = octets_to_come here.lines (g.T.Source.left here.script) in
    let come' = octets_to_come next.self (g.T.Source.left next.source) in
    let old = g.G.Ground.told c.args.press.device in
    let mid = g.G.Ground.told here.press.device in
    let read = rw (c.in-Ok-None.field-0-is, here.invariant.grammar) at c.in-Ok-None.ensures.line in
    let new = g.G.Ground.told c.end.new.press.device in
    rw c.into_ground-in-Ok-end.ensures.same
    (still_behind (g.T.Source.left c.args.script.now) (g.T.Source.left c.next_line.new.source) c.next_line.new.self.pending _ (kept_at_end c.args.core.now text come c.args.press.layout here.press.layout old mid here.lines.number here.lines.ended here.core here.tally here.invariant.plays journal history stands holds come' new next.self.number read (c.end.ensures.any_moment journal)))

pub returns-clause-ends : goal.returns-clause-ends
returns-clause-ends g c =
    let here = c.loop-line in
    let next = c.next_line.new in
    let text = g.T.Source.left c.args.script.now in
    let come = octets_to_come here.lines (g.T.Source.left here.script) in
    let come' = octets_to_come next.self (g.T.Source.left next.source) in
    let old = g.G.Ground.told c.args.press.device in
    let mid = g.G.Ground.told here.press.device in
    let read = rw (c.in-Ok-None.field-0-is, here.invariant.grammar) at c.in-Ok-None.ensures.line in
    let new = g.G.Ground.told c.end.new.press.device in
    let fault = c.in-Err-end.unsent in
    rw (c.into_ground-in-Err-end.ensures.same, c.from-in-Err-end.ensures)
    (still_behind (g.T.Source.left c.args.script.now) (g.T.Source.left c.next_line.new.source) c.next_line.new.self.pending _ (ends_at_end Emits emits c.args.core.now text come come' old mid new here.lines.number next.self.number here.lines.ended here.core here.tally (end_piece c.count.result here.core) fault here.invariant.plays.progress read (ap (λ n. end_piece n here.core) c.count.ensures.number)
    (emits_up_to piece_text fault (end_piece c.count.result here.core ∷ []) mid new c.in-Err-end.ensures.sends)))

pub returns-clause-keeps : goal.returns-clause-keeps
returns-clause-keeps g c = λ journal history stands holds.
    let here = c.loop-line in
    let next = c.next_line.new in
    let text = g.T.Source.left c.args.script.now in
    let come = octets_to_come here.lines (g.T.Source.left here.script) in
    let come' = octets_to_come next.self (g.T.Source.left next.source) in
    let old = g.G.Ground.told c.args.press.device in
    let mid = g.G.Ground.told here.press.device in
    let read = rw (c.in-Ok-None.field-0-is, here.invariant.grammar) at c.in-Ok-None.ensures.line in
    let new = g.G.Ground.told c.end.new.press.device in
    rw c.into_ground-in-Err-end.ensures.same
    (still_behind (g.T.Source.left c.args.script.now) (g.T.Source.left c.next_line.new.source) c.next_line.new.self.pending _ (kept_at_end c.args.core.now text come c.args.press.layout here.press.layout old mid here.lines.number here.lines.ended here.core here.tally here.invariant.plays journal history stands holds come' new next.self.number read (c.end.ensures.any_moment journal)))
