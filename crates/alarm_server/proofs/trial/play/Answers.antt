use Rattle.std.proofs.Common.{◌≡◌, ◌∷◌, [], Err, ap, subst, ◌∙◌, arith, refl}
use Rattle.script_lines.specs.Report.{report_text}
use Rattle.std.proofs.lemmas.Result.{err_from_is_err_and}
use Rattle.bac_values.specs.declared.report.ReportLine.TheVariants.{TrialEnd}
use Rattle.ground_io.specs.Trace.{Adds, WhereTold}
use Rattle.script_lines.specs.declared.line.Grammar.TheVariants.{Trial}
use Rattle.script_lines.specs.Line.{line_says}
use Rattle.script_lines.specs.Reading.{octets_to_come}
use Rattle.script_lines.specs.Script.{ReadsLine}
use Rattle.alarm_server.specs.declared.status.Status.TheVariants.{ScriptRefused, ReadFault}
use Rattle.alarm_server.specs.Emission.{SendsUpTo, sent}
use Rattle.alarm_server.specs.Status.{of_line_fault}
use Rattle.alarm_server.specs.Trial.{first_point}
use Rattle.alarm_server.proofs.Progress.{accepts, begins, ends_at_line, refused_first, grammar_fault, read_fault, ends_at_event, goes_on, ends, ends_at_end, stops_reading}
use Rattle.alarm_server.proofs.Ending.{still_behind}
use Rattle.alarm_server.proofs.trial.play.Goals as goal

pub loop-lines-init : goal.loop-lines-init
loop-lines-init g c =
    let told = g.G.Ground.told c.args.device.now in
    rw c.in_ok-lines.ensures.start
    (record {
      progress = begins c.args.settings (g.T.Source.left c.args.script.now) told c.start-watch.result c.start-watch.ensures.first;
      grammar = refl;
      source = λ e. absurd cc;
      size = refl;
      disk = refl;
      read = omega arith;
      emitted = omega arith;
    })

pub returns-in_err-line-clause-ends : goal.returns-in_err-line-clause-ends
returns-in_err-line-clause-ends g c =
    let p = err_from_is_err_and c.from_residual-in_err-line.result c.from_residual-in_err-line.ensures.1 in
    let here = c.loop-lines in
    let next = c.next_line.new in
    rw (p.1, p.2)
    (still_behind (g.T.Source.left c.args.script.now) (g.T.Source.left c.next_line.new.source) c.next_line.new.self.pending _ (ends_at_line c.args.settings (g.T.Source.left c.args.script.now) (octets_to_come here.lines (g.T.Source.left here.script)) (octets_to_come next.self (g.T.Source.left next.source)) (g.G.Ground.told c.args.device.now) (g.G.Ground.told here.device) here.lines.number next.self.number here.lines.ended here.watch c.in_err-line.field-0.0 here.invariant.progress (rw here.invariant.grammar at c.in_err-line.ensures.line)))

pub returns-in_err-line-clause-refused : goal.returns-in_err-line-clause-refused
returns-in_err-line-clause-refused g c = λ line e.
    let p = err_from_is_err_and c.from_residual-in_err-line.result c.from_residual-in_err-line.ensures.1 in
    let same : of_line_fault c.in_err-line.field-0.0 ≡ ScriptRefused line = cc in
    let fault = grammar_fault c.in_err-line.field-0.0 line same in
    let here = c.loop-lines in
    let next = c.next_line.new in
    let come = octets_to_come here.lines (g.T.Source.left here.script) in
    let come' = octets_to_come next.self (g.T.Source.left next.source) in
    let read = subst (λ f. WhereTold come come' (ReadsLine (line_says Trial) here.lines.number next.self.number (Err f))) fault (rw here.invariant.grammar at c.in_err-line.ensures.line) in
    still_behind (g.T.Source.left c.args.script.now) (g.T.Source.left c.next_line.new.source) c.next_line.new.self.pending _ (refused_first c.args.settings (g.T.Source.left c.args.script.now) come come' (g.G.Ground.told c.args.device.now) (g.G.Ground.told here.device) here.lines.number next.self.number here.lines.ended here.watch line here.invariant.progress read)

pub returns-in_err-line-clause-stops : goal.returns-in_err-line-clause-stops
returns-in_err-line-clause-stops g c = λ e.
    let p = err_from_is_err_and c.from_residual-in_err-line.result c.from_residual-in_err-line.ensures.1 in
    let same : of_line_fault c.in_err-line.field-0.0 ≡ ReadFault = cc in
    let fault = read_fault c.in_err-line.field-0.0 same in
    let here = c.loop-lines in
    let next = c.next_line.new in
    let come = octets_to_come here.lines (g.T.Source.left here.script) in
    let come' = octets_to_come next.self (g.T.Source.left next.source) in
    let read = subst (λ f. WhereTold come come' (ReadsLine (line_says Trial) here.lines.number next.self.number (Err f))) fault (rw here.invariant.grammar at c.in_err-line.ensures.line) in
    stops_reading c.args.settings (g.T.Source.left c.args.script.now) come (g.T.Source.left next.source) next.self.pending (g.G.Ground.told c.args.device.now) (g.G.Ground.told here.device) here.lines.number next.self.number here.lines.ended next.self.ended here.watch here.invariant.progress read c.next_line.ensures.ended c.next_line.ensures.whole_lines (c.next_line.ensures.waits (c.in_err-line.was ∙ ap Err fault))

pub returns-in_err-take-clause-ends : goal.returns-in_err-take-clause-ends
returns-in_err-take-clause-ends g c =
    let p = err_from_is_err_and c.from_residual-in_err-take.result c.from_residual-in_err-take.ensures.1 in
    let here = c.loop-lines in
    let next = c.next_line.new in
    let read = rw (c.in-Some.is, here.invariant.grammar) at c.in_ok-line.ensures.line in
    rw (p.1, p.2)
    (still_behind (g.T.Source.left c.args.script.now) (g.T.Source.left c.next_line.new.source) c.next_line.new.self.pending _ (ends_at_event c.args.settings (g.T.Source.left c.args.script.now) (octets_to_come here.lines (g.T.Source.left here.script)) (octets_to_come next.self (g.T.Source.left next.source)) (g.G.Ground.told c.args.device.now) (g.G.Ground.told here.device) (g.G.Ground.told c.take.new.device) here.lines.number next.self.number here.lines.ended here.watch c.in-Some.line c.in_err-take.field-0.0 here.invariant.progress read (c.in_err-take.ensures.sends (first_point c.args.settings))))

pub loop-lines-preserved : goal.loop-lines-preserved
loop-lines-preserved g c =
    let here = c.loop-lines in
    let next = c.next_line.new in
    let read = rw (c.in-Some.is, here.invariant.grammar) at c.in_ok-line.ensures.line in
    let first = first_point c.args.settings in
    record {
      progress = goes_on c.args.settings (g.T.Source.left c.args.script.now) (octets_to_come here.lines (g.T.Source.left here.script)) (octets_to_come next.self (g.T.Source.left next.source)) (g.G.Ground.told c.args.device.now) (g.G.Ground.told here.device) (g.G.Ground.told c.take.new.device) here.lines.number next.self.number here.lines.ended next.self.ended here.watch c.take.new.watch c.in-Some.line here.invariant.progress read c.next_line.ensures.ended c.next_line.ensures.whole_lines (c.in_ok-take.ensures.seen first) (c.in_ok-take.ensures.sends first);
      grammar = c.next_line.ensures.grammar ∙ here.invariant.grammar;
      source = c.next_line.ensures.source;
      size = c.take.ensures.size ∙ here.invariant.size;
      disk = c.take.ensures.disk ∙ here.invariant.disk;
      read = c.in_ok-line.ensures.uncounted ∙ here.invariant.read;
      emitted = c.in_ok-take.ensures.uncounted ∙ here.invariant.emitted;
    }

pub returns-in_err-emit-clause-ends : goal.returns-in_err-emit-clause-ends
returns-in_err-emit-clause-ends g c =
    let p = err_from_is_err_and c.from_residual-in_err-emit.result c.from_residual-in_err-emit.ensures.1 in
    let here = c.loop-lines in
    let next = c.next_line.new in
    let read = rw (c.in_default.is, here.invariant.grammar) at c.in_ok-line.ensures.line in
    let before = g.G.Ground.told here.device in
    let after = g.G.Ground.told c.emit.new.device in
    let fault = c.in_err-emit.field-0.0 in
    rw (p.1, p.2)
    (still_behind (g.T.Source.left c.args.script.now) (g.T.Source.left c.next_line.new.source) c.next_line.new.self.pending _ (ends_at_end c.args.settings (g.T.Source.left c.args.script.now) (octets_to_come here.lines (g.T.Source.left here.script)) (octets_to_come next.self (g.T.Source.left next.source)) (g.G.Ground.told c.args.device.now) before after here.lines.number next.self.number here.lines.ended here.watch fault here.invariant.progress read
    (subst (λ n. SendsUpTo Adds report_text fault (TrialEnd n ∷ []) before after) c.count.ensures.number c.in_err-emit.ensures.sends)))

pub returns-clause-ends : goal.returns-clause-ends
returns-clause-ends g c =
    let here = c.loop-lines in
    let next = c.next_line.new in
    let read = rw (c.in_default.is, here.invariant.grammar) at c.in_ok-line.ensures.line in
    let before = g.G.Ground.told here.device in
    let after = g.G.Ground.told c.emit.new.device in
    still_behind (g.T.Source.left c.args.script.now) (g.T.Source.left c.next_line.new.source) c.next_line.new.self.pending _ (ends c.args.settings (g.T.Source.left c.args.script.now) (octets_to_come here.lines (g.T.Source.left here.script)) (octets_to_come next.self (g.T.Source.left next.source)) (g.G.Ground.told c.args.device.now) before after here.lines.number next.self.number here.lines.ended here.watch here.invariant.progress read
    (subst (λ n. Adds before after (sent report_text (TrialEnd n ∷ []))) c.count.ensures.number c.in_ok-emit.ensures.sends))

pub returns-clause-accepted : goal.returns-clause-accepted
returns-clause-accepted g c =
    let here = c.loop-lines in
    let next = c.next_line.new in
    let read = rw (c.in_default.is, here.invariant.grammar) at c.in_ok-line.ensures.line in
    still_behind (g.T.Source.left c.args.script.now) (g.T.Source.left c.next_line.new.source) c.next_line.new.self.pending _ (accepts c.args.settings (g.T.Source.left c.args.script.now) (octets_to_come here.lines (g.T.Source.left here.script)) (octets_to_come next.self (g.T.Source.left next.source)) (g.G.Ground.told c.args.device.now) (g.G.Ground.told here.device) here.lines.number next.self.number here.lines.ended here.watch here.invariant.progress read)
