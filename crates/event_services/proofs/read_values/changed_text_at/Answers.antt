use Rattle.std.proofs.Common.{Err, ap, sym, ◌∙◌, inl, inr, arith}
use Rattle.std.proofs.lemmas.Result.{err_from_is_err_and}
use Rattle.event_services.specs.NoteGrammar.{SpellsText, SpellsFlags}
use Rattle.event_services.specs.NoteReadingSteps.{flags_at, text_at, changed_text_at}
use Rattle.event_services.specs.NoteTexts.{IsAfter, IsText, IsTextOfChange}
use Rattle.event_services.proofs.NoteReaders.{flags_reader, text_reader}
use Rattle.event_services.proofs.TextPlaces.{read_ok, passes, after, changed_fails, alarm_fails}
use Rattle.event_services.proofs.read_values.changed_text_at.Goals as goal

pub returns-in_err-changed-clause-exact : goal.returns-in_err-changed-clause-exact
returns-in_err-changed-clause-exact c =
    let p = err_from_is_err_and c.from_residual.result c.from_residual.ensures.1 in
    passes (IsText 0 c.args.input.now c.args.at) (IsTextOfChange c.args.input.now c.args.at) c.in_err-changed.field-0.0 (text_at 0 c.args.input.now c.args.at) c.from_residual.result (changed_text_at c.args.input.now c.args.at) c.in_err-changed.ensures.exact (p.1 ∙ ap Err p.2)
    (λ h. changed_fails c.args.input.now c.args.at c.in_err-changed.field-0.0 h) (λ text. inl text)

pub returns-in_err-alarm-clause-exact : goal.returns-in_err-alarm-clause-exact
returns-in_err-alarm-clause-exact c =
    let p = err_from_is_err_and c.from_residual-in_err-alarm.result c.from_residual-in_err-alarm.ensures.1 in
    let input = c.args.input.now in
    let changed = read_ok (IsText 0 input c.args.at) (c.in_ok-changed.changed, c.in_ok-changed.at) (text_at 0 input c.args.at) c.in_ok-changed.ensures.exact in
    passes (IsText 2 input c.in_ok-flags.at) (IsTextOfChange input c.args.at) c.in_err-alarm.field-0.0 (text_at 2 input c.in_ok-flags.at) c.from_residual-in_err-alarm.result (changed_text_at input c.args.at) c.in_err-alarm.ensures.exact (p.1 ∙ ap Err p.2)
    (λ h. alarm_fails input c.args.at c.in_ok-changed.changed c.in_ok-changed.at c.in_ok-flags.flags c.in_ok-flags.at c.in_err-alarm.field-0.0 changed (sym c.in_ok-flags.ensures.exact) h)
    (λ text. inr (after (SpellsText 0) (text_at 0) (text_reader 0) (IsAfter SpellsFlags (IsText 2)) input c.args.at c.in_ok-changed.changed c.in_ok-changed.at (λ i. omega (arith, c.type_inv.input i)) c.requires changed
    (after SpellsFlags flags_at flags_reader (IsText 2) input c.in_ok-changed.at c.in_ok-flags.flags c.in_ok-flags.at (λ i. omega (arith, c.type_inv.input i)) c.in_ok-changed.ensures.within.1 (sym c.in_ok-flags.ensures.exact) text)))
