use Rattle.std.proofs.Common.{Err, ap, sym, ◌∙◌, inl, inr, arith}
use Rattle.std.proofs.lemmas.Result.{err_from_is_err_and}
use Rattle.bac_tags.specs.Values.{SpellsValue}
use Rattle.bac_tags.specs.ReadingSteps.{value_at}
use Rattle.bac_tags.specs.EnclosingTags.{SpellsEnclosed}
use Rattle.bac_tags.specs.EnclosingSteps.{enclosed_at}
use Rattle.event_services.specs.NoteGrammar.{SpellsFlags}
use Rattle.event_services.specs.NoteReadingSteps.{flags_at, commanded_at}
use Rattle.event_services.specs.NoteTexts.{IsAfter, HoldsText, IsTextOfCommand}
use Rattle.event_services.proofs.NoteReaders.{flags_reader}
use Rattle.event_services.proofs.TextPlaces.{read_ok, passes, after, held_value, command_fails, feedback_fails}
use Rattle.event_services.proofs.read_values.commanded_at.Goals as goal

pub returns-in_err-command-clause-exact : goal.returns-in_err-command-clause-exact
returns-in_err-command-clause-exact c =
    let p = err_from_is_err_and c.from_residual.result c.from_residual.ensures.1 in
    passes (HoldsText 0 c.args.input.now c.args.at) (IsTextOfCommand c.args.input.now c.args.at) c.in_err-command.field-0.0 (enclosed_at value_at 0 c.args.input.now c.args.at) c.from_residual.result (commanded_at c.args.input.now c.args.at) c.in_err-command.ensures.exact (p.1 ∙ ap Err p.2)
    (λ h. command_fails c.args.input.now c.args.at c.in_err-command.field-0.0 h) (λ text. inl text)

pub returns-in_err-feedback-clause-exact : goal.returns-in_err-feedback-clause-exact
returns-in_err-feedback-clause-exact c =
    let p = err_from_is_err_and c.from_residual-in_err-feedback.result c.from_residual-in_err-feedback.ensures.1 in
    let input = c.args.input.now in
    let command = read_ok (HoldsText 0 input c.args.at) (c.in_ok-command.command, c.in_ok-command.at) (enclosed_at value_at 0 input c.args.at) c.in_ok-command.ensures.exact in
    passes (HoldsText 2 input c.in_ok-flags.at) (IsTextOfCommand input c.args.at) c.in_err-feedback.field-0.0 (enclosed_at value_at 2 input c.in_ok-flags.at) c.from_residual-in_err-feedback.result (commanded_at input c.args.at) c.in_err-feedback.ensures.exact (p.1 ∙ ap Err p.2)
    (λ h. feedback_fails input c.args.at c.in_ok-command.command c.in_ok-command.at c.in_ok-flags.flags c.in_ok-flags.at c.in_err-feedback.field-0.0 command (sym c.in_ok-flags.ensures.exact) h)
    (λ text. inr (after (SpellsEnclosed 0 SpellsValue) (enclosed_at value_at 0) (held_value 0) (IsAfter SpellsFlags (HoldsText 2)) input c.args.at c.in_ok-command.command c.in_ok-command.at (λ i. omega (arith, c.type_inv.input i)) c.requires command
    (after SpellsFlags flags_at flags_reader (HoldsText 2) input c.in_ok-command.at c.in_ok-flags.flags c.in_ok-flags.at (λ i. omega (arith, c.type_inv.input i)) c.in_ok-command.ensures.within.1 (sym c.in_ok-flags.ensures.exact) text)))
