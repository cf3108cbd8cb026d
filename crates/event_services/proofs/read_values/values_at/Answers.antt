use Rattle.std.proofs.Common.{Err, ap, sym, ◌∙◌, arith}
use Rattle.std.proofs.lemmas.Result.{err_from_is_err_and}
use Rattle.event_services.specs.NoteReadingSteps.{told_at, values_at}
use Rattle.event_services.specs.NoteTexts.{IsInside, IsTextTold, IsTextOfValues}
use Rattle.event_services.proofs.TextPlaces.{passes, inside, told_fails}
use Rattle.event_services.proofs.read_values.values_at.Goals as goal

pub returns-in_err-told-clause-exact : goal.returns-in_err-told-clause-exact
returns-in_err-told-clause-exact c =
    let p = err_from_is_err_and c.from_residual-in_err-told.result c.from_residual-in_err-told.ensures.1 in
    let input = c.args.input.now in
    let kind = c.args.kind in
    let outer = c.in_ok-outer.outer in
    let start = c.in_ok-start.start in
    passes (IsTextTold kind input start) (IsTextOfValues kind input c.args.at) c.in_err-told.field-0.0 (told_at kind input start) c.from_residual-in_err-told.result (values_at kind input c.args.at) c.in_err-told.ensures.exact (p.1 ∙ ap Err p.2)
    (λ h. told_fails kind input c.args.at outer start c.in_err-told.field-0.0 (sym c.in_ok-outer.ensures.exact) (sym c.in_ok-start.ensures.exact) h)
    (λ text. inside 12 (IsInside kind (IsTextTold kind)) input c.args.at outer (λ i. omega (arith, c.type_inv.input i)) (sym c.in_ok-outer.ensures.exact) (inside kind (IsTextTold kind) input outer start (λ i. omega (arith, c.type_inv.input i)) (sym c.in_ok-start.ensures.exact) text))
