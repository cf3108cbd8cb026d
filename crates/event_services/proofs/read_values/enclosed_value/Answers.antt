use Rattle.std.proofs.Common.{Err, ap, sym, ◌∙◌, arith}
use Rattle.std.proofs.lemmas.Result.{err_from_is_err_and}
use Rattle.event_services.proofs.TextPlaces.{value_fails}
use Rattle.event_services.proofs.read_values.enclosed_value.Goals as goal

pub returns-in_err-value-clause-exact : goal.returns-in_err-value-clause-exact
returns-in_err-value-clause-exact c =
    let p = err_from_is_err_and c.from_residual-in_err-value.result c.from_residual-in_err-value.ensures.1 in
    value_fails c.args.input.now c.args.at c.args.number c.in_ok-start.start c.in_err-value.field-0.0 c.from_residual-in_err-value.result (λ i. omega (arith, c.type_inv.input i)) (sym c.in_ok-start.ensures.exact) c.in_err-value.ensures.exact c.in_err-value.ensures.no_memory (p.1 ∙ ap Err p.2)
