use Rattle.std.proofs.Common.{◌≡◌, false, rules, Err, ap, sym, ◌∙◌, arith}
use Rattle.std.proofs.lemmas.Result.{err_from_is_err_and}
use Rattle.bac_tags.specs.EnclosingSteps.{is_closing}
use Rattle.event_services.specs.NoteReadingSteps.{property_value_at, properties_at}
use Rattle.event_services.specs.NoteTexts.{IsTextOfProperty, IsTextOfProperties}
use Rattle.event_services.proofs.TextPlaces.{passes, inside, property_fails}
use Rattle.event_services.proofs.read_values.properties_at.Goals as goal

pub returns-in_err-value-clause-exact : goal.returns-in_err-value-clause-exact
returns-in_err-value-clause-exact c =
    let p = err_from_is_err_and c.from_residual-in_err-value.result c.from_residual-in_err-value.ensures.1 in
    let input = c.args.input.now in
    let start = c.in_ok-start.start in
    let opens : is_closing c.in_ok-tag.tag.shape ≡ false = search rules in
    passes (IsTextOfProperty input start) (IsTextOfProperties input c.args.at) c.in_err-value.field-0.0 (property_value_at input start) c.from_residual-in_err-value.result (properties_at input c.args.at) c.in_err-value.ensures.exact (p.1 ∙ ap Err p.2)
    (λ h. property_fails input c.args.at start (c.in_ok-tag.tag, c.in_ok-tag.field-0-1) c.in_err-value.field-0.0 (sym c.in_ok-start.ensures.exact) (sym c.in_ok-tag.ensures.exact) opens h)
    (λ text. inside 2 IsTextOfProperty input c.args.at start (λ i. omega (arith, c.type_inv.input i)) (sym c.in_ok-start.ensures.exact) text)
