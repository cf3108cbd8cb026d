use Rattle.std.proofs.Common.{Err, ap, refl, sym, ◌∙◌, inl, inr, Some, arith}
use Rattle.std.proofs.lemmas.Result.{err_from_is_err_and}
use Rattle.event_services.proofs.TextForms.{text_err, text_none, text_some}
use Rattle.event_services.proofs.TextPlaces.{text_there}
use Rattle.event_services.proofs.read_elements.text_at.Goals as goal

pub returns-in_err-content-clause-exact : goal.returns-in_err-content-clause-exact
returns-in_err-content-clause-exact c =
    let p = err_from_is_err_and c.from_residual.result c.from_residual.ensures.1 in
    inl (p.1 ∙ ap Err p.2 ∙ sym (text_err c.args.input.now c.args.at c.args.number c.in_err-content.field-0.0 c.in_err-content.ensures.exact))

pub returns-in_default-clause-exact : goal.returns-in_default-clause-exact
returns-in_default-clause-exact c =
    inl (sym (text_none c.args.input.now c.args.at c.args.number c.in_ok-content.content.now c.in_ok-content.after c.in_ok-content.ensures.exact c.in_default.ensures.exact))

pub returns-in-Ok-clause-exact : goal.returns-in-Ok-clause-exact
returns-in-Ok-clause-exact c =
    inl (sym (text_some c.args.input.now c.args.at c.args.number c.in_ok-content.content.now c.in_ok-content.after c.in-Ok.text c.in_ok-content.ensures.exact (c.in-Some.ensures.exact ∙ ap Some (sym c.in-Ok.ensures.same))))

pub returns-in-Err-clause-exact : goal.returns-in-Err-clause-exact
returns-in-Err-clause-exact c =
    inr (refl, text_there c.args.input.now c.args.at c.args.number c.in-Some.text.now c.in_ok-content.after (λ i. omega (arith, c.type_inv.input i)) c.requires (text_some c.args.input.now c.args.at c.args.number c.in_ok-content.content.now c.in_ok-content.after c.in-Some.text.now c.in_ok-content.ensures.exact c.in-Some.ensures.exact))
