use Rattle.std.proofs.Common.{ℕ, Ok, ap, sym, ◌∙◌, arith}
use Rattle.event_services.proofs.TextPlaces.{value_passes}
use Rattle.event_services.proofs.read_values.property_value_at.Goals as goal

pub returns-clause-exact : goal.returns-clause-exact
returns-clause-exact c =
    value_passes c.args.input.now c.args.at c.in_ok-property.after c.enclosed_value.result (λ i. omega (arith, c.type_inv.input i)) c.requires (sym c.in_ok-property.ensures.exact ∙ ap (λ (n : ℕ). Ok (n, c.in_ok-property.after)) c.if-property.false) c.enclosed_value.ensures.exact
