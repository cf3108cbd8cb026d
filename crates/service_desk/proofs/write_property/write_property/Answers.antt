use Rattle.std.proofs.Common.{◌≡◌, IfOk, Ok, ap, subst, rules}
use Rattle.property_services.specs.ReadingSteps.{write_property_of}
use Rattle.service_desk.specs.WriteProperty.{write_with}
use Rattle.service_desk.proofs.write_property.write_property.Goals as goal

pub returns-in-Ok-clause-decision : goal.returns-in-Ok-clause-decision
returns-in-Ok-clause-decision c =
    let request = c.in-Ok.request in
    let read : Ok request ≡ write_property_of c.args.parameters.now = search rules in
    let same = ap (write_with c.args.core.now c.args.moment c.args.requester.now) read in
    subst (λ d. IfOk c.change_decision.result (λ decision. decision ≡ d)) same c.change_decision.ensures.decision
