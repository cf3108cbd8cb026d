use Rattle.std.proofs.Common.{sym, ap, ◌∙◌, arith}
use Rattle.service_desk.specs.declared.decision.Decision.TheVariants.{Reply}
use Rattle.service_desk.specs.SummaryDecisions.{many_with}
use Rattle.service_desk.proofs.AskedMany.{fault_found, groups_found}
use Rattle.service_desk.proofs.read_property_multiple.read_property_multiple.Goals.{in-Ok+in_ok-send-in-Ok, in-Err+in_ok-send-in-Err}
use Rattle.service_desk.proofs.read_property_multiple.read_property_multiple.Goals as goal

pub returns : goal.returns
returns c =
    let input = c.args.parameters.now in
    let with = many_with c.args.core.now c.args.requester.now in
    let exact = c.read_many_request.ensures.exact in
    record {
      decision =
          elim c.match-read_many_request.branch [
            | in-Ok+in_ok-send-in-Ok w ↦
                let g = groups_found input (λ i. omega (arith, c.type_inv.parameters i)) w.in-Ok.field-0 (sym exact ∙ w.in-Ok.is) in
                ap Reply (w.send-is ∙ w.in_ok-send-in-Ok.ensures.reply g.0 g.2) ∙ ap with (sym g.1)
            | in-Err+in_ok-send-in-Err w ↦
                let e = fault_found input w.in-Err.refusal (sym exact ∙ w.in-Err.is) in
                ap Reply (w.send-is ∙ w.in_ok-send-in-Err.ensures.reply) ∙ ap with (sym e)
          ];
    }
