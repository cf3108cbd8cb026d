use Rattle.std.proofs.Common.{◌≡◌, IfOk, ℕ, Ok, ap, subst, sym, ◌∙◌}
use Rattle.list_binding.specs.Requests.{asked_in}
use Rattle.list_binding.specs.RequestSteps.{list_request_of}
use Rattle.service_desk.specs.declared.decision.Decision.{Decision}
use Rattle.service_desk.specs.ListDecisions.{edited_decision, list_answer, list_in, list_with}
use Rattle.service_desk.proofs.list_elements.edit_list.Goals as goal

pub returns-in-Ok-clause-decision : goal.returns-in-Ok-clause-decision
returns-in-Ok-clause-decision c =
    let input = c.args.parameters.now in
    let core = c.args.core.now in
    let request = c.in-Ok.request in
    let asked = asked_in input request in
    let read : list_request_of input ≡ Ok asked = c.in-Ok.ensures.exact in
    let answer = list_answer core c.args.adding asked in
    let number : c.instance-number.result ≡ request.object.instance = c.instance-number.ensures.instance in
    let decided : ℕ → Decision = λ n. edited_decision c.args.moment c.args.requester.now n (list_in core n) answer in
    let same = ap decided number ∙ sym (ap (list_with core c.args.moment c.args.requester.now c.args.adding) read) in
    subst (λ (d : Decision). IfOk c.edited_decision.result (λ decision. decision ≡ d)) same (c.edited_decision.ensures.decision answer c.list_answer-answer.ensures.answer)
