use Rattle.std.proofs.Common.{◌≡◌, ◌∙◌, IfOk, Ok, ap, subst, rules}
use Rattle.ack_alarm.specs.Verdicts.{AcceptsAllowed, acknowledgement_verdict}
use Rattle.event_services.specs.AcknowledgementSteps.{acknowledge_request_of}
use Rattle.alarm_core.specs.Found.{found_in}
use Rattle.service_desk.specs.AcknowledgeAlarm.{acknowledge_with, verdict_decision}
use Rattle.service_desk.specs.Decisions.{EntersAllowed}
use Rattle.service_desk.proofs.Entering.{holds_of, verdict_enters}
use Rattle.service_desk.proofs.acknowledge_alarm.acknowledge.Goals as goal

pub returns-clause-decision : goal.returns-clause-decision
returns-clause-decision c =
    let state = c.args.core.now in
    let request = c.in-Ok.request in
    let read : Ok request ≡ acknowledge_request_of c.args.parameters.now = search rules in
    let verdict : c.judge-verdict.result ≡ acknowledgement_verdict (found_in state request.object) request = search rules in
    let same = ap (verdict_decision c.args.moment c.args.requester.now request.object) verdict ∙ ap (acknowledge_with state c.args.moment c.args.requester.now) read in
    subst (λ d. IfOk c.verdict_decision.result (λ decision. decision ≡ d)) same c.verdict_decision.ensures.decision

pub returns-clause-allowed : goal.returns-clause-allowed
returns-clause-allowed c =
    let state = c.args.core.now in
    let object = c.in-Ok.request.object in
    let accepts = subst (λ found. AcceptsAllowed found c.judge-verdict.result) c.found.ensures.found c.judge-verdict.ensures.accepts in
    holds_of (EntersAllowed state c.args.moment) c.verdict_decision.result (verdict_decision c.args.moment c.args.requester.now object c.judge-verdict.result) c.verdict_decision.ensures.decision
    (verdict_enters state c.args.moment c.args.requester.now object c.judge-verdict.result accepts)
