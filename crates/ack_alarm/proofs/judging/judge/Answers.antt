use Rattle.std.proofs.Common.{◌≡◌, ◌∙◌, sym, rules, subst}
use Rattle.event_machine.specs.Finding.{MayAcknowledge, as_finding, WithAlarm}
use Rattle.ack_alarm.specs.Verdicts.{transition_named, verdict_on}
use Rattle.ack_alarm.proofs.Accepting.{accepts}
use Rattle.ack_alarm.proofs.judging.judge.Goals as goal

pub returns-in-Has-clause-accepts : goal.returns-in-Has-clause-accepts
returns-in-Has-clause-accepts c = λ transition named e.
    let found : as_finding c.args.found ≡ WithAlarm c.in-Has.alarm.now = search rules in
    let judged : c.verdict_on.result ≡ verdict_on c.in-Has.alarm.now (transition_named c.args.request.now.state) c.args.request.now = search rules in
    subst (λ f. MayAcknowledge f transition named) (sym found) (accepts c.in-Has.alarm.now c.args.request.now transition named (sym judged ∙ e))
