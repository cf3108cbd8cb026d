use Rattle.std.proofs.Common.{◌≡◌, ◌∙◌, None, refl, sym}
use Rattle.alarm_core.specs.Allowed.{Represents}
use Rattle.service_desk.specs.declared.decision.Decision.TheVariants.{Enter}
use Rattle.service_desk.specs.Answers.{answer_of, event_of}
use Rattle.service_desk.specs.Decisions.{decision_on}
use Rattle.alarm_server.specs.Pieces.{answer_for}
use Rattle.alarm_server.specs.Report.{history_by, history_with}
use Rattle.alarm_server.proofs.Entering.{decided, where_ok, with_decision, without_event}
use Rattle.alarm_server.proofs.taken.take.Goals.{in-Ignore+in_ok-piece-in-Ignore, in-Idle+in_ok-piece-in-Idle, in-Refuse+in_ok-piece-in-Refuse, in-Reply+in_ok-piece-in-Reply}
use Rattle.alarm_server.proofs.taken.take.Goals as goal

pub returns-in-Enter-clause-represents : goal.returns-in-Enter-clause-represents
returns-in-Enter-clause-represents c = λ history stands.
    let state = c.args.core.now in
    let line = c.args.line.now in
    let decision = Enter c.in-Enter.event c.in-Enter.reply c.in-Enter.full in
    where_ok c.enter.result (Represents c.enter.new.core (history_by history (event_of (answer_of state decision)))) (Represents c.enter.new.core (history_with state.site history line))
    (with_decision state c.enter.new.core history line decision stands (sym c.in-Enter.is ∙ c.in_ok-decide.ensures.decision)) (c.enter.ensures.represents history stands)

pub returns-clause-represents : goal.returns-clause-represents
returns-clause-represents c = λ history stands.
    let state = c.args.core.now in
    let line = c.args.line.now in
    let came = c.in_ok-decide.field-0 in
    let is : came ≡ decision_on state line.input line.moment = c.in_ok-decide.ensures.decision in
    let none : event_of (answer_for state line) ≡ None = elim c.match-branch-2.branch [
      | in-Ignore+in_ok-piece-in-Ignore w ↦ decided state line came _ is w.in-Ignore.is refl
      | in-Idle+in_ok-piece-in-Idle w ↦ decided state line came _ is w.in-Idle.is refl
      | in-Refuse+in_ok-piece-in-Refuse w ↦ decided state line came _ is w.in-Refuse.is refl
      | in-Reply+in_ok-piece-in-Reply w ↦ decided state line came _ is w.in-Reply.is refl
    ] in
    without_event state history line stands none
