use Rattle.std.proofs.Common.{◌≡◌, ◌+◌, ◌≤◌, List, OnOk, map, sym, subst, rules}
use Rattle.std.specs.Prelude.{IfOk}
use Rattle.notify_class.specs.declared.destination.Destination.{Destination}
use Rattle.outbox.specs.Outboxes.{pumped}
use Rattle.alarm_core.specs.declared.event.Act.{Act}
use Rattle.alarm_core.specs.declared.event.Act.TheVariants.{Edit, Pump}
use Rattle.alarm_core.specs.declared.step.Done.{Done}
use Rattle.alarm_core.specs.DueSteps.{detections_of, due_steps}
use Rattle.alarm_core.specs.History.{event_at, moved_by}
use Rattle.alarm_core.specs.CoreSteps.{acted, next_transitions, sends_with}
use Rattle.alarm_core.specs.Verdicts.{Answers, step_verdict}
use Rattle.alarm_core.proofs.Undoing.{same_leads_back}
use Rattle.alarm_core.proofs.Written.{answered_state, edited_state, on_ok, pumped_state}
use Rattle.alarm_core.proofs.state.Core.attempt.Goals as goal

pub returns-in-Tick : goal.returns-in-Tick
returns-in-Tick g c =
    let old = c.args.self.now in
    let at = c.args.at.now in
    let is = sym c.in-Tick.is in
    let did = c.tick.ensures in
    record {
      state = subst (λ (act : Act). OnOk c.tick.result (c.tick.new.self ≡ acted (event_at at.moment act) old)) is did.state;
      moves = subst (λ (act : Act). IfOk c.tick.result (λ (done : Done). done.moves.items ≡ map moved_by (next_transitions (event_at at.moment act) old))) is did.moves;
      sends = subst (λ (act : Act). IfOk c.tick.result (λ (done : Done). done.sends.items ≡ sends_with at.moment act old.outbox)) is did.sends;
      rest = did.rest;
      undoes = did.undoes;
      verdict = subst (λ (act : Act). Answers c.tick.result (step_verdict (event_at at.moment act) old)) is did.verdict;
      steps = subst (λ (act : Act). c.tick.new.steps ≤ c.args.steps.now + due_steps at act (detections_of old)) is did.steps;
    }

pub returns-in-Write : goal.returns-in-Write
returns-in-Write g c =
    let old = c.args.self.now in
    let at = c.args.at.now in
    let is = sym c.in-Write.is in
    let did = c.write.ensures in
    record {
      state = subst (λ (act : Act). OnOk c.write.result (c.write.new.self ≡ acted (event_at at.moment act) old)) is did.state;
      moves = subst (λ (act : Act). IfOk c.write.result (λ (done : Done). done.moves.items ≡ map moved_by (next_transitions (event_at at.moment act) old))) is did.moves;
      sends = subst (λ (act : Act). IfOk c.write.result (λ (done : Done). done.sends.items ≡ sends_with at.moment act old.outbox)) is did.sends;
      rest = did.rest;
      undoes = did.undoes;
      verdict = subst (λ (act : Act). Answers c.write.result (step_verdict (event_at at.moment act) old)) is did.verdict;
      steps = subst (λ (act : Act). c.write.new.steps ≤ c.args.steps.now + due_steps at act (detections_of old)) is did.steps;
    }

pub returns-in-Pump-clause-state : goal.returns-in-Pump-clause-state
returns-in-Pump-clause-state g c =
    let old = c.args.self.now in
    let act : Pump ≡ c.args.act.now = search rules in
    let at = c.args.at.now in
    let after = subst (λ moment. OnOk c.pump.result (c.pump.new.self ≡ record old { outbox = pumped moment old.outbox })) c.moment.ensures.moment c.pump.ensures.state in
    subst (λ act. OnOk c.pump.result (c.pump.new.self ≡ acted (event_at at.moment act) old)) act (on_ok c.pump.result (pumped_state old at.moment c.pump.new.self) after)

pub returns-in-Answer-clause-state : goal.returns-in-Answer-clause-state
returns-in-Answer-clause-state g c =
    let old = c.args.self.now in
    subst (λ act. c.answer.new.self ≡ acted (event_at c.args.at.now.moment act) old) (sym c.in-Answer.is)
    (answered_state old c.args.at.now.moment c.in-Answer.peer c.in-Answer.invoke c.in-Answer.kind c.answer.new.self c.answer.ensures.state)

pub returns-in-Edit-clause-state : goal.returns-in-Edit-clause-state
returns-in-Edit-clause-state g c =
    let old = c.args.self.now in
    let made = λ (destinations : List Destination). OnOk c.edit.result (c.edit.new.self ≡ acted (event_at c.args.at.now.moment (Edit c.in-Edit.class destinations)) old) in
    subst (λ act. OnOk c.edit.result (c.edit.new.self ≡ acted (event_at c.args.at.now.moment act) old)) (sym c.in-Edit.is)
    (subst made c.as_slice.ensures.same
    (on_ok c.edit.result (edited_state old c.args.at.now.moment c.in-Edit.class c.as_slice.result.now c.edit.new.self) c.edit.ensures.state))

pub returns-in-Ack-clause-undoes : goal.returns-in-Ack-clause-undoes
returns-in-Ack-clause-undoes g c = same_leads_back c.acknowledge.result c.args.round.now.formers.items c.args.self.now c.acknowledge.new.self c.requires.none c.acknowledge.ensures.same

pub returns-in-Pump-clause-undoes : goal.returns-in-Pump-clause-undoes
returns-in-Pump-clause-undoes g c = same_leads_back c.pump.result c.args.round.now.formers.items c.args.self.now c.pump.new.self c.requires.none c.pump.ensures.same

pub returns-in-Edit-clause-undoes : goal.returns-in-Edit-clause-undoes
returns-in-Edit-clause-undoes g c = same_leads_back c.edit.result c.args.round.now.formers.items c.args.self.now c.edit.new.self c.requires.none c.edit.ensures.same
