use Rattle.std.proofs.Common.{◌≡◌, ap, subst, ◌∙◌}
use Rattle.alarm_core.specs.History.{raised}
use Rattle.alarm_core.specs.Verdicts.{step_verdict}
use Rattle.alarm_core.specs.declared.event.Event.{Event}
use Rattle.service_desk.specs.Answers.{entering}
use Rattle.floor_desk.specs.MovesSteps.{CameOf}
use Rattle.floor_desk.specs.States.{FloorState}
use Rattle.floor_desk.proofs.floor.Floor.enter.Goals as goal

pub event_to_record-event-requires-clause-allowed : goal.event_to_record-event-requires-clause-allowed
event_to_record-event-requires-clause-allowed g c = (c.args.self.now.core, c.requires.allowed)

pub returns : goal.returns
returns g c = record {
  comes =
      let old = c.args.self.now in
      let event : c.event_to_record-event.result ≡ raised old.core.last_moment c.args.event = c.event_to_record-event.ensures.raised ∙ ap (λ (floor : FloorState _). raised floor.core.last_moment c.args.event) c.self.view_is in
      subst (λ (event : Event). CameOf old c.enter_with.new.self (entering event c.args.reply c.args.full (step_verdict event old.core)) c.enter_with.result) event
      (c.enter_with.ensures.comes c.args.reply c.args.full c.in-Ok.ensures.reply c.in-Ok.ensures.full c.is_some-told.ensures);
}
