use Rattle.std.proofs.Common.{subst, sym}
use Rattle.alarm_core.specs.Allowed.{IsAllowed}
use Rattle.alarm_core.specs.State.{CoreState}
use Rattle.alarm_core.specs.declared.event.Event.{Event}
use Rattle.state_codec.proofs.recording.event_to_record.Goals as goal

pub returns-clause-allowed : goal.returns-clause-allowed
returns-clause-allowed c = λ (state : CoreState) allowed. subst (λ (e : Event). IsAllowed state e.act) (sym c.raised_event-event.ensures.raised) allowed

pub returns-clause-record : goal.returns-clause-record
returns-clause-record c =
    let state = c.requires.allowed.0 in
    let allowed = subst (λ (e : Event). IsAllowed state e.act) (sym c.raised_event-event.ensures.raised) c.requires.allowed.1 in
    c.allowed_event_has_record.ensures.allowed state c.raised_event-event.ensures.moment allowed
