-- What becomes of AcknowledgeAlarm (ANSI/ASHRAE 135-2020, 13.5).
use Rattle.std.specs.Prelude.{ℕ, Some, Result, Ok, Err, List}
use Rattle.bac_values.specs.Identifier.{ObjectIdData}
use Rattle.bac_values.specs.Reasons.{other_reason}
use Rattle.bac_values.specs.declared.event_state.EventState.{EventState}
use Rattle.bac_values.specs.declared.transition.Transition.{Transition}
use Rattle.bac_tags.specs.declared.malformed.Malformed.{Malformed}
use Rattle.event_services.specs.declared.acknowledge.AckRequest.{AckRequest}
use Rattle.event_services.specs.AcknowledgementSteps.{acknowledge_request_of}
use Rattle.ack_alarm.specs.declared.verdict.Verdict.{Verdict}
use Rattle.ack_alarm.specs.declared.verdict.Verdict.TheVariants.{Accept, Already, Error}
use Rattle.ack_alarm.specs.Verdicts.{acknowledgement_verdict}
use Rattle.alarm_core.specs.declared.event.Act.TheVariants.{Ack}
use Rattle.alarm_core.specs.declared.event.Event.{Event}
use Rattle.alarm_core.specs.Found.{found_in}
use Rattle.alarm_core.specs.State.{CoreState}
use Rattle.service_desk.specs.declared.decision.Decision.{Decision}
use Rattle.service_desk.specs.declared.decision.Decision.TheVariants.{Reply, Enter}
use Rattle.service_desk.specs.Replies.{abort, simple_ack, error_numbered, reject}
use Rattle.service_desk.specs.Requesters.{RequesterData}

abbrev pub ack_at : ℕ → ObjectIdData → Transition → EventState → Event
ack_at moment object transition named = record { moment = moment; act = Ack object transition named }

-- a verdict on an acknowledgement, as it is answered
abbrev pub verdict_decision : ℕ → RequesterData → ObjectIdData → Verdict → Decision
verdict_decision moment requester object (Accept transition named) = Enter (ack_at moment object transition named) (Some (simple_ack requester)) (Some (abort requester other_reason))
verdict_decision moment requester object Already = Reply (simple_ack requester)
verdict_decision moment requester object (Error class code) = Reply (error_numbered requester class code)

-- by its parameters, as they were read
abbrev pub acknowledge_with : CoreState → ℕ → RequesterData → Result AckRequest Malformed → Decision
acknowledge_with state moment requester (Err refusal) = Reply (reject requester refusal.reject)
acknowledge_with state moment requester (Ok request) = verdict_decision moment requester request.object (acknowledgement_verdict (found_in state request.object) request)

abbrev pub acknowledge_decision : CoreState → ℕ → RequesterData → List ℕ → Decision
acknowledge_decision state moment requester parameters = acknowledge_with state moment requester (acknowledge_request_of parameters)
