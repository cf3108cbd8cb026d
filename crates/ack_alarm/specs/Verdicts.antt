-- The verdict on a request to acknowledge an alarm (ANSI/ASHRAE 135-2020, 13.5): the first case that applies.
use Rattle.std.specs.Prelude.{◌≡◌, ℕ, ◌==◌, ◌&&◌, Bool, true, false, not, if◌then◌else◌, Option, Some, None, is_some, slice_index_or}
use Rattle.std.specs.Str.{bytes_eq}
use Rattle.bac_values.specs.Errors.{unknown_object_error, no_alarm_configured_error, invalid_time_stamp_error, invalid_event_state_error}
use Rattle.bac_values.specs.EventStates.{number_of_state, place_of_transition, state_of_number}
use Rattle.bac_values.specs.declared.event_state.EventState.{EventState}
use Rattle.bac_values.specs.declared.event_state.EventState.TheVariants.{Normal, Fault}
use Rattle.bac_values.specs.declared.service_error.ServiceError.{ServiceError}
use Rattle.bac_values.specs.declared.transition.Transition.{Transition}
use Rattle.bac_values.specs.declared.transition.Transition.TheVariants.{ToOffnormal, ToFault, ToNormal}
use Rattle.event_machine.specs.AlarmRecord.{never}
use Rattle.event_machine.specs.Finding.{Finding, NoSuchObject, WithoutAlarm, WithAlarm, MayAcknowledge, names_last}
use Rattle.event_machine.specs.Summary.{AlarmState}
use Rattle.event_services.specs.declared.acknowledge.AckRequest.{AckRequest}
use Rattle.event_services.specs.declared.time_stamp.AckStamp.{AckStamp}
use Rattle.event_services.specs.declared.time_stamp.AckStamp.TheVariants.{DateTime}
use Rattle.ack_alarm.specs.declared.verdict.Verdict.{Verdict}
use Rattle.ack_alarm.specs.declared.verdict.Verdict.TheVariants.{Accept, Already, Error}

-- the transition that the number of a state names: normal to-normal, fault to-fault, every other number to-offnormal
abbrev pub transition_named : ℕ → Transition
transition_named number = if number_of_state Normal == number then ToNormal else (if number_of_state Fault == number then ToFault else ToOffnormal)

-- an error, as it is answered
abbrev pub error_of : ServiceError → Verdict
error_of error = Error error.class error.code

-- whether the request's stamp is a date and a time, and that of a transition that came
abbrev pub is_stamp : AlarmState → Transition → AckStamp → Bool
is_stamp alarm transition (DateTime stamp) =
    is_some (slice_index_or alarm.last_states (place_of_transition transition) None)
    && bytes_eq (slice_index_or alarm.stamps (place_of_transition transition) never).octets stamp.octets
is_stamp alarm transition _ = false

-- accepted with the state that is named, where it is the one that was last entered, and isn't acknowledged already
abbrev pub verdict_with : Option EventState → Bool → Transition → Option EventState → Verdict
verdict_with last acked transition None = error_of invalid_event_state_error
verdict_with last acked transition (Some named) =
    if not (names_last last named) then error_of invalid_event_state_error
    else (if acked then Already else Accept transition named)

abbrev pub verdict_on : AlarmState → Transition → AckRequest → Verdict
verdict_on alarm transition request =
    if not (is_stamp alarm transition request.stamp) then error_of invalid_time_stamp_error
    else verdict_with (slice_index_or alarm.last_states (place_of_transition transition) None)
    (slice_index_or alarm.acked (place_of_transition transition) true) transition (state_of_number request.state)

-- the verdict on a request, from what is found under its identifier
abbrev pub acknowledgement_verdict : Finding → AckRequest → Verdict
acknowledgement_verdict NoSuchObject request = error_of unknown_object_error
acknowledgement_verdict WithoutAlarm request = error_of no_alarm_configured_error
acknowledgement_verdict (WithAlarm alarm) request = verdict_on alarm (transition_named request.state) request

-- what is accepted may be acknowledged
abbrev pub AcceptsAllowed : Finding → Verdict → Type 0
AcceptsAllowed found verdict = (transition : Transition) (named : EventState) → verdict ≡ Accept transition named → MayAcknowledge found transition named
