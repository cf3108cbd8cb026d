-- The errors of AcknowledgeAlarm in their order, each with its condition (ANSI/ASHRAE 135-2020, 13.5 and clause 18).
use Rattle.std.specs.Prelude.{◌&&◌, is_some, Bool, false, not, Option, Some, None, slice_index_or, List, [], ◌∷◌}
use Rattle.std.specs.List.{list_any}
use Rattle.bac_values.specs.Errors.{invalid_event_state_error, invalid_time_stamp_error, no_alarm_configured_error, unknown_object_error}
use Rattle.bac_values.specs.EventStates.{place_of_transition, state_of_number, transition_to}
use Rattle.bac_values.specs.Identifier.{ObjectIdData}
use Rattle.bac_values.specs.declared.event_state.EventState.{EventState}
use Rattle.bac_values.specs.declared.service_error.ServiceError.{ServiceError}
use Rattle.bac_values.specs.declared.transition.Transition.{Transition}
use Rattle.bac_values.specs.declared.transition.Transition.TheVariants.{ToOffnormal}
use Rattle.event_machine.specs.AlarmRecord.{never}
use Rattle.event_machine.specs.Finding.{names_last}
use Rattle.event_machine.specs.Summary.{AlarmState}
use Rattle.event_services.specs.declared.acknowledge.AckRequest.{AckRequest}
use Rattle.event_services.specs.declared.time_stamp.AckStamp.{AckStamp}
use Rattle.event_services.specs.declared.time_stamp.AckStamp.TheVariants.{DateTime}
use Rattle.std.specs.Str.{bytes_eq}
use Rattle.object_table.specs.Rows.{is_object}
use Rattle.enrollment.specs.declared.subject.Subject.{Subject}
use Rattle.alarm_core.specs.declared.site.Site.{Site}
use Rattle.alarm_core.specs.Found.{alarm_in}
use Rattle.alarm_core.specs.State.{CoreState}
use Rattle.alarm_core.specs.Subjects.{detecting_subjects}
use Rattle.profile_laws.specs.PropertyErrors.{is_unknown_object}

-- the object has event detection, and it is enabled
abbrev pub has_event_detection : Site → ObjectIdData → Bool
has_event_detection site object = list_any (λ (subject : Subject). is_object object subject.object) (detecting_subjects site)

-- the transition that a state names, by its number: NORMAL to-normal, FAULT to-fault, and every other to-offnormal
abbrev pub transition_of : Option EventState → Transition
transition_of (Some named) = transition_to named
transition_of None = ToOffnormal

-- the state that a transition last entered, if it ever came
abbrev pub last_entered : AlarmState → Transition → Option EventState
last_entered alarm transition = slice_index_or alarm.last_states (place_of_transition transition) None

-- the stamp is a date and a time, and that of the transition, which came
abbrev pub names_stamp : AlarmState → Transition → AckStamp → Bool
names_stamp alarm transition (DateTime stamp) =
    is_some (last_entered alarm transition) && bytes_eq (slice_index_or alarm.stamps (place_of_transition transition) never).octets stamp.octets
names_stamp alarm transition stamp = false

-- a number is that of a state which stands for the one last entered: OFFNORMAL does for HIGH_LIMIT and LOW_LIMIT too
abbrev pub names_entered : Option EventState → Option EventState → Bool
names_entered last None = false
names_entered last (Some named) = names_last last named

-- AcknowledgeAlarm (13.5), by the alarm of the object and the transition that the request's state names
abbrev pub acknowledgement_errors : CoreState → AckRequest → List (Bool × ServiceError)
acknowledgement_errors state request =
    let alarm = alarm_in state request.object in
    let named = state_of_number request.state in
    let transition = transition_of named in
    (is_unknown_object state request.object, unknown_object_error)
    ∷ (not (has_event_detection state.site request.object), no_alarm_configured_error)
    ∷ (not (names_stamp alarm transition request.stamp), invalid_time_stamp_error)
    ∷ (not (names_entered (last_entered alarm transition) named), invalid_event_state_error)
    ∷ []
