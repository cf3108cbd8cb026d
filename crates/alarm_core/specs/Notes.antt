-- What is told of an event-state transition and of an acknowledgement, and to whom (ANSI/ASHRAE 135-2020, 13.2.5 and 13.5).
use Rattle.std.specs.Prelude.{ℕ, ◌≤◌, length, false, if◌then◌else◌, Option, Some, None, List}
use Rattle.std.specs.List.{flat_map}
use Rattle.std.specs.Option.{option_and_then, option_map, option_map_or, option_to_list}
use Rattle.bac_values.specs.EventStates.{transition_to}
use Rattle.bac_values.specs.Identifier.{ObjectIdData}
use Rattle.bac_values.specs.Limits.{most_note_octets}
use Rattle.bac_values.specs.declared.event_state.EventState.{EventState}
use Rattle.bac_values.specs.declared.note.Note.{Note}
use Rattle.bac_values.specs.declared.status_flags.StatusFlags.{StatusFlags}
use Rattle.bac_values.specs.declared.transition.Transition.{Transition}
use Rattle.bac_values.specs.declared.value.Value.{Value}
use Rattle.event_machine.specs.declared.moves.Move.{Move}
use Rattle.event_services.specs.declared.notification.EventValues.{EventValues}
use Rattle.event_services.specs.declared.notification.Notification.{Notification}
use Rattle.note_maker.specs.declared.source.Source.{Source}
use Rattle.note_maker.specs.Notes.{notes_for}
use Rattle.note_maker.specs.Shapes.{acknowledgement_notification, transition_notification}
use Rattle.note_maker.specs.Told.{flags_in, values_at}
use Rattle.notify_class.specs.declared.class.Class.{Class}
use Rattle.object_table.specs.declared.row.Row.{Row}
use Rattle.object_table.specs.Rows.{row_of}
use Rattle.reliability_eval.specs.Reliability.{reliability_in}
use Rattle.enrollment.specs.declared.enrollment_site.EnrollmentSite.{EnrollmentSite}
use Rattle.enrollment.specs.Enrollments.{site_of}
use Rattle.enrollment.specs.Snapshots.{algorithm_with, value_in}
use Rattle.enrollment.specs.Objects.{facts_at, reliability_at}
use Rattle.enrollment.specs.declared.subject.Subject.{Subject}
use Rattle.enrollment.specs.Subjects.{is_enabled, subject_in}
use Rattle.enrollment.specs.Texts.{texts_in, told_text}
use Rattle.alarm_core.specs.declared.site.Site.{Site}
use Rattle.alarm_core.specs.Classes.{class_in}
use Rattle.alarm_core.specs.Devices.{device_object}
use Rattle.alarm_core.specs.History.{StateTransition, state_in}
use Rattle.alarm_core.specs.Evaluations.{site_stamp, site_zone}

-- an object's notification class
abbrev pub class_for : Subject → List Class → Option Class
class_for subject classes = option_and_then (λ number. class_in number classes) subject.class

-- who tells of what
abbrev pub source_of : Site → Subject → Source
source_of site subject = record {
  device = device_object site;
  object = subject.object;
  algorithm = subject.algorithm;
  notify = subject.notify;
}

abbrev pub move_of : StateTransition → Move
move_of transition = record { from = transition.from; to = transition.to; by_fault = transition.by_fault }

-- Status_Flags of a value object in an event state; an object that has no Out_Of_Service is in service
abbrev pub flags_at : EventState → ObjectIdData → List Row → StatusFlags
flags_at state object rows = flags_in state (reliability_in object rows) (option_map_or (λ (row : Row). row.site.out_of_service) (row_of object rows) false)

-- The flags that are told: of a value object those of the state that it enters. An enrollment tells those of its monitored object after the whole point; where its own reliability made the transition it tells its own.
abbrev pub told_flags : Option EnrollmentSite → StateTransition → StatusFlags
told_flags None transition = flags_at transition.to transition.object transition.values.rows
told_flags (Some site) transition =
    if transition.by_fault then flags_in transition.to (reliability_at transition.object transition.values) false
    else flags_at (state_in site.monitored transition.states) site.monitored transition.values.rows

-- the Present_Value that is told with a reliability: an enrollment has none
abbrev pub told_value : Option EnrollmentSite → StateTransition → Option Value
told_value None transition = value_in transition.values.rows transition.object
told_value (Some site) transition = None

-- what is told of a transition at its point
abbrev pub values_of : StateTransition → Option EventValues
values_of transition =
    let listed = site_of transition.object transition.values.enrollments in
    option_and_then
    (λ facts. values_at (algorithm_with transition.object transition.values.enrollments) facts (move_of transition) transition.cause (reliability_at transition.object transition.values) (told_flags listed transition) (told_value listed transition))
    (facts_at transition.object transition.values)

-- the text that is told of it: the object's for a transition to the state that it enters
abbrev pub text_of : StateTransition → Option (List ℕ)
text_of transition = told_text (transition_to transition.to) (texts_in transition.object transition.values)

-- the notification of a transition, before it is told to a process
abbrev pub notification_of : Site → StateTransition → Subject → Class → Notification
notification_of site transition subject class =
    transition_notification (source_of site subject) class (move_of transition) (site_stamp site transition.moment) (values_of transition) (text_of transition)

-- an object with its class
abbrev pub with_class : List Class → Subject → Option (Subject × Class)
with_class classes subject = option_map (λ class. (subject, class)) (class_for subject classes)

-- the class whose recipients are told of a transition, with its object: there is one where transitions of its kind are told of
abbrev pub addressed : List Class → StateTransition → Option (Subject × Class)
addressed classes transition =
    option_and_then (λ subject. if is_enabled (transition_to transition.to) subject then with_class classes subject else None) (subject_in transition.object transition.values)

-- the notes of a transition, to the recipients of that class
abbrev pub notes_of_transition : Site → List Class → StateTransition → List Note
notes_of_transition site classes transition =
    flat_map (λ (to : Subject × Class). notes_for (notification_of site transition to.0 to.1) to.1.destinations (transition_to transition.to) transition.moment (site_zone site))
    (option_to_list (addressed classes transition))

-- those of some transitions, in their order
abbrev pub notes_of_transitions : Site → List Class → List StateTransition → List Note
notes_of_transitions site classes transitions = flat_map (notes_of_transition site classes) transitions

-- the notes of an acknowledgement of an object, if it is there: to the recipients of its class, whatever is enabled
abbrev pub notes_of_acknowledgement : Site → List Class → ℕ → Option Subject → Transition → EventState → List Note
notes_of_acknowledgement site classes moment subject transition named =
    flat_map (λ (to : Subject × Class). notes_for (acknowledgement_notification (source_of site to.0) to.1 named (site_stamp site moment)) to.1.destinations transition moment (site_zone site))
    (option_to_list (option_and_then (with_class classes) subject))

-- as the outbox has notes
abbrev pub IsShort : Note → Type 0
IsShort note = length note.body ≤ most_note_octets
