-- What the transitions of a look are told with, and what is told of each.
use Rattle.std.specs.Prelude.{ℕ, ◌+◌, ◌/◌, ◌≤◌, if◌then◌else◌, Option, List, [], ◌∷◌, map}
use Rattle.std.specs.Option.{option_map}
use Rattle.bac_values.specs.EventStates.{transition_to}
use Rattle.bac_values.specs.declared.moved.Moved.{Moved}
use Rattle.bac_values.specs.declared.note.Note.{Note}
use Rattle.bac_values.specs.declared.transition.Transition.{Transition}
use Rattle.civil_stamp.specs.LocalTime.{LocalMomentData}
use Rattle.event_log.specs.History.{Call, Recorded}
use Rattle.event_services.specs.Notifications.{written_notification}
use Rattle.event_services.specs.declared.notification.Notification.{Notification}
use Rattle.note_maker.specs.Notes.{notes_for}
use Rattle.notify_class.specs.declared.class.Class.{Class}
use Rattle.event_log.specs.declared.log_site.LogSite.{LogSite}
use Rattle.outbox.specs.Outboxes.{OutboxState, unfinished_in}
use Rattle.enrollment.specs.declared.subject.Subject.{Subject}
use Rattle.enrollment.specs.Objects.{ObjectsState}
use Rattle.alarm_core.specs.declared.site.Site.{Site}
use Rattle.alarm_core.specs.declared.transition.ObjectTransition.{ObjectTransition}
use Rattle.alarm_core.specs.Evaluations.{stamp_at}
use Rattle.alarm_core.specs.History.{ObjectState, StateTransition, transition_of}
use Rattle.alarm_core.specs.Logs.{records_class}
use Rattle.alarm_core.specs.Notes.{addressed, notification_of}
use Rattle.alarm_core.specs.CoreSteps.{states_of}
use Rattle.alarm_core.specs.State.{CoreState}

-- a site at the moment of a look: its notification classes, and the properties and event states of all objects after it
pub record SiteViewData : Type 0 where
  pub site : Site
  pub moment : ℕ
  pub classes : List Class
  pub values : ObjectsState
  pub states : List ObjectState

-- a transition of the look
abbrev pub transition_in : SiteViewData → ObjectTransition → StateTransition
transition_in seen transition = transition_of seen.moment seen.values seen.states transition

-- the transitions of the last look at a moment, with what is there after it
abbrev pub seen_in : ℕ → CoreState → List ObjectTransition → List StateTransition
seen_in moment state transitions = map (transition_of moment state.values (states_of state.alarms)) transitions

-- what a report says of it
abbrev pub moved_of : ObjectTransition → Moved
moved_of transition = record { object = transition.object; from = transition.made.from; to = transition.made.to }

-- a notification, and the class whose recipients are told where they want transitions of a kind
pub record AddressedData : Type 0 where
  pub class : Class
  pub kind : Transition
  pub facts : Notification

-- that of a transition, if there is one
abbrev pub addressed_in : SiteViewData → StateTransition → Option AddressedData
addressed_in seen transition =
    option_map (λ (to : Subject × Class). record { class = to.1; kind = transition_to transition.to; facts = notification_of seen.site transition to.0 to.1 })
    (addressed seen.classes transition)

-- its notes at a moment
abbrev pub notes_to : LocalMomentData → AddressedData → List Note
notes_to at told = notes_for told.facts told.class.destinations told.kind at.moment at.zone

-- and its record in a log
abbrev pub record_to : LocalMomentData → LogSite → AddressedData → List Call
record_to at listed told = if records_class listed told.class then Recorded (record { stamp = stamp_at at; hundredths = at.moment / 10; body = written_notification told.facts }) ∷ [] else []

-- an outbox has room for so many notes more
abbrev pub HasRoom : ℕ → OutboxState → Type 0
HasRoom count outbox = unfinished_in outbox.posts + count ≤ outbox.limit
