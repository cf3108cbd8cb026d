-- A history is a list of events, the newest first; and what it says of each object.
use Rattle.std.specs.Prelude.{ℕ, max, Bool, if◌then◌else◌, Option, List, [], ◌∷◌, ◌++◌, map, find}
use Rattle.std.specs.List.{flat_map}
use Rattle.std.specs.Option.{option_map, option_map_or, option_to_list}
use Rattle.bac_values.specs.Identifier.{ObjectIdData}
use Rattle.bac_values.specs.declared.event_state.EventState.{EventState}
use Rattle.bac_values.specs.declared.event_state.EventState.TheVariants.{Normal}
use Rattle.bac_values.specs.declared.moved.Moved.{Moved}
use Rattle.bac_values.specs.declared.transition.Transition.{Transition}
use Rattle.event_machine.specs.declared.moves.Move.{Move}
use Rattle.event_machine.specs.Points.{Incident, Looked, Acknowledged}
use Rattle.event_machine.specs.Detection.{Detection, detection_at, moves_at}
use Rattle.object_table.specs.Rows.{is_object}
use Rattle.enrollment.specs.declared.subject.Subject.{Subject}
use Rattle.enrollment.specs.Objects.{ObjectsState, written}
use Rattle.alarm_core.specs.declared.event.Act.{Act}
use Rattle.alarm_core.specs.declared.event.Act.TheVariants.{Tick, Write, Ack}
use Rattle.alarm_core.specs.declared.event.Event.{Event}
use Rattle.alarm_core.specs.declared.site.Site.{Site}
use Rattle.alarm_core.specs.Evaluations.{first_point, point_of}
use Rattle.alarm_core.specs.declared.transition.ObjectTransition.{ObjectTransition}
use Rattle.alarm_core.specs.Subjects.{detecting_subjects}
use Rattle.alarm_core.specs.Values.{first_values}

-- the moment of the last event, or the site's start
abbrev pub last_moment_of : Site → List Event → ℕ
last_moment_of site [] = site.device.start
last_moment_of site (event ∷ older) = event.moment

-- an event whose moment is raised to the last one
abbrev pub raised : ℕ → Event → Event
raised last event = record event { moment = max event.moment last }

abbrev pub event_at : ℕ → Act → Event
event_at moment act = record { moment = moment; act = act }

abbrev pub tick_at : ℕ → Event
tick_at moment = event_at moment Tick

abbrev pub values_with : Act → ObjectsState → ObjectsState
values_with (Write change) values = written change values
values_with act values = values

-- the properties of all objects after a history: the site's, each replaced by what the last write to it says
abbrev pub values_after : Site → List Event → ObjectsState
values_after site [] = first_values site
values_after site (event ∷ older) = values_with event.act (values_after site older)

-- the properties that each look of an act sees, the oldest first: a tick is one look; a write is one with the properties before it, and then one with those after it; nothing else is one
abbrev pub looks_of : Act → ObjectsState → List ObjectsState
looks_of Tick values = values ∷ []
looks_of (Write change) values = values ∷ written change values ∷ []
looks_of act values = []

-- at a look all objects are evaluated, at a moment and with the properties of that moment; or a transition of one is acknowledged
pub data Occurrence : Type 0 where
  AllEvaluated : ℕ → ObjectsState → Occurrence
  OneAcknowledged : ObjectIdData → Transition → Occurrence

-- some looks at a moment, one after the other, behind older ones
abbrev pub looks_over : ℕ → List ObjectsState → List Occurrence → List Occurrence
looks_over moment [] older = older
looks_over moment (values ∷ later) older = looks_over moment later (AllEvaluated moment values ∷ older)

-- an acknowledgement, or the looks of an act
abbrev pub occurrences_with : ℕ → Act → ObjectsState → List Occurrence → List Occurrence
occurrences_with moment (Ack object transition state) values older = OneAcknowledged object transition ∷ older
occurrences_with moment act values older = looks_over moment (looks_of act values) older

-- the looks and acknowledgements of a history, the newest first; the point at the start is not among them
abbrev pub occurrences_of : Site → List Event → List Occurrence
occurrences_of site [] = []
occurrences_of site (event ∷ older) = occurrences_with event.moment event.act (values_after site older) (occurrences_of site older)

-- the course of one object: at each look its point, if it is there
abbrev pub incidents_of : Site → Subject → List Occurrence → List Incident
incidents_of site subject [] = []
incidents_of site subject (AllEvaluated moment values ∷ older) = option_to_list (option_map Looked (point_of site subject moment values)) ++ incidents_of site subject older
incidents_of site subject (OneAcknowledged object transition ∷ older) =
    if is_object object subject.object then Acknowledged transition ∷ incidents_of site subject older else incidents_of site subject older

-- its detection
abbrev pub detection_of : Site → Subject → List Occurrence → Detection
detection_of site subject occurrences = detection_at subject.algorithm (first_point site subject) (incidents_of site subject occurrences)

-- the event state of an object
pub record ObjectState : Type 0 where
  pub object : ObjectIdData
  pub state : EventState

abbrev pub state_over : Site → List Occurrence → Subject → ObjectState
state_over site occurrences subject = record { object = subject.object; state = (detection_of site subject occurrences).state }

-- those of all objects whose event detection is enabled
abbrev pub states_over : Site → List Occurrence → List ObjectState
states_over site occurrences = map (state_over site occurrences) (detecting_subjects site)

-- the event state of an object, which is NORMAL where its detection isn't enabled
abbrev pub state_in : ObjectIdData → List ObjectState → EventState
state_in object states = option_map_or (λ (found : ObjectState). found.state) (find (λ (listed : ObjectState). is_object object listed.object) states) Normal

-- An event-state transition: when, of which object, from which state to which, whether its reliability made it, the cause of the state that it left, and the properties and event states of all objects after the whole point.
pub record StateTransition : Type 0 where
  pub moment : ℕ
  pub object : ObjectIdData
  pub from : EventState
  pub to : EventState
  pub by_fault : Bool
  pub cause : Option ℕ
  pub values : ObjectsState
  pub states : List ObjectState

-- a transition of an object, by the cause of the state that it left and how it moved
abbrev pub object_transition : ObjectIdData → Option ℕ → Move → ObjectTransition
object_transition object cause made = record { object = object; cause = cause; made = made }

-- a transition of an object at a point with these properties, after which these are the event states
abbrev pub transition_of : ℕ → ObjectsState → List ObjectState → ObjectTransition → StateTransition
transition_of moment values states transition = record {
  moment = moment;
  object = transition.object;
  from = transition.made.from;
  to = transition.made.to;
  by_fault = transition.made.by_fault;
  cause = transition.cause;
  values = values;
  states = states;
}

-- what a report says of it
abbrev pub moved_by : StateTransition → Moved
moved_by transition = record { object = transition.object; from = transition.from; to = transition.to }

-- the transitions of an object as it is evaluated once more, if it is there
abbrev pub object_transitions : Site → ℕ → ObjectsState → List Occurrence → Subject → List ObjectTransition
object_transitions site moment values older subject =
    map (object_transition subject.object (detection_of site subject older).cause)
    (option_map_or (λ point. moves_at subject.algorithm (first_point site subject) (Looked point ∷ incidents_of site subject older)) (point_of site subject moment values) [])

-- those of all objects at one more look
abbrev pub look_transitions : Site → ℕ → ObjectsState → List Occurrence → List StateTransition
look_transitions site moment values older =
    map (transition_of moment values (states_over site (AllEvaluated moment values ∷ older))) (flat_map (object_transitions site moment values older) (detecting_subjects site))

-- those of each of some looks at a moment, one after the other
abbrev pub looks_transitions : Site → ℕ → List ObjectsState → List Occurrence → List (List StateTransition)
looks_transitions site moment [] older = []
looks_transitions site moment (values ∷ later) older = look_transitions site moment values older ∷ looks_transitions site moment later (AllEvaluated moment values ∷ older)

-- those of some looks in their order
abbrev pub joined : List (List StateTransition) → List StateTransition
joined looks = flat_map (λ transitions. transitions) looks

-- those of each look of an event behind a history, and those of all its looks
abbrev pub event_looks : Site → Event → List Event → List (List StateTransition)
event_looks site event older = looks_transitions site event.moment (looks_of event.act (values_after site older)) (occurrences_of site older)

abbrev pub event_transitions : Site → Event → List Event → List StateTransition
event_transitions site event older = joined (event_looks site event older)

-- the event-state transitions of a history: by point, then by ascending object, then the one that the reliability made first
abbrev pub transitions_of : Site → List Event → List StateTransition
transitions_of site [] = []
transitions_of site (event ∷ older) = transitions_of site older ++ event_transitions site event older
