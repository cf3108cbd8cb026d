-- What one event makes of a state, without looking back over the history.
use Rattle.std.specs.Prelude.{ℕ, ◌+◌, Bool, if◌then◌else◌, Option, Some, None, List, [], ◌∷◌, map}
use Rattle.std.specs.List.{flat_map}
use Rattle.bac_values.specs.Address.{PeerData}
use Rattle.bac_values.specs.Identifier.{ObjectIdData}
use Rattle.bac_values.specs.declared.transition.Transition.{Transition}
use Rattle.algorithm_rules.specs.declared.table.Algorithm.{Algorithm}
use Rattle.civil_stamp.specs.LocalTime.{LocalMomentData}
use Rattle.event_machine.specs.AlarmSteps.{Change, acknowledged, begun, next_look, stays}
use Rattle.event_machine.specs.Points.{Point}
use Rattle.event_machine.specs.Summary.{AlarmState}
use Rattle.bac_values.specs.declared.note.Note.{Note}
use Rattle.bac_values.specs.declared.note.Send.{Send}
use Rattle.event_log.specs.History.{Call, next_log}
use Rattle.event_log.specs.Log.{EventLogState}
use Rattle.notify_class.specs.declared.class.Class.{Class}
use Rattle.notify_class.specs.Edits.{recipient_peers}
use Rattle.outbox.specs.Outboxes.{OutboxState, answered, flushing, learned, new_outbox, pumped, queued, sends_of}
use Rattle.object_table.specs.Rows.{is_object}
use Rattle.enrollment.specs.declared.subject.Subject.{Subject}
use Rattle.enrollment.specs.Objects.{ObjectsState}
use Rattle.alarm_core.specs.declared.event.Act.{Act}
use Rattle.alarm_core.specs.declared.event.Act.TheVariants.{Ack, Pump, Answer, Edit}
use Rattle.alarm_core.specs.declared.event.Event.{Event}
use Rattle.event_log.specs.declared.log_site.LogSite.{LogSite}
use Rattle.alarm_core.specs.declared.site.Site.{Site}
use Rattle.alarm_core.specs.Evaluations.{point_in, site_moment, start_point}
use Rattle.alarm_core.specs.declared.transition.ObjectTransition.{ObjectTransition}
use Rattle.alarm_core.specs.Subjects.{ack_required_of, detecting_subjects}
use Rattle.alarm_core.specs.Values.{first_values}
use Rattle.alarm_core.specs.History.{ObjectState, StateTransition, joined, looks_of, object_transition, transition_of, values_with}
use Rattle.alarm_core.specs.Classes.{classes_with, first_classes, known_peers_of}
use Rattle.alarm_core.specs.Deliveries.{notes_by}
use Rattle.alarm_core.specs.Logs.{calls_by, first_log, SiteLogState}
use Rattle.alarm_core.specs.State.{DetectedObjectState, CoreState}

-- one object is evaluated, if it is there
abbrev pub change_by : Algorithm → Option Point → AlarmState → Change
change_by algorithm None alarm = stays alarm
change_by algorithm (Some point) alarm = next_look algorithm point alarm

abbrev pub change_at : LocalMomentData → ObjectsState → DetectedObjectState → Change
change_at at values detected = change_by detected.algorithm (point_in at detected.ack_required detected.object values) detected.alarm

abbrev pub evaluated : LocalMomentData → ObjectsState → DetectedObjectState → DetectedObjectState
evaluated at values detected = record detected { alarm = (change_at at values detected).alarm }

-- its transitions then
abbrev pub transitions_by : LocalMomentData → ObjectsState → DetectedObjectState → List ObjectTransition
transitions_by at values detected = map (object_transition detected.object detected.alarm.cause) (change_at at values detected).moves

-- the event states of the objects
abbrev pub state_of_detected : DetectedObjectState → ObjectState
state_of_detected detected = record { object = detected.object; state = detected.alarm.state }

abbrev pub states_of : List DetectedObjectState → List ObjectState
states_of alarms = map state_of_detected alarms

-- one more look, at which all objects are evaluated, and its transitions
abbrev pub evaluated_all : LocalMomentData → ObjectsState → List DetectedObjectState → List DetectedObjectState
evaluated_all at values alarms = map (evaluated at values) alarms

abbrev pub transitions_all : LocalMomentData → ObjectsState → List DetectedObjectState → List StateTransition
transitions_all at values alarms = map (transition_of at.moment values (states_of (evaluated_all at values alarms))) (flat_map (transitions_by at values) alarms)

-- some looks, one after the other, and the transitions of each of them
abbrev pub after_looks : LocalMomentData → List ObjectsState → List DetectedObjectState → List DetectedObjectState
after_looks at [] alarms = alarms
after_looks at (values ∷ later) alarms = after_looks at later (evaluated_all at values alarms)

abbrev pub transitions_of_looks : LocalMomentData → List ObjectsState → List DetectedObjectState → List (List StateTransition)
transitions_of_looks at [] alarms = []
transitions_of_looks at (values ∷ later) alarms = transitions_all at values alarms ∷ transitions_of_looks at later (evaluated_all at values alarms)

abbrev pub acked : ObjectIdData → Transition → DetectedObjectState → DetectedObjectState
acked object transition detected = if is_object object detected.object then record detected { alarm = acknowledged transition detected.alarm } else detected

-- an acknowledgement, or the looks of an act
abbrev pub alarms_with : LocalMomentData → Act → ObjectsState → List DetectedObjectState → List DetectedObjectState
alarms_with at (Ack object transition state) values alarms = map (acked object transition) alarms
alarms_with at act values alarms = after_looks at (looks_of act values) alarms

-- the event-state transitions of each look that an event makes, and those of all its looks
abbrev pub next_looks : Event → CoreState → List (List StateTransition)
next_looks event state = transitions_of_looks (site_moment state.site event.moment) (looks_of event.act state.values) state.alarms

abbrev pub next_transitions : Event → CoreState → List StateTransition
next_transitions event state = joined (next_looks event state)

-- its notifications
abbrev pub next_notes : Event → CoreState → List Note
next_notes event state = notes_by state.site state.classes state.values event.moment event.act (next_transitions event state)

-- what waits for each recipient after an act with these notifications
abbrev pub outbox_with : ℕ → Act → List Note → OutboxState → OutboxState
outbox_with moment Pump notes outbox = pumped moment outbox
outbox_with moment (Answer peer invoke kind) notes outbox = answered peer invoke outbox
outbox_with moment (Edit class recipients) notes outbox = learned (recipient_peers recipients) outbox
outbox_with moment act notes outbox = queued notes outbox

-- what it sends
abbrev pub sends_with : ℕ → Act → OutboxState → List Send
sends_with moment Pump outbox = sends_of moment outbox
sends_with moment act outbox = []

abbrev pub next_sends : Event → CoreState → List Send
next_sends event state = sends_with event.moment event.act state.outbox

-- a log after some calls, one after the other
abbrev pub after_calls : List Call → EventLogState → EventLogState
after_calls [] log = log
after_calls (call ∷ later) log = after_calls later (next_log call log)

-- the logs after an act, by the transitions of each of its looks
abbrev pub logs_with : Site → List Class → Act → List (List StateTransition) → List SiteLogState → List SiteLogState
logs_with site classes act looks logs = map (λ (kept : SiteLogState). record kept { log = after_calls (calls_by site classes kept.site act looks) kept.log }) logs

-- what an event makes of a state, but for the count of events and the last moment
abbrev pub acted : Event → CoreState → CoreState
acted event state = record state {
  values = values_with event.act state.values;
  alarms = alarms_with (site_moment state.site event.moment) event.act state.values state.alarms;
  classes = classes_with event.act state.classes;
  outbox = outbox_with event.moment event.act (next_notes event state) state.outbox;
  logs = logs_with state.site state.classes event.act (next_looks event state) state.logs;
}

-- the state after an event, whose moment isn't before the last one
abbrev pub next_state : Event → CoreState → CoreState
next_state event state = record (acted event state) { events = state.events + 1; last_moment = event.moment }

-- an object at the start, where its class wants these transitions acknowledged
abbrev pub first_with : LocalMomentData → List Bool → ObjectsState → Subject → DetectedObjectState
first_with at ack_required values subject = record {
  object = subject.object;
  algorithm = subject.algorithm;
  ack_required = ack_required;
  alarm = begun subject.algorithm (start_point at ack_required subject.object values);
}

abbrev pub first_detected : Site → Subject → DetectedObjectState
first_detected site subject = first_with (site_moment site site.device.start) (ack_required_of site subject) (first_values site) subject

-- a log of a site at the start
abbrev pub first_kept : LogSite → SiteLogState
first_kept listed = record { site = listed; log = first_log listed }

-- an outbox without notifications, with the site's settings
abbrev pub empty_outbox : Site → List PeerData → OutboxState
empty_outbox site peers = flushing site.device.flush_silent (new_outbox peers site.device.outbox site.device.apdu_timeout site.device.retries)

abbrev pub first_state : Site → CoreState
first_state site = record {
  site = site;
  events = 0;
  last_moment = site.device.start;
  values = first_values site;
  alarms = map (first_detected site) (detecting_subjects site);
  classes = first_classes site;
  outbox = empty_outbox site (known_peers_of site []);
  logs = map first_kept site.logs;
}
