-- The notifications of a history, and their delivery to each recipient (ANSI/ASHRAE 135-2020, 13.8 and 13.9).
use Rattle.std.specs.Prelude.{ℕ, List, [], ◌∷◌, ◌++◌, map}
use Rattle.std.specs.List.{flat_map}
use Rattle.bac_values.specs.Address.{PeerData}
use Rattle.bac_values.specs.declared.note.Note.{Note}
use Rattle.bac_values.specs.declared.note.Send.{Send}
use Rattle.notify_class.specs.declared.class.Class.{Class}
use Rattle.outbox.specs.Delivery.{Timing, delivery_after, sent_at}
use Rattle.outbox.specs.Following.{Operations, after_answer, after_pump, after_queue, no_operations}
use Rattle.outbox.specs.Outboxes.{OutboxState}
use Rattle.outbox.specs.Posts.{post_after}
use Rattle.enrollment.specs.Subjects.{subject_in}
use Rattle.enrollment.specs.Objects.{ObjectsState}
use Rattle.alarm_core.specs.declared.event.Act.{Act}
use Rattle.alarm_core.specs.declared.event.Act.TheVariants.{Ack, Pump, Answer, Edit}
use Rattle.alarm_core.specs.declared.event.Event.{Event}
use Rattle.alarm_core.specs.declared.site.Site.{Site}
use Rattle.alarm_core.specs.Classes.{classes_after, known_peers_of}
use Rattle.alarm_core.specs.History.{StateTransition, event_transitions, values_after}
use Rattle.alarm_core.specs.Notes.{notes_of_acknowledgement, notes_of_transitions}

-- the notifications that an act gives: of each of its event-state transitions, or of its acknowledgement
abbrev pub notes_by : Site → List Class → ObjectsState → ℕ → Act → List StateTransition → List Note
notes_by site classes values moment (Ack object transition named) transitions = notes_of_acknowledgement site classes moment (subject_in object values) transition named
notes_by site classes values moment act transitions = notes_of_transitions site classes transitions

-- those of an event behind a history
abbrev pub event_notes : Site → Event → List Event → List Note
event_notes site event older = notes_by site (classes_after site older) (values_after site older) event.moment event.act (event_transitions site event older)

-- all notifications of a history, in their order
abbrev pub notifications_of : Site → List Event → List Note
notifications_of site [] = []
notifications_of site (event ∷ older) = notifications_of site older ++ event_notes site event older

-- what an act does for each recipient: its notifications are queued, what waits is sent, or an answer came
abbrev pub operations_with : ℕ → Act → List Note → Operations → Operations
operations_with moment Pump notes operations = after_pump moment operations
operations_with moment (Answer peer invoke kind) notes operations = after_answer peer invoke operations
operations_with moment (Edit class recipients) notes operations = operations
operations_with moment act notes operations = after_queue notes operations

-- all that was done for each recipient, the newest first
abbrev pub operations_of : Site → List Event → Operations
operations_of site [] = no_operations
operations_of site (event ∷ older) = operations_with event.moment event.act (event_notes site event older) (operations_of site older)

-- 12.11: APDU_Timeout and Number_Of_APDU_Retries, and the site's choice of what is given up
abbrev pub timing_at : Site → Timing
timing_at site = record { timeout = site.device.apdu_timeout; retries = site.device.retries; flush_silent = site.device.flush_silent }

-- what waits for each known peer
abbrev pub outbox_after : Site → List Event → OutboxState
outbox_after site history = record {
  posts = map (λ peer. post_after (timing_at site) peer (operations_of site history peer)) (known_peers_of site history);
  limit = site.device.outbox;
  timeout = site.device.apdu_timeout;
  retries = site.device.retries;
  flush_silent = site.device.flush_silent;
}

-- what an act sends: a pump what each recipient is to be sent, in the order of the recipients
abbrev pub sends_by : Site → ℕ → Act → Operations → List PeerData → List Send
sends_by site moment Pump operations known = flat_map (λ peer. sent_at (timing_at site) moment peer (delivery_after (timing_at site) (operations peer))) known
sends_by site moment act operations known = []

abbrev pub event_sends : Site → Event → List Event → List Send
event_sends site event older = sends_by site event.moment event.act (operations_of site older) (known_peers_of site older)
