-- Notes: to each recipient that is to be notified of an event, one, in the order of the Recipient_List (ANSI/ASHRAE 135-2020, 13.2.5 and 12.21).
use Rattle.std.specs.Prelude.{ℕ, List, map}
use Rattle.bac_values.specs.declared.note.Note.{Note}
use Rattle.bac_values.specs.declared.transition.Transition.{Transition}
use Rattle.civil_stamp.specs.LocalTime.{ZoneData}
use Rattle.notify_class.specs.Recipients.{DestinationData}
use Rattle.notify_class.specs.Chosen.{chosen_destinations}
use Rattle.event_services.specs.declared.notification.Notification.{Notification}
use Rattle.event_services.specs.Notifications.{told_to, written_notification}

-- the note to a recipient: to its peer, confirmed or not as the list says (Issue Confirmed Notifications), and what is told with its Process Identifier
abbrev pub note_to : Notification → DestinationData → Note
note_to facts recipient = record {
  peer = recipient.peer;
  confirmed = recipient.confirmed;
  body = written_notification (told_to recipient.process facts);
}

-- the notes to those recipients that are to be notified of such a transition at the moment
abbrev pub notes_for : Notification → List DestinationData → Transition → ℕ → ZoneData → List Note
notes_for facts recipients transition moment zone = map (note_to facts) (chosen_destinations recipients transition moment zone)
