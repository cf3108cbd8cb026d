-- Notifications of transitions and of acknowledgements, before they are told to a process (ANSI/ASHRAE 135-2020, 13.2.5, 13.8.1 and 13.9.1).
use Rattle.std.specs.Prelude.{ℕ, Bool, false, Option, Some, None, List, slice_index, slice_index_or}
use Rattle.bac_values.specs.EventTypes.{ack_notification_notify_type}
use Rattle.bac_values.specs.EventStates.{place_of_transition, transition_to}
use Rattle.bac_values.specs.declared.event_state.EventState.{EventState}
use Rattle.bac_values.specs.declared.stamp.Stamp.{Stamp}
use Rattle.bac_values.specs.declared.transition.Transition.{Transition}
use Rattle.event_machine.specs.declared.moves.Move.{Move}
use Rattle.notify_class.specs.declared.class.Class.{Class}
use Rattle.event_services.specs.declared.notification.Notification.{Notification}
use Rattle.event_services.specs.declared.notification.EventValues.{EventValues}
use Rattle.note_maker.specs.EventTypes.{transition_type, acknowledgement_type}
use Rattle.note_maker.specs.declared.source.Source.{Source}

-- a class's Priority for a kind of transition, and whether it wants such a one acknowledged (Ack_Required)
abbrev pub priority_for : Class → Transition → ℕ
priority_for class transition = slice_index class.priority (place_of_transition transition)

abbrev pub wants_ack : Class → Transition → Bool
wants_ack class transition = slice_index_or class.ack_required (place_of_transition transition) false

-- The notification of a transition, with the text that is told of it, if there is one. Process Identifier is 0 until it is told to a recipient's process.
abbrev pub transition_notification : Source → Class → Move → Stamp → Option EventValues → Option (List ℕ) → Notification
transition_notification source class made stamp values text = record {
  process = 0;
  device = source.device;
  object = source.object;
  stamp = stamp;
  class = class.instance;
  priority = priority_for class (transition_to made.to);
  event_type = transition_type source.algorithm made;
  text = text;
  notify = source.notify;
  ack_required = Some (wants_ack class (transition_to made.to));
  from = Some made.from;
  to = made.to;
  values = values;
}

-- The notification of an acknowledgement: Time Stamp is when it was acknowledged, To State is the state that was. There is no Message Text, AckRequired, From State or Event Values.
abbrev pub acknowledgement_notification : Source → Class → EventState → Stamp → Notification
acknowledgement_notification source class acknowledged stamp = record {
  process = 0;
  device = source.device;
  object = source.object;
  stamp = stamp;
  class = class.instance;
  priority = priority_for class (transition_to acknowledged);
  event_type = acknowledgement_type source.algorithm acknowledged;
  text = None;
  notify = ack_notification_notify_type;
  ack_required = None;
  from = None;
  to = acknowledged;
  values = None;
}
