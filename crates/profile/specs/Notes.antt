-- Who is told what: the notification of a transition (13.2.5, 13.8, 13.9) and of an acknowledgement (13.5), and the notes to recipients.
use Rattle.std.specs.Prelude.{ℕ, ℤ, nat_abs, Bool, false, ◌==◌, length, if◌then◌else◌}
use Rattle.std.specs.Prelude.{Option, Some, None, option_and_then, option_to_list, unwrap_or}
use Rattle.std.specs.Prelude.{List, [], ◌∷◌, ◌++◌, map, filter, flat_map, slice_get, slice_index, slice_index_or}
use Rattle.profile.specs.Numbers.{Identifier, identifier, maybe, Value, Null, Signed, Unsigned, Enumerated, Text}
use Rattle.profile.specs.Numbers.{EventState, Normal, Fault, HighLimit, same_state, Transition, place, transition_to, Device}
use Rattle.profile.specs.Numbers.{reliability_number, Algorithm, event_type, change_of_reliability, acknowledgement_type}
use Rattle.profile.specs.Numbers.{CommandFailure, UnsignedRange, SignedOutOfRange, UnsignedOutOfRange, ChangeOfCharacterstring}
use Rattle.profile.specs.Sites.{Site, Object, Detection, Class, Destination, identifier_of, object_of, class_of}
use Rattle.profile.specs.Rules.{Seen, first_match, reliability_of}
use Rattle.profile.specs.Courses.{Move}
use Rattle.profile.specs.Times.{stamp_at, is_notified}
use Rattle.profile.specs.Tables.{flags}
use Rattle.profile.specs.Histories.{Act, Acknowledge, Event, Moved, point_of, classes_after, course_at, state_at, moves_by}

-- What is told (13.8), whoever is told: device, object, time stamp, class, priority, event type, message text, notify type, whether an
-- acknowledgement is wanted, both states, and the event values in the order of their tags (BACnetNotificationParameters in 21).
pub record Notification : Type 0 where
  pub device : Identifier
  pub object : Identifier
  pub time_stamp : List ℕ
  pub notification_class : ℕ
  pub priority : ℕ
  pub event_type : ℕ
  pub message_text : Option (List ℕ)
  pub notify_type : ℕ
  pub ack_required : Option Bool
  pub from_state : Option EventState
  pub to_state : EventState
  pub event_values : Option (List Value)

-- a notification on its way to the recipient of a destination, with its process identifier, and to be confirmed or not as it says
pub record Note : Type 0 where
  pub destination : Destination
  pub notification : Notification

-- the limit of the state that is entered, or on a return to NORMAL of the state that is left; as the algorithm has it
abbrev pub limit_of : Move → Detection → ℤ
limit_of move settings =
    if same_state (if same_state move.to Normal then move.from else move.to) HighLimit then settings.high_limit else settings.low_limit

-- the alarm value that matches, or on a return to NORMAL the one by which OFFNORMAL was entered
abbrev pub alarm_value : Move → Option ℕ → Seen → Value
alarm_value move cause s =
    unwrap_or (option_and_then (slice_get s.settings.alarm_values) (if same_state move.to Normal then cause else first_match s)) (Text [])

-- the event values of each algorithm (13.3, 21)
abbrev pub event_values : Algorithm → Move → Option ℕ → Seen → Value → List Value
event_values CommandFailure move cause seen flags = seen.value ∷ flags ∷ unwrap_or seen.feedback Null ∷ []
event_values UnsignedRange move cause seen flags = seen.value ∷ flags ∷ Unsigned (nat_abs (limit_of move seen.settings)) ∷ []
event_values SignedOutOfRange move cause s flags = s.value ∷ flags ∷ Unsigned s.settings.deadband ∷ Signed (limit_of move s.settings) ∷ []
event_values UnsignedOutOfRange move cause s flags =
    s.value ∷ flags ∷ Unsigned s.settings.deadband ∷ Unsigned (nat_abs (limit_of move s.settings)) ∷ []
event_values ChangeOfCharacterstring move cause seen flags = seen.value ∷ flags ∷ alarm_value move cause seen ∷ []
event_values algorithm move cause seen flags = seen.value ∷ flags ∷ []

-- a message text, where there is one that isn't empty (13.8)
abbrev pub text_for : Detection → Transition → Option (List ℕ)
text_for settings transition =
    let text = slice_index_or settings.message_texts (place transition) [] in if length text == 0 then None else Some text

-- what is told of an object with a class
abbrev pub tell : List Object → List Class → Identifier → (Object → Detection → Class → List Note) → List Note
tell objects classes id notes =
    maybe (object_of objects id) [] (λ object. maybe object.detection [] (λ settings.
    maybe (class_of classes settings.notification_class) [] (notes object settings)))

module _ (site : Site) where
  -- The flags of a transition (13.2.5): those of the object as it is then; of one that an enrollment's algorithm made, those of the
  -- monitored object after the same look.
  abbrev pub flags_of : Moved → Object → Detection → Value
  flags_of moved object settings =
      let of = λ (state : EventState) (other : Object). flags state (reliability_of moved.look.objects other) other.out_of_service in
      let after = λ (other : Object). of (state_at site (moved.look ∷ moved.older) (identifier_of other)) other in
      let own = of moved.move.to object in
      if moved.move.by_reliability then own else maybe (option_and_then (object_of moved.look.objects) settings.monitored) own after

  -- its event values; of CHANGE_OF_RELIABILITY the reliability, the flags and the value of a value object
  abbrev pub values_of : Moved → Object → Detection → List Value
  values_of moved object settings =
      let cause = option_and_then (λ course. course.cause) (course_at site moved.older object) in
      let flags = flags_of moved object settings in
      if moved.move.by_reliability
      then Enumerated (reliability_number (reliability_of moved.look.objects object)) ∷ flags ∷ option_to_list object.value
      else event_values settings.algorithm moved.move cause (point_of moved.look object settings).seen flags

  -- the notification of an acknowledgement of a transition, in the state that was named (13.5)
  abbrev pub acknowledgement_of : Identifier → Transition → EventState → ℕ → Detection → Class → Notification
  acknowledgement_of id transition state moment settings class = record {
    device = identifier Device site.device.instance;
    object = id;
    time_stamp = stamp_at site.device moment;
    notification_class = settings.notification_class;
    priority = slice_index class.priority (place transition);
    event_type = if same_state state Fault then change_of_reliability else event_type settings.algorithm;
    message_text = None;
    notify_type = acknowledgement_type;
    ack_required = None;
    from_state = None;
    to_state = state;
    event_values = None;
  }

  -- the notification of a transition, which has more
  abbrev pub notification_of : Moved → Object → Detection → Class → Notification
  notification_of moved object settings class =
      let transition = transition_to moved.move.to in
      (record (acknowledgement_of moved.object transition moved.move.to moved.look.moment settings class) {
        event_type = if moved.move.by_reliability then change_of_reliability else event_type settings.algorithm;
        message_text = text_for settings transition;
        notify_type = settings.notify_type;
        ack_required = Some (slice_index_or class.ack_required (place transition) false);
        from_state = Some moved.move.from;
        event_values = Some (values_of moved object settings);
      })

  -- a note to each destination of a class that is notified of a transition at a moment, in the order of its list (12.21)
  abbrev pub notes_to : Class → Transition → ℕ → Notification → List Note
  notes_to class transition moment told =
      map (λ destination. record { destination = destination; notification = told })
      (filter (is_notified site.device transition moment) class.recipient_list)

  -- the notes of a transition, where Event_Enable has its flag at that look (13.2.5)
  abbrev pub notes_of_move : List Class → Moved → List Note
  notes_of_move classes moved =
      let transition = transition_to moved.move.to in
      tell moved.look.objects classes moved.object (λ object settings class.
      if slice_index_or settings.event_enable (place transition) false
      then notes_to class transition moved.look.moment (notification_of moved object settings class) else [])

  -- the notes of an act itself: of an acknowledgement
  abbrev pub notes_of_act : Act → ℕ → List Event → List Note
  notes_of_act (Acknowledge id transition state) moment older =
      tell site.objects (classes_after site older) id (λ object settings class.
      notes_to class transition moment (acknowledgement_of id transition state moment settings class))
  notes_of_act act moment older = []

  -- the notes of an event, and all of a history, in the order in which they came to be
  abbrev pub notes_by : Event → List Event → List Note
  notes_by event older =
      flat_map (notes_of_move (classes_after site older)) (moves_by site event older) ++ notes_of_act event.act event.moment older

  abbrev pub notes_over : List Event → List Note
  notes_over [] = []
  notes_over (event ∷ older) = notes_over older ++ notes_by event older
