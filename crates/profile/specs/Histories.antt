-- What looking back over a history shows: what was written, when objects are looked at, states, transitions, stamps, acknowledgements.
use Rattle.std.specs.Prelude.{ℕ, max, Bool, true, false, ◌==◌, ◌&&◌, ◌||◌, not, if◌then◌else◌}
use Rattle.std.specs.Prelude.{Option, Some, None, is_some, option_map, option_and_then, unwrap_or}
use Rattle.std.specs.Prelude.{List, [], ◌∷◌, ◌++◌, map, reverse, filter_map, find, flat_map, slice_index_or}
use Rattle.profile.specs.Numbers.{Identifier, is, maybe, Value, Null, Enumerated, EventState, Normal, BACnetReliability}
use Rattle.profile.specs.Numbers.{Transition, place, transition_to}
use Rattle.profile.specs.Sites.{Site, Object, Detection, Class, Destination, Peer, identifier_of, object_of, class_of}
use Rattle.profile.specs.Rules.{Seen, matches, reliability_of}
use Rattle.profile.specs.Courses.{Point, Course, Move, course_of, moves_at}
use Rattle.profile.specs.Times.{stamp_at, no_stamp}
use Rattle.profile.specs.Tables.{Shown, set}

-- what a write changes of an object: a property, by its number (15.9), or the reliability that the field tells
pub data Change : Type 0 where
  Property : ℕ → Value → Change
  FieldFault : BACnetReliability → Change

-- What happens: time passes; an object is written; a transition is acknowledged in a state (13.5); notifications are sent; one is
-- answered; a class gets another list of recipients (15.1, 15.2).
pub data Act : Type 0 where
  Tick Pump : Act
  Write : Identifier → Change → Act
  Acknowledge : Identifier → Transition → EventState → Act
  Answer : Peer → ℕ → Act
  Edit : ℕ → List Destination → Act

-- an event, at a moment; a history is a list of events, the newest first
pub record Event : Type 0 where
  pub moment : ℕ
  pub act : Act

-- all objects at a moment at which they are looked at
pub record Look : Type 0 where
  pub moment : ℕ
  pub objects : List Object

-- a transition of an object at a look, behind older ones
pub record Moved : Type 0 where
  pub object : Identifier
  pub look : Look
  pub older : List Look
  pub move : Move

-- ---- what an act changes

abbrev pub changed : Change → Object → Object
changed (Property number value) object = set number value object
changed (FieldFault reliability) object = record object { field_reliability = reliability }

-- the objects behind it
abbrev pub objects_with : Act → List Object → List Object
objects_with (Write id change) objects = map (λ object. if is (identifier_of object) id then changed change object else object) objects
objects_with act objects = objects

-- the classes behind it: an edit leaves another list
abbrev pub classes_with : Act → List Class → List Class
classes_with (Edit number list) classes = map (λ (c : Class). if c.number == number then record c { recipient_list = list } else c) classes
classes_with act classes = classes

-- The looks at it, the newest first. At a tick all objects are looked at once; at a write twice, as they were before it and as they are
-- behind it; at every other act not at all (13.2.2 leaves it to the device when it looks).
abbrev pub looks_by : Act → ℕ → List Object → List Look
looks_by Tick moment objects = record { moment = moment; objects = objects } ∷ []
looks_by (Write id change) moment objects =
    (record { moment = moment; objects = objects_with (Write id change) objects }) ∷ record { moment = moment; objects = objects } ∷ []
looks_by act moment objects = []

abbrev pub acknowledges : Identifier → Transition → Act → Bool
acknowledges id transition (Acknowledge object other state) = is object id && place other == place transition
acknowledges id transition act = false

-- ---- what is seen at a look

abbrev pub value_of : List Object → Identifier → Option Value
value_of objects id = option_and_then (λ (object : Object). object.value) (object_of objects id)

-- whether an algorithm is held off: by the binary value to which the settings refer, where they do, or by the settings (13.2.2.1, 12.12)
abbrev pub is_inhibited : List Object → Detection → Bool
is_inhibited objects s =
    maybe s.inhibit_reference s.event_algorithm_inhibit (λ id. maybe (value_of objects id) false (matches None (Enumerated 1)))

-- of an object with these settings: its own value, or of an enrollment the monitored value and the feedback (12.12)
abbrev pub point_of : Look → Object → Detection → Point
point_of look object settings =
    let value = unwrap_or (value_of look.objects (unwrap_or settings.monitored (identifier_of object))) Null in
    let feedback = option_and_then (value_of look.objects) settings.feedback in
    let fault = reliability_of look.objects object in
    let seen : Seen = record { settings = settings; value = value; feedback = feedback } in
    (record { moment = look.moment; seen = seen; reliability = fault; inhibited = is_inhibited look.objects settings })

-- of the object of an identifier, at some looks
abbrev pub points_of : Identifier → List Look → List Point
points_of id looks =
    filter_map (λ look. option_and_then (λ (o : Object). option_map (point_of look o) o.detection) (object_of look.objects id)) looks

-- ---- looking back over a history of a site

module _ (site : Site) where
  -- when an event that comes is taken to be: not earlier than the one before it, nor the first earlier than the start
  abbrev pub moment_after : List Event → ℕ → ℕ
  moment_after [] moment = max site.device.start moment
  moment_after (event ∷ older) moment = max event.moment moment

  -- the objects, as writes left them
  abbrev pub objects_after : List Event → List Object
  objects_after [] = site.objects
  objects_after (event ∷ older) = objects_with event.act (objects_after older)

  -- the classes, as edits left them
  abbrev pub classes_after : List Event → List Class
  classes_after [] = site.classes
  classes_after (event ∷ older) = classes_with event.act (classes_after older)

  -- all looks of a history, the newest first
  abbrev pub looks_over : List Event → List Look
  looks_over [] = []
  looks_over (event ∷ older) = looks_by event.act event.moment (objects_after older) ++ looks_over older

  -- the first point of an object, before all events
  abbrev pub first_point : Object → Detection → Point
  first_point object settings = point_of (record { moment = site.device.start; objects = site.objects }) object settings

  -- how events of an object are detected, where they are: it has a class, and its Event_Detection_Enable is set (13.2.2.1)
  abbrev pub detected : Object → Option Detection
  detected object = option_and_then (λ (s : Detection). if s.event_detection_enable then Some s else None) object.detection

  abbrev pub course_at : List Look → Object → Option Course
  course_at looks object =
      option_map (λ s. course_of s.algorithm (first_point object s) (points_of (identifier_of object) looks)) (detected object)

  -- the event state of an object; NORMAL where its events aren't detected (13.2.2)
  abbrev pub state_at : List Look → Identifier → EventState
  state_at looks id = maybe (option_and_then (course_at looks) (object_of site.objects id)) Normal (λ course. course.state)

  -- the transitions of an object at a look behind older ones
  abbrev pub moves_of : Look → List Look → Object → List Moved
  moves_of look older object =
      let id = identifier_of object in
      let moves = λ (s : Detection). moves_at s.algorithm (first_point object s) (points_of id (look ∷ older)) in
      map (λ move. record { object = id; look = look; older = older; move = move }) (maybe (detected object) [] moves)

  -- those of some looks behind older ones: by look, then by ascending identifier, then the one that the reliability made
  abbrev pub moves_with : List Look → List Look → List Moved
  moves_with [] older = []
  moves_with (look ∷ earlier) older = moves_with earlier older ++ flat_map (moves_of look (earlier ++ older)) site.objects

  -- those of an event, and all of a history, the newest first
  abbrev pub moves_by : Event → List Event → List Moved
  moves_by event older = moves_with (looks_by event.act event.moment (objects_after older)) (looks_over older)

  abbrev pub moves_over : List Event → List Moved
  moves_over [] = []
  moves_over (event ∷ older) = reverse (moves_by event older) ++ moves_over older

  -- ---- the record of a transition of an object (13.2.2, 12.12)

  abbrev pub is_of : Identifier → Transition → Moved → Bool
  is_of id transition moved = is moved.object id && place (transition_to moved.move.to) == place transition

  abbrev pub last_move : List Event → Identifier → Transition → Option Moved
  last_move history id transition = find (is_of id transition) (moves_over history)

  -- when it last came
  abbrev pub stamp_of : List Event → Identifier → Transition → List ℕ
  stamp_of history id transition = maybe (last_move history id transition) no_stamp (λ moved. stamp_at site.device moved.look.moment)

  -- whether the class of the object wants it to be acknowledged (12.21)
  abbrev pub wants_acknowledgement : Identifier → Transition → Bool
  wants_acknowledgement id transition =
      let wants = λ (class : Class). slice_index_or class.ack_required (place transition) false in
      maybe (option_and_then (λ (object : Object). object.detection) (object_of site.objects id)) false
      (λ s. maybe (class_of site.classes s.notification_class) false wants)

  -- whether it is acknowledged: it never came, or wanted no acknowledgement when it last came, or one came since
  abbrev pub is_acknowledged : Identifier → Transition → List Event → Bool
  is_acknowledged id transition [] = true
  is_acknowledged id transition (event ∷ older) =
      let came = is_some (find (is_of id transition) (moves_by event older)) in
      acknowledges id transition event.act
      || (if came then not (wants_acknowledgement id transition) else is_acknowledged id transition older)

  -- what is read of an object that no write sets
  abbrev pub shown_after : List Event → Object → Shown
  shown_after history object =
      let id = identifier_of object in
      (record {
        state = state_at (looks_over history) id;
        reliability = reliability_of (objects_after history) object;
        acknowledged = λ transition. is_acknowledged id transition history;
        stamp = stamp_of history id;
        came = λ transition. is_some (last_move history id transition);
        inhibited = maybe object.detection false (is_inhibited (objects_after history));
      })
