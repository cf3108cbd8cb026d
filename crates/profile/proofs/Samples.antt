-- What the examples look at: a plant with one object of each kind.
use Rattle.std.specs.Prelude.{ℕ, pos, Bool, true, false, Option, Some, None, List, [], ◌∷◌, ◌+◌, codes, map, option_map, reverse, replicate}
use Rattle.profile.specs.Numbers.{Identifier, identifier, Value, Unsigned, Signed, Text, Bits, Enumerated, NoFaultDetected, BACnetReliability}
use Rattle.profile.specs.Numbers.{ObjectType, BinaryValue, EventEnrollment, MultiStateValue, BitStringValue, CharacterStringValue, IntegerValue, PositiveIntegerValue}
use Rattle.profile.specs.Numbers.{Algorithm, ChangeOfBitstring, ChangeOfState, CommandFailure, UnsignedRange, SignedOutOfRange, UnsignedOutOfRange, ChangeOfCharacterstring, EventState}
use Rattle.profile.specs.Sites.{Detection, Object, Peer, Destination, Class, Log, Station, Site}
use Rattle.profile.specs.Rules.{Seen, Rule, rules_of, seconds}
use Rattle.profile.specs.Courses.{Point, Course, Move, course_of, moves_at}
use Rattle.profile.specs.Histories.{Property, FieldFault, Tick, Write, Event, moves_over, Moved}

-- 2023-11-14, 22:13:20 UTC, a Tuesday
abbrev pub start : ℕ
start = 1700000000000

abbrev pub yes : List Bool
yes = true ∷ true ∷ true ∷ []

abbrev pub settings_of : Algorithm → Detection
settings_of algorithm = record {
  notification_class = 7;
  notify_type = 0;
  event_enable = yes;
  time_delay = 10;
  time_delay_normal = None;
  event_detection_enable = true;
  event_algorithm_inhibit = false;
  inhibit_reference = None;
  message_texts = [];
  algorithm = algorithm;
  monitored = None;
  feedback = None;
  low_limit = pos 20;
  high_limit = pos 80;
  low_limit_enable = true;
  high_limit_enable = true;
  deadband = 5;
  alarm_values = [];
  bit_mask = None;
}

abbrev pub object_with : ObjectType → List ℕ → Option Value → Option Detection → Object
object_with kind name value detection = record {
  kind = kind;
  instance = 1;
  name = name;
  value = value;
  number_of_states = 0;
  out_of_service = false;
  reliability_evaluation_inhibit = false;
  field_reliability = NoFaultDetected;
  fault_low_limit = None;
  fault_high_limit = None;
  fault_values = [];
  detection = detection;
}

abbrev pub tank : Object
tank = object_with IntegerValue (codes "Tank") (Some (Signed (pos 50))) (Some (settings_of SignedOutOfRange))

abbrev pub quick : Object → Object
quick object = record object { detection = option_map (λ (s : Detection). record s { time_delay = 0 }) object.detection }

abbrev pub flow : Object
flow = object_with PositiveIntegerValue (codes "Flow") (Some (Unsigned 50)) (Some (settings_of UnsignedOutOfRange))

abbrev pub pump : Object
pump = object_with BinaryValue (codes "Pump") (Some (Enumerated 0)) (Some (record (settings_of ChangeOfState) { alarm_values = Enumerated 1 ∷ [] }))

abbrev pub mode : Object
mode = record (object_with MultiStateValue (codes "Mode") (Some (Unsigned 1)) (Some (record (settings_of ChangeOfState) { time_delay = 5; alarm_values = Unsigned 2 ∷ Unsigned 3 ∷ [] }))) { number_of_states = 5; fault_values = Unsigned 5 ∷ [] }

abbrev pub doors : Object
doors = object_with BitStringValue (codes "Doors") (Some (Bits (false ∷ false ∷ false ∷ false ∷ []))) (Some (record (settings_of ChangeOfBitstring) { bit_mask = Some (false ∷ false ∷ true ∷ true ∷ []); alarm_values = Bits (false ∷ false ∷ false ∷ true ∷ []) ∷ Bits (false ∷ false ∷ true ∷ false ∷ []) ∷ [] }))

abbrev pub note : Object
note = record (object_with CharacterStringValue (codes "Note") (Some (Text (codes "ok"))) (Some (record (settings_of ChangeOfCharacterstring) { alarm_values = Text (codes "fire") ∷ Text (codes "leak") ∷ [] }))) { fault_values = Text (codes "broken") ∷ [] }

abbrev pub range : Object
range = object_with EventEnrollment (codes "Range") None (Some (record (settings_of UnsignedRange) { monitored = Some (identifier PositiveIntegerValue 1); time_delay = 5; low_limit_enable = false; high_limit_enable = false; deadband = 0 }))

abbrev pub command : Object
command = record (object_with EventEnrollment (codes "Command") None (Some (record (settings_of CommandFailure) { monitored = Some (identifier IntegerValue 1); feedback = Some (identifier IntegerValue 2); time_delay = 5 }))) { instance = 2 }

-- one with a time delay for its return, texts, and a binary value that holds it off
abbrev pub full : Object
full = record tank { detection = Some (record (settings_of SignedOutOfRange) { time_delay_normal = Some 3; message_texts = codes "High" ∷ [] ∷ codes "Back" ∷ []; inhibit_reference = Some (identifier BinaryValue 1) }) }

-- one without a class
abbrev pub plain : Object → Object
plain object = record object { detection = None }

abbrev pub peer : ℕ → Peer
peer address = record { address = address; port = 47808; network = 0; station = [] }

abbrev pub desk : Destination
desk = record {
  valid_days = replicate 7 true;
  from_time = 0;
  to_time = 8639999;
  recipient = peer 167772165;
  process_identifier = 1;
  confirmed = true;
  transitions = yes;
}

abbrev pub class : Class
class = record { number = 7; name = codes "Alarms"; priority = 100 ∷ 90 ∷ 200 ∷ []; ack_required = true ∷ true ∷ false ∷ []; recipient_list = desk ∷ [] }

abbrev pub log : Log
log = record { instance = 1; name = codes "Log"; buffer_size = 2; stop_when_full = false }

abbrev pub device : Station
device = record { instance = 1001; name = codes "Plant"; vendor = 999; start = start; clock_ahead = λ moment. pos 0 }

abbrev pub site_of : List Object → Site
site_of objects = record { device = device; objects = objects; classes = class ∷ []; logs = log ∷ [] }

-- ---- one object by itself

abbrev pub seen : Detection → Value → Seen
seen settings value = record { settings = settings; value = value; feedback = None }

-- each rule of a state: where it leads, its key, and its seconds
abbrev pub rules_in : Algorithm → EventState → Option ℕ → Seen → List (EventState × Option ℕ × ℕ)
rules_in algorithm state cause s = map (λ (rule : Rule). (rule.target, rule.key cause s, seconds rule.delay s.settings)) (rules_of algorithm state)

abbrev pub at : Detection → ℕ → Value → Point
at settings moment value = record { moment = moment; seen = seen settings value; reliability = NoFaultDetected; inhibited = false }

-- the course over points that stand with the oldest first, and the states that were entered at the last
abbrev pub course : List Point → Point → Course
course points first = course_of first.seen.settings.algorithm first (reverse points)

abbrev pub entered : List Point → Point → List EventState
entered points first = map (λ (move : Move). move.to) (moves_at first.seen.settings.algorithm first (reverse points))

-- ---- histories

abbrev pub write : ℕ → Object → Value → Event
write moment object value = record { moment = start + moment; act = Write (identifier object.kind object.instance) (Property 85 value) }

abbrev pub fault : ℕ → Object → BACnetReliability → Event
fault moment object reliability = record { moment = start + moment; act = Write (identifier object.kind object.instance) (FieldFault reliability) }

abbrev pub tick : ℕ → Event
tick moment = record { moment = start + moment; act = Tick }

-- all transitions of a history whose events stand with the first one first: which object, when, and between which states
abbrev pub told : Site → List Event → List (Identifier × ℕ × EventState × EventState)
told site events = map (λ (m : Moved). (m.object, m.look.moment, m.move.from, m.move.to)) (reverse (moves_over site (reverse events)))
