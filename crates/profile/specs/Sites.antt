-- What a site has: the device, its value objects and enrollments, notification classes and event logs, each as its settings are at first.
use Rattle.std.specs.Prelude.{ℕ, ℤ, Bool, ◌==◌, Option, List, find}
use Rattle.profile.specs.Numbers.{Identifier, is, identifier, Value, BACnetReliability, ObjectType, Algorithm}

-- How the events of an object are detected and told (13.2, 12.12). Times are in seconds; three flags or texts stand for to-offnormal,
-- to-fault and to-normal. A setting that the algorithm doesn't know is 0, false, empty or none.
pub record Detection : Type 0 where
  -- Notification_Class: the number of the class by which is notified
  pub notification_class : ℕ
  -- Notify_Type: 0 for alarms, 1 for events
  pub notify_type : ℕ
  pub event_enable : List Bool
  pub time_delay : ℕ
  pub time_delay_normal : Option ℕ
  pub event_detection_enable : Bool
  pub event_algorithm_inhibit : Bool
  -- Event_Algorithm_Inhibit_Ref: a binary value that holds the algorithm off while it is active
  pub inhibit_reference : Option Identifier
  -- Event_Message_Texts_Config: three texts, or none
  pub message_texts : List (List ℕ)
  pub algorithm : Algorithm
  -- of an enrollment: the object whose value it looks at, and the one that is to follow it (12.12, 13.3)
  pub monitored : Option Identifier
  pub feedback : Option Identifier
  pub low_limit : ℤ
  pub high_limit : ℤ
  pub low_limit_enable : Bool
  pub high_limit_enable : Bool
  pub deadband : ℕ
  -- Alarm_Value of a binary value, or Alarm_Values
  pub alarm_values : List Value
  -- which bits of a string count; none: all (13.3)
  pub bit_mask : Option (List Bool)

-- a value object (12.8, 12.20, 12.37, 12.40, 12.43, 12.44), or an event enrollment (12.12), which has no value
pub record Object : Type 0 where
  pub kind : ObjectType
  pub instance : ℕ
  pub name : List ℕ
  pub value : Option Value
  -- of a multi-state value; 0 of every other
  pub number_of_states : ℕ
  pub out_of_service : Bool
  pub reliability_evaluation_inhibit : Bool
  -- the reliability that the field tells of the value
  pub field_reliability : BACnetReliability
  -- the limits outside of which a value is a fault, and the values that are one (13.4)
  pub fault_low_limit : Option ℤ
  pub fault_high_limit : Option ℤ
  pub fault_values : List Value
  -- none where nobody is to be notified of it
  pub detection : Option Detection

-- where a notification goes: an address and a port, behind a router a network and a station (J.1.2, 21 BACnetAddress)
pub record Peer : Type 0 where
  pub address : ℕ
  pub port : ℕ
  pub network : ℕ
  pub station : List ℕ

-- Whom a class notifies, when, of what and how (12.21, 21 BACnetDestination): seven days, Monday first; times in hundredths of a
-- second since midnight
pub record Destination : Type 0 where
  pub valid_days : List Bool
  pub from_time : ℕ
  pub to_time : ℕ
  pub recipient : Peer
  pub process_identifier : ℕ
  pub confirmed : Bool
  pub transitions : List Bool

-- a notification class (12.21)
pub record Class : Type 0 where
  pub number : ℕ
  pub name : List ℕ
  pub priority : List ℕ
  pub ack_required : List Bool
  pub recipient_list : List Destination

-- an event log (12.27)
pub record Log : Type 0 where
  pub instance : ℕ
  pub name : List ℕ
  pub buffer_size : ℕ
  pub stop_when_full : Bool

-- The device (12.11). A moment is told in milliseconds since 1970-01-01T00:00Z; its local clock stands so many milliseconds ahead of
-- that at each moment (20.2.12, 20.2.13), as its zone says.
pub record Station : Type 0 where
  pub instance : ℕ
  pub name : List ℕ
  pub vendor : ℕ
  pub start : ℕ
  pub clock_ahead : ℕ → ℤ

-- objects stand by ascending identifier, classes and logs by ascending number
pub record Site : Type 0 where
  pub device : Station
  pub objects : List Object
  pub classes : List Class
  pub logs : List Log

abbrev pub identifier_of : Object → Identifier
identifier_of object = identifier object.kind object.instance

-- the object of an identifier, and the class of a number
abbrev pub object_of : List Object → Identifier → Option Object
object_of objects id = find (λ object. is (identifier_of object) id) objects

abbrev pub class_of : List Class → ℕ → Option Class
class_of classes number = find (λ class. class.number == number) classes
