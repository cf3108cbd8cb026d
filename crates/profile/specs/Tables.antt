-- The properties of each type of object as tables (12): where each is there, what is read of it, and whether and how it can be set.
use Rattle.std.specs.Prelude.{ℕ, ℤ, pos, neg_ℤ, nat_abs, ◌^◌, Bool, true, false, ◌==◌, ◌&&◌, ◌||◌, not, nat_le, nat_lt, int_le, int_lt}
use Rattle.std.specs.Prelude.{if◌then◌else◌, Option, Some, None, is_some, is_none, option_map, unwrap_or, codes}
use Rattle.std.specs.Prelude.{List, [], ◌∷◌, ◌++◌, map, length, slice_get, slice_index_or, find}
use Rattle.profile.specs.Numbers.{Identifier, identifier, maybe}
use Rattle.profile.specs.Numbers.{Value, Null, Truth, Unsigned, Signed, Text, Bits, Enumerated, Named, Opaque, datatype}
use Rattle.profile.specs.Numbers.{EventState, Normal, state_number, same_state, Transition, ToOffnormal, ToFault, ToNormal, place}
use Rattle.profile.specs.Numbers.{BACnetReliability, reliability_number, is_reliable, event_type, same_type}
use Rattle.profile.specs.Numbers.{BinaryValue, Device, EventEnrollment, NotificationClass, MultiStateValue, EventLog}
use Rattle.profile.specs.Numbers.{IntegerValue, PositiveIntegerValue}
use Rattle.profile.specs.Sites.{Detection, Object, Destination, Class, Log, Station, identifier_of}
use Rattle.profile.specs.Rules.{matches, number_in}

-- what is read: a value, a time stamp (BACnetTimeStamp), a destination (BACnetDestination), or a property of an object, by its number (21)
pub data Part : Type 0 where
  One : Value → Part
  Stamp : List ℕ → Part
  Recipient : Destination → Part
  Referred : Identifier → ℕ → Part

-- a value or a list, which are read whole, or an array, of which one element can be read, and its length at index 0 (12)
pub data Content : Type 0 where
  Whole Array : List Part → Content

-- A row: the name of a property in the standard, its number (BACnetPropertyIdentifier in 21), whether the object has it, and what is
-- read; the datatype of a write, where one is taken, which values it can have, and what it sets of an object.
pub record Row : Type 0 where
  pub name : List ℕ
  pub number : ℕ
  pub there : Bool
  pub read : Content
  pub written : Option ℕ
  pub can_be : Value → Bool
  pub set : Value → Object → Object

-- one that is there and read alone
abbrev pub shows : List ℕ → ℕ → Bool → Content → Row
shows name number there content =
    (record { name = name; number = number; there = there; read = content; written = None; can_be = λ v. false; set = λ v object. object })

-- one of a value that is read alone
abbrev pub tells : List ℕ → ℕ → Value → Row
tells name number value = shows name number true (Whole (One value ∷ []))

-- one that is written too, as the datatype that it has
abbrev pub takes : List ℕ → ℕ → Bool → Value → (Value → Bool) → (Value → Object → Object) → Row
takes name number there value can_be set =
    (record (shows name number there (Whole (One value ∷ []))) { written = Some (datatype value); can_be = can_be; set = set })

-- ---- which values, and what is in them

-- numbers have 32 bits, and what isn't known as a value is none
abbrev pub any : Value → Bool
any (Unsigned number) = nat_lt number (2 ^ 32)
any (Signed number) = int_le (neg_ℤ (pos (2 ^ 31))) number && int_lt number (pos (2 ^ 31))
any (Opaque number why) = false
any value = true

abbrev pub bits_in : Value → List Bool
bits_in (Bits bits) = bits
bits_in value = []

abbrev pub bit_in : Value → ℕ → Bool
bit_in value place = slice_index_or (bits_in value) place false

abbrev pub is_true : Value → Bool
is_true value = matches None (Truth true) value

abbrev pub whole_in : Value → ℤ
whole_in value = unwrap_or (number_in value) (pos 0)

abbrev pub has_bits : ℕ → Value → Bool
has_bits size value = length (bits_in value) == size

-- what the present value of an object can be, by the one that it has (12.8, 12.20, 12.40, 12.43, 12.44)
abbrev pub can_have : Object → Value → Value → Bool
can_have object now (Enumerated number) = nat_le number 1
can_have object now (Unsigned number) =
    any (Unsigned number) && (object.number_of_states == 0 || nat_le 1 number && nat_le number object.number_of_states)
can_have object (Bits now) value = has_bits (length now) value
can_have object now value = any value

-- something of each of the three transitions
abbrev pub three : {A : Type 0} → (Transition → A) → List A
three of = of ToOffnormal ∷ of ToFault ∷ of ToNormal ∷ []

-- ---- the rows of what an object is by itself

-- what all objects have (12)
abbrev pub named_rows : Identifier → List ℕ → List Row
named_rows id name =
    -- which object it is
    tells (codes "Object_Identifier") 75 (Named id)
    -- its name
    ∷ tells (codes "Object_Name") 77 (Text name)
    -- the number of its type
    ∷ tells (codes "Object_Type") 79 (Enumerated id.type) ∷ []

-- the alarm and fault values of a multi-state value are a list, of others an array (12.20, 12.37, 12.40)
abbrev pub listed : Object → List Value → Content
listed object list = if same_type object.kind MultiStateValue then Whole (map One list) else Array (map One list)

-- a value object (12.8, 12.20, 12.37, 12.40, 12.43, 12.44)
abbrev pub value_rows : Object → Value → List Row
value_rows object value =
    -- its value
    takes (codes "Present_Value") 85 true value (can_have object value) (λ value object. record object { value = Some value })
    -- whether the field is cut off from the value
    ∷ takes (codes "Out_Of_Service") 81 true (Truth object.out_of_service) any (λ v object. record object { out_of_service = is_true v })
    -- whether no fault is looked for (13.4)
    ∷ takes (codes "Reliability_Evaluation_Inhibit") 357 true (Truth object.reliability_evaluation_inhibit) any
    (λ value object. record object { reliability_evaluation_inhibit = is_true value })
    -- of a multi-state value (12.20)
    ∷ shows (codes "Number_Of_States") 74 (not (object.number_of_states == 0)) (Whole (One (Unsigned object.number_of_states) ∷ []))
    -- the values that are faults (12.20, 12.37, 12.40, 13.4)
    ∷ shows (codes "Fault_Values") 39 (not (length object.fault_values == 0)) (listed object object.fault_values) ∷ []

-- a limit is of the datatype of the value
abbrev pub limit_as : Object → ℤ → Value
limit_as object limit = if same_type object.kind IntegerValue then Signed limit else Unsigned (nat_abs limit)

-- what a write sets of the settings of event detection
abbrev pub setting : (Value → Detection → Detection) → Value → Object → Object
setting set value object = record object { detection = option_map (set value) object.detection }

-- any object with a class: how its events are detected and told (12.12, 13.2)
abbrev pub event_rows : Detection → List Row
event_rows s =
    let text = λ (transition : Transition). Text (slice_index_or s.message_texts (place transition) []) in
    let inhibitor = maybe s.inhibit_reference [] (λ id. Referred id 85 ∷ []) in
    -- of which transitions anybody is notified (13.2.5)
    takes (codes "Event_Enable") 35 true (Bits s.event_enable) (has_bits 3) (setting (λ value s. record s { event_enable = bits_in value }))
    -- whether the algorithm is held off for now (13.2.2.1); where another object says so, it can't be written
    ∷ takes (codes "Event_Algorithm_Inhibit") 354 (is_none s.inhibit_reference) (Truth s.event_algorithm_inhibit) any
    (setting (λ value s. record s { event_algorithm_inhibit = is_true value }))
    -- the property by which it is held off: the present value of an object
    ∷ shows (codes "Event_Algorithm_Inhibit_Ref") 355 (is_some s.inhibit_reference) (Whole inhibitor)
    -- whether its transitions are alarms or events
    ∷ tells (codes "Notify_Type") 72 (Enumerated s.notify_type)
    -- whether events are detected at all (13.2.2.1)
    ∷ tells (codes "Event_Detection_Enable") 353 (Truth s.event_detection_enable)
    -- the number of the class by which is notified
    ∷ tells (codes "Notification_Class") 17 (Unsigned s.notification_class)
    -- the texts that the site gives for notifications
    ∷ shows (codes "Event_Message_Texts_Config") 352 (not (length s.message_texts == 0)) (Array (map One (three text))) ∷ []

-- a value object with a class: the delays of its algorithm, in seconds (13.3), and which values are alarms (12.8, 12.20, 12.37, 12.40)
abbrev pub delay_rows : Object → Detection → List Row
delay_rows object s =
    let binary = same_type object.kind BinaryValue in
    -- for how long a condition has to last
    takes (codes "Time_Delay") 113 true (Unsigned s.time_delay) any (setting (λ v s. record s { time_delay = nat_abs (whole_in v) }))
    -- for how long the end of one has to last
    ∷ takes (codes "Time_Delay_Normal") 356 (is_some s.time_delay_normal) (Unsigned (unwrap_or s.time_delay_normal 0)) any
    (setting (λ value s. record s { time_delay_normal = Some (nat_abs (whole_in value)) }))
    -- the value of a binary value that is an alarm
    ∷ takes (codes "Alarm_Value") 6 binary (unwrap_or (slice_get s.alarm_values 0) Null) (can_have object Null)
    (setting (λ value s. record s { alarm_values = value ∷ [] }))
    -- the values of others that are
    ∷ shows (codes "Alarm_Values") 7 (not binary && not (length s.alarm_values == 0)) (listed object s.alarm_values) ∷ []

-- an integer value or a positive integer value with a class: its limits (12.43, 12.44)
abbrev pub limit_rows : Object → Detection → List Row
limit_rows object s =
    let limited = same_type object.kind IntegerValue || same_type object.kind PositiveIntegerValue in
    -- above it a value is an alarm
    takes (codes "High_Limit") 45 limited (limit_as object s.high_limit) any (setting (λ value s. record s { high_limit = whole_in value }))
    -- below it a value is an alarm
    ∷ takes (codes "Low_Limit") 59 limited (limit_as object s.low_limit) any (setting (λ value s. record s { low_limit = whole_in value }))
    -- by more than this a value has to come back from a limit
    ∷ takes (codes "Deadband") 25 limited (Unsigned s.deadband) any (setting (λ value s. record s { deadband = nat_abs (whole_in value) }))
    -- which of the two limits count, the low one first
    ∷ takes (codes "Limit_Enable") 52 limited (Bits (s.low_limit_enable ∷ s.high_limit_enable ∷ [])) (has_bits 2)
    (setting (λ v s. record s { low_limit_enable = bit_in v 0; high_limit_enable = bit_in v 1 })) ∷ []

-- the settings of an object: of a value object, and of an enrollment, which has no value, and whose algorithm is a property (12.12)
abbrev pub setting_rows : Object → List Row
setting_rows object =
    let of_algorithm = λ (s : Detection).
    if same_type object.kind EventEnrollment then tells (codes "Event_Type") 37 (Enumerated (event_type s.algorithm)) ∷ []
    else delay_rows object s ++ limit_rows object s in
    named_rows (identifier_of object) object.name
    ++ maybe object.value [] (value_rows object) ++ maybe object.detection [] (λ s. event_rows s ++ of_algorithm s)

-- the row of a property by its number, where the object has it
abbrev pub row_of : ℕ → List Row → Option Row
row_of number rows = find (λ row. row.number == number && row.there) rows

-- an object behind a write of one of its properties that was taken (15.9)
abbrev pub set : ℕ → Value → Object → Object
set number value object = maybe (row_of number (setting_rows object)) object (λ row. row.set value object)

-- ---- the rows of what became of an object

-- the event state and the reliability; of each transition whether it is acknowledged, when it came and whether it came; whether the
-- algorithm is held off
pub record Shown : Type 0 where
  pub state : EventState
  pub reliability : BACnetReliability
  pub acknowledged : Transition → Bool
  pub stamp : Transition → List ℕ
  pub came : Transition → Bool
  pub inhibited : Bool

-- in alarm, in fault, overridden, out of service (12.8, 12.12); nothing is ever overridden, and no enrollment is out of service
abbrev pub flags : EventState → BACnetReliability → Bool → Value
flags state reliability out = Bits (not (same_state state Normal) ∷ not (is_reliable reliability) ∷ false ∷ out ∷ [])

-- of an object with a class (12.12, 13.2)
abbrev pub transition_rows : Shown → Detection → List Row
transition_rows shown s =
    let text = λ (t : Transition). Text (if shown.came t then slice_index_or s.message_texts (place t) [] else []) in
    -- which transitions have been acknowledged, or need not be
    tells (codes "Acked_Transitions") 0 (Bits (three shown.acknowledged))
    -- when each transition last came
    ∷ shows (codes "Event_Time_Stamps") 130 true (Array (map Stamp (three shown.stamp)))
    -- the texts of the transitions that came
    ∷ shows (codes "Event_Message_Texts") 351 (not (length s.message_texts == 0)) (Array (map One (three text)))
    -- whether another object holds the algorithm off
    ∷ shows (codes "Event_Algorithm_Inhibit") 354 (is_some s.inhibit_reference) (Whole (One (Truth shown.inhibited) ∷ [])) ∷ []

-- all properties of a value object or an enrollment
abbrev pub object_rows : Shown → Object → List Row
object_rows shown object =
    -- what is wrong, in four flags
    tells (codes "Status_Flags") 111 (flags shown.state shown.reliability object.out_of_service)
    -- the event state (13.2.2)
    ∷ tells (codes "Event_State") 36 (Enumerated (state_number shown.state))
    -- whether the value can be relied on (13.4)
    ∷ tells (codes "Reliability") 103 (Enumerated (reliability_number shown.reliability))
    ∷ setting_rows object ++ maybe object.detection [] (transition_rows shown)

-- ---- logs, classes and the device

-- an event log (12.27), which takes records or doesn't, has some, and ever took some; what a write sets of it, no other object shows
abbrev pub log_rows : Log → Bool → ℕ → ℕ → List Row
log_rows log enabled records total =
    named_rows (identifier EventLog log.instance) log.name
    -- whether it takes records
    ++ takes (codes "Enable") 133 true (Truth enabled) any (λ value object. object)
    -- how many records it has; 0 clears it, and no other number is taken
    ∷ takes (codes "Record_Count") 141 true (Unsigned records) (λ value. nat_abs (whole_in value) == 0) (λ value object. object)
    -- how many records it can have
    ∷ tells (codes "Buffer_Size") 126 (Unsigned log.buffer_size)
    -- whether it takes no more where it is full
    ∷ tells (codes "Stop_When_Full") 144 (Truth log.stop_when_full)
    -- how many records it ever took
    ∷ tells (codes "Total_Record_Count") 145 (Unsigned total) ∷ []

-- a notification class (12.21), with the list that its last edit left
abbrev pub class_rows : Class → List Row
class_rows class =
    named_rows (identifier NotificationClass class.number) class.name
    -- its number
    ++ tells (codes "Notification_Class") 17 (Unsigned class.number)
    -- the priorities of the three transitions
    ∷ shows (codes "Priority") 86 true (Array (map One (map Unsigned class.priority)))
    -- which transitions want an acknowledgement
    ∷ tells (codes "Ack_Required") 1 (Bits class.ack_required)
    -- who is notified, and when
    ∷ shows (codes "Recipient_List") 102 true (Whole (map Recipient class.recipient_list)) ∷ []

-- the device (12.11)
abbrev pub device_rows : Station → List Identifier → List Row
device_rows device objects =
    named_rows (identifier Device device.instance) device.name
    -- all its objects
    ++ shows (codes "Object_List") 76 true (Array (map One (map Named objects)))
    -- the octets of the longest APDU that it takes
    ∷ tells (codes "Max_APDU_Length_Accepted") 62 (Unsigned 1476)
    -- which messages it cuts into segments: none
    ∷ tells (codes "Segmentation_Supported") 107 (Enumerated 3)
    -- who made it
    ∷ tells (codes "Vendor_Identifier") 120 (Unsigned device.vendor) ∷ []
