-- The words of the standard with their numbers: identifiers, values, states, reliabilities, types of objects, algorithms, and errors.
use Rattle.std.specs.Prelude.{ℕ, ℤ, Bool, ◌==◌, ◌&&◌, List, Option, Some, None}

-- an object, by the number of its type and its instance (20.2.14)
pub record Identifier : Type 0 where
  pub type : ℕ
  pub instance : ℕ

-- whether two identifiers name one object
abbrev pub is : Identifier → Identifier → Bool
is a b = a.type == b.type && a.instance == b.instance

-- what is made of something that may be there, or else the other
abbrev pub maybe : {A B : Type 0} → Option A → B → (A → B) → B
maybe None other make = other
maybe (Some found) other make = make found

-- why what was sent is no value that is known here: another datatype, a text in another character set than UTF-8, one that isn't
-- UTF-8, one of more than 256 octets, or a number or a string of bits that is too long (20.2)
pub data Unknown : Type 0 where
  OtherType CharacterSet NotUtf8 TooLong OutOfRange : Unknown

-- A value with its datatype (20.2.2 to 20.2.14): a text by its octets in UTF-8, a string of bits by its bits, the first one first, a
-- choice out of an enumeration by its number, an object by its identifier. What is known by its datatype alone is Opaque.
pub data Value : Type 0 where
  Null : Value
  Truth : Bool → Value
  Unsigned Enumerated : ℕ → Value
  Signed : ℤ → Value
  Text : List ℕ → Value
  Bits : List Bool → Value
  Named : Identifier → Value
  Opaque : ℕ → Unknown → Value

-- the number of a value's datatype (20.2.1.4)
abbrev pub datatype : Value → ℕ
datatype Null = 0
datatype (Truth truth) = 1
datatype (Unsigned number) = 2
datatype (Signed number) = 3
datatype (Text octets) = 7
datatype (Bits bits) = 8
datatype (Enumerated number) = 9
datatype (Named object) = 12
datatype (Opaque number why) = number

-- BACnetEventState (13.2.2, 21): nothing is wrong; the reliability is lost; a condition holds; the value is above or below a limit
pub data EventState : Type 0 where
  Normal Fault Offnormal HighLimit LowLimit : EventState

abbrev pub state_number : EventState → ℕ
state_number Normal = 0
state_number Fault = 1
state_number Offnormal = 2
state_number HighLimit = 3
state_number LowLimit = 4

-- whether two states are one
abbrev pub same_state : EventState → EventState → Bool
same_state a b = state_number a == state_number b

-- the three kinds of transitions (13.2.2), and the place of each in three bits and in arrays of three (BACnetEventTransitionBits in 21)
pub data Transition : Type 0 where
  ToOffnormal ToFault ToNormal : Transition

abbrev pub place : Transition → ℕ
place ToOffnormal = 0
place ToFault = 1
place ToNormal = 2

-- the transition by which a state is entered (13.2.2): both limits are entered by to-offnormal
abbrev pub transition_to : EventState → Transition
transition_to Normal = ToNormal
transition_to Fault = ToFault
transition_to state = ToOffnormal

-- BACnetReliability (12, 21): no fault; the value is over or under its range; another fault; the value is one of the fault values; nobody
-- answers; what an enrollment monitors has a fault
pub data BACnetReliability : Type 0 where
  NoFaultDetected OverRange UnderRange UnreliableOther MultiStateFault CommunicationFailure MonitoredObjectFault : BACnetReliability

abbrev pub reliability_number : BACnetReliability → ℕ
reliability_number NoFaultDetected = 0
reliability_number OverRange = 2
reliability_number UnderRange = 3
reliability_number UnreliableOther = 7
reliability_number MultiStateFault = 9
reliability_number CommunicationFailure = 12
reliability_number MonitoredObjectFault = 14

-- whether it is no fault
abbrev pub is_reliable : BACnetReliability → Bool
is_reliable reliability = reliability_number reliability == 0

-- BACnetObjectType (12, 21)
pub data ObjectType : Type 0 where
  BinaryValue Device EventEnrollment NotificationClass MultiStateValue EventLog : ObjectType
  BitStringValue CharacterStringValue IntegerValue PositiveIntegerValue : ObjectType

-- each by its clause
abbrev pub type_number : ObjectType → ℕ
-- 12.8
type_number BinaryValue = 5
-- 12.11
type_number Device = 8
-- 12.12
type_number EventEnrollment = 9
-- 12.21
type_number NotificationClass = 15
-- 12.20
type_number MultiStateValue = 19
-- 12.27
type_number EventLog = 25
-- 12.40
type_number BitStringValue = 39
-- 12.37
type_number CharacterStringValue = 40
-- 12.43
type_number IntegerValue = 45
-- 12.44
type_number PositiveIntegerValue = 48

abbrev pub identifier : ObjectType → ℕ → Identifier
identifier type instance = record { type = type_number type; instance = instance }

abbrev pub same_type : ObjectType → ObjectType → Bool
same_type a b = type_number a == type_number b

-- the event algorithms (13.3)
pub data Algorithm : Type 0 where
  ChangeOfBitstring ChangeOfState CommandFailure UnsignedRange SignedOutOfRange UnsignedOutOfRange ChangeOfCharacterstring : Algorithm

-- the number of an algorithm's event type (BACnetEventType, 21)
abbrev pub event_type : Algorithm → ℕ
-- a string of bits is one of some
event_type ChangeOfBitstring = 0
-- a state is one of some
event_type ChangeOfState = 1
-- a feedback isn't what was commanded
event_type CommandFailure = 3
-- a number is outside of a range
event_type UnsignedRange = 11
-- a whole number is outside of its limits
event_type SignedOutOfRange = 15
-- a number that is never negative is outside of its limits
event_type UnsignedOutOfRange = 16
-- a text has one of some in it
event_type ChangeOfCharacterstring = 17

-- the event type of a transition that the reliability made (13.2.5)
abbrev pub change_of_reliability : ℕ
change_of_reliability = 19

-- the notify type of an acknowledgement (13.8, BACnetNotifyType in 21); an alarm has 0, and an event 1
abbrev pub acknowledgement_type : ℕ
acknowledgement_type = 2

-- the errors of reads and writes (18)
pub data Error : Type 0 where
  UnknownObject UnknownProperty InvalidDataType ValueOutOfRange WriteAccessDenied CharacterSetNotSupported : Error
  InvalidArrayIndex PropertyIsNotAnArray NoSpaceToWriteProperty : Error

-- the numbers of an error's class and code (18, 21)
abbrev pub error_numbers : Error → ℕ × ℕ
-- there is no such object
error_numbers UnknownObject = (1, 31)
-- the object has no such property
error_numbers UnknownProperty = (2, 32)
-- the value is of another datatype than the property
error_numbers InvalidDataType = (2, 9)
-- the property can't have this value
error_numbers ValueOutOfRange = (2, 37)
-- the property can't be written
error_numbers WriteAccessDenied = (2, 40)
-- the text is in another character set
error_numbers CharacterSetNotSupported = (2, 41)
-- the array has no such element
error_numbers InvalidArrayIndex = (2, 42)
-- an element is asked for, and the property is no array
error_numbers PropertyIsNotAnArray = (2, 50)
-- there is no room for the value
error_numbers NoSpaceToWriteProperty = (3, 20)
