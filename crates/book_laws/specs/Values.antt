-- What the code calls values, states and algorithms, by the book's names. Nothing is decided here.
use Rattle.std.specs.Prelude.{ℕ, zero, suc, ◌/◌, ◌%◌, ◌==◌, Bool, List, [], ◌∷◌}
use Rattle.bac_values.specs.BitString.{BitsData}
use Rattle.bac_values.specs.Identifier.{ObjectIdData}
use Rattle.bac_values.specs.declared.event_state.EventState.{EventState}
use Rattle.bac_values.specs.declared.event_state.EventState.TheVariants.{Normal, Fault, Offnormal, HighLimit, LowLimit}
use Rattle.bac_values.specs.Errors as errors
use Rattle.bac_values.specs.declared.object_kind.ObjectKind.{ObjectKind}
use Rattle.bac_values.specs.declared.object_kind.ObjectKind.TheVariants.{BinaryValue, Device, EventEnrollment, NotificationClass, MultiStateValue, EventLog, BitStringValue, CharacterStringValue, IntegerValue, PositiveIntegerValue}
use Rattle.bac_values.specs.declared.reliability.Reliability.{Reliability}
use Rattle.bac_values.specs.declared.reliability.Reliability.TheVariants.{NoFaultDetected, OverRange, UnderRange, UnreliableOther, MultiStateFault, CommunicationFailure, MonitoredObjectFault}
use Rattle.bac_values.specs.declared.service_error.ServiceError.{ServiceError}
use Rattle.bac_values.specs.declared.transition.Transition.{Transition}
use Rattle.bac_values.specs.declared.transition.Transition.TheVariants.{ToOffnormal, ToFault, ToNormal}
use Rattle.bac_values.specs.declared.value.Foreign.{Foreign}
use Rattle.bac_values.specs.declared.value.Foreign.TheVariants.{OtherType, CharacterSet, NotUtf8, TooLong, OutOfRange}
use Rattle.bac_values.specs.declared.value.Value.{Value}
use Rattle.bac_values.specs.declared.value.Value.TheVariants.{Null, Bool as Truth, Unsigned, Signed, Text, Bits, Enumerated, Object, DateTime, Opaque}
use Rattle.algorithm_rules.specs.declared.table.Algorithm.{Algorithm}
use Rattle.algorithm_rules.specs.declared.table.Algorithm.TheVariants.{ChangeOfBitstring, ChangeOfState, CommandFailure, UnsignedRange, SignedOutOfRange, UnsignedOutOfRange, ChangeOfCharacterstring}
use Rattle.profile.specs.Numbers as book

-- so many bits of a number, the lowest one first
abbrev pub bits_of : ℕ → ℕ → List Bool
bits_of zero number = []
bits_of (suc more) number = (number % 2 == 1) ∷ bits_of more (number / 2)

abbrev pub bits_in_book : BitsData → List Bool
bits_in_book string = bits_of string.size string.bits

abbrev pub identifier_in_book : ObjectIdData → book.Identifier
identifier_in_book object = record { type = object.number; instance = object.instance }

abbrev pub reason_in_book : Foreign → book.Unknown
reason_in_book OtherType = book.OtherType
reason_in_book CharacterSet = book.CharacterSet
reason_in_book NotUtf8 = book.NotUtf8
reason_in_book TooLong = book.TooLong
reason_in_book OutOfRange = book.OutOfRange

-- a date with a time is no value of the book, which has it as a part of what is read; no object has it as its value
abbrev pub value_in_book : Value → book.Value
value_in_book Null = book.Null
value_in_book (Truth truth) = book.Truth truth
value_in_book (Unsigned number) = book.Unsigned number
value_in_book (Signed number) = book.Signed number
value_in_book (Text octets) = book.Text octets
value_in_book (Bits string) = book.Bits (bits_in_book string)
value_in_book (Enumerated number) = book.Enumerated number
value_in_book (Object object) = book.Named (identifier_in_book object)
value_in_book (DateTime stamp) = book.Opaque 10 book.OtherType
value_in_book (Opaque tag why) = book.Opaque tag (reason_in_book why)

abbrev pub state_in_book : EventState → book.EventState
state_in_book Normal = book.Normal
state_in_book Fault = book.Fault
state_in_book Offnormal = book.Offnormal
state_in_book HighLimit = book.HighLimit
state_in_book LowLimit = book.LowLimit

abbrev pub transition_in_book : Transition → book.Transition
transition_in_book ToOffnormal = book.ToOffnormal
transition_in_book ToFault = book.ToFault
transition_in_book ToNormal = book.ToNormal

abbrev pub reliability_in_book : Reliability → book.BACnetReliability
reliability_in_book NoFaultDetected = book.NoFaultDetected
reliability_in_book OverRange = book.OverRange
reliability_in_book UnderRange = book.UnderRange
reliability_in_book UnreliableOther = book.UnreliableOther
reliability_in_book MultiStateFault = book.MultiStateFault
reliability_in_book CommunicationFailure = book.CommunicationFailure
reliability_in_book MonitoredObjectFault = book.MonitoredObjectFault

abbrev pub algorithm_in_book : Algorithm → book.Algorithm
algorithm_in_book ChangeOfBitstring = book.ChangeOfBitstring
algorithm_in_book ChangeOfState = book.ChangeOfState
algorithm_in_book CommandFailure = book.CommandFailure
algorithm_in_book UnsignedRange = book.UnsignedRange
algorithm_in_book SignedOutOfRange = book.SignedOutOfRange
algorithm_in_book UnsignedOutOfRange = book.UnsignedOutOfRange
algorithm_in_book ChangeOfCharacterstring = book.ChangeOfCharacterstring

abbrev pub kind_in_book : ObjectKind → book.ObjectType
kind_in_book BinaryValue = book.BinaryValue
kind_in_book Device = book.Device
kind_in_book EventEnrollment = book.EventEnrollment
kind_in_book NotificationClass = book.NotificationClass
kind_in_book MultiStateValue = book.MultiStateValue
kind_in_book EventLog = book.EventLog
kind_in_book BitStringValue = book.BitStringValue
kind_in_book CharacterStringValue = book.CharacterStringValue
kind_in_book IntegerValue = book.IntegerValue
kind_in_book PositiveIntegerValue = book.PositiveIntegerValue

-- the other way round: the code has more errors than the book, which tells those of reads and writes alone
abbrev pub error_in_code : book.Error → ServiceError
error_in_code book.UnknownObject = errors.unknown_object_error
error_in_code book.UnknownProperty = errors.unknown_property_error
error_in_code book.InvalidDataType = errors.invalid_data_type_error
error_in_code book.ValueOutOfRange = errors.value_out_of_range_error
error_in_code book.WriteAccessDenied = errors.write_access_denied_error
error_in_code book.CharacterSetNotSupported = errors.character_set_not_supported_error
error_in_code book.InvalidArrayIndex = errors.invalid_array_index_error
error_in_code book.PropertyIsNotAnArray = errors.property_is_not_an_array_error
error_in_code book.NoSpaceToWriteProperty = errors.no_space_to_write_property_error
