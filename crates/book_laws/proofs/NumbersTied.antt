-- Each number of the book is that of the code.
use Rattle.std.proofs.Common.{◌≡◌, refl}
use Rattle.bac_values.specs.EventStates.{number_of_state, place_of_transition, transition_to}
use Rattle.bac_values.specs.Identifier.{number_of_kind}
use Rattle.bac_values.specs.Reliabilities.{number_of_reliability}
use Rattle.bac_values.specs.declared.event_state.EventState.{EventState}
use Rattle.bac_values.specs.declared.event_state.EventState.TheVariants.{Normal, Fault, Offnormal, HighLimit, LowLimit}
use Rattle.bac_values.specs.declared.object_kind.ObjectKind.{ObjectKind}
use Rattle.bac_values.specs.declared.object_kind.ObjectKind.TheVariants.{BinaryValue, Device, EventEnrollment, NotificationClass, MultiStateValue, EventLog, BitStringValue, CharacterStringValue, IntegerValue, PositiveIntegerValue}
use Rattle.bac_values.specs.declared.reliability.Reliability.{Reliability}
use Rattle.bac_values.specs.declared.reliability.Reliability.TheVariants.{NoFaultDetected, OverRange, UnderRange, UnreliableOther, MultiStateFault, CommunicationFailure, MonitoredObjectFault}
use Rattle.bac_values.specs.declared.transition.Transition.{Transition}
use Rattle.bac_values.specs.declared.transition.Transition.TheVariants.{ToOffnormal, ToFault, ToNormal}
use Rattle.algorithm_rules.specs.declared.table.Algorithm.{Algorithm}
use Rattle.algorithm_rules.specs.declared.table.Algorithm.TheVariants.{ChangeOfBitstring, ChangeOfState, CommandFailure, UnsignedRange, SignedOutOfRange, UnsignedOutOfRange, ChangeOfCharacterstring}
use Rattle.algorithm_rules.specs.EventTypes.{event_type_of}
use Rattle.profile.specs.Numbers as book
use Rattle.book_laws.specs.Values.{state_in_book, transition_in_book, reliability_in_book, kind_in_book, algorithm_in_book}
use Rattle.book_laws.specs.NumberLaws.{HasEnumerationsOfCode, HasErrorsOfCode, HasDatatypesOfCode, HasPropertiesOfCode, HasBoundsOfCode}

pub states : (state : EventState) → book.state_number (state_in_book state) ≡ number_of_state state
states Normal = refl
states Fault = refl
states Offnormal = refl
states HighLimit = refl
states LowLimit = refl

pub places : (transition : Transition) → book.place (transition_in_book transition) ≡ place_of_transition transition
places ToOffnormal = refl
places ToFault = refl
places ToNormal = refl

pub entered : (state : EventState) → book.transition_to (state_in_book state) ≡ transition_in_book (transition_to state)
entered Normal = refl
entered Fault = refl
entered Offnormal = refl
entered HighLimit = refl
entered LowLimit = refl

pub reliabilities : (reliability : Reliability) → book.reliability_number (reliability_in_book reliability) ≡ number_of_reliability reliability
reliabilities NoFaultDetected = refl
reliabilities OverRange = refl
reliabilities UnderRange = refl
reliabilities UnreliableOther = refl
reliabilities MultiStateFault = refl
reliabilities CommunicationFailure = refl
reliabilities MonitoredObjectFault = refl

pub kinds : (kind : ObjectKind) → book.type_number (kind_in_book kind) ≡ number_of_kind kind
kinds BinaryValue = refl
kinds Device = refl
kinds EventEnrollment = refl
kinds NotificationClass = refl
kinds MultiStateValue = refl
kinds EventLog = refl
kinds BitStringValue = refl
kinds CharacterStringValue = refl
kinds IntegerValue = refl
kinds PositiveIntegerValue = refl

pub types : (algorithm : Algorithm) → book.event_type (algorithm_in_book algorithm) ≡ event_type_of algorithm
types ChangeOfBitstring = refl
types ChangeOfState = refl
types CommandFailure = refl
types UnsignedRange = refl
types SignedOutOfRange = refl
types UnsignedOutOfRange = refl
types ChangeOfCharacterstring = refl

pub has_enumerations_of_code : HasEnumerationsOfCode
has_enumerations_of_code = record {
  states = states;
  transitions = places;
  entered = entered;
  reliabilities = reliabilities;
  objects = kinds;
  events = types;
  of_reliability = refl;
  of_acknowledgement = refl;
}

pub has_errors_of_code : HasErrorsOfCode
has_errors_of_code book.UnknownObject = refl
has_errors_of_code book.UnknownProperty = refl
has_errors_of_code book.InvalidDataType = refl
has_errors_of_code book.ValueOutOfRange = refl
has_errors_of_code book.WriteAccessDenied = refl
has_errors_of_code book.CharacterSetNotSupported = refl
has_errors_of_code book.InvalidArrayIndex = refl
has_errors_of_code book.PropertyIsNotAnArray = refl
has_errors_of_code book.NoSpaceToWriteProperty = refl

pub has_datatypes_of_code : HasDatatypesOfCode
has_datatypes_of_code = record {
  null = refl;
  truth = λ truth. refl;
  unsigned = λ number. refl;
  signed = λ number. refl;
  text = λ octets. refl;
  bits = λ bits. refl;
  enumerated = λ number. refl;
  named = λ object. refl;
}

pub has_properties_of_code : HasPropertiesOfCode
has_properties_of_code = record {
  named = λ id name. refl;
  value = λ object value. refl;
  events = λ settings. refl;
  delays = λ object settings. refl;
  limits = λ object settings. refl;
  transitions = λ shown settings. refl;
  log = λ log enabled records total. refl;
  class = λ class. refl;
  device = λ device objects. refl;
  object = λ shown object without alone. rw (without, alone) refl;
}

pub has_bounds_of_code : HasBoundsOfCode
has_bounds_of_code = record {
  never = refl;
  text = λ octets. refl;
  longest = λ device objects. refl;
}
