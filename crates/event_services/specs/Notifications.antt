-- Event notifications (ANSI/ASHRAE 135-2020, 13.8, 13.9 and clause 21, BACnetNotificationParameters): what can be told, and the one spelling in which it is written.
use Rattle.std.specs.Prelude.{◌≡◌, ℕ, ◌+◌, ◌*◌, if◌then◌else◌, Bool, Option, Some, None, List, [], ◌∷◌, ◌++◌}
use Rattle.std.specs.Int.{from_bool}
use Rattle.bac_values.specs.ApplicationTags.{character_string_tag}
use Rattle.bac_values.specs.BitString.{BitsData}
use Rattle.bac_values.specs.EventTypes.{change_of_bitstring_type, change_of_state_type, command_failure_type, unsigned_range_type, signed_out_of_range_type, unsigned_out_of_range_type, change_of_characterstring_type, change_of_reliability_type}
use Rattle.bac_values.specs.EventStates.{number_of_state}
use Rattle.bac_values.specs.Properties.{present_value_property}
use Rattle.bac_values.specs.Reliabilities.{number_of_reliability}
use Rattle.bac_values.specs.declared.status_flags.StatusFlags.{StatusFlags}
use Rattle.bac_values.specs.declared.value.Value.{Value}
use Rattle.bac_values.specs.declared.value.Value.TheVariants as values
use Rattle.bac_tags.specs.Writing.{written_element, written_unsigned, written_signed, written_object, written_boolean, written_bits, written_stamp, written_value}
use Rattle.bac_tags.specs.ParameterWriting.{written_enclosed, written_if_given}
use Rattle.event_services.specs.declared.notification.Notification.{Notification}
use Rattle.event_services.specs.declared.notification.EventValues.{EventValues}
use Rattle.event_services.specs.declared.notification.EventValues.TheVariants.{Bitstring, State, Command, UnsignedRange, SignedOutOfRange, UnsignedOutOfRange, Characterstring, Reliability}

-- the event type that tells these values (BACnetEventType)
abbrev pub type_of_values : EventValues → ℕ
type_of_values (Bitstring referenced flags) = change_of_bitstring_type
type_of_values (State binary number flags) = change_of_state_type
type_of_values (Command command flags feedback) = command_failure_type
type_of_values (UnsignedRange value flags limit) = unsigned_range_type
type_of_values (SignedOutOfRange value flags deadband limit) = signed_out_of_range_type
type_of_values (UnsignedOutOfRange value flags deadband limit) = unsigned_out_of_range_type
type_of_values (Characterstring changed flags alarm) = change_of_characterstring_type
type_of_values (Reliability reliability flags property) = change_of_reliability_type

-- a value that is one element
abbrev pub IsOneValue : Value → Type 0
IsOneValue values.Null = Unit {0}
IsOneValue (values.Bool b) = Unit {0}
IsOneValue (values.Unsigned n) = Unit {0}
IsOneValue (values.Signed z) = Unit {0}
IsOneValue (values.Text text) = Unit {0}
IsOneValue (values.Bits string) = Unit {0}
IsOneValue (values.Enumerated n) = Unit {0}
IsOneValue (values.Object id) = Unit {0}
IsOneValue (values.DateTime stamp) = ⊥
IsOneValue (values.Opaque tag why) = ⊥

abbrev pub IsOneOrNone : Option Value → Type 0
IsOneOrNone None = Unit {0}
IsOneOrNone (Some value) = IsOneValue value

abbrev pub HasOneValues : EventValues → Type 0
HasOneValues (Bitstring referenced flags) = Unit {0}
HasOneValues (State binary number flags) = Unit {0}
HasOneValues (Command command flags feedback) = IsOneValue command × IsOneValue feedback
HasOneValues (UnsignedRange value flags limit) = Unit {0}
HasOneValues (SignedOutOfRange value flags deadband limit) = Unit {0}
HasOneValues (UnsignedOutOfRange value flags deadband limit) = Unit {0}
HasOneValues (Characterstring changed flags alarm) = Unit {0}
HasOneValues (Reliability reliability flags property) = IsOneOrNone property

-- the values, if there are any, are those of the event type, and each is one element
abbrev pub IsTold : ℕ → Option EventValues → Type 0
IsTold type None = Unit {0}
IsTold type (Some told) = (type_of_values told ≡ type) × HasOneValues told

-- ---- the one spelling

-- a text in UTF-8 with a number in a context
abbrev pub written_text_in : ℕ → List ℕ → List ℕ
written_text_in number text = written_element character_string_tag (Some number) (0 ∷ text)

-- in-alarm, fault, overridden, out-of-service, the first of them the string's first bit
abbrev pub bits_of_flags : StatusFlags → BitsData
bits_of_flags flags = record { size = 4; bits = from_bool flags.in_alarm + 2 * from_bool flags.fault + 4 * from_bool flags.overridden + 8 * from_bool flags.out_of_service }

-- they are always [1]
abbrev pub written_flags : StatusFlags → List ℕ
written_flags flags = written_bits (Some 1) (bits_of_flags flags)

-- a BACnetPropertyStates: [1] a binary value or [11] a number
abbrev pub state_number : Bool → ℕ
state_number binary = if binary then 1 else 11

-- a BACnetPropertyValue of Present_Value, or none
abbrev pub written_property : Option Value → List ℕ
written_property None = []
written_property (Some value) = written_unsigned (Some 0) present_value_property ++ written_enclosed 2 (written_value value)

abbrev pub written_told : EventValues → List ℕ
written_told (Bitstring referenced flags) = written_bits (Some 0) referenced ++ written_flags flags
written_told (State binary number flags) = written_enclosed 0 (written_unsigned (Some (state_number binary)) number) ++ written_flags flags
written_told (Command command flags feedback) = written_enclosed 0 (written_value command) ++ written_flags flags ++ written_enclosed 2 (written_value feedback)
written_told (UnsignedRange value flags limit) = written_unsigned (Some 0) value ++ written_flags flags ++ written_unsigned (Some 2) limit
written_told (SignedOutOfRange value flags deadband limit) =
    written_signed (Some 0) value ++ written_flags flags ++ written_unsigned (Some 2) deadband ++ written_signed (Some 3) limit
written_told (UnsignedOutOfRange value flags deadband limit) =
    written_unsigned (Some 0) value ++ written_flags flags ++ written_unsigned (Some 2) deadband ++ written_unsigned (Some 3) limit
written_told (Characterstring changed flags alarm) = written_text_in 0 changed ++ written_flags flags ++ written_text_in 2 alarm
written_told (Reliability reliability flags property) =
    written_unsigned (Some 0) (number_of_reliability reliability) ++ written_flags flags ++ written_enclosed 2 (written_property property)

-- [12], and within it the number of the type
abbrev pub written_values : EventValues → List ℕ
written_values told = written_enclosed 12 (written_enclosed (type_of_values told) (written_told told))

-- from [0] to [2]: who is told by whom, and of what
abbrev pub written_source : Notification → List ℕ
written_source note = written_unsigned (Some 0) note.process ++ written_object (Some 1) note.device ++ written_object (Some 2) note.object

-- from [4] to [6]; an Enumerated in a context is written as an Unsigned is
abbrev pub written_kind : Notification → List ℕ
written_kind note = written_unsigned (Some 4) note.class ++ written_unsigned (Some 5) note.priority ++ written_unsigned (Some 6) note.event_type

abbrev pub written_event : Notification → List ℕ
written_event note = written_source note ++ written_enclosed 3 (written_enclosed 2 (written_stamp note.stamp)) ++ written_kind note

-- from [8] to [11]
abbrev pub written_states : Notification → List ℕ
written_states note =
    written_unsigned (Some 8) note.notify ++ written_if_given (written_boolean (Some 9)) note.ack_required
    ++ written_if_given (λ state. written_unsigned (Some 10) (number_of_state state)) note.from
    ++ written_unsigned (Some 11) (number_of_state note.to)

-- a notification as it is told to a process
abbrev pub told_to : ℕ → Notification → Notification
told_to process note = record note { process = process }

unfoldable pub written_notification : Notification → List ℕ
written_notification note =
    written_event note ++ written_if_given (written_text_in 7) note.text ++ written_states note ++ written_if_given written_values note.values
