-- The values that a write of a property takes.
use Rattle.std.specs.Prelude.{ℕ, ◌==◌, nat_le, Bool, true, false, ◌&&◌, ◌||◌, Option, Some, None, is_none}
use Rattle.bac_values.specs.declared.object_kind.ObjectKind.{ObjectKind}
use Rattle.bac_values.specs.declared.object_kind.ObjectKind.TheVariants.{BinaryValue, MultiStateValue, BitStringValue, CharacterStringValue, IntegerValue, PositiveIntegerValue}
use Rattle.bac_values.specs.declared.value.Value.{Value}
use Rattle.bac_values.specs.declared.value.Value.TheVariants.{Bool as Truth, Unsigned, Signed, Text, Bits, Enumerated}
use Rattle.bac_values.specs.declared.reliability.Reliability.TheVariants.{NoFaultDetected, OverRange, UnderRange, UnreliableOther, CommunicationFailure}
use Rattle.bac_values.specs.Reliabilities.{number_of_reliability}
use Rattle.object_table.specs.declared.object_property.ObjectProperty.{ObjectProperty}
use Rattle.object_table.specs.declared.object_property.ObjectProperty.TheVariants.{PresentValue, OutOfService, ReliabilityEvaluationInhibit, TimeDelay, TimeDelayNormal, HighLimit, LowLimit, Deadband, LimitEnable, AlarmValue, EventEnable, EventAlgorithmInhibit}
use Rattle.object_table.specs.declared.object_site.ObjectSite.{ObjectSite}
use Rattle.object_table.specs.Properties.{kind_in, property_of, has}

abbrev pub is_truth : Value → Bool
is_truth (Truth truth) = true
is_truth _ = false

abbrev pub is_unsigned : Value → Bool
is_unsigned (Unsigned number) = true
is_unsigned _ = false

-- inactive is 0, active is 1
abbrev pub is_binary_value : Value → Bool
is_binary_value (Enumerated number) = nat_le number 1
is_binary_value _ = false

-- so many flags
abbrev pub are_flags : ℕ → Value → Bool
are_flags size (Bits string) = string.size == size
are_flags size _ = false

-- a string of bits has the length of the one that it replaces
abbrev pub has_length_of : Value → Value → Bool
has_length_of (Bits old) (Bits string) = string.size == old.size
has_length_of _ _ = false

abbrev pub is_text : Value → Bool
is_text (Text text) = true
is_text _ = false

-- one of so many states, from 1 on
abbrev pub is_state : ℕ → Value → Bool
is_state states (Unsigned state) = nat_le 1 state && nat_le state states
is_state states _ = false

-- a whole number with a sign or without one, by the kind: the value, and the limits that it is compared with
abbrev pub is_number : Option ObjectKind → Value → Bool
is_number (Some IntegerValue) (Signed number) = true
is_number (Some PositiveIntegerValue) (Unsigned number) = true
is_number _ _ = false

-- what an object of a kind can have as its present value
abbrev pub is_present_value : Option ObjectKind → ObjectSite → Value → Bool
is_present_value (Some IntegerValue) site value = is_number (Some IntegerValue) value
is_present_value (Some PositiveIntegerValue) site value = is_number (Some PositiveIntegerValue) value
is_present_value (Some BinaryValue) site value = is_binary_value value
is_present_value (Some MultiStateValue) site value = is_state site.states value
is_present_value (Some BitStringValue) site value = has_length_of site.value value
is_present_value (Some CharacterStringValue) site value = is_text value
is_present_value _ site value = false

-- whether a property that may be written can be the value; Event_Algorithm_Inhibit is written only without a reference (12.12)
abbrev pub can_be : Option ObjectKind → ObjectSite → ObjectProperty → Value → Bool
can_be kind site PresentValue value = is_present_value kind site value
can_be kind site OutOfService value = is_truth value
can_be kind site ReliabilityEvaluationInhibit value = is_truth value
can_be kind site TimeDelay value = is_unsigned value
can_be kind site TimeDelayNormal value = is_unsigned value
can_be kind site HighLimit value = is_number kind value
can_be kind site LowLimit value = is_number kind value
can_be kind site Deadband value = is_unsigned value
can_be kind site LimitEnable value = are_flags 2 value
can_be kind site AlarmValue value = is_binary_value value
can_be kind site EventEnable value = are_flags 3 value
can_be kind site EventAlgorithmInhibit value = is_none site.inhibit_ref && is_truth value
can_be kind site _ value = false

abbrev pub takes_known : Option ObjectKind → ObjectSite → Option ObjectProperty → Value → Bool
takes_known kind site (Some property) value = has kind site property && can_be kind site property value
takes_known kind site None value = false

-- whether a write of the property with a number takes the value
abbrev pub takes_value : ℕ → Value → ObjectSite → Bool
takes_value number value site = takes_known (kind_in site) site (property_of number) value

-- the reliabilities of what gives an object its value
abbrev pub is_field_fault : ℕ → Bool
is_field_fault number =
    number == number_of_reliability NoFaultDetected || number == number_of_reliability OverRange || number == number_of_reliability UnderRange || number == number_of_reliability UnreliableOther || number == number_of_reliability CommunicationFailure
