-- How a write, a set of a present value and a field fault are answered: the first error that applies (ANSI/ASHRAE 135-2020, 15.9 and clause 18).
use Rattle.std.specs.Prelude.{◌≡◌, ℕ, ◌==◌, nat_lt, ◌⊎◌, Bool, true, false, Option, Some, None, Result, Ok, Err, IsOk, IsTrue, List, if◌then◌else◌}
use Rattle.bac_values.specs.ApplicationTags.{null_tag, boolean_tag, unsigned_tag, signed_tag, character_string_tag, bit_string_tag, enumerated_tag, date_tag, object_identifier_tag}
use Rattle.bac_values.specs.Errors.{unknown_object_error, invalid_data_type_error, unknown_property_error, value_out_of_range_error, write_access_denied_error, character_set_not_supported_error, invalid_array_index_error, property_is_not_an_array_error, no_space_to_write_property_error}
use Rattle.bac_values.specs.Properties.{present_value_property}
use Rattle.bac_values.specs.declared.input.SetFault.{SetFault}
use Rattle.bac_values.specs.declared.input.SetFault.TheVariants.{UnknownObject, WrongKind, OutOfService as IsOutOfService, ValueRange}
use Rattle.bac_values.specs.declared.object_kind.ObjectKind.{ObjectKind}
use Rattle.bac_values.specs.declared.object_kind.ObjectKind.TheVariants.{BinaryValue, MultiStateValue, BitStringValue, CharacterStringValue, IntegerValue, PositiveIntegerValue}
use Rattle.bac_values.specs.declared.service_error.ServiceError.{ServiceError}
use Rattle.bac_values.specs.declared.value.Foreign.TheVariants.{CharacterSet, TooLong}
use Rattle.bac_values.specs.declared.value.Value.{Value}
use Rattle.bac_values.specs.declared.value.Value.TheVariants.{Null, Bool as Truth, Unsigned, Signed, Text, Bits, Enumerated, Object, DateTime, Opaque}
use Rattle.bac_values.specs.Identifier.{ObjectIdData}
use Rattle.object_table.specs.declared.change.Change.{Change}
use Rattle.object_table.specs.declared.change.What.TheVariants.{Property, FieldFault}
use Rattle.object_table.specs.declared.faults.WriteFault.{WriteFault}
use Rattle.object_table.specs.declared.faults.WriteFault.TheVariants.{Error, NoMemory}
use Rattle.object_table.specs.declared.object_property.ObjectProperty.{ObjectProperty}
use Rattle.object_table.specs.declared.object_property.ObjectProperty.TheVariants.{PresentValue, OutOfService, ReliabilityEvaluationInhibit, TimeDelay, TimeDelayNormal, HighLimit, LowLimit, Deadband, LimitEnable, AlarmValue, EventEnable, EventAlgorithmInhibit}
use Rattle.object_table.specs.declared.object_site.ObjectSite.{ObjectSite}
use Rattle.object_table.specs.declared.row.Row.{Row}
use Rattle.object_table.specs.Properties.{kind_in, property_of, has, length_of}
use Rattle.object_table.specs.Values.{can_be, is_present_value, is_field_fault, is_text}
use Rattle.object_table.specs.Rows.{row_of}

-- an error, as it is answered
abbrev pub error_of : ServiceError → WriteFault
error_of error = Error error.class error.code

abbrev pub unknown_object : WriteFault
unknown_object = error_of unknown_object_error

abbrev pub unknown_property : WriteFault
unknown_property = error_of unknown_property_error

abbrev pub property_is_not_an_array : WriteFault
property_is_not_an_array = error_of property_is_not_an_array_error

abbrev pub invalid_array_index : WriteFault
invalid_array_index = error_of invalid_array_index_error

abbrev pub write_access_denied : WriteFault
write_access_denied = error_of write_access_denied_error

abbrev pub invalid_data_type : WriteFault
invalid_data_type = error_of invalid_data_type_error

abbrev pub character_set_not_supported : WriteFault
character_set_not_supported = error_of character_set_not_supported_error

abbrev pub no_space_to_write_property : WriteFault
no_space_to_write_property = error_of no_space_to_write_property_error

abbrev pub value_out_of_range : WriteFault
value_out_of_range = error_of value_out_of_range_error

-- the number of a value's application tag; a date and a time begin with that of the date
abbrev pub tag_of : Value → ℕ
tag_of Null = null_tag
tag_of (Truth truth) = boolean_tag
tag_of (Unsigned number) = unsigned_tag
tag_of (Signed number) = signed_tag
tag_of (Text text) = character_string_tag
tag_of (Bits string) = bit_string_tag
tag_of (Enumerated number) = enumerated_tag
tag_of (DateTime stamp) = date_tag
tag_of (Object object) = object_identifier_tag
tag_of (Opaque tag why) = tag

-- the tag of a kind's present value
abbrev pub value_tag : Option ObjectKind → Option ℕ
value_tag (Some PositiveIntegerValue) = Some unsigned_tag
value_tag (Some MultiStateValue) = Some unsigned_tag
value_tag (Some IntegerValue) = Some signed_tag
value_tag (Some CharacterStringValue) = Some character_string_tag
value_tag (Some BitStringValue) = Some bit_string_tag
value_tag (Some BinaryValue) = Some enumerated_tag
value_tag _ = None

-- Event_Algorithm_Inhibit may be written where no reference inhibits (ANSI/ASHRAE 135-2020, 12.12)
abbrev pub inhibit_tag : Option ObjectIdData → Option ℕ
inhibit_tag None = Some boolean_tag
inhibit_tag (Some referred) = None

-- the tag of a property that may be written
abbrev pub writable_tag : Option ObjectKind → ObjectSite → ObjectProperty → Option ℕ
writable_tag kind site PresentValue = value_tag kind
writable_tag kind site OutOfService = Some boolean_tag
writable_tag kind site ReliabilityEvaluationInhibit = Some boolean_tag
writable_tag kind site TimeDelay = Some unsigned_tag
writable_tag kind site TimeDelayNormal = Some unsigned_tag
writable_tag kind site HighLimit = value_tag kind
writable_tag kind site LowLimit = value_tag kind
writable_tag kind site Deadband = Some unsigned_tag
writable_tag kind site LimitEnable = Some bit_string_tag
writable_tag kind site AlarmValue = Some enumerated_tag
writable_tag kind site EventEnable = Some bit_string_tag
writable_tag kind site EventAlgorithmInhibit = inhibit_tag site.inhibit_ref
writable_tag kind site _ = None

-- the first error of two tests, one after the other
abbrev pub and_then : {Fault : Type 0} → Result (Unit {0}) Fault → Result (Unit {0}) Fault → Result (Unit {0}) Fault
and_then (Err fault) second = Err fault
and_then (Ok passed) second = second

-- an index is given for an array alone, and isn't above its length
abbrev pub index_verdict : Option ℕ → Option ℕ → Result (Unit {0}) WriteFault
index_verdict size None = Ok tt
index_verdict None (Some index) = Err property_is_not_an_array
index_verdict (Some size) (Some index) = if nat_lt size index then Err invalid_array_index else Ok tt

-- a value of the right type: a text in another character set, one that is too long, and what the property can't be
abbrev pub content_verdict : Bool → Value → Result (Unit {0}) WriteFault
content_verdict possible (Opaque tag CharacterSet) = Err character_set_not_supported
content_verdict possible (Opaque tag TooLong) = Err no_space_to_write_property
content_verdict possible value = if possible then Ok tt else Err value_out_of_range

-- a value for a property with a tag, or for one that can't be written
abbrev pub value_verdict : Option ℕ → Bool → Value → Result (Unit {0}) WriteFault
value_verdict None possible value = Err write_access_denied
value_verdict (Some tag) possible value = if tag_of value == tag then content_verdict possible value else Err invalid_data_type

-- a write of a property that value objects know
abbrev pub property_verdict : Option ObjectKind → ObjectSite → ObjectProperty → Option ℕ → Value → Result (Unit {0}) WriteFault
property_verdict kind site property index value =
    if has kind site property
    then and_then (index_verdict (length_of kind site property) index) (value_verdict (writable_tag kind site property) (can_be kind site property value) value)
    else Err unknown_property

abbrev pub known_verdict : Option ObjectKind → ObjectSite → Option ObjectProperty → Option ℕ → Value → Result (Unit {0}) WriteFault
known_verdict kind site (Some property) index value = property_verdict kind site property index value
known_verdict kind site None index value = Err unknown_property

-- a write of the property with a number
abbrev pub write_verdict : ObjectSite → ℕ → Option ℕ → Value → Result (Unit {0}) WriteFault
write_verdict site number index value = known_verdict (kind_in site) site (property_of number) index value

abbrev pub set_range_verdict : Bool → Result (Unit {0}) SetFault
set_range_verdict true = Ok tt
set_range_verdict false = Err ValueRange

-- a present value that comes from the field, for an object that isn't out of service: its type, then its range
abbrev pub typed_verdict : Option ℕ → Bool → Value → Result (Unit {0}) SetFault
typed_verdict None possible value = Err WrongKind
typed_verdict (Some tag) possible value = if tag_of value == tag then set_range_verdict possible else Err WrongKind

-- an object out of service doesn't follow the field
abbrev pub set_verdict : Option ObjectKind → ObjectSite → Value → Result (Unit {0}) SetFault
set_verdict kind site value =
    if site.out_of_service then Err IsOutOfService
    else typed_verdict (value_tag kind) (is_present_value kind site value) value

-- the change, where the tests are passed
abbrev pub allowed_change : {Fault : Type 0} → Result (Unit {0}) Fault → Change → Result Change Fault
allowed_change (Ok passed) change = Ok change
allowed_change (Err fault) change = Err fault

abbrev pub property_change : ObjectIdData → ℕ → Value → Change
property_change object number value = record { object = object; what = Property (record { 0 = number }) value }

abbrev pub fault_change : ObjectIdData → ℕ → Change
fault_change object number = record { object = object; what = FieldFault number }

abbrev pub write_by_row : Option Row → ObjectIdData → ℕ → Option ℕ → Value → Result Change WriteFault
write_by_row (Some row) object number index value = allowed_change (write_verdict row.site number index value) (property_change object number value)
write_by_row None object number index value = Err unknown_object

-- the answer to a write: the change, or the first error that applies
abbrev pub checked_write : List Row → ObjectIdData → ℕ → Option ℕ → Value → Result Change WriteFault
checked_write rows object number index value = write_by_row (row_of object rows) object number index value

-- the answer is that one; but where a text is to be written and taken, there may be no memory for it
abbrev pub AnswersWrite : Value → Result Change WriteFault → Result Change WriteFault → Type 0
AnswersWrite value answer checked = (answer ≡ checked) ⊎ ((answer ≡ Err NoMemory) × IsOk checked × IsTrue (is_text value))

abbrev pub set_by_row : Option Row → ObjectIdData → Value → Result Change SetFault
set_by_row (Some row) object value = allowed_change (set_verdict (kind_in row.site) row.site value) (property_change object present_value_property value)
set_by_row None object value = Err UnknownObject

-- the answer to a set of a present value
abbrev pub checked_set : List Row → ObjectIdData → Value → Result Change SetFault
checked_set rows object value = set_by_row (row_of object rows) object value

abbrev pub fault_by_row : Option Row → ObjectIdData → ℕ → Result Change SetFault
fault_by_row (Some row) object number = if is_field_fault number then Ok (fault_change object number) else Err ValueRange
fault_by_row None object number = Err UnknownObject

-- the answer to a field fault
abbrev pub checked_fault : List Row → ObjectIdData → ℕ → Result Change SetFault
checked_fault rows object number = fault_by_row (row_of object rows) object number
