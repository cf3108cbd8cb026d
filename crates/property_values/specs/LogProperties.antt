-- The properties of event logs (ANSI/ASHRAE 135-2020, 12.27): as they are read, and which writes are taken.
use Rattle.std.specs.Prelude.{ℕ, zero, ◌==◌, Bool, false, if◌then◌else◌, Option, Some, None, Result, Ok, Err, List, [], ◌∷◌, find, length}
use Rattle.bac_values.specs.ApplicationTags.{boolean_tag, unsigned_tag}
use Rattle.bac_values.specs.Identifier.{number_of_kind}
use Rattle.bac_values.specs.Properties.{buffer_size_property, enable_property, object_identifier_property, object_name_property, object_type_property, record_count_property, stop_when_full_property, total_record_count_property}
use Rattle.bac_values.specs.declared.object_kind.ObjectKind.TheVariants.{EventLog}
use Rattle.bac_values.specs.declared.value.Value.{Value}
use Rattle.bac_values.specs.declared.value.Value.TheVariants as values
use Rattle.bac_values.specs.declared.value.Value.TheVariants.{Bool as Truth, Unsigned}
use Rattle.object_table.specs.declared.change.Change.{Change}
use Rattle.object_table.specs.declared.change.What.{What}
use Rattle.object_table.specs.declared.change.What.TheVariants.{Property, FieldFault}
use Rattle.object_table.specs.declared.faults.WriteFault.{WriteFault}
use Rattle.object_table.specs.Verdicts.{allowed_change, and_then, index_verdict, property_change, value_verdict}
use Rattle.event_log.specs.declared.log_site.LogSite.{LogSite}
use Rattle.event_log.specs.Log.{EventLogState}
use Rattle.property_values.specs.declared.content.Content.{Content}
use Rattle.property_values.specs.declared.content.ReadFault.{ReadFault}
use Rattle.property_values.specs.declared.log_properties.LogProperty.{LogProperty}
use Rattle.property_values.specs.declared.log_properties.LogProperty.TheVariants.{ObjectIdentifier, ObjectName, ObjectType, Enable, RecordCount, BufferSize, StopWhenFull, TotalRecordCount}
use Rattle.property_values.specs.Properties.{as_write_fault, one, unknown_property}

-- the number of each property
abbrev pub number_of_property : LogProperty → ℕ
number_of_property ObjectIdentifier = object_identifier_property
number_of_property ObjectName = object_name_property
number_of_property ObjectType = object_type_property
number_of_property Enable = enable_property
number_of_property RecordCount = record_count_property
number_of_property BufferSize = buffer_size_property
number_of_property StopWhenFull = stop_when_full_property
number_of_property TotalRecordCount = total_record_count_property

abbrev pub log_properties : List LogProperty
log_properties =
    ObjectIdentifier ∷ ObjectName ∷ ObjectType ∷ Enable ∷ RecordCount ∷ BufferSize ∷ StopWhenFull ∷ TotalRecordCount ∷ []

-- the property with a number
unfoldable pub property_of : ℕ → Option LogProperty
property_of number = find (λ property. number_of_property property == number) log_properties

-- what a property of a log is
abbrev pub log_property : LogSite → EventLogState → LogProperty → Content
log_property site log ObjectIdentifier = one (values.Object site.object)
log_property site log ObjectName = one (values.Text site.name)
log_property site log ObjectType = one (values.Enumerated (number_of_kind EventLog))
log_property site log Enable = one (values.Bool log.enabled)
log_property site log RecordCount = one (values.Unsigned (length log.records))
log_property site log BufferSize = one (values.Unsigned site.size)
log_property site log StopWhenFull = one (values.Bool site.stop_when_full)
log_property site log TotalRecordCount = one (values.Unsigned log.total)

abbrev pub known_log_content : LogSite → EventLogState → Option LogProperty → Result Content ReadFault
known_log_content site log (Some property) = Ok (log_property site log property)
known_log_content site log None = Err unknown_property

-- the property with a number, or that there is none
abbrev pub log_content : LogSite → EventLogState → ℕ → Result Content ReadFault
log_content site log number = known_log_content site log (property_of number)

-- the values that a log takes: Enable can be any Boolean, and Record_Count 0 alone
abbrev pub takes_value : ℕ → Value → Bool
takes_value number (Truth on) = number == enable_property
takes_value number (Unsigned zero) = number == record_count_property
takes_value number _ = false

abbrev pub takes : What → Bool
takes (Property property value) = takes_value property.0 value
takes (FieldFault reliability) = false

-- the tag of a property that may be written: Enable is a Boolean, and Record_Count an Unsigned
abbrev pub writable_tag : ℕ → Option ℕ
writable_tag number =
    if number == enable_property then Some boolean_tag
    else (if number == record_count_property then Some unsigned_tag else None)

-- no property of a log is an array; a Record_Count can be 0 alone
abbrev pub write_with : Result Content ReadFault → ℕ → Option ℕ → Value → Result (Unit {0}) WriteFault
write_with (Err fault) number index value = Err (as_write_fault fault)
write_with (Ok content) number index value = and_then (index_verdict None index) (value_verdict (writable_tag number) (takes_value number value) value)

-- the change that a write of a log's property makes, or the first error that applies
abbrev pub log_write : LogSite → EventLogState → ℕ → Option ℕ → Value → Result Change WriteFault
log_write site log number index value = allowed_change (write_with (log_content site log number) number index value) (property_change site.object number value)
