-- The properties of objects as they are read (ANSI/ASHRAE 135-2020, clause 12).
use Rattle.std.specs.Prelude.{ℕ, ◌==◌, ℤ, pos, negsuc, Bool, true, false, not, if◌then◌else◌, Option, Some, None, Result, Ok, Err, List, [], ◌∷◌, ◌++◌, map}
use Rattle.std.specs.List.{flat_map}
use Rattle.bac_values.specs.BitString.{string_of_flags}
use Rattle.bac_values.specs.Errors.{invalid_array_index_error, property_is_not_an_array_error, unknown_object_error, unknown_property_error}
use Rattle.bac_values.specs.EventStates.{number_of_state, is_normal}
use Rattle.bac_values.specs.Identifier.{ObjectIdData}
use Rattle.bac_values.specs.Properties.{present_value_property}
use Rattle.bac_values.specs.Reliabilities.{number_of_reliability}
use Rattle.bac_values.specs.declared.event_state.EventState.{EventState as State'}
use Rattle.bac_values.specs.declared.object_kind.ObjectKind.{ObjectKind}
use Rattle.bac_values.specs.declared.object_kind.ObjectKind.TheVariants.{IntegerValue, MultiStateValue}
use Rattle.bac_values.specs.declared.service_error.ServiceError.{ServiceError}
use Rattle.bac_values.specs.declared.stamp.Stamp.{Stamp}
use Rattle.bac_values.specs.declared.value.Value.{Value}
use Rattle.bac_values.specs.declared.value.Value.TheVariants as values
use Rattle.bac_tags.specs.Writing.{written_object, written_stamp, written_tag, written_unsigned, written_value}
use Rattle.bac_tags.specs.EnclosingTags.{opening, closing}
use Rattle.event_machine.specs.Summary.{AlarmState}
use Rattle.object_table.specs.declared.object_property.ObjectProperty.{ObjectProperty}
use Rattle.object_table.specs.declared.object_property.ObjectProperty.TheVariants.{ObjectIdentifier, ObjectName, ObjectType, PresentValue, StatusFlags, EventState, Reliability, OutOfService, ReliabilityEvaluationInhibit, NumberOfStates, TimeDelay, TimeDelayNormal, HighLimit, LowLimit, Deadband, LimitEnable, AlarmValue, AlarmValues, FaultValues, EventEnable, EventAlgorithmInhibit, EventAlgorithmInhibitRef, AckedTransitions, NotifyType, EventDetectionEnable, NotificationClass, EventTimeStamps, EventMessageTexts, EventMessageTextsConfig}
use Rattle.object_table.specs.declared.row.Row.{Row}
use Rattle.object_table.specs.declared.faults.WriteFault.{WriteFault}
use Rattle.object_table.specs.declared.faults.WriteFault.TheVariants as write_faults
use Rattle.object_table.specs.Properties.{has, kind_in, property_of}
use Rattle.reliability_eval.specs.Reliability.{reliability_of}
use Rattle.property_values.specs.declared.content.Content.{Content}
use Rattle.property_values.specs.declared.content.Content.TheVariants.{Whole, Elements}
use Rattle.property_values.specs.declared.content.ReadFault.{ReadFault}
use Rattle.property_values.specs.declared.content.ReadFault.TheVariants.{Error, NoMemory}
use Rattle.property_values.specs.Texts.{array_of_texts, texts_that_came}

-- one value
abbrev pub one : Value → Content
one value = Whole (written_value value)

abbrev pub flags : List Bool → Content
flags bits = one (values.Bits (string_of_flags bits))

-- a list of values, whose elements stand one after the other; and an array of values
abbrev pub list_of_values : List Value → Content
list_of_values items = Whole (flat_map written_value items)

abbrev pub array_of_values : List Value → Content
array_of_values items = Elements (map written_value items)

-- the values of a multi-state value are a list (12.20), those of other kinds an array
abbrev pub values_of : Option ObjectKind → List Value → Content
values_of (Some MultiStateValue) items = list_of_values items
values_of _ items = array_of_values items

-- a BACnetTimeStamp, which is always a date and a time
abbrev pub written_time_stamp : Stamp → List ℕ
written_time_stamp stamp = written_tag (opening 2) ++ (written_stamp stamp ++ written_tag (closing 2))

-- a BACnetObjectPropertyReference: [0] an object, [1] its Present_Value; null where there is none
abbrev pub reference_to : Option ObjectIdData → Content
reference_to (Some object) = Whole (written_object (Some 0) object ++ written_unsigned (Some 1) present_value_property)
reference_to None = one values.Null

-- a limit has the type of the value that it bounds
abbrev pub natural : ℤ → ℕ
natural (pos number) = number
natural (negsuc number) = 0

abbrev pub limit_of : Option ObjectKind → ℤ → Value
limit_of (Some IntegerValue) limit = values.Signed limit
limit_of _ limit = values.Unsigned (natural limit)

-- a property that need not be there
abbrev pub or_zero : Option ℕ → ℕ
or_zero (Some number) = number
or_zero None = 0

abbrev pub or_null : Option Value → Value
or_null (Some value) = value
or_null None = values.Null

-- Status_Flags: in alarm where the event state isn't NORMAL, in fault where the reliability isn't NO_FAULT_DETECTED, never overridden, and out of service
abbrev pub status_of : State' → Row → List Bool
status_of state row = not (is_normal state) ∷ not (number_of_reliability (reliability_of row) == 0) ∷ false ∷ row.site.out_of_service ∷ []

-- the properties of a value object that are there for its alarm: its state, and what is told and acknowledged of it
abbrev pub is_of_alarm : ObjectProperty → Bool
is_of_alarm EventState = true
is_of_alarm EventEnable = true
is_of_alarm EventAlgorithmInhibit = true
is_of_alarm EventAlgorithmInhibitRef = true
is_of_alarm AckedTransitions = true
is_of_alarm NotifyType = true
is_of_alarm EventDetectionEnable = true
is_of_alarm NotificationClass = true
is_of_alarm EventTimeStamps = true
is_of_alarm EventMessageTexts = true
is_of_alarm EventMessageTextsConfig = true
is_of_alarm _ = false

-- what a property of a value object with an alarm is; Event_Algorithm_Inhibit is whether the object is inhibited
abbrev pub object_content : Option ObjectKind → AlarmState → Bool → Row → ObjectProperty → Content
object_content kind alarm inhibited row ObjectIdentifier = one (values.Object row.site.object)
object_content kind alarm inhibited row ObjectName = one (values.Text row.site.name)
object_content kind alarm inhibited row ObjectType = one (values.Enumerated row.site.object.number)
object_content kind alarm inhibited row PresentValue = one row.site.value
object_content kind alarm inhibited row StatusFlags = flags (status_of alarm.state row)
object_content kind alarm inhibited row EventState = one (values.Enumerated (number_of_state alarm.state))
object_content kind alarm inhibited row Reliability = one (values.Enumerated (number_of_reliability (reliability_of row)))
object_content kind alarm inhibited row OutOfService = one (values.Bool row.site.out_of_service)
object_content kind alarm inhibited row ReliabilityEvaluationInhibit = one (values.Bool row.site.reliability_inhibit)
object_content kind alarm inhibited row NumberOfStates = one (values.Unsigned row.site.states)
object_content kind alarm inhibited row TimeDelay = one (values.Unsigned row.site.time_delay)
object_content kind alarm inhibited row TimeDelayNormal = one (values.Unsigned (or_zero row.site.time_delay_normal))
object_content kind alarm inhibited row HighLimit = one (limit_of kind row.site.high)
object_content kind alarm inhibited row LowLimit = one (limit_of kind row.site.low)
object_content kind alarm inhibited row Deadband = one (values.Unsigned row.site.deadband)
object_content kind alarm inhibited row LimitEnable = flags row.site.limit_enable
object_content kind alarm inhibited row AlarmValue = one (or_null row.site.alarm_value)
object_content kind alarm inhibited row AlarmValues = values_of kind row.site.alarm_values
object_content kind alarm inhibited row FaultValues = values_of kind row.site.fault_values
object_content kind alarm inhibited row EventEnable = flags row.site.enable
object_content kind alarm inhibited row EventAlgorithmInhibit = one (values.Bool inhibited)
object_content kind alarm inhibited row EventAlgorithmInhibitRef = reference_to row.site.inhibit_ref
object_content kind alarm inhibited row AckedTransitions = flags alarm.acked
object_content kind alarm inhibited row NotifyType = one (values.Enumerated row.site.notify)
object_content kind alarm inhibited row EventDetectionEnable = one (values.Bool row.site.detection)
object_content kind alarm inhibited row NotificationClass = one (values.Unsigned (or_zero row.site.class))
object_content kind alarm inhibited row EventTimeStamps = Elements (map written_time_stamp alarm.stamps)
object_content kind alarm inhibited row EventMessageTexts = array_of_texts (texts_that_came alarm.last_states row.site.texts)
object_content kind alarm inhibited row EventMessageTextsConfig = array_of_texts row.site.texts

-- a fault of reading, as a write is answered with it
abbrev pub as_write_fault : ReadFault → WriteFault
as_write_fault (Error class code) = write_faults.Error class code
as_write_fault NoMemory = write_faults.NoMemory

-- an error, as it is answered
abbrev pub error_of : ServiceError → ReadFault
error_of error = Error error.class error.code

abbrev pub unknown_object : ReadFault
unknown_object = error_of unknown_object_error

abbrev pub unknown_property : ReadFault
unknown_property = error_of unknown_property_error

abbrev pub property_is_not_an_array : ReadFault
property_is_not_an_array = error_of property_is_not_an_array_error

abbrev pub invalid_array_index : ReadFault
invalid_array_index = error_of invalid_array_index_error

-- a property that value objects know, where the object has it
abbrev pub known_content : Option ObjectKind → AlarmState → Bool → Row → Option ObjectProperty → Result Content ReadFault
known_content kind alarm inhibited row (Some property) = if has kind row.site property then Ok (object_content kind alarm inhibited row property) else Err unknown_property
known_content kind alarm inhibited row None = Err unknown_property

abbrev pub row_content : AlarmState → Bool → Row → ℕ → Result Content ReadFault
row_content alarm inhibited row number = known_content (kind_in row.site) alarm inhibited row (property_of number)
