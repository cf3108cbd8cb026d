-- The properties of value objects: which an object has, and which of them are arrays.
use Rattle.std.specs.Prelude.{ℕ, ◌==◌, Bool, true, false, ◌&&◌, Option, Some, None, is_some, List, [], ◌∷◌, length, find}
use Rattle.bac_values.specs.Properties.{acked_transitions_property, alarm_value_property, alarm_values_property, notification_class_property, deadband_property, event_enable_property, event_state_property, fault_values_property, high_limit_property, limit_enable_property, low_limit_property, notify_type_property, number_of_states_property, object_identifier_property, object_name_property, object_type_property, out_of_service_property, present_value_property, reliability_property, status_flags_property, time_delay_property, event_time_stamps_property, event_message_texts_property, event_message_texts_config_property, event_detection_enable_property, event_algorithm_inhibit_property, event_algorithm_inhibit_ref_property, time_delay_normal_property, reliability_evaluation_inhibit_property}
use Rattle.bac_values.specs.declared.object_kind.ObjectKind.{ObjectKind}
use Rattle.bac_values.specs.declared.object_kind.ObjectKind.TheVariants.{BinaryValue, MultiStateValue, IntegerValue, PositiveIntegerValue}
use Rattle.bac_values.specs.declared.value.Value.{Value}
use Rattle.bac_values.specs.Identifier.{kind_of}
use Rattle.object_table.specs.declared.object_property.ObjectProperty.{ObjectProperty}
use Rattle.object_table.specs.declared.object_property.ObjectProperty.TheVariants.{ObjectIdentifier, ObjectName, ObjectType, PresentValue, StatusFlags, EventState, Reliability, OutOfService, ReliabilityEvaluationInhibit, NumberOfStates, TimeDelay, TimeDelayNormal, HighLimit, LowLimit, Deadband, LimitEnable, AlarmValue, AlarmValues, FaultValues, EventEnable, EventAlgorithmInhibit, EventAlgorithmInhibitRef, AckedTransitions, NotifyType, EventDetectionEnable, NotificationClass, EventTimeStamps, EventMessageTexts, EventMessageTextsConfig}
use Rattle.object_table.specs.declared.object_site.ObjectSite.{ObjectSite}

-- the number of each property
abbrev pub number_of_property : ObjectProperty → ℕ
number_of_property ObjectIdentifier = object_identifier_property
number_of_property ObjectName = object_name_property
number_of_property ObjectType = object_type_property
number_of_property PresentValue = present_value_property
number_of_property StatusFlags = status_flags_property
number_of_property EventState = event_state_property
number_of_property Reliability = reliability_property
number_of_property OutOfService = out_of_service_property
number_of_property ReliabilityEvaluationInhibit = reliability_evaluation_inhibit_property
number_of_property NumberOfStates = number_of_states_property
number_of_property TimeDelay = time_delay_property
number_of_property TimeDelayNormal = time_delay_normal_property
number_of_property HighLimit = high_limit_property
number_of_property LowLimit = low_limit_property
number_of_property Deadband = deadband_property
number_of_property LimitEnable = limit_enable_property
number_of_property AlarmValue = alarm_value_property
number_of_property AlarmValues = alarm_values_property
number_of_property FaultValues = fault_values_property
number_of_property EventEnable = event_enable_property
number_of_property EventAlgorithmInhibit = event_algorithm_inhibit_property
number_of_property EventAlgorithmInhibitRef = event_algorithm_inhibit_ref_property
number_of_property AckedTransitions = acked_transitions_property
number_of_property NotifyType = notify_type_property
number_of_property EventDetectionEnable = event_detection_enable_property
number_of_property NotificationClass = notification_class_property
number_of_property EventTimeStamps = event_time_stamps_property
number_of_property EventMessageTexts = event_message_texts_property
number_of_property EventMessageTextsConfig = event_message_texts_config_property

abbrev pub object_properties : List ObjectProperty
object_properties =
    ObjectIdentifier ∷ ObjectName ∷ ObjectType ∷ PresentValue ∷ StatusFlags ∷ EventState ∷ Reliability ∷ OutOfService ∷ ReliabilityEvaluationInhibit ∷ NumberOfStates ∷ TimeDelay ∷ TimeDelayNormal ∷ HighLimit ∷ LowLimit ∷ Deadband ∷ LimitEnable ∷ AlarmValue ∷ AlarmValues ∷ FaultValues ∷ EventEnable ∷ EventAlgorithmInhibit ∷ EventAlgorithmInhibitRef ∷ AckedTransitions ∷ NotifyType ∷ EventDetectionEnable ∷ NotificationClass ∷ EventTimeStamps ∷ EventMessageTexts ∷ EventMessageTextsConfig ∷ []

-- the property with a number
unfoldable pub property_of : ℕ → Option ObjectProperty
property_of number = find (λ property. number_of_property property == number) object_properties

-- the kind of an object
abbrev pub kind_in : ObjectSite → Option ObjectKind
kind_in site = kind_of site.object.number

-- integer and positive integer values have limits
abbrev pub has_limits : Option ObjectKind → Bool
has_limits (Some IntegerValue) = true
has_limits (Some PositiveIntegerValue) = true
has_limits _ = false

abbrev pub is_binary : Option ObjectKind → Bool
is_binary (Some BinaryValue) = true
is_binary _ = false

abbrev pub is_multi_state : Option ObjectKind → Bool
is_multi_state (Some MultiStateValue) = true
is_multi_state _ = false

-- whether a list was given
abbrev pub is_given : {X : Type 0} → List X → Bool
is_given [] = false
is_given (x ∷ xs) = true

-- whether an object of a kind has a property
abbrev pub has : Option ObjectKind → ObjectSite → ObjectProperty → Bool
has kind site NumberOfStates = is_multi_state kind
has kind site TimeDelay = is_some site.class
has kind site TimeDelayNormal = is_some site.class && is_some site.time_delay_normal
has kind site HighLimit = is_some site.class && has_limits kind
has kind site LowLimit = is_some site.class && has_limits kind
has kind site Deadband = is_some site.class && has_limits kind
has kind site LimitEnable = is_some site.class && has_limits kind
has kind site AlarmValue = is_some site.class && is_binary kind
has kind site AlarmValues = is_given site.alarm_values
has kind site FaultValues = is_given site.fault_values
has kind site EventEnable = is_some site.class
has kind site EventAlgorithmInhibit = is_some site.class
has kind site EventAlgorithmInhibitRef = is_some site.inhibit_ref
has kind site AckedTransitions = is_some site.class
has kind site NotifyType = is_some site.class
has kind site EventDetectionEnable = is_some site.class
has kind site NotificationClass = is_some site.class
has kind site EventTimeStamps = is_some site.class
has kind site EventMessageTexts = is_given site.texts
has kind site EventMessageTextsConfig = is_given site.texts
has kind site _ = true

-- the length of a list where it is an array: a multi-state value's alarm and fault values are none
abbrev pub array_of_values : Option ObjectKind → List Value → Option ℕ
array_of_values (Some MultiStateValue) values = None
array_of_values _ values = Some (length values)

-- the length of a property that is an array
abbrev pub length_of : Option ObjectKind → ObjectSite → ObjectProperty → Option ℕ
length_of kind site AlarmValues = array_of_values kind site.alarm_values
length_of kind site FaultValues = array_of_values kind site.fault_values
length_of kind site EventTimeStamps = Some 3
length_of kind site EventMessageTexts = Some 3
length_of kind site EventMessageTextsConfig = Some 3
length_of kind site _ = None

abbrev pub has_known : Option ObjectKind → ObjectSite → Option ObjectProperty → Bool
has_known kind site (Some property) = has kind site property
has_known kind site None = false

abbrev pub length_of_known : Option ObjectKind → ObjectSite → Option ObjectProperty → Option ℕ
length_of_known kind site (Some property) = length_of kind site property
length_of_known kind site None = None

-- whether an object has the property with a number, and its length where it is an array
abbrev pub has_property : ℕ → ObjectSite → Bool
has_property number site = has_known (kind_in site) site (property_of number)

abbrev pub array_length : ℕ → ObjectSite → Option ℕ
array_length number site = length_of_known (kind_in site) site (property_of number)
