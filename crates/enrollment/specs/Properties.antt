-- The properties of event enrollments (ANSI/ASHRAE 135-2020, 12.12), and which of them are arrays.
use Rattle.std.specs.Prelude.{ℕ, ◌==◌, Bool, true, false, Option, Some, None, is_some, List, [], ◌∷◌, find}
use Rattle.std.specs.Option.{option_and_then}
use Rattle.bac_values.specs.Properties.{acked_transitions_property, notification_class_property, event_enable_property, event_state_property, event_type_property, notify_type_property, object_identifier_property, object_name_property, object_type_property, reliability_property, status_flags_property, event_time_stamps_property, event_message_texts_property, event_message_texts_config_property, event_detection_enable_property, event_algorithm_inhibit_property, event_algorithm_inhibit_ref_property}
use Rattle.object_table.specs.Properties.{is_given}
use Rattle.enrollment.specs.declared.enrollment_property.EnrollmentProperty.{EnrollmentProperty}
use Rattle.enrollment.specs.declared.enrollment_property.EnrollmentProperty.TheVariants.{ObjectIdentifier, ObjectName, ObjectType, StatusFlags, EventState, Reliability, EventEnable, EventAlgorithmInhibit, EventAlgorithmInhibitRef, AckedTransitions, NotifyType, EventDetectionEnable, NotificationClass, EventTimeStamps, EventMessageTexts, EventMessageTextsConfig, EventType}
use Rattle.enrollment.specs.declared.enrollment_site.EnrollmentSite.{EnrollmentSite}

-- the number of each property
abbrev pub number_of_property : EnrollmentProperty → ℕ
number_of_property ObjectIdentifier = object_identifier_property
number_of_property ObjectName = object_name_property
number_of_property ObjectType = object_type_property
number_of_property StatusFlags = status_flags_property
number_of_property EventState = event_state_property
number_of_property Reliability = reliability_property
number_of_property EventEnable = event_enable_property
number_of_property EventAlgorithmInhibit = event_algorithm_inhibit_property
number_of_property EventAlgorithmInhibitRef = event_algorithm_inhibit_ref_property
number_of_property AckedTransitions = acked_transitions_property
number_of_property NotifyType = notify_type_property
number_of_property EventDetectionEnable = event_detection_enable_property
number_of_property NotificationClass = notification_class_property
number_of_property EventTimeStamps = event_time_stamps_property
number_of_property EventMessageTexts = event_message_texts_property
number_of_property EventMessageTextsConfig = event_message_texts_config_property
number_of_property EventType = event_type_property

abbrev pub enrollment_properties : List EnrollmentProperty
enrollment_properties =
    ObjectIdentifier ∷ ObjectName ∷ ObjectType ∷ StatusFlags ∷ EventState ∷ Reliability ∷ EventEnable ∷ EventAlgorithmInhibit ∷ EventAlgorithmInhibitRef ∷ AckedTransitions ∷ NotifyType ∷ EventDetectionEnable ∷ NotificationClass ∷ EventTimeStamps ∷ EventMessageTexts ∷ EventMessageTextsConfig ∷ EventType ∷ []

-- the property with a number
unfoldable pub property_of : ℕ → Option EnrollmentProperty
property_of number = find (λ property. number_of_property property == number) enrollment_properties

-- whether an enrollment has a property: only texts and a reference may be absent
abbrev pub has : EnrollmentSite → EnrollmentProperty → Bool
has site EventAlgorithmInhibitRef = is_some site.inhibit_ref
has site EventMessageTexts = is_given site.texts
has site EventMessageTextsConfig = is_given site.texts
has site _ = true

abbrev pub has_known : EnrollmentSite → Option EnrollmentProperty → Bool
has_known site (Some property) = has site property
has_known site None = false

-- whether an enrollment has the property with a number
abbrev pub has_property : ℕ → EnrollmentSite → Bool
has_property number site = has_known site (property_of number)

-- the length of a property that is an array: there is a stamp, and a text, for each transition
abbrev pub length_of : EnrollmentProperty → Option ℕ
length_of EventTimeStamps = Some 3
length_of EventMessageTexts = Some 3
length_of EventMessageTextsConfig = Some 3
length_of _ = None

abbrev pub array_length : ℕ → Option ℕ
array_length number = option_and_then length_of (property_of number)
