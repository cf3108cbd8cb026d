-- The properties of event enrollments as they are read (ANSI/ASHRAE 135-2020, 12.12).
use Rattle.std.specs.Prelude.{ℕ, ◌==◌, Bool, false, not, if◌then◌else◌, Option, Some, None, Result, Ok, Err, List, [], ◌∷◌, map}
use Rattle.bac_values.specs.EventStates.{number_of_state, is_normal}
use Rattle.bac_values.specs.Reliabilities.{number_of_reliability}
use Rattle.bac_values.specs.declared.event_state.EventState.{EventState as State'}
use Rattle.bac_values.specs.declared.reliability.Reliability.{Reliability as Reliability'}
use Rattle.bac_values.specs.declared.value.Value.TheVariants as values
use Rattle.algorithm_rules.specs.EventTypes.{event_type_of}
use Rattle.event_machine.specs.Summary.{AlarmState}
use Rattle.object_table.specs.declared.row.Row.{Row}
use Rattle.enrollment.specs.declared.enrollment_property.EnrollmentProperty.{EnrollmentProperty}
use Rattle.enrollment.specs.declared.enrollment_property.EnrollmentProperty.TheVariants.{ObjectIdentifier, ObjectName, ObjectType, StatusFlags, EventState, Reliability, EventEnable, EventAlgorithmInhibit, EventAlgorithmInhibitRef, AckedTransitions, NotifyType, EventDetectionEnable, NotificationClass, EventTimeStamps, EventMessageTexts, EventMessageTextsConfig, EventType}
use Rattle.enrollment.specs.declared.enrollment_site.EnrollmentSite.{EnrollmentSite}
use Rattle.enrollment.specs.Properties.{has, property_of}
use Rattle.enrollment.specs.Reliabilities.{reliability_of_enrollment}
use Rattle.property_values.specs.declared.content.Content.{Content}
use Rattle.property_values.specs.declared.content.Content.TheVariants.{Elements}
use Rattle.property_values.specs.declared.content.ReadFault.{ReadFault}
use Rattle.property_values.specs.Properties.{flags, one, reference_to, unknown_property, written_time_stamp}
use Rattle.property_values.specs.Texts.{array_of_texts, texts_that_came}

-- Status_Flags: in alarm where the event state isn't NORMAL, in fault where the reliability isn't NO_FAULT_DETECTED, never overridden, and never out of service
abbrev pub enrollment_status : State' → Reliability' → List Bool
enrollment_status state reliability = not (is_normal state) ∷ not (number_of_reliability reliability == 0) ∷ false ∷ false ∷ []

-- what a property of an enrollment with an alarm and a reliability is; Event_Algorithm_Inhibit shows whether the enrollment is inhibited, also by reference
abbrev pub enrollment_property : AlarmState → Reliability' → Bool → EnrollmentSite → EnrollmentProperty → Content
enrollment_property alarm reliability inhibited site ObjectIdentifier = one (values.Object site.object)
enrollment_property alarm reliability inhibited site ObjectName = one (values.Text site.name)
enrollment_property alarm reliability inhibited site ObjectType = one (values.Enumerated site.object.number)
enrollment_property alarm reliability inhibited site StatusFlags = flags (enrollment_status alarm.state reliability)
enrollment_property alarm reliability inhibited site EventState = one (values.Enumerated (number_of_state alarm.state))
enrollment_property alarm reliability inhibited site Reliability = one (values.Enumerated (number_of_reliability reliability))
enrollment_property alarm reliability inhibited site EventEnable = flags site.enable
enrollment_property alarm reliability inhibited site EventAlgorithmInhibit = one (values.Bool inhibited)
enrollment_property alarm reliability inhibited site EventAlgorithmInhibitRef = reference_to site.inhibit_ref
enrollment_property alarm reliability inhibited site AckedTransitions = flags alarm.acked
enrollment_property alarm reliability inhibited site NotifyType = one (values.Enumerated site.notify)
enrollment_property alarm reliability inhibited site EventDetectionEnable = one (values.Bool site.detection)
enrollment_property alarm reliability inhibited site NotificationClass = one (values.Unsigned site.class)
enrollment_property alarm reliability inhibited site EventTimeStamps = Elements (map written_time_stamp alarm.stamps)
enrollment_property alarm reliability inhibited site EventMessageTexts = array_of_texts (texts_that_came alarm.last_states site.texts)
enrollment_property alarm reliability inhibited site EventMessageTextsConfig = array_of_texts site.texts
enrollment_property alarm reliability inhibited site EventType = one (values.Enumerated (event_type_of site.algorithm))

-- a property that enrollments know, where the enrollment has it
abbrev pub known_enrollment_content : AlarmState → Reliability' → Bool → EnrollmentSite → Option EnrollmentProperty → Result Content ReadFault
known_enrollment_content alarm reliability inhibited site (Some property) =
    if has site property then Ok (enrollment_property alarm reliability inhibited site property) else Err unknown_property
known_enrollment_content alarm reliability inhibited site None = Err unknown_property

-- the property with a number, or that there is none
abbrev pub enrollment_content : AlarmState → Bool → EnrollmentSite → List Row → ℕ → Result Content ReadFault
enrollment_content alarm inhibited site rows number = known_enrollment_content alarm (reliability_of_enrollment site rows) inhibited site (property_of number)
