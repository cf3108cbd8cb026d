-- The properties of each type of object as a table (ANSI/ASHRAE 135-2020, clause 12): which the object has, which of them are arrays, and what a write of each takes.
use Rattle.std.specs.Prelude.{ℕ, zero, ◌==◌, ◌&&◌, Bool, true, false, if◌then◌else◌, Option, Some, None, is_none, is_some, List, [], ◌∷◌, length, find}
use Rattle.bac_values.specs.ApplicationTags.{bit_string_tag, boolean_tag, enumerated_tag, unsigned_tag}
use Rattle.bac_values.specs.Identifier.{ObjectIdData}
use Rattle.bac_values.specs.Properties.{ack_required_property, acked_transitions_property, alarm_value_property, alarm_values_property, buffer_size_property, deadband_property, enable_property, event_algorithm_inhibit_property, event_algorithm_inhibit_ref_property, event_detection_enable_property, event_enable_property, event_message_texts_config_property, event_message_texts_property, event_state_property, event_time_stamps_property, event_type_property, fault_values_property, high_limit_property, limit_enable_property, low_limit_property, max_apdu_length_accepted_property, notification_class_property, notify_type_property, number_of_states_property, object_identifier_property, object_list_property, object_name_property, object_type_property, out_of_service_property, present_value_property, priority_property, recipient_list_property, record_count_property, reliability_evaluation_inhibit_property, reliability_property, segmentation_supported_property, status_flags_property, stop_when_full_property, time_delay_normal_property, time_delay_property, total_record_count_property, vendor_identifier_property}
use Rattle.bac_values.specs.declared.value.Value.{Value}
use Rattle.bac_values.specs.declared.value.Value.TheVariants.{Unsigned}
use Rattle.object_table.specs.declared.object_site.ObjectSite.{ObjectSite}
use Rattle.object_table.specs.declared.row.Row.{Row}
use Rattle.object_table.specs.Properties.{array_of_values, has_limits, is_binary, is_given, is_multi_state, kind_in}
use Rattle.object_table.specs.Rows.{is_object, row_of}
use Rattle.object_table.specs.Values.{are_flags, is_binary_value, is_number, is_present_value, is_truth, is_unsigned}
use Rattle.object_table.specs.Verdicts.{inhibit_tag, value_tag}
use Rattle.enrollment.specs.declared.enrollment_site.EnrollmentSite.{EnrollmentSite}
use Rattle.enrollment.specs.Enrollments.{site_of}
use Rattle.notify_class.specs.declared.class_site.ClassSite.{ClassSite}
use Rattle.property_values.specs.DeviceProperties.{object_list}
use Rattle.alarm_core.specs.declared.site.Site.{Site}
use Rattle.alarm_core.specs.Devices.{device_object, identifiers_of, listed_class}
use Rattle.alarm_core.specs.Logs.{kept_log, SiteLogState}
use Rattle.alarm_core.specs.State.{CoreState}

-- a property by its number: whether the object has it, its length where it is an array, the application tag of its value where it may be written, and which values it can be
pub record PropertyRow : Type 0 where
  pub number : ℕ
  pub there : Bool
  pub size : Option ℕ
  pub tag : Option ℕ
  pub can_be : Value → Bool

-- one that is read alone, one that is an array and is read alone, and one that may be written
abbrev pub read : ℕ → Bool → PropertyRow
read number there = record { number = number; there = there; size = None; tag = None; can_be = λ value. false }

abbrev pub array : ℕ → Bool → Option ℕ → PropertyRow
array number there size = record { number = number; there = there; size = size; tag = None; can_be = λ value. false }

abbrev pub written : ℕ → Bool → Option ℕ → (Value → Bool) → PropertyRow
written number there tag can_be = record { number = number; there = there; size = None; tag = tag; can_be = can_be }

-- Event_Algorithm_Inhibit may be written where no reference inhibits
abbrev pub inhibition : Bool → Option ObjectIdData → PropertyRow
inhibition there reference = written event_algorithm_inhibit_property there (inhibit_tag reference) (λ value. is_none reference && is_truth value)

-- a value object (12.8, 12.20, 12.37, 12.40, 12.43, 12.44), whose properties of alarms are there where it has a notification class
abbrev pub object_properties : ObjectSite → List PropertyRow
object_properties site =
    let kind = kind_in site in
    let alarmed = is_some site.class in
    let limited = is_some site.class && has_limits kind in
    read object_identifier_property true
    ∷ read object_name_property true
    ∷ read object_type_property true
    ∷ written present_value_property true (value_tag kind) (is_present_value kind site)
    ∷ read status_flags_property true
    ∷ read event_state_property true
    ∷ read reliability_property true
    ∷ written out_of_service_property true (Some boolean_tag) is_truth
    ∷ written reliability_evaluation_inhibit_property true (Some boolean_tag) is_truth
    ∷ read number_of_states_property (is_multi_state kind)
    ∷ written time_delay_property alarmed (Some unsigned_tag) is_unsigned
    ∷ written time_delay_normal_property (alarmed && is_some site.time_delay_normal) (Some unsigned_tag) is_unsigned
    ∷ written high_limit_property limited (value_tag kind) (is_number kind)
    ∷ written low_limit_property limited (value_tag kind) (is_number kind)
    ∷ written deadband_property limited (Some unsigned_tag) is_unsigned
    ∷ written limit_enable_property limited (Some bit_string_tag) (are_flags 2)
    ∷ written alarm_value_property (alarmed && is_binary kind) (Some enumerated_tag) is_binary_value
    ∷ array alarm_values_property (is_given site.alarm_values) (array_of_values kind site.alarm_values)
    ∷ array fault_values_property (is_given site.fault_values) (array_of_values kind site.fault_values)
    ∷ written event_enable_property alarmed (Some bit_string_tag) (are_flags 3)
    ∷ inhibition alarmed site.inhibit_ref
    ∷ read event_algorithm_inhibit_ref_property (is_some site.inhibit_ref)
    ∷ read acked_transitions_property alarmed
    ∷ read notify_type_property alarmed
    ∷ read event_detection_enable_property alarmed
    ∷ read notification_class_property alarmed
    ∷ array event_time_stamps_property alarmed (Some 3)
    ∷ array event_message_texts_property (is_given site.texts) (Some 3)
    ∷ array event_message_texts_config_property (is_given site.texts) (Some 3)
    ∷ []

-- an event enrollment (12.12)
abbrev pub enrollment_properties : EnrollmentSite → List PropertyRow
enrollment_properties site =
    read object_identifier_property true
    ∷ read object_name_property true
    ∷ read object_type_property true
    ∷ read status_flags_property true
    ∷ read event_state_property true
    ∷ read reliability_property true
    ∷ written event_enable_property true (Some bit_string_tag) (are_flags 3)
    ∷ inhibition true site.inhibit_ref
    ∷ read event_algorithm_inhibit_ref_property (is_some site.inhibit_ref)
    ∷ read acked_transitions_property true
    ∷ read notify_type_property true
    ∷ read event_detection_enable_property true
    ∷ read notification_class_property true
    ∷ array event_time_stamps_property true (Some 3)
    ∷ array event_message_texts_property (is_given site.texts) (Some 3)
    ∷ array event_message_texts_config_property (is_given site.texts) (Some 3)
    ∷ read event_type_property true
    ∷ []

abbrev pub is_zero : Value → Bool
is_zero (Unsigned zero) = true
is_zero value = false

-- an event log (12.27), whose Record_Count can be written to 0 alone
abbrev pub log_properties : List PropertyRow
log_properties =
    read object_identifier_property true
    ∷ read object_name_property true
    ∷ read object_type_property true
    ∷ written enable_property true (Some boolean_tag) is_truth
    ∷ written record_count_property true (Some unsigned_tag) is_zero
    ∷ read buffer_size_property true
    ∷ read stop_when_full_property true
    ∷ read total_record_count_property true
    ∷ []

-- the device (12.11)
abbrev pub device_properties : Site → List PropertyRow
device_properties site =
    read object_identifier_property true
    ∷ read object_name_property true
    ∷ read object_type_property true
    ∷ array object_list_property true (Some (length (object_list (identifiers_of site))))
    ∷ read max_apdu_length_accepted_property true
    ∷ read segmentation_supported_property true
    ∷ read vendor_identifier_property true
    ∷ []

-- a notification class (12.21)
abbrev pub class_properties : ClassSite → List PropertyRow
class_properties listed =
    read object_identifier_property true
    ∷ read object_name_property true
    ∷ read object_type_property true
    ∷ read notification_class_property true
    ∷ array priority_property true (Some (length listed.class.priority))
    ∷ read ack_required_property true
    ∷ read recipient_list_property true
    ∷ []

-- ---- by what stands under an identifier

abbrev pub properties_of_class : Option ClassSite → List PropertyRow
properties_of_class (Some listed) = class_properties listed
properties_of_class None = []

abbrev pub properties_by : Site → ObjectIdData → Option EnrollmentSite → Option Row → Option SiteLogState → List PropertyRow
properties_by site object (Some enrollment) row kept = enrollment_properties enrollment
properties_by site object None (Some row) kept = object_properties row.site
properties_by site object None None (Some kept) = log_properties
properties_by site object None None None = if is_object object (device_object site) then device_properties site else properties_of_class (listed_class object site.classes)

abbrev pub if_there : Option PropertyRow → Option PropertyRow
if_there None = None
if_there (Some row) = if row.there then Some row else None

-- the property with a number, if it is one that the object has
abbrev pub property_in : ℕ → List PropertyRow → Option PropertyRow
property_in number table = if_there (find (λ (row : PropertyRow). row.number == number) table)

abbrev pub property_of : CoreState → ObjectIdData → ℕ → Option PropertyRow
property_of state object number = property_in number (properties_by state.site object (site_of object state.values.enrollments) (row_of object state.values.rows) (kept_log object state.logs))
