-- The numbers of properties (ANSI/ASHRAE 135-2020, clause 21, BACnetPropertyIdentifier).
use Rattle.std.specs.Prelude.{ℕ}

abbrev pub acked_transitions_property : ℕ
acked_transitions_property = 0

abbrev pub ack_required_property : ℕ
ack_required_property = 1

abbrev pub alarm_value_property : ℕ
alarm_value_property = 6

abbrev pub alarm_values_property : ℕ
alarm_values_property = 7

-- every property of an object, where many are read at once (15.7.3.1.2)
abbrev pub all_properties : ℕ
all_properties = 8

abbrev pub notification_class_property : ℕ
notification_class_property = 17

abbrev pub deadband_property : ℕ
deadband_property = 25

abbrev pub event_enable_property : ℕ
event_enable_property = 35

abbrev pub event_state_property : ℕ
event_state_property = 36

abbrev pub event_type_property : ℕ
event_type_property = 37

abbrev pub fault_values_property : ℕ
fault_values_property = 39

abbrev pub high_limit_property : ℕ
high_limit_property = 45

abbrev pub limit_enable_property : ℕ
limit_enable_property = 52

abbrev pub low_limit_property : ℕ
low_limit_property = 59

abbrev pub max_apdu_length_accepted_property : ℕ
max_apdu_length_accepted_property = 62

abbrev pub notify_type_property : ℕ
notify_type_property = 72

abbrev pub number_of_states_property : ℕ
number_of_states_property = 74

abbrev pub object_identifier_property : ℕ
object_identifier_property = 75

abbrev pub object_list_property : ℕ
object_list_property = 76

abbrev pub object_name_property : ℕ
object_name_property = 77

abbrev pub object_type_property : ℕ
object_type_property = 79

abbrev pub out_of_service_property : ℕ
out_of_service_property = 81

abbrev pub present_value_property : ℕ
present_value_property = 85

abbrev pub priority_property : ℕ
priority_property = 86

abbrev pub recipient_list_property : ℕ
recipient_list_property = 102

abbrev pub reliability_property : ℕ
reliability_property = 103

abbrev pub segmentation_supported_property : ℕ
segmentation_supported_property = 107

abbrev pub status_flags_property : ℕ
status_flags_property = 111

abbrev pub time_delay_property : ℕ
time_delay_property = 113

abbrev pub vendor_identifier_property : ℕ
vendor_identifier_property = 120

abbrev pub buffer_size_property : ℕ
buffer_size_property = 126

abbrev pub event_time_stamps_property : ℕ
event_time_stamps_property = 130

abbrev pub log_buffer_property : ℕ
log_buffer_property = 131

abbrev pub enable_property : ℕ
enable_property = 133

abbrev pub record_count_property : ℕ
record_count_property = 141

abbrev pub stop_when_full_property : ℕ
stop_when_full_property = 144

abbrev pub total_record_count_property : ℕ
total_record_count_property = 145

abbrev pub event_message_texts_property : ℕ
event_message_texts_property = 351

abbrev pub event_message_texts_config_property : ℕ
event_message_texts_config_property = 352

abbrev pub event_detection_enable_property : ℕ
event_detection_enable_property = 353

abbrev pub event_algorithm_inhibit_property : ℕ
event_algorithm_inhibit_property = 354

abbrev pub event_algorithm_inhibit_ref_property : ℕ
event_algorithm_inhibit_ref_property = 355

abbrev pub time_delay_normal_property : ℕ
time_delay_normal_property = 356

abbrev pub reliability_evaluation_inhibit_property : ℕ
reliability_evaluation_inhibit_property = 357
