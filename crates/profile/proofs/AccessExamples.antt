-- Reads and writes (15.5, 15.9): what is read of each property, which writes are taken, and each error before those behind it.
use Rattle.std.specs.Prelude.{◌≡◌, refl, ℕ, Bool, pos, negsuc, true, false, Some, None, Ok, Err, codes, [], ◌∷◌, replicate}
use Rattle.profile.specs.Numbers.{identifier, Null, Truth, Unsigned, Signed, Text, Bits, Enumerated, Named, Opaque, OtherType, CharacterSet, NotUtf8, TooLong}
use Rattle.profile.specs.Numbers.{BinaryValue, Device, EventEnrollment, NotificationClass, MultiStateValue, EventLog}
use Rattle.profile.specs.Numbers.{BitStringValue, CharacterStringValue, IntegerValue, PositiveIntegerValue, UnreliableOther}
use Rattle.profile.specs.Numbers.{UnknownObject, UnknownProperty, InvalidDataType, ValueOutOfRange, WriteAccessDenied, CharacterSetNotSupported}
use Rattle.profile.specs.Numbers.{InvalidArrayIndex, PropertyIsNotAnArray, NoSpaceToWriteProperty, error_numbers}
use Rattle.profile.specs.Sites.{Log, Site}
use Rattle.profile.specs.Times.{no_stamp}
use Rattle.profile.specs.Tables.{One, Stamp, Recipient, Referred}
use Rattle.profile.specs.Histories.{Property, Write, Edit}
use Rattle.profile.specs.Errors.{read, write_error}
use Rattle.profile.proofs.Samples.{tank, flow, pump, mode, doors, note, range, full, desk, site_of, write, fault, tick}

abbrev pub plant : Site
plant = site_of (pump ∷ range ∷ mode ∷ doors ∷ note ∷ tank ∷ flow ∷ [])

abbrev pub holds : Log → Bool × ℕ × ℕ
holds log = (true, 2, 9)

pub a_tank_is_read : read plant holds [] (identifier IntegerValue 1) 75 None ≡ Ok (One (Named (identifier IntegerValue 1)) ∷ [])
a_tank_is_read = refl

pub its_name_is_read : read plant holds [] (identifier IntegerValue 1) 77 None ≡ Ok (One (Text (codes "Tank")) ∷ [])
its_name_is_read = refl

pub its_type_is_read : read plant holds [] (identifier IntegerValue 1) 79 None ≡ Ok (One (Enumerated 45) ∷ [])
its_type_is_read = refl

pub its_value_is_read : read plant holds (tick 10000 ∷ write 0 tank (Signed (pos 90)) ∷ []) (identifier IntegerValue 1) 85 None ≡ Ok (One (Signed (pos 90)) ∷ [])
its_value_is_read = refl

pub its_first_value_is_read : read plant holds [] (identifier IntegerValue 1) 85 None ≡ Ok (One (Signed (pos 50)) ∷ [])
its_first_value_is_read = refl

pub its_state_is_read : read plant holds (tick 10000 ∷ write 0 tank (Signed (pos 90)) ∷ []) (identifier IntegerValue 1) 36 None ≡ Ok (One (Enumerated 3) ∷ [])
its_state_is_read = refl

pub its_first_state_is_read : read plant holds [] (identifier IntegerValue 1) 36 None ≡ Ok (One (Enumerated 0) ∷ [])
its_first_state_is_read = refl

pub its_flags_are_read : read plant holds (tick 10000 ∷ write 0 tank (Signed (pos 90)) ∷ []) (identifier IntegerValue 1) 111 None ≡ Ok (One (Bits (true ∷ false ∷ false ∷ false ∷ [])) ∷ [])
its_flags_are_read = refl

pub the_flags_of_a_fault_are_read : read plant holds (fault 0 tank UnreliableOther ∷ []) (identifier IntegerValue 1) 111 None ≡ Ok (One (Bits (true ∷ true ∷ false ∷ false ∷ [])) ∷ [])
the_flags_of_a_fault_are_read = refl

pub a_reliability_is_read : read plant holds (fault 0 tank UnreliableOther ∷ []) (identifier IntegerValue 1) 103 None ≡ Ok (One (Enumerated 7) ∷ [])
a_reliability_is_read = refl

pub its_high_limit_is_read : read plant holds [] (identifier IntegerValue 1) 45 None ≡ Ok (One (Signed (pos 80)) ∷ [])
its_high_limit_is_read = refl

pub its_low_limit_is_read : read plant holds [] (identifier IntegerValue 1) 59 None ≡ Ok (One (Signed (pos 20)) ∷ [])
its_low_limit_is_read = refl

pub the_high_limit_of_a_flow_is_read : read plant holds [] (identifier PositiveIntegerValue 1) 45 None ≡ Ok (One (Unsigned 80) ∷ [])
the_high_limit_of_a_flow_is_read = refl

pub its_deadband_is_read : read plant holds [] (identifier IntegerValue 1) 25 None ≡ Ok (One (Unsigned 5) ∷ [])
its_deadband_is_read = refl

pub its_enabled_limits_are_read : read plant holds [] (identifier IntegerValue 1) 52 None ≡ Ok (One (Bits (true ∷ true ∷ [])) ∷ [])
its_enabled_limits_are_read = refl

pub its_delay_is_read : read plant holds [] (identifier IntegerValue 1) 113 None ≡ Ok (One (Unsigned 10) ∷ [])
its_delay_is_read = refl

pub its_acknowledgements_are_read : read plant holds (tick 10000 ∷ write 0 tank (Signed (pos 90)) ∷ []) (identifier IntegerValue 1) 0 None ≡ Ok (One (Bits (false ∷ true ∷ true ∷ [])) ∷ [])
its_acknowledgements_are_read = refl

pub its_enabled_events_are_read : read plant holds [] (identifier IntegerValue 1) 35 None ≡ Ok (One (Bits (true ∷ true ∷ true ∷ [])) ∷ [])
its_enabled_events_are_read = refl

pub its_stamps_are_read : read plant holds (tick 10000 ∷ write 0 tank (Signed (pos 90)) ∷ []) (identifier IntegerValue 1) 130 None ≡ Ok (Stamp (123 ∷ 11 ∷ 14 ∷ 2 ∷ 22 ∷ 13 ∷ 30 ∷ 0 ∷ []) ∷ Stamp (no_stamp) ∷ Stamp (no_stamp) ∷ [])
its_stamps_are_read = refl

pub the_number_of_stamps_is_read : read plant holds [] (identifier IntegerValue 1) 130 (Some 0) ≡ Ok (One (Unsigned 3) ∷ [])
the_number_of_stamps_is_read = refl

pub its_last_stamp_is_read : read plant holds (tick 10000 ∷ write 0 tank (Signed (pos 90)) ∷ []) (identifier IntegerValue 1) 130 (Some 3) ≡ Ok (Stamp no_stamp ∷ [])
its_last_stamp_is_read = refl

pub its_first_stamp_is_read : read plant holds (tick 10000 ∷ write 0 tank (Signed (pos 90)) ∷ []) (identifier IntegerValue 1) 130 (Some 1) ≡ Ok (Stamp (123 ∷ 11 ∷ 14 ∷ 2 ∷ 22 ∷ 13 ∷ 30 ∷ 0 ∷ []) ∷ [])
its_first_stamp_is_read = refl

pub there_is_no_fourth_stamp : read plant holds [] (identifier IntegerValue 1) 130 (Some 4) ≡ Err InvalidArrayIndex
there_is_no_fourth_stamp = refl

pub a_value_is_no_array : read plant holds [] (identifier IntegerValue 1) 85 (Some 1) ≡ Err PropertyIsNotAnArray
a_value_is_no_array = refl

pub a_value_has_no_length : read plant holds [] (identifier IntegerValue 1) 85 (Some 0) ≡ Err PropertyIsNotAnArray
a_value_has_no_length = refl

pub there_is_no_such_object : read plant holds [] (identifier IntegerValue 9) 85 None ≡ Err UnknownObject
there_is_no_such_object = refl

pub no_such_object_comes_first : read plant holds [] (identifier IntegerValue 9) 9999 (Some 4) ≡ Err UnknownObject
no_such_object_comes_first = refl

pub there_is_no_such_property : read plant holds [] (identifier IntegerValue 1) 9999 None ≡ Err UnknownProperty
there_is_no_such_property = refl

pub no_such_property_comes_before_an_index : read plant holds [] (identifier IntegerValue 1) 9999 (Some 4) ≡ Err UnknownProperty
no_such_property_comes_before_an_index = refl

pub a_tank_has_no_alarm_values : read plant holds [] (identifier IntegerValue 1) 7 None ≡ Err UnknownProperty
a_tank_has_no_alarm_values = refl

pub alarm_values_are_a_list : read plant holds [] (identifier MultiStateValue 1) 7 None ≡ Ok (One (Unsigned 2) ∷ One (Unsigned 3) ∷ [])
alarm_values_are_a_list = refl

pub a_list_has_no_elements : read plant holds [] (identifier MultiStateValue 1) 7 (Some 1) ≡ Err PropertyIsNotAnArray
a_list_has_no_elements = refl

pub alarm_texts_are_an_array : read plant holds [] (identifier CharacterStringValue 1) 7 (Some 2) ≡ Ok (One (Text (codes "leak")) ∷ [])
alarm_texts_are_an_array = refl

pub alarm_bits_are_an_array : read plant holds [] (identifier BitStringValue 1) 7 (Some 0) ≡ Ok (One (Unsigned 2) ∷ [])
alarm_bits_are_an_array = refl

pub an_alarm_value_is_read : read plant holds [] (identifier BinaryValue 1) 6 None ≡ Ok (One (Enumerated 1) ∷ [])
an_alarm_value_is_read = refl

pub how_many_states_are_read : read plant holds [] (identifier MultiStateValue 1) 74 None ≡ Ok (One (Unsigned 5) ∷ [])
how_many_states_are_read = refl

pub an_event_type_is_read : read plant holds [] (identifier EventEnrollment 1) 37 None ≡ Ok (One (Enumerated 11) ∷ [])
an_event_type_is_read = refl

pub the_value_of_an_enrollment_isnt_there : read plant holds [] (identifier EventEnrollment 1) 85 None ≡ Err UnknownProperty
the_value_of_an_enrollment_isnt_there = refl

pub a_class_is_read : read plant holds [] (identifier NotificationClass 7) 17 None ≡ Ok (One (Unsigned 7) ∷ [])
a_class_is_read = refl

pub a_priority_is_read : read plant holds [] (identifier NotificationClass 7) 86 (Some 3) ≡ Ok (One (Unsigned 200) ∷ [])
a_priority_is_read = refl

pub what_wants_acknowledgement_is_read : read plant holds [] (identifier NotificationClass 7) 1 None ≡ Ok (One (Bits (true ∷ true ∷ false ∷ [])) ∷ [])
what_wants_acknowledgement_is_read = refl

pub recipients_are_read : read plant holds [] (identifier NotificationClass 7) 102 None ≡ Ok (Recipient desk ∷ [])
recipients_are_read = refl

pub recipients_are_no_array : read plant holds [] (identifier NotificationClass 7) 102 (Some 0) ≡ Err PropertyIsNotAnArray
recipients_are_no_array = refl

pub edited_recipients_are_read : read plant holds (record (tick 0) { act = Edit 7 [] } ∷ []) (identifier NotificationClass 7) 102 None ≡ Ok []
edited_recipients_are_read = refl

pub a_log_is_read : read plant holds [] (identifier EventLog 1) 141 None ≡ Ok (One (Unsigned 2) ∷ [])
a_log_is_read = refl

pub the_total_of_a_log_is_read : read plant holds [] (identifier EventLog 1) 145 None ≡ Ok (One (Unsigned 9) ∷ [])
the_total_of_a_log_is_read = refl

pub the_size_of_a_log_is_read : read plant holds [] (identifier EventLog 1) 126 None ≡ Ok (One (Unsigned 2) ∷ [])
the_size_of_a_log_is_read = refl

pub whether_a_log_stops_is_read : read plant holds [] (identifier EventLog 1) 144 None ≡ Ok (One (Truth false) ∷ [])
whether_a_log_stops_is_read = refl

pub whether_a_log_records_is_read : read plant holds [] (identifier EventLog 1) 133 None ≡ Ok (One (Truth true) ∷ [])
whether_a_log_records_is_read = refl

pub how_long_an_apdu_is_read : read plant holds [] (identifier Device 1001) 62 None ≡ Ok (One (Unsigned 1476) ∷ [])
how_long_an_apdu_is_read = refl

pub what_is_segmented_is_read : read plant holds [] (identifier Device 1001) 107 None ≡ Ok (One (Enumerated 3) ∷ [])
what_is_segmented_is_read = refl

pub who_made_it_is_read : read plant holds [] (identifier Device 1001) 120 None ≡ Ok (One (Unsigned 999) ∷ [])
who_made_it_is_read = refl

pub all_objects_are_read : read plant holds [] (identifier Device 1001) 76 None ≡ Ok (One (Named (identifier BinaryValue 1)) ∷ One (Named (identifier Device 1001)) ∷ One (Named (identifier EventEnrollment 1)) ∷ One (Named (identifier NotificationClass 7)) ∷ One (Named (identifier MultiStateValue 1)) ∷ One (Named (identifier EventLog 1)) ∷ One (Named (identifier BitStringValue 1)) ∷ One (Named (identifier CharacterStringValue 1)) ∷ One (Named (identifier IntegerValue 1)) ∷ One (Named (identifier PositiveIntegerValue 1)) ∷ [])
all_objects_are_read = refl

pub how_many_objects_are_read : read plant holds [] (identifier Device 1001) 76 (Some 0) ≡ Ok (One (Unsigned 10) ∷ [])
how_many_objects_are_read = refl

pub the_second_object_is_read : read plant holds [] (identifier Device 1001) 76 (Some 2) ≡ Ok (One (Named (identifier Device 1001)) ∷ [])
the_second_object_is_read = refl

pub who_inhibits_is_read : read (site_of (record pump { detection = None } ∷ full ∷ [])) holds [] (identifier IntegerValue 1) 355 None ≡ Ok (Referred (identifier BinaryValue 1) 85 ∷ [])
who_inhibits_is_read = refl

pub whether_it_is_inhibited_is_read : read (site_of (record pump { detection = None } ∷ full ∷ [])) holds (write 0 pump (Enumerated 1) ∷ []) (identifier IntegerValue 1) 354 None ≡ Ok (One (Truth true) ∷ [])
whether_it_is_inhibited_is_read = refl

pub what_another_inhibits_cant_be_written : write_error (site_of (record pump { detection = None } ∷ full ∷ [])) holds [] (identifier IntegerValue 1) 354 None (Truth true) ≡ Some WriteAccessDenied
what_another_inhibits_cant_be_written = refl

pub the_texts_of_what_came_are_read : read (site_of (record pump { detection = None } ∷ full ∷ [])) holds (tick 10000 ∷ write 0 tank (Signed (pos 90)) ∷ []) (identifier IntegerValue 1) 351 None ≡ Ok (One (Text (codes "High")) ∷ One (Text []) ∷ One (Text []) ∷ [])
the_texts_of_what_came_are_read = refl

pub the_texts_of_the_site_are_read : read (site_of (record pump { detection = None } ∷ full ∷ [])) holds [] (identifier IntegerValue 1) 352 (Some 3) ≡ Ok (One (Text (codes "Back")) ∷ [])
the_texts_of_the_site_are_read = refl

pub a_return_delay_is_read : read (site_of (record pump { detection = None } ∷ full ∷ [])) holds [] (identifier IntegerValue 1) 356 None ≡ Ok (One (Unsigned 3) ∷ [])
a_return_delay_is_read = refl

pub a_value_is_written : write_error plant holds [] (identifier IntegerValue 1) 85 None (Signed (pos 7)) ≡ None
a_value_is_written = refl

pub a_value_of_another_datatype : write_error plant holds [] (identifier IntegerValue 1) 85 None (Unsigned 7) ≡ Some InvalidDataType
a_value_of_another_datatype = refl

pub a_number_of_33_bits : write_error plant holds [] (identifier IntegerValue 1) 85 None (Signed (pos 2147483648)) ≡ Some ValueOutOfRange
a_number_of_33_bits = refl

pub the_least_number : write_error plant holds [] (identifier IntegerValue 1) 85 None (Signed (negsuc 2147483647)) ≡ None
the_least_number = refl

pub a_state_beyond_the_last : write_error plant holds [] (identifier MultiStateValue 1) 85 None (Unsigned 6) ≡ Some ValueOutOfRange
a_state_beyond_the_last = refl

pub the_last_state : write_error plant holds [] (identifier MultiStateValue 1) 85 None (Unsigned 5) ≡ None
the_last_state = refl

pub no_state : write_error plant holds [] (identifier MultiStateValue 1) 85 None (Unsigned 0) ≡ Some ValueOutOfRange
no_state = refl

pub a_flow_of_nothing : write_error plant holds [] (identifier PositiveIntegerValue 1) 85 None (Unsigned 0) ≡ None
a_flow_of_nothing = refl

pub a_flow_of_33_bits : write_error plant holds [] (identifier PositiveIntegerValue 1) 85 None (Unsigned 4294967296) ≡ Some ValueOutOfRange
a_flow_of_33_bits = refl

pub active : write_error plant holds [] (identifier BinaryValue 1) 85 None (Enumerated 1) ≡ None
active = refl

pub neither_active_nor_inactive : write_error plant holds [] (identifier BinaryValue 1) 85 None (Enumerated 2) ≡ Some ValueOutOfRange
neither_active_nor_inactive = refl

pub four_bits : write_error plant holds [] (identifier BitStringValue 1) 85 None (Bits (false ∷ true ∷ false ∷ true ∷ [])) ≡ None
four_bits = refl

pub three_bits : write_error plant holds [] (identifier BitStringValue 1) 85 None (Bits (false ∷ true ∷ false ∷ [])) ≡ Some ValueOutOfRange
three_bits = refl

pub a_text : write_error plant holds [] (identifier CharacterStringValue 1) 85 None (Text (codes "x")) ≡ None
a_text = refl

pub a_text_of_another_character_set : write_error plant holds [] (identifier CharacterStringValue 1) 85 None (Opaque 7 CharacterSet) ≡ Some CharacterSetNotSupported
a_text_of_another_character_set = refl

pub a_text_that_is_too_long : write_error plant holds [] (identifier CharacterStringValue 1) 85 None (Opaque 7 TooLong) ≡ Some NoSpaceToWriteProperty
a_text_that_is_too_long = refl

pub a_text_that_isnt_utf_8 : write_error plant holds [] (identifier CharacterStringValue 1) 85 None (Opaque 7 NotUtf8) ≡ Some ValueOutOfRange
a_text_that_isnt_utf_8 = refl

pub a_text_of_256_octets : write_error plant holds [] (identifier CharacterStringValue 1) 85 None (Text (replicate 256 65)) ≡ None
a_text_of_256_octets = refl

pub a_text_of_257_octets : write_error plant holds [] (identifier CharacterStringValue 1) 85 None (Text (replicate 257 65)) ≡ Some NoSpaceToWriteProperty
a_text_of_257_octets = refl

pub a_real : write_error plant holds [] (identifier IntegerValue 1) 85 None (Opaque 4 OtherType) ≡ Some InvalidDataType
a_real = refl

pub a_text_for_a_number : write_error plant holds [] (identifier IntegerValue 1) 85 None (Opaque 7 CharacterSet) ≡ Some InvalidDataType
a_text_for_a_number = refl

pub a_state_cant_be_written : write_error plant holds [] (identifier IntegerValue 1) 36 None (Enumerated 0) ≡ Some WriteAccessDenied
a_state_cant_be_written = refl

pub a_name_cant_be_written : write_error plant holds [] (identifier IntegerValue 1) 77 None (Text (codes "x")) ≡ Some WriteAccessDenied
a_name_cant_be_written = refl

pub denied_comes_before_the_datatype : write_error plant holds [] (identifier IntegerValue 1) 36 None Null ≡ Some WriteAccessDenied
denied_comes_before_the_datatype = refl

pub an_index_comes_before_denied : write_error plant holds [] (identifier IntegerValue 1) 130 (Some 9) Null ≡ Some InvalidArrayIndex
an_index_comes_before_denied = refl

pub a_stamp_cant_be_written : write_error plant holds [] (identifier IntegerValue 1) 130 (Some 1) Null ≡ Some WriteAccessDenied
a_stamp_cant_be_written = refl

pub no_array_is_written_by_index : write_error plant holds [] (identifier IntegerValue 1) 85 (Some 1) (Signed (pos 7)) ≡ Some PropertyIsNotAnArray
no_array_is_written_by_index = refl

pub no_property_is_written : write_error plant holds [] (identifier IntegerValue 1) 9999 None (Signed (pos 7)) ≡ Some UnknownProperty
no_property_is_written = refl

pub no_object_is_written : write_error plant holds [] (identifier IntegerValue 9) 85 None (Signed (pos 7)) ≡ Some UnknownObject
no_object_is_written = refl

pub the_delay_is_written : write_error plant holds [] (identifier IntegerValue 1) 113 None (Unsigned 3) ≡ None
the_delay_is_written = refl

pub the_deadband_is_written : write_error plant holds [] (identifier IntegerValue 1) 25 None (Unsigned 3) ≡ None
the_deadband_is_written = refl

pub the_high_limit_is_written : write_error plant holds [] (identifier IntegerValue 1) 45 None (Signed (pos 3)) ≡ None
the_high_limit_is_written = refl

pub the_low_limit_is_written : write_error plant holds [] (identifier IntegerValue 1) 59 None (Signed (pos 3)) ≡ None
the_low_limit_is_written = refl

pub the_enabled_limits_is_written : write_error plant holds [] (identifier IntegerValue 1) 52 None (Bits (true ∷ false ∷ [])) ≡ None
the_enabled_limits_is_written = refl

pub the_enabled_events_is_written : write_error plant holds [] (identifier IntegerValue 1) 35 None (Bits (true ∷ false ∷ true ∷ [])) ≡ None
the_enabled_events_is_written = refl

pub the_inhibition_is_written : write_error plant holds [] (identifier IntegerValue 1) 354 None (Truth true) ≡ None
the_inhibition_is_written = refl

pub the_service_is_written : write_error plant holds [] (identifier IntegerValue 1) 81 None (Truth true) ≡ None
the_service_is_written = refl

pub the_reliability_inhibition_is_written : write_error plant holds [] (identifier IntegerValue 1) 357 None (Truth true) ≡ None
the_reliability_inhibition_is_written = refl

pub two_bits_for_three_events : write_error plant holds [] (identifier IntegerValue 1) 35 None (Bits (true ∷ false ∷ [])) ≡ Some ValueOutOfRange
two_bits_for_three_events = refl

pub three_bits_for_two_limits : write_error plant holds [] (identifier IntegerValue 1) 52 None (Bits (true ∷ false ∷ true ∷ [])) ≡ Some ValueOutOfRange
three_bits_for_two_limits = refl

pub a_limit_of_another_datatype : write_error plant holds [] (identifier IntegerValue 1) 45 None (Unsigned 3) ≡ Some InvalidDataType
a_limit_of_another_datatype = refl

pub a_return_delay_that_isnt_there : write_error plant holds [] (identifier IntegerValue 1) 356 None (Unsigned 3) ≡ Some UnknownProperty
a_return_delay_that_isnt_there = refl

pub the_acknowledgements_cant_be_written : write_error plant holds [] (identifier IntegerValue 1) 0 None Null ≡ Some WriteAccessDenied
the_acknowledgements_cant_be_written = refl

pub the_notify_type_cant_be_written : write_error plant holds [] (identifier IntegerValue 1) 72 None Null ≡ Some WriteAccessDenied
the_notify_type_cant_be_written = refl

pub the_detection_cant_be_written : write_error plant holds [] (identifier IntegerValue 1) 353 None Null ≡ Some WriteAccessDenied
the_detection_cant_be_written = refl

pub the_class_cant_be_written : write_error plant holds [] (identifier IntegerValue 1) 17 None Null ≡ Some WriteAccessDenied
the_class_cant_be_written = refl

pub the_flags_cant_be_written : write_error plant holds [] (identifier IntegerValue 1) 111 None Null ≡ Some WriteAccessDenied
the_flags_cant_be_written = refl

pub the_reliability_cant_be_written : write_error plant holds [] (identifier IntegerValue 1) 103 None Null ≡ Some WriteAccessDenied
the_reliability_cant_be_written = refl

pub an_alarm_value_is_written : write_error plant holds [] (identifier BinaryValue 1) 6 None (Enumerated 0) ≡ None
an_alarm_value_is_written = refl

pub no_third_alarm_value : write_error plant holds [] (identifier BinaryValue 1) 6 None (Enumerated 2) ≡ Some ValueOutOfRange
no_third_alarm_value = refl

pub the_events_of_an_enrollment_are_written : write_error plant holds [] (identifier EventEnrollment 1) 35 None (Bits (true ∷ false ∷ true ∷ [])) ≡ None
the_events_of_an_enrollment_are_written = refl

pub the_inhibition_of_an_enrollment_is_written : write_error plant holds [] (identifier EventEnrollment 1) 354 None (Truth true) ≡ None
the_inhibition_of_an_enrollment_is_written = refl

pub the_delay_of_an_enrollment_isnt_there : write_error plant holds [] (identifier EventEnrollment 1) 113 None (Unsigned 3) ≡ Some UnknownProperty
the_delay_of_an_enrollment_isnt_there = refl

pub a_log_is_disabled : write_error plant holds [] (identifier EventLog 1) 133 None (Truth false) ≡ None
a_log_is_disabled = refl

pub a_log_is_cleared : write_error plant holds [] (identifier EventLog 1) 141 None (Unsigned 0) ≡ None
a_log_is_cleared = refl

pub a_log_is_cleared_by_0_alone : write_error plant holds [] (identifier EventLog 1) 141 None (Unsigned 1) ≡ Some ValueOutOfRange
a_log_is_cleared_by_0_alone = refl

pub a_priority_cant_be_written : write_error plant holds [] (identifier NotificationClass 7) 86 (Some 1) (Unsigned 1) ≡ Some WriteAccessDenied
a_priority_cant_be_written = refl

pub recipients_cant_be_written : write_error plant holds [] (identifier NotificationClass 7) 102 None Null ≡ Some WriteAccessDenied
recipients_cant_be_written = refl

pub a_device_cant_be_written : write_error plant holds [] (identifier Device 1001) 77 None (Text (codes "x")) ≡ Some WriteAccessDenied
a_device_cant_be_written = refl

pub the_value_is_read_as_written : read plant holds (record (tick 0) { act = Write (identifier IntegerValue 1) (Property 85 (Signed (pos 7))) } ∷ []) (identifier IntegerValue 1) 85 None ≡ Ok (One (Signed (pos 7)) ∷ [])
the_value_is_read_as_written = refl

pub the_value_of_a_mode_is_read_as_written : read plant holds (record (tick 0) { act = Write (identifier MultiStateValue 1) (Property 85 (Unsigned 2)) } ∷ []) (identifier MultiStateValue 1) 85 None ≡ Ok (One (Unsigned 2) ∷ [])
the_value_of_a_mode_is_read_as_written = refl

pub the_delay_is_read_as_written : read plant holds (record (tick 0) { act = Write (identifier IntegerValue 1) (Property 113 (Unsigned 3)) } ∷ []) (identifier IntegerValue 1) 113 None ≡ Ok (One (Unsigned 3) ∷ [])
the_delay_is_read_as_written = refl

pub the_deadband_is_read_as_written : read plant holds (record (tick 0) { act = Write (identifier IntegerValue 1) (Property 25 (Unsigned 3)) } ∷ []) (identifier IntegerValue 1) 25 None ≡ Ok (One (Unsigned 3) ∷ [])
the_deadband_is_read_as_written = refl

pub the_high_limit_is_read_as_written : read plant holds (record (tick 0) { act = Write (identifier IntegerValue 1) (Property 45 (Signed (pos 3))) } ∷ []) (identifier IntegerValue 1) 45 None ≡ Ok (One (Signed (pos 3)) ∷ [])
the_high_limit_is_read_as_written = refl

pub the_low_limit_is_read_as_written : read plant holds (record (tick 0) { act = Write (identifier IntegerValue 1) (Property 59 (Signed (pos 3))) } ∷ []) (identifier IntegerValue 1) 59 None ≡ Ok (One (Signed (pos 3)) ∷ [])
the_low_limit_is_read_as_written = refl

pub the_high_limit_of_a_flow_is_read_as_written : read plant holds (record (tick 0) { act = Write (identifier PositiveIntegerValue 1) (Property 45 (Unsigned 3)) } ∷ []) (identifier PositiveIntegerValue 1) 45 None ≡ Ok (One (Unsigned 3) ∷ [])
the_high_limit_of_a_flow_is_read_as_written = refl

pub the_low_limit_of_a_flow_is_read_as_written : read plant holds (record (tick 0) { act = Write (identifier PositiveIntegerValue 1) (Property 59 (Unsigned 3)) } ∷ []) (identifier PositiveIntegerValue 1) 59 None ≡ Ok (One (Unsigned 3) ∷ [])
the_low_limit_of_a_flow_is_read_as_written = refl

pub the_low_limit_enabled_is_read_as_written : read plant holds (record (tick 0) { act = Write (identifier IntegerValue 1) (Property 52 (Bits (true ∷ false ∷ []))) } ∷ []) (identifier IntegerValue 1) 52 None ≡ Ok (One (Bits (true ∷ false ∷ [])) ∷ [])
the_low_limit_enabled_is_read_as_written = refl

pub the_high_limit_enabled_is_read_as_written : read plant holds (record (tick 0) { act = Write (identifier IntegerValue 1) (Property 52 (Bits (false ∷ true ∷ []))) } ∷ []) (identifier IntegerValue 1) 52 None ≡ Ok (One (Bits (false ∷ true ∷ [])) ∷ [])
the_high_limit_enabled_is_read_as_written = refl

pub the_events_is_read_as_written : read plant holds (record (tick 0) { act = Write (identifier IntegerValue 1) (Property 35 (Bits (true ∷ false ∷ true ∷ []))) } ∷ []) (identifier IntegerValue 1) 35 None ≡ Ok (One (Bits (true ∷ false ∷ true ∷ [])) ∷ [])
the_events_is_read_as_written = refl

pub the_inhibition_is_read_as_written : read plant holds (record (tick 0) { act = Write (identifier IntegerValue 1) (Property 354 (Truth true)) } ∷ []) (identifier IntegerValue 1) 354 None ≡ Ok (One (Truth true) ∷ [])
the_inhibition_is_read_as_written = refl

pub the_service_is_read_as_written : read plant holds (record (tick 0) { act = Write (identifier IntegerValue 1) (Property 81 (Truth true)) } ∷ []) (identifier IntegerValue 1) 81 None ≡ Ok (One (Truth true) ∷ [])
the_service_is_read_as_written = refl

pub the_reliability_inhibition_is_read_as_written : read plant holds (record (tick 0) { act = Write (identifier IntegerValue 1) (Property 357 (Truth true)) } ∷ []) (identifier IntegerValue 1) 357 None ≡ Ok (One (Truth true) ∷ [])
the_reliability_inhibition_is_read_as_written = refl

pub the_alarm_value_is_read_as_written : read plant holds (record (tick 0) { act = Write (identifier BinaryValue 1) (Property 6 (Enumerated 0)) } ∷ []) (identifier BinaryValue 1) 6 None ≡ Ok (One (Enumerated 0) ∷ [])
the_alarm_value_is_read_as_written = refl

pub the_events_of_an_enrollment_is_read_as_written : read plant holds (record (tick 0) { act = Write (identifier EventEnrollment 1) (Property 35 (Bits (false ∷ true ∷ false ∷ []))) } ∷ []) (identifier EventEnrollment 1) 35 None ≡ Ok (One (Bits (false ∷ true ∷ false ∷ [])) ∷ [])
the_events_of_an_enrollment_is_read_as_written = refl

pub another_object_stays : read plant holds (record (tick 0) { act = Write (identifier IntegerValue 1) (Property 113 (Unsigned 3)) } ∷ []) (identifier PositiveIntegerValue 1) 113 None ≡ Ok (One (Unsigned 10) ∷ [])
another_object_stays = refl

pub the_numbers_of_unknown_object : error_numbers UnknownObject ≡ (1, 31)
the_numbers_of_unknown_object = refl

pub the_numbers_of_unknown_property : error_numbers UnknownProperty ≡ (2, 32)
the_numbers_of_unknown_property = refl

pub the_numbers_of_invalid_data_type : error_numbers InvalidDataType ≡ (2, 9)
the_numbers_of_invalid_data_type = refl

pub the_numbers_of_value_out_of_range : error_numbers ValueOutOfRange ≡ (2, 37)
the_numbers_of_value_out_of_range = refl

pub the_numbers_of_write_access_denied : error_numbers WriteAccessDenied ≡ (2, 40)
the_numbers_of_write_access_denied = refl

pub the_numbers_of_character_set_not_supported : error_numbers CharacterSetNotSupported ≡ (2, 41)
the_numbers_of_character_set_not_supported = refl

pub the_numbers_of_invalid_array_index : error_numbers InvalidArrayIndex ≡ (2, 42)
the_numbers_of_invalid_array_index = refl

pub the_numbers_of_property_is_not_an_array : error_numbers PropertyIsNotAnArray ≡ (2, 50)
the_numbers_of_property_is_not_an_array = refl

pub the_numbers_of_no_space_to_write_property : error_numbers NoSpaceToWriteProperty ≡ (3, 20)
the_numbers_of_no_space_to_write_property = refl
