-- The errors that the server answers (ANSI/ASHRAE 135-2020, clauses 18 and 21), each by its class and its code.
use Rattle.std.specs.Prelude.{ℕ}
use Rattle.bac_values.specs.declared.service_error.ServiceError.{ServiceError}

-- ---- the classes

abbrev pub object_class : ℕ
object_class = 1

abbrev pub property_class : ℕ
property_class = 2

abbrev pub resources_class : ℕ
resources_class = 3

abbrev pub services_class : ℕ
services_class = 5

-- ---- the errors

abbrev pub unknown_object_error : ServiceError
unknown_object_error = record { class = object_class; code = 31 }

abbrev pub no_alarm_configured_error : ServiceError
no_alarm_configured_error = record { class = object_class; code = 74 }

abbrev pub invalid_data_type_error : ServiceError
invalid_data_type_error = record { class = property_class; code = 9 }

abbrev pub unknown_property_error : ServiceError
unknown_property_error = record { class = property_class; code = 32 }

abbrev pub value_out_of_range_error : ServiceError
value_out_of_range_error = record { class = property_class; code = 37 }

abbrev pub write_access_denied_error : ServiceError
write_access_denied_error = record { class = property_class; code = 40 }

abbrev pub character_set_not_supported_error : ServiceError
character_set_not_supported_error = record { class = property_class; code = 41 }

abbrev pub invalid_array_index_error : ServiceError
invalid_array_index_error = record { class = property_class; code = 42 }

abbrev pub property_is_not_an_array_error : ServiceError
property_is_not_an_array_error = record { class = property_class; code = 50 }

abbrev pub no_space_to_add_list_element_error : ServiceError
no_space_to_add_list_element_error = record { class = resources_class; code = 19 }

abbrev pub no_space_to_write_property_error : ServiceError
no_space_to_write_property_error = record { class = resources_class; code = 20 }

abbrev pub invalid_time_stamp_error : ServiceError
invalid_time_stamp_error = record { class = services_class; code = 14 }

abbrev pub property_is_not_a_list_error : ServiceError
property_is_not_a_list_error = record { class = services_class; code = 22 }

abbrev pub list_element_not_found_error : ServiceError
list_element_not_found_error = record { class = services_class; code = 81 }

abbrev pub invalid_event_state_error : ServiceError
invalid_event_state_error = record { class = services_class; code = 73 }
