-- The errors of ReadProperty and WriteProperty in their order, each with its condition (ANSI/ASHRAE 135-2020, 15.5, 15.9 and clause 18).
use Rattle.std.specs.Prelude.{ℕ, ◌==◌, nat_lt, Bool, true, false, not, ◌&&◌, Option, Some, None, is_some, is_none, List, [], ◌∷◌, ◌++◌}
use Rattle.std.specs.List.{list_any}
use Rattle.bac_values.specs.Errors.{character_set_not_supported_error, invalid_array_index_error, invalid_data_type_error, no_space_to_write_property_error, property_is_not_an_array_error, unknown_object_error, unknown_property_error, value_out_of_range_error, write_access_denied_error}
use Rattle.bac_values.specs.Identifier.{ObjectIdData}
use Rattle.bac_values.specs.declared.service_error.ServiceError.{ServiceError}
use Rattle.bac_values.specs.declared.value.Foreign.TheVariants.{CharacterSet, TooLong}
use Rattle.bac_values.specs.declared.value.Value.{Value}
use Rattle.bac_values.specs.declared.value.Value.TheVariants.{Opaque}
use Rattle.property_services.specs.declared.requests.ReadRequest.{ReadRequest}
use Rattle.property_services.specs.declared.requests.WriteRequest.{WriteRequest}
use Rattle.property_services.specs.Requests.{reference_in}
use Rattle.object_table.specs.Rows.{is_object}
use Rattle.object_table.specs.Verdicts.{tag_of}
use Rattle.alarm_core.specs.Devices.{identifiers_of}
use Rattle.alarm_core.specs.State.{CoreState}
use Rattle.profile_laws.specs.PropertyTables.{PropertyRow, property_of}

-- ---- conditions

-- no object of the device has the identifier
abbrev pub is_unknown_object : CoreState → ObjectIdData → Bool
is_unknown_object state object = not (list_any (is_object object) (identifiers_of state.site))

-- the object doesn't have the property
abbrev pub is_unknown_property : Option PropertyRow → Bool
is_unknown_property property = is_none property

abbrev pub size_in : Option PropertyRow → Option ℕ
size_in (Some property) = property.size
size_in None = None

-- an index is given, and the property is no array
abbrev pub is_indexed_without_array : Option ℕ → Option ℕ → Bool
is_indexed_without_array size index = is_some index && is_none size

-- the index is above the length of the array
abbrev pub is_above_length : Option ℕ → Option ℕ → Bool
is_above_length (Some size) (Some index) = nat_lt size index
is_above_length size index = false

abbrev pub tag_in : Option PropertyRow → Option ℕ
tag_in (Some property) = property.tag
tag_in None = None

-- the property can't be written
abbrev pub is_read_only : Option ℕ → Bool
is_read_only tag = is_none tag

-- the value's application tag is another one than the property's
abbrev pub is_of_other_type : Option ℕ → Value → Bool
is_of_other_type (Some tag) value = not (tag_of value == tag)
is_of_other_type None value = false

-- a text in a character set that the device doesn't know
abbrev pub is_in_other_characters : Value → Bool
is_in_other_characters (Opaque tag CharacterSet) = true
is_in_other_characters value = false

-- a text that is longer than the device keeps
abbrev pub is_too_long : Value → Bool
is_too_long (Opaque tag TooLong) = true
is_too_long value = false

-- the property can't be the value
abbrev pub is_out_of_range : Option PropertyRow → Value → Bool
is_out_of_range (Some property) value = not (property.can_be value)
is_out_of_range None value = false

-- ---- tables

-- ReadProperty (15.5)
abbrev pub read_errors : CoreState → ReadRequest → List (Bool × ServiceError)
read_errors state request =
    let property = property_of state request.object request.property.0 in
    (is_unknown_object state request.object, unknown_object_error)
    ∷ (is_unknown_property property, unknown_property_error)
    ∷ (is_indexed_without_array (size_in property) request.index, property_is_not_an_array_error)
    ∷ (is_above_length (size_in property) request.index, invalid_array_index_error)
    ∷ []

-- WriteProperty (15.9): those of a read of the same property, and behind them
abbrev pub write_errors : CoreState → WriteRequest → List (Bool × ServiceError)
write_errors state request =
    let property = property_of state request.object request.property.0 in
    read_errors state (reference_in request)
    ++ ((is_read_only (tag_in property), write_access_denied_error)
    ∷ (is_of_other_type (tag_in property) request.value, invalid_data_type_error)
    ∷ (is_in_other_characters request.value, character_set_not_supported_error)
    ∷ (is_too_long request.value, no_space_to_write_property_error)
    ∷ (is_out_of_range property request.value, value_out_of_range_error)
    ∷ [])
