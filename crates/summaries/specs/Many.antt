-- What ReadPropertyMultiple tells of a state (ANSI/ASHRAE 135-2020, 15.7).
use Rattle.std.specs.Prelude.{◌≡◌, ◌<◌, ℕ, ◌==◌, if◌then◌else◌, Option, Some, None, List, [], ◌∷◌, ◌++◌, length}
use Rattle.std.specs.List.{flat_map}
use Rattle.bac_values.specs.Errors.{property_is_not_an_array_error}
use Rattle.bac_values.specs.Identifier.{ObjectIdData}
use Rattle.bac_values.specs.Properties as properties
use Rattle.bac_values.specs.declared.service_error.ServiceError.{ServiceError}
use Rattle.bac_tags.specs.ParameterWriting.{written_enclosed, written_if_given}
use Rattle.bac_tags.specs.Writing.{written_enumerated, written_object, written_unsigned}
use Rattle.summaries.specs.declared.requested.PropertyAsked.{PropertyAsked}
use Rattle.summaries.specs.declared.part.Part.{Part}
use Rattle.summaries.specs.declared.part.Part.TheVariants.{Octets, Error}
use Rattle.summaries.specs.ManyRequests.{ObjectAsked}

-- what is read of each property of each object
abbrev pub Reads : Type 0
Reads = ObjectIdData → ℕ → Option ℕ → Part

-- the properties that an object of the server may have and that are read, ascending; Log_Buffer is read by ReadRange alone
abbrev pub readable_properties : List ℕ
readable_properties =
    properties.acked_transitions_property ∷ properties.ack_required_property ∷ properties.alarm_value_property ∷ properties.alarm_values_property
    ∷ properties.notification_class_property ∷ properties.deadband_property ∷ properties.event_enable_property ∷ properties.event_state_property
    ∷ properties.event_type_property ∷ properties.fault_values_property ∷ properties.high_limit_property ∷ properties.limit_enable_property
    ∷ properties.low_limit_property ∷ properties.max_apdu_length_accepted_property ∷ properties.notify_type_property ∷ properties.number_of_states_property
    ∷ properties.object_identifier_property ∷ properties.object_list_property ∷ properties.object_name_property ∷ properties.object_type_property
    ∷ properties.out_of_service_property ∷ properties.present_value_property ∷ properties.priority_property ∷ properties.recipient_list_property
    ∷ properties.reliability_property ∷ properties.segmentation_supported_property ∷ properties.status_flags_property ∷ properties.time_delay_property
    ∷ properties.vendor_identifier_property ∷ properties.buffer_size_property ∷ properties.event_time_stamps_property ∷ properties.enable_property
    ∷ properties.record_count_property ∷ properties.stop_when_full_property ∷ properties.total_record_count_property
    ∷ properties.event_message_texts_property ∷ properties.event_message_texts_config_property
    ∷ properties.event_detection_enable_property ∷ properties.event_algorithm_inhibit_property ∷ properties.event_algorithm_inhibit_ref_property ∷ properties.time_delay_normal_property
    ∷ properties.reliability_evaluation_inhibit_property ∷ []

-- ---- the numbers of what is told

-- of a ReadAccessResult
abbrev pub object_result : ℕ
object_result = 0

abbrev pub results : ℕ
results = 1

-- of what was read of a property
abbrev pub property_result : ℕ
property_result = 2

abbrev pub index_result : ℕ
index_result = 3

abbrev pub value_result : ℕ
value_result = 4

abbrev pub error_result : ℕ
error_result = 5

-- ---- one property

-- [4] the value, or [5] the error, between their tags
abbrev pub written_part : Part → List ℕ
written_part (Octets octets) = written_enclosed value_result octets
written_part (Error class code) = written_enclosed error_result (written_enumerated None class ++ written_enumerated None code)

-- [2] the property, [3] the index, if there is one, and what was read
abbrev pub written_result : ℕ → Option ℕ → Part → List ℕ
written_result property index part = written_unsigned (Some property_result) property ++ (written_if_given (written_unsigned (Some index_result)) index ++ written_part part)

abbrev pub as_part : ServiceError → Part
as_part error = Error error.class error.code

-- ---- ALL

-- a property that the object has; one that it doesn't have is left out
abbrev pub written_if_read : ℕ → Part → List ℕ
written_if_read property (Octets octets) = written_result property None (Octets octets)
written_if_read property (Error class code) = []

abbrev pub all_read : Reads → ObjectIdData → List ℕ
all_read reads object = flat_map (λ property. written_if_read property (reads object property None)) readable_properties

-- All of an object's properties, by ascending number; every object has an Object_Identifier. Where there is no such object, or an index is given, it is one result, which is an error
abbrev pub all_with : Reads → ObjectIdData → Option ℕ → Part → List ℕ
all_with reads object index (Error class code) = written_result properties.all_properties index (Error class code)
all_with reads object (Some index) (Octets octets) = written_result properties.all_properties (Some index) (as_part property_is_not_an_array_error)
all_with reads object None (Octets octets) = all_read reads object

-- ---- the answer

abbrev pub results_of : Reads → ObjectIdData → PropertyAsked → List ℕ
results_of reads object asked =
    if asked.property == properties.all_properties then all_with reads object asked.index (reads object properties.object_identifier_property None)
    else written_result asked.property asked.index (reads object asked.property asked.index)

-- of each object [0] its identifier, and [1] its results between their tags: a ReadAccessResult for each ReadAccessSpecification
abbrev pub written_group : Reads → ObjectAsked → List ℕ
written_group reads asked = written_object (Some object_result) asked.object ++ written_enclosed results (flat_map (results_of reads asked.object) asked.properties)

abbrev pub properties_of : Reads → List ObjectAsked → List ℕ
properties_of reads asked = flat_map (written_group reads) asked

-- ---- while it is written

-- the whole is written behind what was there, and the place behind what was read is told; or a part of it is, which is more than the room
abbrev pub IsTold : ℕ → List ℕ → List ℕ → List ℕ → ℕ → Option ℕ → Type 0
IsTold room old now whole end (Some place) = (place ≡ end) × (now ≡ old ++ whole)
IsTold room old now whole end None = (rest : List ℕ) × (now ++ rest ≡ old ++ whole) × (room < length now)
