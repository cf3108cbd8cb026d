-- Each number of the standard in the book is the one of its name in bac_values (ANSI/ASHRAE 135-2020, clauses 12, 18, 20.2.1.4 and 21).
use Rattle.std.specs.Prelude.{◌≡◌, ℕ, ℤ, Bool, None, List, [], ◌∷◌, map, length, nat_lt}
use Rattle.bac_values.specs.ApplicationTags as tags
use Rattle.bac_values.specs.EventStates.{number_of_state, place_of_transition, transition_to}
use Rattle.bac_values.specs.EventTypes as types
use Rattle.bac_values.specs.Identifier.{number_of_kind}
use Rattle.bac_values.specs.Limits.{most_text_octets}
use Rattle.bac_values.specs.Moments.{unspecified_octets}
use Rattle.bac_values.specs.Properties as properties
use Rattle.bac_values.specs.Reliabilities.{number_of_reliability}
use Rattle.bac_values.specs.Services.{longest_apdu, no_segmentation}
use Rattle.bac_values.specs.declared.event_state.EventState.{EventState}
use Rattle.bac_values.specs.declared.object_kind.ObjectKind.{ObjectKind}
use Rattle.bac_values.specs.declared.object_kind.ObjectKind.TheVariants.{Device}
use Rattle.bac_values.specs.declared.reliability.Reliability.{Reliability}
use Rattle.bac_values.specs.declared.transition.Transition.{Transition}
use Rattle.algorithm_rules.specs.declared.table.Algorithm.{Algorithm}
use Rattle.algorithm_rules.specs.EventTypes.{event_type_of}
use Rattle.profile.specs.Numbers as book
use Rattle.profile.specs.Errors.{is_long}
use Rattle.profile.specs.Sites.{Detection as Settings, Object, Class, Log, Station}
use Rattle.profile.specs.Tables as tables
use Rattle.profile.specs.Times.{no_stamp}
use Rattle.book_laws.specs.Values.{state_in_book, transition_in_book, reliability_in_book, kind_in_book, algorithm_in_book, error_in_code}

-- ---- states, transitions, reliabilities, types of objects and events

pub record HasEnumerationsOfCode : Type 0 where
  pub states : (state : EventState) → book.state_number (state_in_book state) ≡ number_of_state state
  pub transitions : (transition : Transition) → book.place (transition_in_book transition) ≡ place_of_transition transition
  pub entered : (state : EventState) → book.transition_to (state_in_book state) ≡ transition_in_book (transition_to state)
  pub reliabilities : (reliability : Reliability) → book.reliability_number (reliability_in_book reliability) ≡ number_of_reliability reliability
  pub objects : (kind : ObjectKind) → book.type_number (kind_in_book kind) ≡ number_of_kind kind
  pub events : (algorithm : Algorithm) → book.event_type (algorithm_in_book algorithm) ≡ event_type_of algorithm
  pub of_reliability : book.change_of_reliability ≡ types.change_of_reliability_type
  pub of_acknowledgement : book.acknowledgement_type ≡ types.ack_notification_notify_type

-- ---- errors

abbrev pub HasErrorsOfCode : Type 0
HasErrorsOfCode = (error : book.Error) → book.error_numbers error ≡ ((error_in_code error).class, (error_in_code error).code)

-- ---- datatypes

pub record HasDatatypesOfCode : Type 0 where
  pub null : book.datatype book.Null ≡ tags.null_tag
  pub truth : (truth : Bool) → book.datatype (book.Truth truth) ≡ tags.boolean_tag
  pub unsigned : (number : ℕ) → book.datatype (book.Unsigned number) ≡ tags.unsigned_tag
  pub signed : (number : ℤ) → book.datatype (book.Signed number) ≡ tags.signed_tag
  pub text : (octets : List ℕ) → book.datatype (book.Text octets) ≡ tags.character_string_tag
  pub bits : (bits : List Bool) → book.datatype (book.Bits bits) ≡ tags.bit_string_tag
  pub enumerated : (number : ℕ) → book.datatype (book.Enumerated number) ≡ tags.enumerated_tag
  pub named : (object : book.Identifier) → book.datatype (book.Named object) ≡ tags.object_identifier_tag

-- ---- properties, in the order of the book's tables

abbrev pub numbers_in : List tables.Row → List ℕ
numbers_in rows = map (λ (row : tables.Row). row.number) rows

pub record HasPropertiesOfCode : Type 0 where
  pub named : (id : book.Identifier) (name : List ℕ) → numbers_in (tables.named_rows id name)
      ≡ properties.object_identifier_property ∷ properties.object_name_property ∷ properties.object_type_property ∷ []
  pub value : (object : Object) (value : book.Value) → numbers_in (tables.value_rows object value)
      ≡ properties.present_value_property ∷ properties.out_of_service_property ∷ properties.reliability_evaluation_inhibit_property
      ∷ properties.number_of_states_property ∷ properties.fault_values_property ∷ []
  pub events : (settings : Settings) → numbers_in (tables.event_rows settings)
      ≡ properties.event_enable_property ∷ properties.event_algorithm_inhibit_property ∷ properties.event_algorithm_inhibit_ref_property
      ∷ properties.notify_type_property ∷ properties.event_detection_enable_property ∷ properties.notification_class_property
      ∷ properties.event_message_texts_config_property ∷ []
  pub delays : (object : Object) (settings : Settings) → numbers_in (tables.delay_rows object settings)
      ≡ properties.time_delay_property ∷ properties.time_delay_normal_property ∷ properties.alarm_value_property ∷ properties.alarm_values_property ∷ []
  pub limits : (object : Object) (settings : Settings) → numbers_in (tables.limit_rows object settings)
      ≡ properties.high_limit_property ∷ properties.low_limit_property ∷ properties.deadband_property ∷ properties.limit_enable_property ∷ []
  pub transitions : (shown : tables.Shown) (settings : Settings) → numbers_in (tables.transition_rows shown settings)
      ≡ properties.acked_transitions_property ∷ properties.event_time_stamps_property ∷ properties.event_message_texts_property
      ∷ properties.event_algorithm_inhibit_property ∷ []
  pub log : (log : Log) (enabled : Bool) (records total : ℕ) → numbers_in (tables.log_rows log enabled records total)
      ≡ properties.object_identifier_property ∷ properties.object_name_property ∷ properties.object_type_property ∷ properties.enable_property
      ∷ properties.record_count_property ∷ properties.buffer_size_property ∷ properties.stop_when_full_property ∷ properties.total_record_count_property ∷ []
  pub class : (class : Class) → numbers_in (tables.class_rows class)
      ≡ properties.object_identifier_property ∷ properties.object_name_property ∷ properties.object_type_property ∷ properties.notification_class_property
      ∷ properties.priority_property ∷ properties.ack_required_property ∷ properties.recipient_list_property ∷ []
  pub device : (device : Station) (objects : List book.Identifier) → numbers_in (tables.device_rows device objects)
      ≡ properties.object_identifier_property ∷ properties.object_name_property ∷ properties.object_type_property ∷ properties.object_list_property
      ∷ properties.max_apdu_length_accepted_property ∷ properties.segmentation_supported_property ∷ properties.vendor_identifier_property ∷ []
  pub object : (shown : tables.Shown) (object : Object) → object.value ≡ None → object.detection ≡ None → numbers_in (tables.object_rows shown object)
      ≡ properties.status_flags_property ∷ properties.event_state_property ∷ properties.reliability_property
      ∷ properties.object_identifier_property ∷ properties.object_name_property ∷ properties.object_type_property ∷ []

-- ---- what else is a number

pub record HasBoundsOfCode : Type 0 where
  pub never : no_stamp ≡ unspecified_octets
  pub text : (octets : List ℕ) → is_long (book.Text octets) ≡ nat_lt most_text_octets (length octets)
  pub longest : (device : Station) (objects : List book.Identifier) →
      map (λ (row : tables.Row). row.read) (tables.device_rows device objects)
      ≡ tables.Whole (tables.One (book.Named (book.identifier book.Device device.instance)) ∷ []) ∷ tables.Whole (tables.One (book.Text device.name) ∷ [])
      ∷ tables.Whole (tables.One (book.Enumerated (number_of_kind Device)) ∷ []) ∷ tables.Array (map tables.One (map book.Named objects))
      ∷ tables.Whole (tables.One (book.Unsigned longest_apdu) ∷ []) ∷ tables.Whole (tables.One (book.Enumerated no_segmentation) ∷ [])
      ∷ tables.Whole (tables.One (book.Unsigned device.vendor) ∷ []) ∷ []
