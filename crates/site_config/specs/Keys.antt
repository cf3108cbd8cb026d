-- The keys of each section.
use Rattle.std.specs.Prelude.{ℕ, Bool, ◌&&◌, ◌||◌, Option, Some, None, List, [], ◌∷◌, codes}
use Rattle.bac_values.specs.declared.object_kind.ObjectKind.{ObjectKind}
use Rattle.bac_values.specs.declared.object_kind.ObjectKind.TheVariants.{BinaryValue, MultiStateValue, BitStringValue, CharacterStringValue, IntegerValue, PositiveIntegerValue}
use Rattle.algorithm_rules.specs.declared.table.Algorithm.{Algorithm}
use Rattle.algorithm_rules.specs.declared.table.Algorithm.TheVariants.{CommandFailure, UnsignedRange}
use Rattle.toml_items.specs.Members.{is_among}
use Rattle.site_config.specs.declared.keys.Keys.{Keys}
use Rattle.site_config.specs.declared.keys.Keys.TheVariants.{Top, Device, Class, Destination, Object, Enrollment, Log, Binding}

abbrev pub section_names : List (List ℕ)
section_names = codes "device" ∷ codes "class" ∷ codes "destination" ∷ codes "object" ∷ codes "enrollment" ∷ codes "log" ∷ codes "binding" ∷ []

abbrev pub device_keys : List (List ℕ)
device_keys = codes "instance" ∷ codes "name" ∷ codes "vendor" ∷ codes "start" ∷ codes "zone_minutes" ∷ codes "zone_rule" ∷ codes "apdu_timeout" ∷ codes "retries" ∷ codes "outbox" ∷ codes "flush_silent" ∷ []

abbrev pub class_keys : List (List ℕ)
class_keys = codes "instance" ∷ codes "name" ∷ codes "priority" ∷ codes "ack_required" ∷ []

abbrev pub destination_keys : List (List ℕ)
destination_keys = codes "class" ∷ codes "address" ∷ codes "process" ∷ codes "days" ∷ codes "from" ∷ codes "to" ∷ codes "confirmed" ∷ codes "transitions" ∷ []

abbrev pub object_keys : List (List ℕ)
object_keys = codes "kind" ∷ codes "instance" ∷ codes "name" ∷ codes "value" ∷ codes "out_of_service" ∷ codes "reliability_inhibit" ∷ codes "class" ∷ []

-- those of objects of a kind, and those of every kind where it isn't known
abbrev pub keys_of_kind : Option ObjectKind → List (List ℕ)
keys_of_kind None = codes "states" ∷ codes "fault_low" ∷ codes "fault_high" ∷ codes "fault_values" ∷ []
keys_of_kind (Some MultiStateValue) = codes "states" ∷ codes "fault_values" ∷ []
keys_of_kind (Some CharacterStringValue) = codes "fault_values" ∷ []
keys_of_kind (Some IntegerValue) = codes "fault_low" ∷ codes "fault_high" ∷ []
keys_of_kind (Some PositiveIntegerValue) = codes "fault_low" ∷ codes "fault_high" ∷ []
keys_of_kind _ = []

-- those of objects with a class, and of enrollments
abbrev pub alarm_keys : List (List ℕ)
alarm_keys = codes "notify" ∷ codes "enable" ∷ codes "time_delay" ∷ codes "time_delay_normal" ∷ codes "detection" ∷ codes "inhibit" ∷ codes "inhibit_ref" ∷ codes "texts" ∷ []

-- those of objects of a kind with a class
abbrev pub alarm_keys_of_kind : Option ObjectKind → List (List ℕ)
alarm_keys_of_kind None = codes "low" ∷ codes "high" ∷ codes "deadband" ∷ codes "limit_enable" ∷ codes "alarm_value" ∷ codes "alarm_values" ∷ codes "mask" ∷ []
alarm_keys_of_kind (Some IntegerValue) = codes "low" ∷ codes "high" ∷ codes "deadband" ∷ codes "limit_enable" ∷ []
alarm_keys_of_kind (Some PositiveIntegerValue) = codes "low" ∷ codes "high" ∷ codes "deadband" ∷ codes "limit_enable" ∷ []
alarm_keys_of_kind (Some BinaryValue) = codes "alarm_value" ∷ []
alarm_keys_of_kind (Some MultiStateValue) = codes "alarm_values" ∷ []
alarm_keys_of_kind (Some CharacterStringValue) = codes "alarm_values" ∷ []
alarm_keys_of_kind (Some BitStringValue) = codes "alarm_values" ∷ codes "mask" ∷ []
alarm_keys_of_kind _ = []

abbrev pub enrollment_keys : List (List ℕ)
enrollment_keys = codes "instance" ∷ codes "name" ∷ codes "class" ∷ codes "algorithm" ∷ codes "monitored" ∷ []

abbrev pub keys_of_algorithm : Option Algorithm → List (List ℕ)
keys_of_algorithm None = codes "feedback" ∷ codes "low" ∷ codes "high" ∷ []
keys_of_algorithm (Some CommandFailure) = codes "feedback" ∷ []
keys_of_algorithm (Some UnsignedRange) = codes "low" ∷ codes "high" ∷ []
keys_of_algorithm _ = []

abbrev pub log_keys : List (List ℕ)
log_keys = codes "instance" ∷ codes "name" ∷ codes "size" ∷ codes "stop_when_full" ∷ codes "enable" ∷ codes "classes" ∷ []

abbrev pub binding_keys : List (List ℕ)
binding_keys = codes "device" ∷ codes "address" ∷ []

-- whether the items with these keys have the key
abbrev pub has_key : Keys → List ℕ → Bool
has_key Top key = is_among section_names key
has_key Device key = is_among device_keys key
has_key Class key = is_among class_keys key
has_key Destination key = is_among destination_keys key
has_key (Object kind class) key =
    (is_among object_keys key || is_among (keys_of_kind kind) key)
    || (class && (is_among alarm_keys key || is_among (alarm_keys_of_kind kind) key))
has_key (Enrollment algorithm) key = (is_among enrollment_keys key || is_among (keys_of_algorithm algorithm) key) || is_among alarm_keys key
has_key Log key = is_among log_keys key
has_key Binding key = is_among binding_keys key
