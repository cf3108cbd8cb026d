-- Value objects, of the six kinds that have a value (ANSI/ASHRAE 135-2020, clause 12).
use Rattle.std.specs.Prelude.{ℕ, false, is_some, Option, Some, None, codes, Result, Ok}
use Rattle.toml.specs.Data.{Data, Members, get_member, as_bool}
use Rattle.bac_values.specs.declared.object_kind.ObjectKind.{ObjectKind}
use Rattle.object_table.specs.declared.object_site.ObjectSite.{ObjectSite}
use Rattle.toml_items.specs.declared.item_fault.ItemFault.{ItemFault}
use Rattle.site_config.specs.declared.keys.Keys.{Keys}
use Rattle.site_config.specs.declared.keys.Keys.TheVariants.{Object}
use Rattle.site_config.specs.declared.object.ValuePart.{ValuePart}
use Rattle.site_config.specs.declared.object.ClassPart.{ClassPart}
use Rattle.site_config.specs.AlarmKeys.{alarm_keys_of, no_alarm_keys}
use Rattle.toml_items.specs.Answers.{◌>>=◌}
use Rattle.site_config.specs.Devices.{object_with, name_of}
use Rattle.site_config.specs.FaultKeys.{fault_keys_of}
use Rattle.site_config.specs.KindKeys.{kind_keys_of, no_kind_keys}
use Rattle.toml_items.specs.Members.{required, or_else, optional}
use Rattle.site_config.specs.Values.{instance_in, kind_in, present_in}

-- an object has the keys of its kind, and of every kind where it isn't known; and the alarm keys where it has a class
abbrev pub known_kind : Option Data → Option ObjectKind
known_kind None = None
known_kind (Some d) = kind_in d

abbrev pub keys_of_object : Members → Keys
keys_of_object ms = Object (known_kind (get_member (codes "kind") ms)) (is_some (get_member (codes "class") ms))

-- what is said before the class
unfoldable pub value_part_of : Members → Result ValuePart ItemFault
value_part_of ms = do
  kind ← required kind_in (codes "kind") ms
  instance ← required instance_in (codes "instance") ms
  name ← name_of (object_with kind instance) ms
  value ← required (present_in kind) (codes "value") ms
  out_of_service ← or_else false as_bool (codes "out_of_service") ms
  reliability_inhibit ← or_else false as_bool (codes "reliability_inhibit") ms
  faults ← fault_keys_of kind value ms
  Ok (record { kind = kind; object = object_with kind instance; name = name; value = value; out_of_service = out_of_service; reliability_inhibit = reliability_inhibit; faults = faults })

-- what is said from the class on: the alarm keys only where there is one
abbrev pub with_class : ObjectKind → Option ℕ → Members → Result ClassPart ItemFault
with_class kind None ms = Ok (record { class = None; alarm = no_alarm_keys; kind = no_kind_keys })
with_class kind (Some class) ms =
    alarm_keys_of ms >>= λ alarm. kind_keys_of kind ms >>= λ own. Ok (record { class = Some class; alarm = alarm; kind = own })

unfoldable pub class_part_of : ObjectKind → Members → Result ClassPart ItemFault
class_part_of kind ms = optional instance_in (codes "class") ms >>= λ class. with_class kind class ms

-- both
abbrev pub joined : ValuePart → ClassPart → ObjectSite
joined value class =
    record {
      object = value.object;
      name = value.name;
      value = value.value;
      out_of_service = value.out_of_service;
      reliability_inhibit = value.reliability_inhibit;
      states = value.faults.states;
      fault_low = value.faults.fault_low;
      fault_high = value.faults.fault_high;
      fault_values = value.faults.fault_values;
      class = class.class;
      notify = class.alarm.notify;
      enable = class.alarm.enable;
      time_delay = class.alarm.time_delay;
      time_delay_normal = class.alarm.time_delay_normal;
      detection = class.alarm.detection;
      inhibit = class.alarm.inhibit;
      inhibit_ref = class.alarm.inhibit_ref;
      texts = class.alarm.texts;
      low = class.kind.low;
      high = class.kind.high;
      deadband = class.kind.deadband;
      limit_enable = class.kind.limit_enable;
      alarm_value = class.kind.alarm_value;
      alarm_values = class.kind.alarm_values;
      mask = class.kind.mask;
    }

unfoldable pub object_of : Members → Result ObjectSite ItemFault
object_of ms = do
  value ← value_part_of ms
  class ← class_part_of value.kind ms
  Ok (joined value class)
