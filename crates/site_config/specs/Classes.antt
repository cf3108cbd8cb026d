-- Notification classes (ANSI/ASHRAE 135-2020, 12.21).
use Rattle.std.specs.Prelude.{false, [], ◌∷◌, codes, Result, Ok}
use Rattle.toml.specs.Data.{Members, as_bool}
use Rattle.bac_values.specs.declared.object_kind.ObjectKind.TheVariants as kinds
use Rattle.site_config.specs.declared.class.ClassItem.{ClassItem}
use Rattle.toml_items.specs.declared.item_fault.ItemFault.{ItemFault}
use Rattle.toml_items.specs.Answers.{◌>>=◌}
use Rattle.site_config.specs.Devices.{object_with, name_of}
use Rattle.toml_items.specs.Members.{required, or_else}
use Rattle.site_config.specs.Values.{instance_in}
use Rattle.toml_items.specs.Values.{unsigned_in}
use Rattle.toml_items.specs.Lists.{three_in}

-- a class; its destinations stand in a section of their own
unfoldable pub class_of : Members → Result ClassItem ItemFault
class_of ms = do
  instance ← required instance_in (codes "instance") ms
  name ← name_of (object_with kinds.NotificationClass instance) ms
  priority ← required (three_in (unsigned_in 0 255)) (codes "priority") ms
  ack_required ← or_else (false ∷ false ∷ false ∷ []) (three_in as_bool) (codes "ack_required") ms
  Ok (record { object = object_with kinds.NotificationClass instance; name = name; priority = priority; ack_required = ack_required })
