-- Bindings: where a device is that a request may name as a recipient (ANSI/ASHRAE 135-2020, clause 21, BACnetRecipient).
use Rattle.std.specs.Prelude.{codes, Result, Ok}
use Rattle.toml.specs.Data.{Members}
use Rattle.bac_values.specs.declared.object_kind.ObjectKind.TheVariants as kinds
use Rattle.site_config.specs.declared.binding_item.BindingItem.{BindingItem}
use Rattle.toml_items.specs.declared.item_fault.ItemFault.{ItemFault}
use Rattle.toml_items.specs.Answers.{◌>>=◌}
use Rattle.site_config.specs.Devices.{object_with}
use Rattle.toml_items.specs.Members.{required}
use Rattle.site_config.specs.Values.{instance_in, peer_in}

-- a device, and the peer at which it is
unfoldable pub binding_of : Members → Result BindingItem ItemFault
binding_of ms = do
  device ← required instance_in (codes "device") ms
  peer ← required peer_in (codes "address") ms
  Ok (record { object = object_with kinds.Device device; peer = peer })
