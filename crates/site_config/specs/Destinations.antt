-- Destinations of notification classes (ANSI/ASHRAE 135-2020, 12.21, BACnetDestination).
use Rattle.std.specs.Prelude.{true, false, [], ◌∷◌, codes, Result, Ok}
use Rattle.toml.specs.Data.{Members, as_bool}
use Rattle.bac_values.specs.declared.object_kind.ObjectKind.TheVariants as kinds
use Rattle.site_config.specs.declared.destination.DestinationSite.{DestinationSite}
use Rattle.toml_items.specs.declared.item_fault.ItemFault.{ItemFault}
use Rattle.toml_items.specs.Answers.{◌>>=◌}
use Rattle.site_config.specs.Devices.{object_with}
use Rattle.toml_items.specs.Members.{required, or_else}
use Rattle.site_config.specs.Values.{instance_in, peer_in, days_in}
use Rattle.toml_items.specs.Values.{unsigned_in, last_unsigned, time_in, three_flags_in}

-- a destination, and the class to which it belongs: on all days, at all times, of all transitions, where nothing else is said
unfoldable pub destination_of : Members → Result DestinationSite ItemFault
destination_of ms = do
  class ← required instance_in (codes "class") ms
  peer ← required peer_in (codes "address") ms
  process ← or_else 0 (unsigned_in 0 last_unsigned) (codes "process") ms
  days ← or_else 127 days_in (codes "days") ms
  from ← or_else 0 time_in (codes "from") ms
  to ← or_else 8639999 time_in (codes "to") ms
  confirmed ← or_else false as_bool (codes "confirmed") ms
  transitions ← or_else (true ∷ true ∷ true ∷ []) three_flags_in (codes "transitions") ms
  Ok (record { class = object_with kinds.NotificationClass class; destination = record { days = days; from = from; to = to; peer = peer; process = process; confirmed = confirmed; transitions = transitions } })
