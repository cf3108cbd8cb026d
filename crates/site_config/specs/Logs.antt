-- Event logs (ANSI/ASHRAE 135-2020, 12.27).
use Rattle.std.specs.Prelude.{true, false, codes, Result, Ok}
use Rattle.bac_values.specs.Limits.{most_classes, most_records}
use Rattle.toml.specs.Data.{Members, as_bool}
use Rattle.bac_values.specs.declared.object_kind.ObjectKind.TheVariants as kinds
use Rattle.event_log.specs.declared.log_site.LogSite.{LogSite}
use Rattle.toml_items.specs.declared.item_fault.ItemFault.{ItemFault}
use Rattle.toml_items.specs.Answers.{◌>>=◌}
use Rattle.site_config.specs.Devices.{object_with, name_of}
use Rattle.toml_items.specs.Members.{required, or_else}
use Rattle.site_config.specs.Values.{instance_in}
use Rattle.toml_items.specs.Values.{unsigned_in}
use Rattle.toml_items.specs.Lists.{list_in}

unfoldable pub log_of : Members → Result LogSite ItemFault
log_of ms = do
  instance ← required instance_in (codes "instance") ms
  name ← name_of (object_with kinds.EventLog instance) ms
  size ← required (unsigned_in 1 most_records) (codes "size") ms
  stop ← or_else false as_bool (codes "stop_when_full") ms
  enable ← or_else true as_bool (codes "enable") ms
  classes ← required (list_in 1 most_classes instance_in) (codes "classes") ms
  Ok (record { object = object_with kinds.EventLog instance; name = name; size = size; stop_when_full = stop; enable = enable; classes = classes })
