-- The device (ANSI/ASHRAE 135-2020, 12.11).
use Rattle.std.specs.Prelude.{ℕ, ◌&&◌, nat_le, Bool, false, List, length, pos, neg_ℤ, codes, Option, Some, None, Result, Ok, if◌then◌else◌}
use Rattle.bac_values.specs.Limits.{least_outbox, most_outbox}
use Rattle.std.specs.Char.{is_ascii}
use Rattle.std.specs.List.{list_all}
use Rattle.toml.specs.Data.{Data, Members, as_bool, get_member}
use Rattle.bac_values.specs.Identifier.{number_of_kind, ObjectIdData}
use Rattle.bac_values.specs.declared.object_kind.ObjectKind.{ObjectKind}
use Rattle.bac_values.specs.declared.object_kind.ObjectKind.TheVariants as kinds
use Rattle.alarm_core.specs.Sites.{is_zone_rule}
use Rattle.property_values.specs.declared.device_site.DeviceSite.{DeviceSite}
use Rattle.script_lines.specs.Report.{object_text}
use Rattle.toml_items.specs.declared.item_fault.ItemFault.{ItemFault}
use Rattle.toml_items.specs.Answers.{◌>>=◌}
use Rattle.toml_items.specs.Members.{named, required, or_else, optional}
use Rattle.site_config.specs.Values.{instance_in}
use Rattle.toml_items.specs.Values.{◌>>=◌ as ◌>>?◌, unsigned_in, whole_in, moment_in, text_in}

-- the object of a kind with an instance
abbrev pub object_with : ObjectKind → ℕ → ObjectIdData
object_with kind instance = record { number = number_of_kind kind; instance = instance }

-- the name of an object is its identifier's text where none is given
abbrev pub name_of : ObjectIdData → Members → Result (List ℕ) ItemFault
name_of object = or_else (named (object_text object)) text_in (codes "name")

-- from 1 to 64 ASCII octets
abbrev pub is_short_ascii : List ℕ → Bool
is_short_ascii text = nat_le 1 (length text) && nat_le (length text) 64 && list_all is_ascii text

-- a zone rule, where no minutes are given beside it
abbrev pub zone_rule_of : List ℕ → Option (List ℕ)
zone_rule_of text = if is_zone_rule text then Some text else None

abbrev pub zone_rule_beside : Option Data → Data → Option (List ℕ)
zone_rule_beside None d = text_in d >>? zone_rule_of
zone_rule_beside (Some minutes) d = None

unfoldable pub device_of : Members → Result DeviceSite ItemFault
device_of ms = do
  instance ← required instance_in (codes "instance") ms
  name ← name_of (object_with kinds.Device instance) ms
  vendor ← or_else 0 (unsigned_in 0 65535) (codes "vendor") ms
  start ← required moment_in (codes "start") ms
  zone ← or_else (pos 0) (whole_in (neg_ℤ (pos 840)) (pos 840)) (codes "zone_minutes") ms
  rule ← optional (zone_rule_beside (get_member (codes "zone_minutes") ms)) (codes "zone_rule") ms
  timeout ← or_else 3000 (unsigned_in 1 3600000) (codes "apdu_timeout") ms
  retries ← or_else 3 (unsigned_in 0 15) (codes "retries") ms
  outbox ← or_else 256 (unsigned_in least_outbox most_outbox) (codes "outbox") ms
  flush_silent ← or_else false as_bool (codes "flush_silent") ms
  Ok (record { instance = instance; name = name; vendor = vendor; start = start; zone_minutes = zone; zone_rule = rule; apdu_timeout = timeout; retries = retries; outbox = outbox; flush_silent = flush_silent })
