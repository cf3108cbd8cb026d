use Rattle.std.proofs.Common.{◌≡◌, option_map, string_bytes}
use Rattle.toml.specs.View.{table_view}
use Rattle.site_config.specs.declared.keys.Keys.TheVariants as keys
use Rattle.site_config.specs.Keys.{has_key}
use Rattle.toml_items.specs.Members.{first_unknown}
use Rattle.toml_items.proofs.FirstUnknown.{unknown_bytes}
use Rattle.site_config.proofs.sections.unknown_of_device.Goals as goal

pub returns : goal.returns
returns c =
    let own : option_map (λ k. string_bytes k.now) c.unknown_key-own.result ≡ first_unknown (has_key keys.Device) (table_view c.args.table.now) = unknown_bytes c.unknown_key-own.result (has_key keys.Device) c.args.table.now.entries c.unknown_key-own.ensures.first in
    let other : option_map (λ k. string_bytes k.now) c.unknown_key-other.result ≡ first_unknown (has_key keys.Top) (table_view c.args.document.now) = unknown_bytes c.unknown_key-other.result (has_key keys.Top) c.args.document.now.entries c.unknown_key-other.ensures.first in
    record { key = rw (← own, ← other) c.lesser_key.ensures.key }
