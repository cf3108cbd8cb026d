-- The alarm keys that only objects of some kinds have.
use Rattle.std.specs.Prelude.{pos, true, false, Some, None, [], ◌∷◌, codes, Result, Ok}
use Rattle.bac_values.specs.Limits.{most_listed_values}
use Rattle.toml.specs.Data.{Members}
use Rattle.bac_values.specs.declared.object_kind.ObjectKind.{ObjectKind}
use Rattle.bac_values.specs.declared.object_kind.ObjectKind.TheVariants.{BinaryValue, MultiStateValue, BitStringValue, CharacterStringValue, IntegerValue, PositiveIntegerValue}
use Rattle.toml_items.specs.declared.item_fault.ItemFault.{ItemFault}
use Rattle.site_config.specs.declared.kind_keys.KindKeys.{KindKeys}
use Rattle.toml_items.specs.Answers.{◌>>=◌}
use Rattle.toml_items.specs.Members.{required, or_else}
use Rattle.toml_items.specs.Values.{unsigned_in, last_unsigned, two_flags_in}
use Rattle.site_config.specs.Values.{limit_in, value_in, bits_in}
use Rattle.toml_items.specs.Lists.{list_in}

-- none of them
abbrev pub no_kind_keys : KindKeys
no_kind_keys = record { low = pos 0; high = pos 0; deadband = 0; limit_enable = false ∷ false ∷ []; alarm_value = None; alarm_values = []; mask = None }

-- those of an integer or a positive integer value
unfoldable pub limit_keys_of : ObjectKind → Members → Result KindKeys ItemFault
limit_keys_of kind ms = do
  low ← required (limit_in kind) (codes "low") ms
  high ← required (limit_in kind) (codes "high") ms
  deadband ← or_else 0 (unsigned_in 0 last_unsigned) (codes "deadband") ms
  enable ← or_else (true ∷ true ∷ []) two_flags_in (codes "limit_enable") ms
  Ok (record no_kind_keys { low = low; high = high; deadband = deadband; limit_enable = enable })

-- that of a binary value
unfoldable pub binary_keys_of : Members → Result KindKeys ItemFault
binary_keys_of ms = do
  value ← required (value_in BinaryValue) (codes "alarm_value") ms
  Ok (record no_kind_keys { alarm_value = Some value })

-- those of a multi-state or a character string value
unfoldable pub value_keys_of : ObjectKind → Members → Result KindKeys ItemFault
value_keys_of kind ms = do
  values ← required (list_in 1 most_listed_values (value_in kind)) (codes "alarm_values") ms
  Ok (record no_kind_keys { alarm_values = values })

-- those of a bit string value
unfoldable pub bits_keys_of : Members → Result KindKeys ItemFault
bits_keys_of ms = do
  values ← required (list_in 1 most_listed_values (value_in BitStringValue)) (codes "alarm_values") ms
  mask ← required bits_in (codes "mask") ms
  Ok (record no_kind_keys { alarm_values = values; mask = Some mask })

abbrev pub kind_keys_of : ObjectKind → Members → Result KindKeys ItemFault
kind_keys_of IntegerValue ms = limit_keys_of IntegerValue ms
kind_keys_of PositiveIntegerValue ms = limit_keys_of PositiveIntegerValue ms
kind_keys_of BinaryValue ms = binary_keys_of ms
kind_keys_of MultiStateValue ms = value_keys_of MultiStateValue ms
kind_keys_of CharacterStringValue ms = value_keys_of CharacterStringValue ms
kind_keys_of BitStringValue ms = bits_keys_of ms
kind_keys_of _ ms = Ok no_kind_keys
