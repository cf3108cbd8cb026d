-- The keys of an object of some kinds that have to do with its faults, and with the states among which it is.
use Rattle.std.specs.Prelude.{ℕ, ℤ, ◌&&◌, is_none, Option, Some, None, [], codes, Result, Ok, if◌then◌else◌}
use Rattle.bac_values.specs.Limits.{most_listed_values}
use Rattle.toml.specs.Data.{Members, get_member}
use Rattle.bac_values.specs.declared.object_kind.ObjectKind.{ObjectKind}
use Rattle.bac_values.specs.declared.object_kind.ObjectKind.TheVariants.{MultiStateValue, CharacterStringValue, IntegerValue, PositiveIntegerValue}
use Rattle.bac_values.specs.declared.value.Value.{Value}
use Rattle.bac_values.specs.declared.value.Value.TheVariants.{Unsigned}
use Rattle.site_config.specs.declared.fault_keys.FaultKeys.{FaultKeys}
use Rattle.toml_items.specs.declared.item_fault.ItemFault.{ItemFault}
use Rattle.toml_items.specs.Answers.{◌>>=◌}
use Rattle.toml_items.specs.Members.{required, or_else}
use Rattle.toml_items.specs.Values.{unsigned_in, last_unsigned}
use Rattle.site_config.specs.Values.{limit_in, value_in}
use Rattle.toml_items.specs.Lists.{list_in}

-- none of them
abbrev pub no_fault_keys : FaultKeys
no_fault_keys = record { states = 0; fault_low = None; fault_high = None; fault_values = [] }

abbrev pub state_number : Value → ℕ
state_number (Unsigned number) = number
state_number _ = 0

-- those of a multi-state value: there are at least as many states as the number of its own
unfoldable pub state_fault_keys_of : Value → Members → Result FaultKeys ItemFault
state_fault_keys_of value ms = do
  states ← required (unsigned_in (state_number value) last_unsigned) (codes "states") ms
  values ← or_else [] (list_in 0 most_listed_values (value_in MultiStateValue)) (codes "fault_values") ms
  Ok (record no_fault_keys { states = states; fault_values = values })

-- that of a character string value
unfoldable pub text_fault_keys_of : Members → Result FaultKeys ItemFault
text_fault_keys_of ms = do
  values ← or_else [] (list_in 0 most_listed_values (value_in CharacterStringValue)) (codes "fault_values") ms
  Ok (record no_fault_keys { fault_values = values })

-- both fault limits, or none: where one is there, the other is needed
unfoldable pub fault_limits_of : ObjectKind → Members → Result (Option ℤ × Option ℤ) ItemFault
fault_limits_of kind ms =
    if is_none (get_member (codes "fault_low") ms) && is_none (get_member (codes "fault_high") ms) then Ok (None, None)
    else (required (limit_in kind) (codes "fault_low") ms >>= λ low.
    required (limit_in kind) (codes "fault_high") ms >>= λ high. Ok (Some low, Some high))

-- those of an integer or a positive integer value
unfoldable pub limit_fault_keys_of : ObjectKind → Members → Result FaultKeys ItemFault
limit_fault_keys_of kind ms = do
  limits ← fault_limits_of kind ms
  Ok (record no_fault_keys { fault_low = limits.0; fault_high = limits.1 })

abbrev pub fault_keys_of : ObjectKind → Value → Members → Result FaultKeys ItemFault
fault_keys_of MultiStateValue value ms = state_fault_keys_of value ms
fault_keys_of CharacterStringValue value ms = text_fault_keys_of ms
fault_keys_of IntegerValue value ms = limit_fault_keys_of IntegerValue ms
fault_keys_of PositiveIntegerValue value ms = limit_fault_keys_of PositiveIntegerValue ms
fault_keys_of _ value ms = Ok no_fault_keys
