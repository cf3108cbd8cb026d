-- The alarm keys of an object of any kind with a class, and of an enrollment (ANSI/ASHRAE 135-2020, 12.1, properties of intrinsic reporting).
use Rattle.std.specs.Prelude.{true, false, Option, Some, None, [], ◌∷◌, codes, Result, Ok}
use Rattle.toml.specs.Data.{Data, Members, as_bool, get_member}
use Rattle.bac_values.specs.Identifier.{ObjectIdData}
use Rattle.site_config.specs.declared.alarm_keys.AlarmKeys.{AlarmKeys}
use Rattle.toml_items.specs.declared.item_fault.ItemFault.{ItemFault}
use Rattle.toml_items.specs.Answers.{◌>>=◌}
use Rattle.toml_items.specs.Lists.{list_in}
use Rattle.toml_items.specs.Members.{or_else, optional}
use Rattle.site_config.specs.Values.{binary_value_in, notify_in}
use Rattle.toml_items.specs.Values.{text_in, three_flags_in, unsigned_in, last_unsigned}

-- the binary value that inhibits, where Event_Algorithm_Inhibit isn't given beside it
abbrev pub reference_beside : Option Data → Data → Option ObjectIdData
reference_beside None d = binary_value_in d
reference_beside (Some inhibit) d = None

unfoldable pub alarm_keys_of : Members → Result AlarmKeys ItemFault
alarm_keys_of ms = do
  notify ← or_else 0 notify_in (codes "notify") ms
  enable ← or_else (true ∷ true ∷ true ∷ []) three_flags_in (codes "enable") ms
  delay ← or_else 0 (unsigned_in 0 last_unsigned) (codes "time_delay") ms
  normal ← optional (unsigned_in 0 last_unsigned) (codes "time_delay_normal") ms
  detection ← or_else true as_bool (codes "detection") ms
  inhibit ← or_else false as_bool (codes "inhibit") ms
  reference ← optional (reference_beside (get_member (codes "inhibit") ms)) (codes "inhibit_ref") ms
  texts ← or_else [] (list_in 3 3 text_in) (codes "texts") ms
  Ok (record { notify = notify; enable = enable; time_delay = delay; time_delay_normal = normal; detection = detection; inhibit = inhibit; inhibit_ref = reference; texts = texts })

-- those of an object without a class
abbrev pub no_alarm_keys : AlarmKeys
no_alarm_keys = record { notify = 0; enable = false ∷ false ∷ false ∷ []; time_delay = 0; time_delay_normal = None; detection = false; inhibit = false; inhibit_ref = None; texts = [] }
