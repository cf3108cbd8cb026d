-- What the alarm keys of an object keep to.
use Rattle.std.proofs.Common.{◌≡◌, ◌≤◌, ℕ, ℤ, List, [], ◌∷◌, length, true, false, Bool, Option, Some, None, Ok, refl, arith}
use Rattle.std.specs.Prelude.{codes, Result, IsTrue, if◌then◌else◌}
use Rattle.std.specs.List.{All}
use Rattle.std.specs.Str.{bytes_eq}
use Rattle.std.proofs.lemmas.List.Elements.{All-from_recursion, All-nil}
use Rattle.toml.specs.Data.{Data, Members, as_str, as_bool, get_member}
use Rattle.bac_values.specs.declared.object_kind.ObjectKind.{ObjectKind}
use Rattle.bac_values.specs.declared.object_kind.ObjectKind.TheVariants.{BinaryValue, Device, EventEnrollment, NotificationClass, MultiStateValue, EventLog, BitStringValue, CharacterStringValue, IntegerValue, PositiveIntegerValue}
use Rattle.bac_values.specs.declared.value.Value.{Value}
use Rattle.bac_values.specs.declared.value.Value.TheVariants.{Unsigned, Text, Bits, Enumerated}
use Rattle.object_table.specs.Objects.{AreTexts, IsWithin, IsAlarmValue, KeepsLimits, KeepsAlarmValue, NeedsAlarmValues, KeepsMask}
use Rattle.object_table.specs.Values.{is_binary_value}
use Rattle.site_config.specs.declared.alarm_keys.AlarmKeys.{AlarmKeys}
use Rattle.site_config.specs.declared.kind_keys.KindKeys.{KindKeys}
use Rattle.site_config.specs.declared.object.ValuePart.{ValuePart}
use Rattle.toml_items.specs.declared.item_fault.ItemFault.{ItemFault}
use Rattle.site_config.specs.AlarmKeys.{alarm_keys_of, reference_beside}
use Rattle.site_config.specs.KindKeys.{no_kind_keys, limit_keys_of, binary_keys_of, value_keys_of, bits_keys_of, kind_keys_of}
use Rattle.toml_items.specs.Members.{required, or_else, optional}
use Rattle.site_config.specs.Objects.{joined}
use Rattle.site_config.specs.Values.{notify_in, limit_in, value_in, bits_in, state_of, binary_in}
use Rattle.toml_items.specs.Values.{three_flags_in, two_flags_in, unsigned_in, last_unsigned, text_in}
use Rattle.toml_items.specs.Lists.{list_in}
use Rattle.site_config.proofs.KeptInhibition.{KeepsReference, reference_kept, texts_kept}
use Rattle.site_config.proofs.Numbers.{integer_limit, positive_limit, notify_kept}
use Rattle.toml_items.proofs.Numbers.{two_flags_kept, three_flags_kept, KeptList, list_kept}
use Rattle.toml_items.proofs.Steps.{after, found, mapped, ok_is, required_keeps, or_else_keeps}

-- ---- those of every kind

pub record KeepsAlarm (alarm : AlarmKeys) : Type 0 where
  pub notify : alarm.notify ≤ 1
  pub enable : length alarm.enable ≡ 3
  pub reference : KeepsReference alarm.inhibit alarm.inhibit_ref
  pub texts : AreTexts alarm.texts

pub alarm_kept : (ms : Members) (alarm : AlarmKeys) → alarm_keys_of ms ≡ Ok alarm → KeepsAlarm alarm
unfolding alarm_keys_of
alarm_kept ms alarm h =
    let notify = after (or_else 0 notify_in (codes "notify") ms) _ alarm h in
    let enable = after (or_else (true ∷ true ∷ true ∷ []) three_flags_in (codes "enable") ms) _ alarm notify.next_is in
    let delay = after (or_else 0 (unsigned_in 0 last_unsigned) (codes "time_delay") ms) _ alarm enable.next_is in
    let normal = after (optional (unsigned_in 0 last_unsigned) (codes "time_delay_normal") ms) _ alarm delay.next_is in
    let detection = after (or_else true as_bool (codes "detection") ms) _ alarm normal.next_is in
    let inhibit = after (or_else false as_bool (codes "inhibit") ms) _ alarm detection.next_is in
    let reference = after (optional (reference_beside (get_member (codes "inhibit") ms)) (codes "inhibit_ref") ms) _ alarm inhibit.next_is in
    let texts = after (or_else [] (list_in 3 3 text_in) (codes "texts") ms) _ alarm reference.next_is in
    let whole : AlarmKeys = record { notify = notify.value; enable = enable.value; time_delay = delay.value; time_delay_normal = normal.value; detection = detection.value; inhibit = inhibit.value; inhibit_ref = reference.value; texts = texts.value } in
    let is : whole ≡ alarm = ok_is whole alarm texts.next_is in
    let N : ℕ → Type 0 = λ n. n ≤ 1 in
    let F : List Bool → Type 0 = λ flags. length flags ≡ 3 in
    rw (← is) (record {
      notify = or_else_keeps N notify_in notify_kept (codes "notify") 0 (omega arith) ms notify.value notify.first_is;
      enable = or_else_keeps F three_flags_in three_flags_kept (codes "enable") (true ∷ true ∷ true ∷ []) refl ms enable.value enable.first_is;
      reference = reference_kept (get_member (codes "inhibit") ms) (get_member (codes "inhibit_ref") ms) inhibit.value reference.value inhibit.first_is reference.first_is;
      texts = texts_kept ms texts.value texts.first_is;
    })

-- ---- those of a kind, wherever they stand

pub record KeepsKind (kind : ObjectKind) (own : KindKeys) : Type 0 where
  pub limits : (part : ValuePart) (class : Option ℕ) (alarm : AlarmKeys) → KeepsLimits (Some kind) (joined part (record { class = class; alarm = alarm; kind = own }))
  pub alarm_value : KeepsAlarmValue (Some kind) own.alarm_value
  pub alarm_values : All (IsAlarmValue (Some kind)) own.alarm_values
  pub few : length own.alarm_values ≤ 32
  pub some : NeedsAlarmValues (Some kind) own.alarm_values
  pub mask : KeepsMask (Some kind) own.mask

of_integer : (ms : Members) (own : KindKeys) → limit_keys_of IntegerValue ms ≡ Ok own → KeepsKind IntegerValue own
unfolding limit_keys_of
of_integer ms own h =
    let low = after (required (limit_in IntegerValue) (codes "low") ms) _ own h in
    let high = after (required (limit_in IntegerValue) (codes "high") ms) _ own low.next_is in
    let deadband = after (or_else 0 (unsigned_in 0 last_unsigned) (codes "deadband") ms) _ own high.next_is in
    let enable = after (or_else (true ∷ true ∷ []) two_flags_in (codes "limit_enable") ms) _ own deadband.next_is in
    let is : record no_kind_keys { low = low.value; high = high.value; deadband = deadband.value; limit_enable = enable.value } ≡ own = cc in
    let P : ℤ → Type 0 = IsWithin (Some IntegerValue) in
    let F : List Bool → Type 0 = λ flags. length flags ≡ 2 in
    let low_kept : IsWithin (Some IntegerValue) low.value = required_keeps P (limit_in IntegerValue) integer_limit (codes "low") ms low.value low.first_is in
    let high_kept : IsWithin (Some IntegerValue) high.value = required_keeps P (limit_in IntegerValue) integer_limit (codes "high") ms high.value high.first_is in
    let flags_kept : length enable.value ≡ 2 = or_else_keeps F two_flags_in two_flags_kept (codes "limit_enable") (true ∷ true ∷ []) refl ms enable.value enable.first_is in
    rw (← is) (record {
      limits = λ part class alarm. record { low = low_kept; high = high_kept; flags = flags_kept };
      alarm_value = refl;
      alarm_values = All-nil (IsAlarmValue (Some IntegerValue));
      few = omega arith;
      some = tt;
      mask = refl;
    })

of_positive : (ms : Members) (own : KindKeys) → limit_keys_of PositiveIntegerValue ms ≡ Ok own → KeepsKind PositiveIntegerValue own
unfolding limit_keys_of
of_positive ms own h =
    let low = after (required (limit_in PositiveIntegerValue) (codes "low") ms) _ own h in
    let high = after (required (limit_in PositiveIntegerValue) (codes "high") ms) _ own low.next_is in
    let deadband = after (or_else 0 (unsigned_in 0 last_unsigned) (codes "deadband") ms) _ own high.next_is in
    let enable = after (or_else (true ∷ true ∷ []) two_flags_in (codes "limit_enable") ms) _ own deadband.next_is in
    let is : record no_kind_keys { low = low.value; high = high.value; deadband = deadband.value; limit_enable = enable.value } ≡ own = cc in
    let P : ℤ → Type 0 = IsWithin (Some PositiveIntegerValue) in
    let F : List Bool → Type 0 = λ flags. length flags ≡ 2 in
    let low_kept : IsWithin (Some PositiveIntegerValue) low.value = required_keeps P (limit_in PositiveIntegerValue) positive_limit (codes "low") ms low.value low.first_is in
    let high_kept : IsWithin (Some PositiveIntegerValue) high.value = required_keeps P (limit_in PositiveIntegerValue) positive_limit (codes "high") ms high.value high.first_is in
    let flags_kept : length enable.value ≡ 2 = or_else_keeps F two_flags_in two_flags_kept (codes "limit_enable") (true ∷ true ∷ []) refl ms enable.value enable.first_is in
    rw (← is) (record {
      limits = λ part class alarm. record { low = low_kept; high = high_kept; flags = flags_kept };
      alarm_value = refl;
      alarm_values = All-nil (IsAlarmValue (Some PositiveIntegerValue));
      few = omega arith;
      some = tt;
      mask = refl;
    })

-- the states of a binary value are 0 and 1
is_state_number : (text : List ℕ) (n : ℕ) → state_of text ≡ Some n → IsTrue (is_binary_value (Enumerated n))
is_state_number text n h = by (bytes_eq text (codes "inactive")) (bytes_eq text (codes "active")) h
  where
    by : (a b : Bool) → (if a then Some 0 else (if b then Some 1 else None)) ≡ Some n → IsTrue (is_binary_value (Enumerated n))
    by true b e = let is : 0 ≡ n = cc in rw (← is) refl
    by false true e = let is : 1 ≡ n = cc in rw (← is) refl
    by false false e = absurd cc

pub binary_kept : (d : Data) (v : Value) → value_in BinaryValue d ≡ Some v → IsTrue (is_binary_value v)
binary_kept d v h =
    let m = mapped Enumerated (binary_in d) v h in
    let f = found (as_str d) state_of m.value m.part_is in
    rw (← m.is) (is_state_number f.value m.value f.next_is)

of_binary : (ms : Members) (own : KindKeys) → binary_keys_of ms ≡ Ok own → KeepsKind BinaryValue own
unfolding binary_keys_of
of_binary ms own h =
    let value = after (required (value_in BinaryValue) (codes "alarm_value") ms) _ own h in
    let is : record no_kind_keys { alarm_value = Some value.value } ≡ own = cc in
    let P : Value → Type 0 = λ v. IsTrue (is_binary_value v) in
    let kept : IsTrue (is_binary_value value.value) = required_keeps P (value_in BinaryValue) binary_kept (codes "alarm_value") ms value.value value.first_is in
    rw (← is) (record {
      limits = λ part class alarm. record { low = refl; high = refl; deadband = refl; flags = refl };
      alarm_value = kept;
      alarm_values = All-nil (IsAlarmValue (Some BinaryValue));
      few = omega arith;
      some = tt;
      mask = refl;
    })

-- alarm values are of the type of the value
state_value : (d : Data) (v : Value) → value_in MultiStateValue d ≡ Some v → IsAlarmValue (Some MultiStateValue) v
state_value d v h = let m = mapped Unsigned (unsigned_in 0 last_unsigned d) v h in rw (← m.is) tt

text_value : (d : Data) (v : Value) → value_in CharacterStringValue d ≡ Some v → IsAlarmValue (Some CharacterStringValue) v
text_value d v h = let m = mapped Text (text_in d) v h in rw (← m.is) tt

bits_value : (d : Data) (v : Value) → value_in BitStringValue d ≡ Some v → IsAlarmValue (Some BitStringValue) v
bits_value d v h = let m = mapped Bits (bits_in d) v h in rw (← m.is) tt

some_values : (kind : ObjectKind) → ((d : Data) (v : Value) → value_in kind d ≡ Some v → IsAlarmValue (Some kind) v)
    → (ms : Members) (values : List Value) → required (list_in 1 32 (value_in kind)) (codes "alarm_values") ms ≡ Ok values
    → KeptList (IsAlarmValue (Some kind)) 1 32 values
some_values kind each ms values h =
    let P : List Value → Type 0 = KeptList (IsAlarmValue (Some kind)) 1 32 in
    required_keeps P (list_in 1 32 (value_in kind)) (list_kept (IsAlarmValue (Some kind)) (value_in kind) each 1 32) (codes "alarm_values") ms values h

of_states : (ms : Members) (own : KindKeys) → value_keys_of MultiStateValue ms ≡ Ok own → KeepsKind MultiStateValue own
unfolding value_keys_of
of_states ms own h =
    let values = after (required (list_in 1 32 (value_in MultiStateValue)) (codes "alarm_values") ms) _ own h in
    let is : record no_kind_keys { alarm_values = values.value } ≡ own = cc in
    let kept = some_values MultiStateValue state_value ms values.value values.first_is in
    rw (← is) (record {
      limits = λ part class alarm. record { low = refl; high = refl; deadband = refl; flags = refl };
      alarm_value = refl;
      alarm_values = All-from_recursion (IsAlarmValue (Some MultiStateValue)) values.value kept.all;
      few = kept.few;
      some = kept.enough;
      mask = refl;
    })

of_texts : (ms : Members) (own : KindKeys) → value_keys_of CharacterStringValue ms ≡ Ok own → KeepsKind CharacterStringValue own
unfolding value_keys_of
of_texts ms own h =
    let values = after (required (list_in 1 32 (value_in CharacterStringValue)) (codes "alarm_values") ms) _ own h in
    let is : record no_kind_keys { alarm_values = values.value } ≡ own = cc in
    let kept = some_values CharacterStringValue text_value ms values.value values.first_is in
    rw (← is) (record {
      limits = λ part class alarm. record { low = refl; high = refl; deadband = refl; flags = refl };
      alarm_value = refl;
      alarm_values = All-from_recursion (IsAlarmValue (Some CharacterStringValue)) values.value kept.all;
      few = kept.few;
      some = kept.enough;
      mask = refl;
    })

of_bits : (ms : Members) (own : KindKeys) → bits_keys_of ms ≡ Ok own → KeepsKind BitStringValue own
unfolding bits_keys_of
of_bits ms own h =
    let values = after (required (list_in 1 32 (value_in BitStringValue)) (codes "alarm_values") ms) _ own h in
    let mask = after (required bits_in (codes "mask") ms) _ own values.next_is in
    let is : record no_kind_keys { alarm_values = values.value; mask = Some mask.value } ≡ own = cc in
    let kept = some_values BitStringValue bits_value ms values.value values.first_is in
    rw (← is) (record {
      limits = λ part class alarm. record { low = refl; high = refl; deadband = refl; flags = refl };
      alarm_value = refl;
      alarm_values = All-from_recursion (IsAlarmValue (Some BitStringValue)) values.value kept.all;
      few = kept.few;
      some = kept.enough;
      mask = refl;
    })

-- other kinds have none of them
of_none : (kind : ObjectKind) (own : KindKeys) → ((part : ValuePart) (class : Option ℕ) (alarm : AlarmKeys) → KeepsLimits (Some kind) (joined part (record { class = class; alarm = alarm; kind = no_kind_keys })))
    → KeepsAlarmValue (Some kind) None → NeedsAlarmValues (Some kind) [] → KeepsMask (Some kind) None → ◌≡◌ {A = Result KindKeys ItemFault} (Ok no_kind_keys) (Ok own) → KeepsKind kind own
of_none kind own limits alarm_value some mask h =
    let is : no_kind_keys ≡ own = cc in
    rw (← is) (record { limits = limits; alarm_value = alarm_value; alarm_values = All-nil (IsAlarmValue (Some kind)); few = omega arith; some = some; mask = mask })

pub kind_kept : (kind : ObjectKind) (ms : Members) (own : KindKeys) → kind_keys_of kind ms ≡ Ok own → KeepsKind kind own
kind_kept IntegerValue ms own h = of_integer ms own h
kind_kept PositiveIntegerValue ms own h = of_positive ms own h
kind_kept BinaryValue ms own h = of_binary ms own h
kind_kept MultiStateValue ms own h = of_states ms own h
kind_kept CharacterStringValue ms own h = of_texts ms own h
kind_kept BitStringValue ms own h = of_bits ms own h
kind_kept Device ms own h = of_none Device own (λ part class alarm. record { low = refl; high = refl; deadband = refl; flags = refl }) refl tt refl h
kind_kept EventEnrollment ms own h = of_none EventEnrollment own (λ part class alarm. record { low = refl; high = refl; deadband = refl; flags = refl }) refl tt refl h
kind_kept NotificationClass ms own h = of_none NotificationClass own (λ part class alarm. record { low = refl; high = refl; deadband = refl; flags = refl }) refl tt refl h
kind_kept EventLog ms own h = of_none EventLog own (λ part class alarm. record { low = refl; high = refl; deadband = refl; flags = refl }) refl tt refl h
