-- A value object stays one when a property is written.
use Rattle.std.proofs.Common.{◌≡◌, ℕ, Bool, true, false, true≢false, ◌&&◌, Option, Some, None, IsTrue, length, is_some, refl, sym, ap, subst}
use Rattle.bac_values.specs.declared.object_kind.ObjectKind.{ObjectKind}
use Rattle.bac_values.specs.declared.object_kind.ObjectKind.TheVariants.{BinaryValue, Device, EventEnrollment, NotificationClass, MultiStateValue, EventLog, BitStringValue, CharacterStringValue, IntegerValue, PositiveIntegerValue}
use Rattle.bac_values.specs.declared.value.Value.{Value}
use Rattle.object_table.specs.declared.object_property.ObjectProperty.{ObjectProperty}
use Rattle.object_table.specs.declared.object_property.ObjectProperty.TheVariants.{AlarmValue}
use Rattle.object_table.specs.declared.object_site.ObjectSite.{ObjectSite}
use Rattle.object_table.specs.Properties.{is_binary, kind_in}
use Rattle.object_table.specs.Values.{is_binary_value, is_present_value, takes_known}
use Rattle.object_table.specs.Objects.{IsObject, IsObjectOf, HasAlarmKeys, KeepsAlarmKeys, KeepsLimits}

-- each object has three flags for events, and two for limits
two_limits : (kind : Option ObjectKind) (site : ObjectSite) → KeepsLimits kind site → length site.limit_enable ≡ 2
two_limits (Some IntegerValue) site h = h.flags
two_limits (Some PositiveIntegerValue) site h = h.flags
two_limits _ site h = ap length h.flags

two_by_class : (kind : Option ObjectKind) (class : Option ℕ) (site : ObjectSite) → KeepsAlarmKeys kind class site → length site.limit_enable ≡ 2
two_by_class kind (Some class) site h = two_limits kind site h.limits
two_by_class kind None site h = ap length h.limits.flags

three_by_class : (kind : Option ObjectKind) (class : Option ℕ) (site : ObjectSite) → KeepsAlarmKeys kind class site → length site.enable ≡ 3
three_by_class kind (Some class) site h = h.enable
three_by_class kind None site h = ap length h.enable

pub two_flags_of : (kind : Option ObjectKind) (site : ObjectSite) → IsObjectOf kind site → length site.limit_enable ≡ 2
two_flags_of kind site h = two_by_class kind site.class site h.alarm

pub three_flags_of : (kind : Option ObjectKind) (site : ObjectSite) → IsObjectOf kind site → length site.enable ≡ 3
three_flags_of kind site h = three_by_class kind site.class site h.alarm

-- a binary value has another alarm value
binary_keys : (site : ObjectSite) (value : Value) → HasAlarmKeys (Some BinaryValue) site → IsTrue (is_binary_value value) → HasAlarmKeys (Some BinaryValue) (record site { alarm_value = Some value })
binary_keys site value h binary = record {
  notify = h.notify;
  enable = h.enable;
  inhibit = h.inhibit;
  reference = h.reference;
  texts = h.texts;
  limits = record { low = h.limits.low; high = h.limits.high; deadband = h.limits.deadband; flags = h.limits.flags };
  alarm_value = binary;
  alarm_values = h.alarm_values;
  few = h.few;
  some = h.some;
  mask = h.mask;
}

keys_by_class : (kind : Option ObjectKind) (class : Option ℕ) (site : ObjectSite) (value : Value) → KeepsAlarmKeys kind class site → IsTrue (is_some class && is_binary kind) → IsTrue (is_binary_value value) → KeepsAlarmKeys kind class (record site { alarm_value = Some value })
keys_by_class (Some BinaryValue) (Some class) site value h has binary = binary_keys site value h binary
keys_by_class kind None site value h has binary = absurd (true≢false (sym has))
keys_by_class (Some Device) (Some class) site value h has binary = absurd (true≢false (sym has))
keys_by_class (Some EventEnrollment) (Some class) site value h has binary = absurd (true≢false (sym has))
keys_by_class (Some NotificationClass) (Some class) site value h has binary = absurd (true≢false (sym has))
keys_by_class (Some MultiStateValue) (Some class) site value h has binary = absurd (true≢false (sym has))
keys_by_class (Some EventLog) (Some class) site value h has binary = absurd (true≢false (sym has))
keys_by_class (Some BitStringValue) (Some class) site value h has binary = absurd (true≢false (sym has))
keys_by_class (Some CharacterStringValue) (Some class) site value h has binary = absurd (true≢false (sym has))
keys_by_class (Some IntegerValue) (Some class) site value h has binary = absurd (true≢false (sym has))
keys_by_class (Some PositiveIntegerValue) (Some class) site value h has binary = absurd (true≢false (sym has))
keys_by_class None (Some class) site value h has binary = absurd (true≢false (sym has))

-- its value is still one of its kind
same_value : (kind : Option ObjectKind) (site : ObjectSite) (value other : Value) → IsTrue (is_present_value kind site value) → IsTrue (is_present_value kind (record site { alarm_value = Some other }) value)
same_value (Some IntegerValue) site value other h = h
same_value (Some PositiveIntegerValue) site value other h = h
same_value (Some BinaryValue) site value other h = h
same_value (Some MultiStateValue) site value other h = h
same_value (Some BitStringValue) site value other h = h
same_value (Some CharacterStringValue) site value other h = h
same_value _ site value other h = h

with_alarm_value : (kind : Option ObjectKind) (site : ObjectSite) (value : Value) → IsObjectOf kind site → IsTrue (is_some site.class && is_binary kind) → IsTrue (is_binary_value value) → IsObjectOf kind (record site { alarm_value = Some value })
with_alarm_value kind site value h has binary = record {
  instance = h.instance;
  value = same_value kind site site.value value h.value;
  states = h.states;
  fault_limits = h.fault_limits;
  fault_values = h.fault_values;
  few = h.few;
  alarm = keys_by_class kind site.class site value h.alarm has binary;
}

both : (s t : Bool) → IsTrue (s && t) → IsTrue s × IsTrue t
both true t h = (refl, h)
both false t h = absurd (true≢false (sym h))

pub alarm_written : (site : ObjectSite) (property : ObjectProperty) (value : Value) → property ≡ AlarmValue → IsTrue (takes_known (kind_in site) site (Some property) value) → IsObject site → IsObject (record site { alarm_value = Some value })
alarm_written site property value is taken h =
    let by_alarm : IsTrue (takes_known (kind_in site) site (Some AlarmValue) value) = subst (λ p. IsTrue (takes_known (kind_in site) site (Some p) value)) is taken in
    let parts = both (is_some site.class && is_binary (kind_in site)) (is_binary_value value) by_alarm in
    with_alarm_value (kind_in site) site value h parts.0 parts.1
