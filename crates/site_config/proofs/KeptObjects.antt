-- An object that is read is a value object.
use Rattle.std.proofs.Common.{◌≡◌, ◌≤◌, ℕ, true, false, ◌&&◌, ◌==◌, nat_le, Option, Some, None, Ok, refl, arith}
use Rattle.std.specs.Prelude.{codes, IsTrue}
use Rattle.std.proofs.lemmas.Bool.Decides.{nat_tests}
use Rattle.toml.specs.Data.{Data, Members, as_bool}
use Rattle.bac_values.specs.Identifier.{number_of_kind, kind_of}
use Rattle.bac_values.specs.declared.object_kind.ObjectKind.{ObjectKind}
use Rattle.bac_values.specs.declared.object_kind.ObjectKind.TheVariants.{BinaryValue, Device, EventEnrollment, NotificationClass, MultiStateValue, EventLog, BitStringValue, CharacterStringValue, IntegerValue, PositiveIntegerValue}
use Rattle.bac_values.specs.declared.value.Value.{Value}
use Rattle.bac_values.specs.declared.value.Value.TheVariants.{Unsigned, Signed, Text, Bits}
use Rattle.object_table.specs.declared.object_site.ObjectSite.{ObjectSite}
use Rattle.object_table.specs.Objects.{IsObject, IsObjectOf, KeepsAlarmKeys}
use Rattle.object_table.specs.Values.{is_present_value}
use Rattle.site_config.specs.declared.object.ValuePart.{ValuePart}
use Rattle.site_config.specs.declared.object.ClassPart.{ClassPart}
use Rattle.site_config.specs.AlarmKeys.{alarm_keys_of, no_alarm_keys}
use Rattle.site_config.specs.Devices.{object_with, name_of}
use Rattle.site_config.specs.FaultKeys.{fault_keys_of, state_number}
use Rattle.site_config.specs.KindKeys.{kind_keys_of, no_kind_keys}
use Rattle.toml_items.specs.Members.{required, or_else, optional}
use Rattle.site_config.specs.Objects.{value_part_of, class_part_of, with_class, joined, object_of}
use Rattle.site_config.specs.Values.{kind_in, instance_in, present_in, limit_in, bits_in}
use Rattle.toml_items.specs.Values.{unsigned_in, last_unsigned, text_in}
use Rattle.site_config.proofs.KeptAlarms.{alarm_kept, kind_kept, binary_kept}
use Rattle.site_config.proofs.KeptFaults.{KeepsFaults, faults_kept, states_cover}
use Rattle.toml_items.proofs.Numbers.{unsigned_kept}
use Rattle.site_config.proofs.Numbers.{instance_kept}
use Rattle.toml_items.proofs.Steps.{after, ok_is, mapped, required_keeps}

-- the kind of an identifier that is made for a kind
kind_known : (kind : ObjectKind) → kind_of (number_of_kind kind) ≡ Some kind
kind_known BinaryValue = refl
kind_known Device = refl
kind_known EventEnrollment = refl
kind_known NotificationClass = refl
kind_known MultiStateValue = refl
kind_known EventLog = refl
kind_known BitStringValue = refl
kind_known CharacterStringValue = refl
kind_known IntegerValue = refl
kind_known PositiveIntegerValue = refl

-- ---- the value

same_size : (n : ℕ) → (n == n) ≡ true
same_size n = grind (arith, nat_tests)

in_states : (state states : ℕ) → 1 ≤ state → state ≤ states → (nat_le 1 state && nat_le state states) ≡ true
in_states state states low high = grind (arith, nat_tests)

present_kept : (kind : ObjectKind) (ms : Members) (part : ValuePart) (class : ClassPart) (d : Data) → fault_keys_of kind part.value ms ≡ Ok part.faults → present_in kind d ≡ Some part.value
    → IsTrue (is_present_value (Some kind) (joined part class) part.value)
present_kept IntegerValue ms part class d faults h = let m = mapped Signed (limit_in IntegerValue d) part.value h in rw (← m.is) refl
present_kept PositiveIntegerValue ms part class d faults h = let m = mapped Unsigned (unsigned_in 0 last_unsigned d) part.value h in rw (← m.is) refl
present_kept BinaryValue ms part class d faults h = binary_kept d part.value h
present_kept MultiStateValue ms part class d faults h =
    let m = mapped Unsigned (unsigned_in 1 last_unsigned d) part.value h in
    let (low, _) = unsigned_kept 1 last_unsigned d m.value m.part_is in
    let covered : state_number (Unsigned m.value) ≤ part.faults.states = rw m.is (states_cover part.value ms part.faults faults) in
    rw (← m.is) (in_states m.value part.faults.states low covered)
present_kept BitStringValue ms part class d faults h = let m = mapped Bits (bits_in d) part.value h in rw (← m.is) (same_size m.value.size)
present_kept CharacterStringValue ms part class d faults h = let m = mapped Text (text_in d) part.value h in rw (← m.is) refl
present_kept Device ms part class d faults h = absurd cc
present_kept EventEnrollment ms part class d faults h = absurd cc
present_kept NotificationClass ms part class d faults h = absurd cc
present_kept EventLog ms part class d faults h = absurd cc

-- ---- the class

class_kept : (kind : ObjectKind) (ms : Members) (part : ValuePart) (found : Option ℕ) (class : ClassPart) → with_class kind found ms ≡ Ok class → KeepsAlarmKeys (Some kind) class.class (joined part class)
class_kept kind ms part None class h =
    let is : record { class = None; alarm = no_alarm_keys; kind = no_kind_keys } ≡ class = cc in
    rw (← is) (record {
      notify = refl;
      enable = refl;
      time_delay = refl;
      time_delay_normal = refl;
      detection = refl;
      inhibit = refl;
      inhibit_ref = refl;
      texts = refl;
      limits = record { low = refl; high = refl; deadband = refl; flags = refl };
      alarm_value = refl;
      alarm_values = refl;
      mask = refl;
    })
class_kept kind ms part (Some instance) class h =
    let alarm = after (alarm_keys_of ms) _ class h in
    let own = after (kind_keys_of kind ms) _ class alarm.next_is in
    let is : record { class = Some instance; alarm = alarm.value; kind = own.value } ≡ class = cc in
    let of_alarm = alarm_kept ms alarm.value alarm.first_is in
    let of_kind = kind_kept kind ms own.value own.first_is in
    rw (← is) (record {
      notify = of_alarm.notify;
      enable = of_alarm.enable;
      inhibit = of_alarm.reference.alone;
      reference = of_alarm.reference.names;
      texts = of_alarm.texts;
      limits = of_kind.limits part (Some instance) alarm.value;
      alarm_value = of_kind.alarm_value;
      alarm_values = of_kind.alarm_values;
      few = of_kind.few;
      some = of_kind.some;
      mask = of_kind.mask;
    })

-- ---- both

pub record KeepsValue (part : ValuePart) : Type 0 where
  pub number : part.object.number ≡ number_of_kind part.kind
  pub instance : part.object.instance ≤ 4194302
  pub value : (class : ClassPart) → IsTrue (is_present_value (Some part.kind) (joined part class) part.value)
  pub faults : KeepsFaults part.kind part.faults

value_part_kept : (ms : Members) (part : ValuePart) → value_part_of ms ≡ Ok part → KeepsValue part
unfolding value_part_of
value_part_kept ms part h =
    let kind = after (required kind_in (codes "kind") ms) _ part h in
    let instance = after (required instance_in (codes "instance") ms) _ part kind.next_is in
    let name = after (name_of (object_with kind.value instance.value) ms) _ part instance.next_is in
    let value = after (required (present_in kind.value) (codes "value") ms) _ part name.next_is in
    let service = after (or_else false as_bool (codes "out_of_service") ms) _ part value.next_is in
    let inhibit = after (or_else false as_bool (codes "reliability_inhibit") ms) _ part service.next_is in
    let faults = after (fault_keys_of kind.value value.value ms) _ part inhibit.next_is in
    let P : ℕ → Type 0 = λ n. n ≤ 4194302 in
    let whole : ValuePart = record { kind = kind.value; object = object_with kind.value instance.value; name = name.value; value = value.value; out_of_service = service.value; reliability_inhibit = inhibit.value; faults = faults.value } in
    let is : whole ≡ part = ok_is whole part faults.next_is in
    let V : Value → Type 0 = λ v. (d : Data) × (present_in kind.value d ≡ Some v) in
    let said : V value.value = required_keeps V (present_in kind.value) (λ d v e. (d, e)) (codes "value") ms value.value value.first_is in
    rw (← is) (record {
      number = refl;
      instance = required_keeps P instance_in instance_kept (codes "instance") ms instance.value instance.first_is;
      value = λ class. present_kept kind.value ms whole class said.0 faults.first_is said.1;
      faults = faults_kept kind.value value.value ms faults.value faults.first_is;
    })

of_kind_kept : (ms : Members) (part : ValuePart) (class : ClassPart) → KeepsValue part → class_part_of part.kind ms ≡ Ok class → IsObjectOf (Some part.kind) (joined part class)
unfolding class_part_of
of_kind_kept ms part class kept h =
    let found = after (optional instance_in (codes "class") ms) (λ own. with_class part.kind own ms) class h in
    record {
      instance = kept.instance;
      value = kept.value class;
      states = kept.faults.states;
      fault_limits = kept.faults.limits;
      fault_values = kept.faults.values;
      few = kept.faults.few;
      alarm = class_kept part.kind ms part found.value class found.next_is;
    }

pub object_kept : (ms : Members) (site : ObjectSite) → object_of ms ≡ Ok site → IsObject site
unfolding object_of
object_kept ms site h =
    let part = after (value_part_of ms) _ site h in
    let class = after (class_part_of part.value.kind ms) _ site part.next_is in
    let is : joined part.value class.value ≡ site = cc in
    let kept = value_part_kept ms part.value part.first_is in
    let kind : kind_of part.value.object.number ≡ Some part.value.kind = rw kept.number (kind_known part.value.kind) in
    rw (← is, kind) (of_kind_kept ms part.value class.value kept class.first_is)
