-- A value object stays one when a property is written to a value that the object takes.
use Rattle.std.proofs.Common.{◌≡◌, ℕ, ◌^◌, ◌<◌, ℤ, pos, Bool, true, false, true≢false, ◌&&◌, ◌==◌, Option, Some, None, IsSome, IsTrue, is_none, is_some, length, refl, sym, ap, ◌∙◌, subst, arith, FitsSigned}
use Rattle.std.specs.Int.{w32, FitsUnsigned}
use Rattle.std.proofs.lemmas.Int.{ints}
use Rattle.std.proofs.lemmas.Bool.Decides.{nat_tests}
use Rattle.bac_values.specs.BitString.{BitsData, two_flags, three_flags}
use Rattle.bac_values.specs.declared.object_kind.ObjectKind.{ObjectKind}
use Rattle.bac_values.specs.declared.object_kind.ObjectKind.TheVariants.{BinaryValue, MultiStateValue, BitStringValue, CharacterStringValue, IntegerValue, PositiveIntegerValue}
use Rattle.bac_values.specs.declared.value.Value.{Value}
use Rattle.bac_values.specs.declared.value.Value.TheVariants.{Bool as Truth, Unsigned, Signed, Bits}
use Rattle.object_table.specs.Objects.{IsObject, IsObjectOf, HasAlarmKeys, LacksAlarmKeys, KeepsAlarmKeys, KeepsAlarmValue, KeepsLimits, IsWithin}
use Rattle.object_table.specs.Properties.{has_limits, kind_in}
use Rattle.object_table.specs.Values.{has_length_of, is_number, is_present_value, is_state, takes_known}
use Rattle.object_table.specs.Writes.{set_known}
use Rattle.object_table.specs.declared.object_property.ObjectProperty.{ObjectProperty}
use Rattle.object_table.specs.declared.object_property.ObjectProperty.TheVariants.{PresentValue, OutOfService, ReliabilityEvaluationInhibit, TimeDelay, TimeDelayNormal, HighLimit, LowLimit, Deadband, LimitEnable, AlarmValue, EventEnable, EventAlgorithmInhibit}
use Rattle.object_table.specs.declared.object_site.ObjectSite.{ObjectSite}
use Rattle.object_table.proofs.Keeping.{alarm_written, three_flags_of}
use Rattle.alarm_core.specs.Fits.{FitsValue}
use Rattle.alarm_core.specs.SiteStates.{with_settings_of}

-- an object differs from another in what may be written alone
abbrev pub IsRewritten : ObjectSite → ObjectSite → Type 0
IsRewritten site written = written ≡ with_settings_of written site

-- ---- its limits and its other keys

limits_same : (kind : Option ObjectKind) (a b : ObjectSite) → b.low ≡ a.low → b.high ≡ a.high → b.deadband ≡ a.deadband → b.limit_enable ≡ a.limit_enable → KeepsLimits kind a → KeepsLimits kind b
limits_same (Some IntegerValue) a b l h d f k =
    record { low = subst (IsWithin (Some IntegerValue)) (sym l) k.low; high = subst (IsWithin (Some IntegerValue)) (sym h) k.high; flags = ap length f ∙ k.flags }
limits_same (Some PositiveIntegerValue) a b l h d f k =
    record { low = subst (IsWithin (Some PositiveIntegerValue)) (sym l) k.low; high = subst (IsWithin (Some PositiveIntegerValue)) (sym h) k.high; flags = ap length f ∙ k.flags }
limits_same _ a b l h d f k = record { low = l ∙ k.low; high = h ∙ k.high; deadband = d ∙ k.deadband; flags = f ∙ k.flags }

-- Event_Algorithm_Inhibit is FALSE where an object is inhibited by reference
abbrev KeepsInhibit : ObjectSite → ObjectSite → Type 0
KeepsInhibit site written = IsSome site.inhibit_ref → written.inhibit ≡ false

has_with : (kind : Option ObjectKind) (site written : ObjectSite) → IsRewritten site written → HasAlarmKeys kind site → length written.enable ≡ 3 → KeepsInhibit site written → KeepsLimits kind written →
    KeepsAlarmValue kind written.alarm_value → HasAlarmKeys kind written
has_with kind site written e h enable inhibit limits alarm =
    let old : HasAlarmKeys kind (with_settings_of written site) =
    record {
      notify = h.notify;
      enable = enable;
      inhibit = inhibit;
      reference = h.reference;
      texts = h.texts;
      limits = limits_same kind written (with_settings_of written site) refl refl refl refl limits;
      alarm_value = alarm;
      alarm_values = h.alarm_values;
      few = h.few;
      some = h.some;
      mask = h.mask;
    } in
    subst (HasAlarmKeys kind) (sym e) old

lacks_with : (site : ObjectSite) (value : Value) (out inhibit : Bool) → LacksAlarmKeys site → LacksAlarmKeys (record site { value = value; out_of_service = out; reliability_inhibit = inhibit })
lacks_with site value out inhibit h = record {
  notify = h.notify;
  enable = h.enable;
  time_delay = h.time_delay;
  time_delay_normal = h.time_delay_normal;
  detection = h.detection;
  inhibit = h.inhibit;
  inhibit_ref = h.inhibit_ref;
  texts = h.texts;
  limits = record { low = h.limits.low; high = h.limits.high; deadband = h.limits.deadband; flags = h.limits.flags };
  alarm_value = h.alarm_value;
  alarm_values = h.alarm_values;
  mask = h.mask;
}

-- where none of them is written
any_keys : (kind : Option ObjectKind) (class : Option ℕ) (site : ObjectSite) (value : Value) (out inhibit : Bool) → KeepsAlarmKeys kind class site →
    KeepsAlarmKeys kind class (record site { value = value; out_of_service = out; reliability_inhibit = inhibit })
any_keys kind (Some class) site value out inhibit h =
    let written : ObjectSite = record site { value = value; out_of_service = out; reliability_inhibit = inhibit } in
    has_with kind site written refl h h.enable h.inhibit (limits_same kind site written refl refl refl refl h.limits) h.alarm_value
any_keys kind None site value out inhibit h = lacks_with site value out inhibit h

-- where one is written, of an object with a class
some_keys : (kind : Option ObjectKind) (class : Option ℕ) (site written : ObjectSite) → is_some class ≡ true → IsRewritten site written → KeepsAlarmKeys kind class site → length written.enable ≡ 3 →
    (KeepsInhibit site site → KeepsInhibit site written) → (KeepsLimits kind site → KeepsLimits kind written) → written.alarm_value ≡ site.alarm_value → KeepsAlarmKeys kind class written
some_keys kind (Some class) site written there e h enable inhibit limits alarm =
    has_with kind site written e h enable (inhibit h.inhibit) (limits h.limits) (subst (KeepsAlarmValue kind) (sym alarm) h.alarm_value)
some_keys kind None site written there e h enable inhibit limits alarm = absurd (true≢false (sym there))

-- ---- its present value

value_same : (kind : Option ObjectKind) (a b : ObjectSite) → b.states ≡ a.states → b.value ≡ a.value → IsTrue (is_present_value kind a a.value) → IsTrue (is_present_value kind b b.value)
value_same kind a b s v h = by_kind kind (subst (λ value. IsTrue (is_present_value kind a value)) (sym v) h)
  where
    by_kind : (kind : Option ObjectKind) → IsTrue (is_present_value kind a b.value) → IsTrue (is_present_value kind b b.value)
    by_kind (Some IntegerValue) h = h
    by_kind (Some PositiveIntegerValue) h = h
    by_kind (Some BinaryValue) h = h
    by_kind (Some MultiStateValue) h = subst (λ n. IsTrue (is_state n b.value)) (sym s) h
    by_kind (Some BitStringValue) h = subst (λ old. IsTrue (has_length_of old b.value)) (sym v) h
    by_kind (Some CharacterStringValue) h = h
    by_kind _ h = absurd (true≢false (sym h))

length_again : (old value : Value) → IsTrue (has_length_of old value) → IsTrue (has_length_of value value)
length_again (Bits old) (Bits string) h = grind (arith, nat_tests)
length_again _ _ h = absurd (true≢false (sym h))

present_again : (kind : Option ObjectKind) (site : ObjectSite) (value : Value) → IsTrue (is_present_value kind site value) → IsTrue (is_present_value kind (record site { value = value }) value)
present_again (Some IntegerValue) site value h = h
present_again (Some PositiveIntegerValue) site value h = h
present_again (Some BinaryValue) site value h = h
present_again (Some MultiStateValue) site value h = h
present_again (Some BitStringValue) site value h = length_again site.value value h
present_again (Some CharacterStringValue) site value h = h
present_again _ site value h = absurd (true≢false (sym h))

-- ---- the object

object_with : (kind : Option ObjectKind) (site written : ObjectSite) → IsRewritten site written → IsObjectOf kind site → IsTrue (is_present_value kind written written.value) →
    KeepsAlarmKeys kind site.class written → IsObjectOf kind written
object_with kind site written e h present keys =
    let settled : IsObjectOf kind (with_settings_of written site) =
    record {
      instance = h.instance;
      value = subst (λ (s : ObjectSite). IsTrue (is_present_value kind s s.value)) e present;
      states = h.states;
      fault_limits = h.fault_limits;
      fault_values = h.fault_values;
      few = h.few;
      alarm = subst (KeepsAlarmKeys kind site.class) e keys;
    } in
    subst (IsObjectOf kind) (sym e) settled

-- where neither its value nor its states change
object_same : (kind : Option ObjectKind) (site written : ObjectSite) → IsRewritten site written → written.value ≡ site.value → IsObjectOf kind site → KeepsAlarmKeys kind site.class written → IsObjectOf kind written
object_same kind site written e value h keys =
    object_with kind site written e h (value_same kind site written (ap (λ (s : ObjectSite). s.states) e) value h.value) keys

-- ---- the limits

high_signed : (kind : Option ObjectKind) (site : ObjectSite) (limit : ℤ) → FitsSigned w32 limit → is_number kind (Signed limit) ≡ true → KeepsLimits kind site → KeepsLimits kind (record site { high = limit })
high_signed (Some IntegerValue) site limit fits number h = record { low = h.low; high = fits; flags = h.flags }
high_signed (Some PositiveIntegerValue) site limit fits number h = absurd (true≢false (sym number))
high_signed _ site limit fits number h = absurd (true≢false (sym number))

low_signed : (kind : Option ObjectKind) (site : ObjectSite) (limit : ℤ) → FitsSigned w32 limit → is_number kind (Signed limit) ≡ true → KeepsLimits kind site → KeepsLimits kind (record site { low = limit })
low_signed (Some IntegerValue) site limit fits number h = record { low = fits; high = h.high; flags = h.flags }
low_signed (Some PositiveIntegerValue) site limit fits number h = absurd (true≢false (sym number))
low_signed _ site limit fits number h = absurd (true≢false (sym number))

unsigned_fits : (number : ℕ) → number < 2 ^ 32 → FitsUnsigned w32 (pos number)
unsigned_fits number fits = (omega (arith, ints), omega (arith, ints))

high_unsigned : (kind : Option ObjectKind) (site : ObjectSite) (limit : ℕ) → limit < 2 ^ 32 → is_number kind (Unsigned limit) ≡ true → KeepsLimits kind site → KeepsLimits kind (record site { high = pos limit })
high_unsigned (Some PositiveIntegerValue) site limit fits number h = record { low = h.low; high = unsigned_fits limit fits; flags = h.flags }
high_unsigned (Some IntegerValue) site limit fits number h = absurd (true≢false (sym number))
high_unsigned _ site limit fits number h = absurd (true≢false (sym number))

low_unsigned : (kind : Option ObjectKind) (site : ObjectSite) (limit : ℕ) → limit < 2 ^ 32 → is_number kind (Unsigned limit) ≡ true → KeepsLimits kind site → KeepsLimits kind (record site { low = pos limit })
low_unsigned (Some PositiveIntegerValue) site limit fits number h = record { low = unsigned_fits limit fits; high = h.high; flags = h.flags }
low_unsigned (Some IntegerValue) site limit fits number h = absurd (true≢false (sym number))
low_unsigned _ site limit fits number h = absurd (true≢false (sym number))

with_deadband : (kind : Option ObjectKind) (site : ObjectSite) (deadband : ℕ) → has_limits kind ≡ true → KeepsLimits kind site → KeepsLimits kind (record site { deadband = deadband })
with_deadband (Some IntegerValue) site deadband has h = record { low = h.low; high = h.high; flags = h.flags }
with_deadband (Some PositiveIntegerValue) site deadband has h = record { low = h.low; high = h.high; flags = h.flags }
with_deadband _ site deadband has h = absurd (true≢false (sym has))

with_flags : (kind : Option ObjectKind) (site : ObjectSite) (flags : BitsData) → has_limits kind ≡ true → KeepsLimits kind site → KeepsLimits kind (record site { limit_enable = two_flags flags })
with_flags (Some IntegerValue) site flags has h = record { low = h.low; high = h.high; flags = refl }
with_flags (Some PositiveIntegerValue) site flags has h = record { low = h.low; high = h.high; flags = refl }
with_flags _ site flags has h = absurd (true≢false (sym has))

-- ---- a property is written

pub both : (s t : Bool) → (s && t) ≡ true → (s ≡ true) × (t ≡ true)
both true t h = (refl, h)
both false t h = absurd (true≢false (sym h))

pub not_both : {X : Type 0} (x : Option X) → is_none x ≡ true → is_some x ≡ true → ⊥
not_both None none some = true≢false (sym some)
not_both (Some y) none some = true≢false (sym none)

module _ (site : ObjectSite) (h : IsObject site) where
  -- no limit is written
  others_same : (written : ObjectSite) → IsRewritten site written → written.value ≡ site.value → is_some site.class ≡ true → length written.enable ≡ 3 →
      (KeepsInhibit site site → KeepsInhibit site written) → (KeepsLimits (kind_in site) site → KeepsLimits (kind_in site) written) → written.alarm_value ≡ site.alarm_value → IsObjectOf (kind_in site) written
  others_same written e value there enable inhibit limits alarm =
      object_same (kind_in site) site written e value h (some_keys (kind_in site) site.class site written there e h.alarm enable inhibit limits alarm)

  three : length site.enable ≡ 3
  three = three_flags_of (kind_in site) site h

  pub known_kept : (property : ObjectProperty) (value : Value) → FitsValue value → IsTrue (takes_known (kind_in site) site (Some property) value) → IsObject (set_known property value site)
  known_kept PresentValue value fits taken =
      object_with (kind_in site) site (record site { value = value }) refl h (present_again (kind_in site) site value taken)
      (any_keys (kind_in site) site.class site value site.out_of_service site.reliability_inhibit h.alarm)
  known_kept OutOfService (Truth truth) fits taken =
      object_same (kind_in site) site (record site { out_of_service = truth }) refl refl h (any_keys (kind_in site) site.class site site.value truth site.reliability_inhibit h.alarm)
  known_kept ReliabilityEvaluationInhibit (Truth truth) fits taken =
      object_same (kind_in site) site (record site { reliability_inhibit = truth }) refl refl h (any_keys (kind_in site) site.class site site.value site.out_of_service truth h.alarm)
  known_kept TimeDelay (Unsigned seconds) fits taken =
      let written : ObjectSite = record site { time_delay = seconds } in
      others_same written refl refl (both (is_some site.class) true taken).0 three (λ keeps. keeps) (limits_same (kind_in site) site written refl refl refl refl) refl
  known_kept TimeDelayNormal (Unsigned seconds) fits taken =
      let written : ObjectSite = record site { time_delay_normal = Some seconds } in
      let has = (both (is_some site.class && is_some site.time_delay_normal) true taken).0 in
      others_same written refl refl (both (is_some site.class) (is_some site.time_delay_normal) has).0 three (λ keeps. keeps) (limits_same (kind_in site) site written refl refl refl refl) refl
  known_kept HighLimit (Signed limit) fits taken =
      let tests = both (is_some site.class && has_limits (kind_in site)) (is_number (kind_in site) (Signed limit)) taken in
      others_same (record site { high = limit }) refl refl (both (is_some site.class) (has_limits (kind_in site)) tests.0).0 three (λ keeps. keeps) (high_signed (kind_in site) site limit fits tests.1) refl
  known_kept HighLimit (Unsigned limit) fits taken =
      let tests = both (is_some site.class && has_limits (kind_in site)) (is_number (kind_in site) (Unsigned limit)) taken in
      others_same (record site { high = pos limit }) refl refl (both (is_some site.class) (has_limits (kind_in site)) tests.0).0 three (λ keeps. keeps) (high_unsigned (kind_in site) site limit fits tests.1) refl
  known_kept LowLimit (Signed limit) fits taken =
      let tests = both (is_some site.class && has_limits (kind_in site)) (is_number (kind_in site) (Signed limit)) taken in
      others_same (record site { low = limit }) refl refl (both (is_some site.class) (has_limits (kind_in site)) tests.0).0 three (λ keeps. keeps) (low_signed (kind_in site) site limit fits tests.1) refl
  known_kept LowLimit (Unsigned limit) fits taken =
      let tests = both (is_some site.class && has_limits (kind_in site)) (is_number (kind_in site) (Unsigned limit)) taken in
      others_same (record site { low = pos limit }) refl refl (both (is_some site.class) (has_limits (kind_in site)) tests.0).0 three (λ keeps. keeps) (low_unsigned (kind_in site) site limit fits tests.1) refl
  known_kept Deadband (Unsigned deadband) fits taken =
      let has = both (is_some site.class) (has_limits (kind_in site)) (both (is_some site.class && has_limits (kind_in site)) true taken).0 in
      others_same (record site { deadband = deadband }) refl refl has.0 three (λ keeps. keeps) (with_deadband (kind_in site) site deadband has.1) refl
  known_kept LimitEnable (Bits flags) fits taken =
      let has = both (is_some site.class) (has_limits (kind_in site)) (both (is_some site.class && has_limits (kind_in site)) (flags.size == 2) taken).0 in
      others_same (record site { limit_enable = two_flags flags }) refl refl has.0 three (λ keeps. keeps) (with_flags (kind_in site) site flags has.1) refl
  known_kept AlarmValue value fits taken = alarm_written site AlarmValue value refl taken h
  known_kept EventEnable (Bits flags) fits taken =
      let written : ObjectSite = record site { enable = three_flags flags } in
      others_same written refl refl (both (is_some site.class) (flags.size == 3) taken).0 refl (λ keeps. keeps) (limits_same (kind_in site) site written refl refl refl refl) refl
  known_kept EventAlgorithmInhibit (Truth truth) fits taken =
      let written : ObjectSite = record site { inhibit = truth } in
      let tests = both (is_some site.class) (is_none site.inhibit_ref && true) taken in
      let free = (both (is_none site.inhibit_ref) true tests.1).0 in
      others_same written refl refl tests.0 three (λ before referred. absurd (not_both site.inhibit_ref free referred)) (limits_same (kind_in site) site written refl refl refl refl) refl
  known_kept _ _ fits taken = h
