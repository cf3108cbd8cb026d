-- The row of an object of a site is what the settings that were read make of it, and no other row has them.
use Rattle.std.proofs.Common.{◌≡◌, ℕ, zero, suc, ℤ, pos, negsuc, ◌^◌, ◌<◌, Bool, true, false, not, ◌&&◌, ◌||◌, eqb, List, [], ◌∷◌, ◌++◌, length, IsNone, IsSome, Option, Some, None, is_some, refl, sym, ap, subst, ◌∙◌, arith}
use Rattle.std.specs.Int.{w32, to_be_bytes}
use Rattle.std.proofs.lemmas.Bool.{eqb-true, eq-eqb}
use Rattle.std.proofs.lemmas.Int.{ints}
use mir.ValLaws as laws
use Rattle.bac_values.specs.Identifier.{ObjectIdData}
use Rattle.bac_values.specs.declared.object_kind.ObjectKind.{ObjectKind}
use Rattle.bac_values.specs.declared.object_kind.ObjectKind.TheVariants.{BinaryValue, Device, EventEnrollment, NotificationClass, MultiStateValue, EventLog, BitStringValue, CharacterStringValue, IntegerValue, PositiveIntegerValue}
use Rattle.bac_values.specs.declared.value.Value.{Value}
use Rattle.bac_values.specs.declared.value.Value.TheVariants as values
use Rattle.object_table.specs.Objects.{IsObject, IsWithin, KeepsAlarmKeys, KeepsLimits, KeepsAlarmValue, LacksLimits}
use Rattle.object_table.specs.Properties.{kind_in}
use Rattle.object_table.specs.Values.{has_length_of, is_present_value}
use Rattle.object_table.specs.declared.object_site.ObjectSite.{ObjectSite}
use Rattle.object_table.specs.declared.row.Row.{Row}
use Rattle.state_codec.specs.Records.{written_flag, written_flags, written_value, IsRecorded}
use Rattle.state_codec.specs.Types.{FitsValue}
use Rattle.state_codec.specs.Snapshots.{written_delay, written_row}
use Rattle.state_codec.specs.declared.reading_keys.Keys.{Keys}
use Rattle.state_codec.specs.SnapshotSteps.{SettingsData, no_keys, are_clear, has_inhibit, is_none, object_with, row_with, settings_at, row_at}
use Rattle.state_codec.specs.SnapshotLaws.{HasRow}
use Rattle.state_codec.proofs.Behind.{Reads}
use Rattle.state_codec.proofs.PartLaws.{IsAny, AreThree}
use Rattle.state_codec.proofs.Together.{reads_made}
use Rattle.state_codec.proofs.KeysLaws.{AreKeys, AreLimits, IsDelay, Kept, KeepsBinary, keys_with, keys_of_parts, written_keys_of}
use Rattle.state_codec.proofs.RowLaws.{AreSettings, keys_of, keys_written, settings_reads, written_settings}

-- ---- present values

-- no object has one of these as its present value
abbrev IsOther : Value → Type 0
IsOther (values.Bool flag) = ⊥
IsOther (values.Unsigned number) = ⊥
IsOther (values.Signed number) = ⊥
IsOther (values.Text text) = ⊥
IsOther (values.Bits string) = ⊥
IsOther (values.Enumerated number) = ⊥
IsOther values.Null = Unit {0}
IsOther (values.Object object) = Unit {0}
IsOther (values.DateTime stamp) = Unit {0}
IsOther (values.Opaque tag why) = Unit {0}

not_flags : (old value : Value) → IsOther value → has_length_of old value ≡ true → ⊥
not_flags (values.Bool old) value other is = cc
not_flags (values.Unsigned old) value other is = cc
not_flags (values.Signed old) value other is = cc
not_flags (values.Text old) value other is = cc
not_flags (values.Bits before) values.Null other is = cc
not_flags (values.Bits before) (values.Object object) other is = cc
not_flags (values.Bits before) (values.DateTime stamp) other is = cc
not_flags (values.Bits before) (values.Opaque tag why) other is = cc
not_flags (values.Bits before) (values.Bool flag) other is = other
not_flags (values.Bits before) (values.Unsigned number) other is = other
not_flags (values.Bits before) (values.Signed number) other is = other
not_flags (values.Bits before) (values.Text text) other is = other
not_flags (values.Bits before) (values.Bits string) other is = other
not_flags (values.Bits before) (values.Enumerated number) other is = other
not_flags (values.Enumerated old) value other is = cc
not_flags values.Null value other is = cc
not_flags (values.Object old) value other is = cc
not_flags (values.DateTime old) value other is = cc
not_flags (values.Opaque old cause) value other is = cc

not_present : (kind : Option ObjectKind) (site : ObjectSite) (value : Value) → IsOther value → is_present_value kind site value ≡ true → ⊥
not_present (Some BitStringValue) site value other is = not_flags site.value value other is
not_present (Some BinaryValue) site values.Null other is = cc
not_present (Some BinaryValue) site (values.Object object) other is = cc
not_present (Some BinaryValue) site (values.DateTime stamp) other is = cc
not_present (Some BinaryValue) site (values.Opaque tag why) other is = cc
not_present (Some BinaryValue) site (values.Bool flag) other is = other
not_present (Some BinaryValue) site (values.Unsigned number) other is = other
not_present (Some BinaryValue) site (values.Signed number) other is = other
not_present (Some BinaryValue) site (values.Text text) other is = other
not_present (Some BinaryValue) site (values.Bits string) other is = other
not_present (Some BinaryValue) site (values.Enumerated number) other is = other
not_present (Some Device) site values.Null other is = cc
not_present (Some Device) site (values.Object object) other is = cc
not_present (Some Device) site (values.DateTime stamp) other is = cc
not_present (Some Device) site (values.Opaque tag why) other is = cc
not_present (Some Device) site (values.Bool flag) other is = other
not_present (Some Device) site (values.Unsigned number) other is = other
not_present (Some Device) site (values.Signed number) other is = other
not_present (Some Device) site (values.Text text) other is = other
not_present (Some Device) site (values.Bits string) other is = other
not_present (Some Device) site (values.Enumerated number) other is = other
not_present (Some EventEnrollment) site values.Null other is = cc
not_present (Some EventEnrollment) site (values.Object object) other is = cc
not_present (Some EventEnrollment) site (values.DateTime stamp) other is = cc
not_present (Some EventEnrollment) site (values.Opaque tag why) other is = cc
not_present (Some EventEnrollment) site (values.Bool flag) other is = other
not_present (Some EventEnrollment) site (values.Unsigned number) other is = other
not_present (Some EventEnrollment) site (values.Signed number) other is = other
not_present (Some EventEnrollment) site (values.Text text) other is = other
not_present (Some EventEnrollment) site (values.Bits string) other is = other
not_present (Some EventEnrollment) site (values.Enumerated number) other is = other
not_present (Some NotificationClass) site values.Null other is = cc
not_present (Some NotificationClass) site (values.Object object) other is = cc
not_present (Some NotificationClass) site (values.DateTime stamp) other is = cc
not_present (Some NotificationClass) site (values.Opaque tag why) other is = cc
not_present (Some NotificationClass) site (values.Bool flag) other is = other
not_present (Some NotificationClass) site (values.Unsigned number) other is = other
not_present (Some NotificationClass) site (values.Signed number) other is = other
not_present (Some NotificationClass) site (values.Text text) other is = other
not_present (Some NotificationClass) site (values.Bits string) other is = other
not_present (Some NotificationClass) site (values.Enumerated number) other is = other
not_present (Some MultiStateValue) site values.Null other is = cc
not_present (Some MultiStateValue) site (values.Object object) other is = cc
not_present (Some MultiStateValue) site (values.DateTime stamp) other is = cc
not_present (Some MultiStateValue) site (values.Opaque tag why) other is = cc
not_present (Some MultiStateValue) site (values.Bool flag) other is = other
not_present (Some MultiStateValue) site (values.Unsigned number) other is = other
not_present (Some MultiStateValue) site (values.Signed number) other is = other
not_present (Some MultiStateValue) site (values.Text text) other is = other
not_present (Some MultiStateValue) site (values.Bits string) other is = other
not_present (Some MultiStateValue) site (values.Enumerated number) other is = other
not_present (Some EventLog) site values.Null other is = cc
not_present (Some EventLog) site (values.Object object) other is = cc
not_present (Some EventLog) site (values.DateTime stamp) other is = cc
not_present (Some EventLog) site (values.Opaque tag why) other is = cc
not_present (Some EventLog) site (values.Bool flag) other is = other
not_present (Some EventLog) site (values.Unsigned number) other is = other
not_present (Some EventLog) site (values.Signed number) other is = other
not_present (Some EventLog) site (values.Text text) other is = other
not_present (Some EventLog) site (values.Bits string) other is = other
not_present (Some EventLog) site (values.Enumerated number) other is = other
not_present (Some CharacterStringValue) site values.Null other is = cc
not_present (Some CharacterStringValue) site (values.Object object) other is = cc
not_present (Some CharacterStringValue) site (values.DateTime stamp) other is = cc
not_present (Some CharacterStringValue) site (values.Opaque tag why) other is = cc
not_present (Some CharacterStringValue) site (values.Bool flag) other is = other
not_present (Some CharacterStringValue) site (values.Unsigned number) other is = other
not_present (Some CharacterStringValue) site (values.Signed number) other is = other
not_present (Some CharacterStringValue) site (values.Text text) other is = other
not_present (Some CharacterStringValue) site (values.Bits string) other is = other
not_present (Some CharacterStringValue) site (values.Enumerated number) other is = other
not_present (Some IntegerValue) site values.Null other is = cc
not_present (Some IntegerValue) site (values.Object object) other is = cc
not_present (Some IntegerValue) site (values.DateTime stamp) other is = cc
not_present (Some IntegerValue) site (values.Opaque tag why) other is = cc
not_present (Some IntegerValue) site (values.Bool flag) other is = other
not_present (Some IntegerValue) site (values.Unsigned number) other is = other
not_present (Some IntegerValue) site (values.Signed number) other is = other
not_present (Some IntegerValue) site (values.Text text) other is = other
not_present (Some IntegerValue) site (values.Bits string) other is = other
not_present (Some IntegerValue) site (values.Enumerated number) other is = other
not_present (Some PositiveIntegerValue) site values.Null other is = cc
not_present (Some PositiveIntegerValue) site (values.Object object) other is = cc
not_present (Some PositiveIntegerValue) site (values.DateTime stamp) other is = cc
not_present (Some PositiveIntegerValue) site (values.Opaque tag why) other is = cc
not_present (Some PositiveIntegerValue) site (values.Bool flag) other is = other
not_present (Some PositiveIntegerValue) site (values.Unsigned number) other is = other
not_present (Some PositiveIntegerValue) site (values.Signed number) other is = other
not_present (Some PositiveIntegerValue) site (values.Text text) other is = other
not_present (Some PositiveIntegerValue) site (values.Bits string) other is = other
not_present (Some PositiveIntegerValue) site (values.Enumerated number) other is = other
not_present None site value other is = cc

recorded_present : (kind : Option ObjectKind) (site : ObjectSite) (value : Value) → FitsValue value → is_present_value kind site value ≡ true → IsRecorded value
recorded_present kind site (values.Bool flag) fits is = fits
recorded_present kind site (values.Unsigned number) fits is = fits
recorded_present kind site (values.Signed number) fits is = fits
recorded_present kind site (values.Text text) fits is = fits
recorded_present kind site (values.Bits string) fits is = fits
recorded_present kind site (values.Enumerated number) fits is = fits
recorded_present kind site values.Null fits is = absurd (not_present kind site values.Null tt is)
recorded_present kind site (values.Object object) fits is = absurd (not_present kind site (values.Object object) tt is)
recorded_present kind site (values.DateTime stamp) fits is = absurd (not_present kind site (values.DateTime stamp) tt is)
recorded_present kind site (values.Opaque tag why) fits is = absurd (not_present kind site (values.Opaque tag why) tt is)

-- the value that an object has is one that it can have
same_length : (old value : Value) → has_length_of old value ≡ true → has_length_of value value ≡ true
same_length (values.Bool old) value is = absurd cc
same_length (values.Unsigned old) value is = absurd cc
same_length (values.Signed old) value is = absurd cc
same_length (values.Text old) value is = absurd cc
same_length (values.Bits before) (values.Bool flag) is = absurd cc
same_length (values.Bits before) (values.Unsigned number) is = absurd cc
same_length (values.Bits before) (values.Signed number) is = absurd cc
same_length (values.Bits before) (values.Text text) is = absurd cc
same_length (values.Bits before) (values.Bits string) is = eq-eqb string.size string.size refl
same_length (values.Bits before) (values.Enumerated number) is = absurd cc
same_length (values.Bits before) values.Null is = absurd cc
same_length (values.Bits before) (values.Object object) is = absurd cc
same_length (values.Bits before) (values.DateTime stamp) is = absurd cc
same_length (values.Bits before) (values.Opaque tag why) is = absurd cc
same_length (values.Enumerated old) value is = absurd cc
same_length values.Null value is = absurd cc
same_length (values.Object old) value is = absurd cc
same_length (values.DateTime old) value is = absurd cc
same_length (values.Opaque old cause) value is = absurd cc

present_own : (kind : Option ObjectKind) (site : ObjectSite) (x : SettingsData) → is_present_value kind site x.0 ≡ true → is_present_value kind (object_with site x) x.0 ≡ true
present_own (Some BitStringValue) site x is = same_length site.value x.0 is
present_own (Some BinaryValue) site x is = is
present_own (Some Device) site x is = is
present_own (Some EventEnrollment) site x is = is
present_own (Some NotificationClass) site x is = is
present_own (Some MultiStateValue) site x is = is
present_own (Some EventLog) site x is = is
present_own (Some CharacterStringValue) site x is = is
present_own (Some IntegerValue) site x is = is
present_own (Some PositiveIntegerValue) site x is = is
present_own None site x is = is

-- ---- limits and alarm values

abbrev three_clear : List Bool
three_clear = false ∷ false ∷ false ∷ []

clear_three : (flags : List Bool) → length flags ≡ 3 → are_clear flags ≡ true → flags ≡ three_clear
clear_three (false ∷ false ∷ false ∷ []) long clear = refl
clear_three (true ∷ b ∷ c ∷ []) long clear = absurd cc
clear_three (false ∷ true ∷ c ∷ []) long clear = absurd cc
clear_three (false ∷ false ∷ true ∷ []) long clear = absurd cc
clear_three [] long clear = absurd (omega (arith, long))
clear_three (a ∷ []) long clear = absurd (omega (arith, long))
clear_three (a ∷ b ∷ []) long clear = absurd (omega (arith, long))
clear_three (a ∷ b ∷ c ∷ d ∷ more) long clear = absurd (omega (arith, long))

clear_two : (flags : List Bool) → length flags ≡ 2 → are_clear flags ≡ true → flags ≡ false ∷ false ∷ []
clear_two (false ∷ false ∷ []) long clear = refl
clear_two (true ∷ b ∷ []) long clear = absurd cc
clear_two (false ∷ true ∷ []) long clear = absurd cc
clear_two [] long clear = absurd (omega (arith, long))
clear_two (a ∷ []) long clear = absurd (omega (arith, long))
clear_two (a ∷ b ∷ c ∷ more) long clear = absurd (omega (arith, long))

is_zero : (number : ℤ) → is_none number ≡ true → number ≡ pos 0
is_zero (pos zero) is = refl
is_zero (pos (suc n)) is = absurd cc
is_zero (negsuc n) is = absurd cc

no_value : (value : Option Value) → is_some value ≡ false → value ≡ None
no_value None is = refl
no_value (Some value) is = absurd cc

lacks_all : (site : ObjectSite) → keys_of site ≡ no_keys → LacksLimits site
lacks_all site same = record {
  low = ap (λ (k : Keys). k.low) same;
  high = ap (λ (k : Keys). k.high) same;
  deadband = ap (λ (k : Keys). k.deadband) same;
  flags = ap (λ (k : Keys). k.limit_enable) same;
}

lacks_but_value : (site : ObjectSite) → keys_of site ≡ keys_with site.alarm_value → LacksLimits site
lacks_but_value site same = record {
  low = ap (λ (k : Keys). k.low) same;
  high = ap (λ (k : Keys). k.high) same;
  deadband = ap (λ (k : Keys). k.deadband) same;
  flags = ap (λ (k : Keys). k.limit_enable) same;
}

has_no_value : (site : ObjectSite) → keys_of site ≡ no_keys → IsNone site.alarm_value
has_no_value site same = ap (λ (k : Keys). is_some k.alarm_value) same

limits_there : (Within : ℤ → Type 0) (site : ObjectSite) → AreLimits true Within (keys_of site) → Within site.low × Within site.high × (length site.limit_enable ≡ 2) × IsNone site.alarm_value
limits_there Within site are = (are.low.0, are.high.0, are.flags.0, ap is_some are.alone)

keeps_binary : (value : Option Value) → KeepsBinary true value → KeepsAlarmValue (Some BinaryValue) value
keeps_binary (Some value) keeps = keeps
keeps_binary None keeps = absurd keeps

has_keys : (kind : Option ObjectKind) (site : ObjectSite) → AreKeys kind true (keys_of site) → KeepsLimits kind site × KeepsAlarmValue kind site.alarm_value
has_keys (Some IntegerValue) site are = let t = limits_there (IsWithin (Some IntegerValue)) site are in (record { low = t.0; high = t.1; flags = t.2 }, t.3)
has_keys (Some PositiveIntegerValue) site are = let t = limits_there (IsWithin (Some PositiveIntegerValue)) site are in (record { low = t.0; high = t.1; flags = t.2 }, t.3)
has_keys (Some BinaryValue) site are = (lacks_but_value site are.0, keeps_binary site.alarm_value are.1)
has_keys (Some MultiStateValue) site are = (lacks_all site are, has_no_value site are)
has_keys (Some BitStringValue) site are = (lacks_all site are, has_no_value site are)
has_keys (Some CharacterStringValue) site are = (lacks_all site are, has_no_value site are)
has_keys (Some Device) site are = (lacks_all site are, has_no_value site are)
has_keys (Some EventEnrollment) site are = (lacks_all site are, has_no_value site are)
has_keys (Some NotificationClass) site are = (lacks_all site are, has_no_value site are)
has_keys (Some EventLog) site are = (lacks_all site are, has_no_value site are)
has_keys None site are = (lacks_all site are, has_no_value site are)

limits_absent : (Within : ℤ → Type 0) (site : ObjectSite) → AreLimits false Within (keys_of site) → LacksLimits site × IsNone site.alarm_value
limits_absent Within site are = (record { low = is_zero site.low are.low.1; high = is_zero site.high are.high.1; deadband = eqb-true site.deadband 0 are.deadband.1; flags = clear_two site.limit_enable are.flags.0 are.flags.1 }, ap is_some are.alone)

no_binary : (value : Option Value) → KeepsBinary false value → IsNone value
no_binary (Some value) keeps = absurd keeps
no_binary None keeps = refl

lacks_keys : (kind : Option ObjectKind) (site : ObjectSite) → AreKeys kind false (keys_of site) → LacksLimits site × IsNone site.alarm_value
lacks_keys (Some IntegerValue) site are = limits_absent (IsWithin (Some IntegerValue)) site are
lacks_keys (Some PositiveIntegerValue) site are = limits_absent (IsWithin (Some PositiveIntegerValue)) site are
lacks_keys (Some BinaryValue) site are = (lacks_but_value site are.0, no_binary site.alarm_value are.1)
lacks_keys (Some MultiStateValue) site are = (lacks_all site are, has_no_value site are)
lacks_keys (Some BitStringValue) site are = (lacks_all site are, has_no_value site are)
lacks_keys (Some CharacterStringValue) site are = (lacks_all site are, has_no_value site are)
lacks_keys (Some Device) site are = (lacks_all site are, has_no_value site are)
lacks_keys (Some EventEnrollment) site are = (lacks_all site are, has_no_value site are)
lacks_keys (Some NotificationClass) site are = (lacks_all site are, has_no_value site are)
lacks_keys (Some EventLog) site are = (lacks_all site are, has_no_value site are)
lacks_keys None site are = (lacks_all site are, has_no_value site are)

-- and back

only_value : (site : ObjectSite) → LacksLimits site → keys_of site ≡ keys_with site.alarm_value
only_value site lacks =
    ap (λ (z : ℤ). keys_of_parts z site.low site.deadband site.limit_enable site.alarm_value) lacks.high
    ∙ ap (λ (z : ℤ). keys_of_parts (pos 0) z site.deadband site.limit_enable site.alarm_value) lacks.low
    ∙ ap (λ (n : ℕ). keys_of_parts (pos 0) (pos 0) n site.limit_enable site.alarm_value) lacks.deadband
    ∙ ap (λ (f : List Bool). keys_of_parts (pos 0) (pos 0) 0 f site.alarm_value) lacks.flags

nothing_there : (site : ObjectSite) → LacksLimits site → IsNone site.alarm_value → keys_of site ≡ no_keys
nothing_there site lacks none = only_value site lacks ∙ ap keys_with (no_value site.alarm_value none)

limits_from : (Within : ℤ → Type 0) (site : ObjectSite) → Within site.low → Within site.high → length site.limit_enable ≡ 2 → IsNone site.alarm_value → site.deadband < 2 ^ 32 → AreLimits true Within (keys_of site)
limits_from Within site low high flags none lt = record { high = (high, refl); low = (low, refl); deadband = (lt, refl); flags = (flags, refl); alone = no_value site.alarm_value none }

binary_from : (value : Option Value) → KeepsAlarmValue (Some BinaryValue) value → KeepsBinary true value
binary_from (Some value) keeps = keeps
binary_from None keeps = absurd keeps

keys_from_has : (kind : Option ObjectKind) (site : ObjectSite) → KeepsLimits kind site → KeepsAlarmValue kind site.alarm_value → site.deadband < 2 ^ 32 → AreKeys kind true (keys_of site)
keys_from_has (Some IntegerValue) site limits value lt = limits_from (IsWithin (Some IntegerValue)) site limits.low limits.high limits.flags value lt
keys_from_has (Some PositiveIntegerValue) site limits value lt = limits_from (IsWithin (Some PositiveIntegerValue)) site limits.low limits.high limits.flags value lt
keys_from_has (Some BinaryValue) site limits value lt = (only_value site limits, binary_from site.alarm_value value)
keys_from_has (Some MultiStateValue) site limits value lt = nothing_there site limits value
keys_from_has (Some BitStringValue) site limits value lt = nothing_there site limits value
keys_from_has (Some CharacterStringValue) site limits value lt = nothing_there site limits value
keys_from_has (Some Device) site limits value lt = nothing_there site limits value
keys_from_has (Some EventEnrollment) site limits value lt = nothing_there site limits value
keys_from_has (Some NotificationClass) site limits value lt = nothing_there site limits value
keys_from_has (Some EventLog) site limits value lt = nothing_there site limits value
keys_from_has None site limits value lt = nothing_there site limits value

signed_zero : IsWithin (Some IntegerValue) (pos 0)
signed_zero = laws.to_z-Fits w32 0 (record { fits = omega arith })

unsigned_zero : IsWithin (Some PositiveIntegerValue) (pos 0)
unsigned_zero = (omega (arith, ints), omega (arith, ints))

absent_from : (Within : ℤ → Type 0) (site : ObjectSite) → Within (pos 0) → LacksLimits site → IsNone site.alarm_value → AreLimits false Within (keys_of site)
absent_from Within site zero_is lacks none = record {
  high = (subst Within (sym lacks.high) zero_is, ap is_none lacks.high);
  low = (subst Within (sym lacks.low) zero_is, ap is_none lacks.low);
  deadband = (omega (arith, lacks.deadband), eq-eqb site.deadband 0 lacks.deadband);
  flags = (ap (λ (f : List Bool). length f) lacks.flags, ap are_clear lacks.flags);
  alone = no_value site.alarm_value none;
}

binary_absent : (value : Option Value) → IsNone value → KeepsBinary false value
binary_absent (Some value) none = absurd (let e = none in cc)
binary_absent None none = tt

pub keys_from_lacks : (kind : Option ObjectKind) (site : ObjectSite) → LacksLimits site → IsNone site.alarm_value → AreKeys kind false (keys_of site)
keys_from_lacks (Some IntegerValue) site lacks none = absent_from (IsWithin (Some IntegerValue)) site signed_zero lacks none
keys_from_lacks (Some PositiveIntegerValue) site lacks none = absent_from (IsWithin (Some PositiveIntegerValue)) site unsigned_zero lacks none
keys_from_lacks (Some BinaryValue) site lacks none = (only_value site lacks, binary_absent site.alarm_value none)
keys_from_lacks (Some MultiStateValue) site lacks none = nothing_there site lacks none
keys_from_lacks (Some BitStringValue) site lacks none = nothing_there site lacks none
keys_from_lacks (Some CharacterStringValue) site lacks none = nothing_there site lacks none
keys_from_lacks (Some Device) site lacks none = nothing_there site lacks none
keys_from_lacks (Some EventEnrollment) site lacks none = nothing_there site lacks none
keys_from_lacks (Some NotificationClass) site lacks none = nothing_there site lacks none
keys_from_lacks (Some EventLog) site lacks none = nothing_there site lacks none
keys_from_lacks None site lacks none = nothing_there site lacks none

-- ---- what only an object with a class has

not_set : (flag : Bool) → not flag ≡ true → flag ≡ false
not_set true e = absurd cc
not_set false e = refl

-- a flag that isn't set where an object has a reference
pub not_beside : (reference : Option ObjectIdData) (flag : Bool) → (not (is_some reference) || not flag) ≡ true → IsSome reference → flag ≡ false
not_beside None flag kept some = absurd cc
not_beside (Some referred) flag kept some = not_set flag kept

pub alone : (reference : Option ObjectIdData) (flag : Bool) → (IsSome reference → flag ≡ false) → (not (is_some reference) || not flag) ≡ true
alone None flag h = refl
alone (Some referred) flag h = ap not (h refl)

-- an object with other settings, which were read, may have the class that it had
alarm_with : (kind : Option ObjectKind) (class : Option ℕ) (site : ObjectSite) (x : SettingsData) → KeepsAlarmKeys kind class site
    → Kept (is_some class && not (is_some site.inhibit_ref)) not IsAny x.1.1.0 → Kept (is_some class) are_clear AreThree x.1.1.1.1.1.0 → Kept (is_some class) (λ n. eqb n 0) (λ n. n < 2 ^ 32) x.1.1.1.1.1.1.0
    → IsDelay (is_some site.time_delay_normal) x.1.1.1.1.1.1.1.0 → AreKeys kind (is_some class) x.1.1.1.1.1.1.1.1 → KeepsAlarmKeys kind class (object_with site x)
alarm_with kind (Some class) site x keeps inhibit enable delay normal keys =
    let t = has_keys kind (object_with site x) keys in
    record {
      notify = keeps.notify;
      enable = enable.0;
      inhibit = not_beside site.inhibit_ref x.1.1.0 inhibit.1;
      reference = keeps.reference;
      texts = keeps.texts;
      limits = t.0;
      alarm_value = t.1;
      alarm_values = keeps.alarm_values;
      few = keeps.few;
      some = keeps.some;
      mask = keeps.mask;
    }
alarm_with kind None site x keeps inhibit enable delay normal keys =
    let t = lacks_keys kind (object_with site x) keys in
    record {
      notify = keeps.notify;
      enable = clear_three x.1.1.1.1.1.0 enable.0 enable.1;
      time_delay = eqb-true x.1.1.1.1.1.1.0 0 delay.1;
      time_delay_normal = normal.0 ∙ keeps.time_delay_normal;
      detection = keeps.detection;
      inhibit = not_set x.1.1.0 inhibit.1;
      inhibit_ref = keeps.inhibit_ref;
      texts = keeps.texts;
      limits = t.0;
      alarm_value = t.1;
      alarm_values = keeps.alarm_values;
      mask = keeps.mask;
    }

-- what an object with a class or one without has
alarm_from : (kind : Option ObjectKind) (class : Option ℕ) (site : ObjectSite) → KeepsAlarmKeys kind class site → site.time_delay < 2 ^ 32 → site.deadband < 2 ^ 32
    → Kept (is_some class && not (is_some site.inhibit_ref)) not IsAny site.inhibit × Kept (is_some class) are_clear AreThree site.enable × Kept (is_some class) (λ n. eqb n 0) (λ n. n < 2 ^ 32) site.time_delay × AreKeys kind (is_some class) (keys_of site)
alarm_from kind (Some class) site keeps delay deadband = ((tt, alone site.inhibit_ref site.inhibit keeps.inhibit), (keeps.enable, refl), (delay, refl), keys_from_has kind site keeps.limits keeps.alarm_value deadband)
alarm_from kind None site keeps delay deadband =
    ((tt, ap not keeps.inhibit), (ap (λ (f : List Bool). length f) keeps.enable, ap are_clear keeps.enable), (delay, eq-eqb site.time_delay 0 keeps.time_delay), keys_from_lacks kind site keeps.limits keeps.alarm_value)

-- ---- rows

abbrev settings_of : Row → SettingsData
settings_of row =
    (row.site.value, (row.site.out_of_service, (row.site.inhibit, (row.site.reliability_inhibit, (row.field_fault, (row.site.enable, (row.site.time_delay, (row.site.time_delay_normal, keys_of row.site))))))))

abbrev row_of_object : ObjectSite → ℕ → Row
row_of_object site fault = record { site = site; field_fault = fault }

-- the octets of settings, and others behind them
abbrev behind_settings : SettingsData → List ℕ → List ℕ
behind_settings x keys =
    written_value x.0 ++ (written_flag x.1.0 ++ (written_flag x.1.1.0 ++ (written_flag x.1.1.1.0 ++ (x.1.1.1.1.0 ∷ (written_flags x.1.1.1.1.1.0 ++ (to_be_bytes w32 x.1.1.1.1.1.1.0 ++ (written_delay x.1.1.1.1.1.1.1.0 ++ keys)))))))

fits_value : (value : Value) → IsRecorded value → FitsValue value
fits_value (values.Bool flag) is = is
fits_value (values.Unsigned number) is = is
fits_value (values.Signed number) is = is
fits_value (values.Text text) is = is
fits_value (values.Bits string) is = is
fits_value (values.Enumerated number) is = is
fits_value values.Null is = absurd is
fits_value (values.Object object) is = absurd is
fits_value (values.DateTime stamp) is = absurd is
fits_value (values.Opaque tag why) is = absurd is

deadband_fits : (kind : Option ObjectKind) (has : Bool) (site : ObjectSite) → AreKeys kind has (keys_of site) → site.deadband < 2 ^ 32
deadband_fits (Some IntegerValue) has site are = are.deadband.0
deadband_fits (Some PositiveIntegerValue) has site are = are.deadband.0
deadband_fits (Some BinaryValue) has site are = omega (arith, ap (λ (k : Keys). k.deadband) are.0)
deadband_fits (Some MultiStateValue) has site are = omega (arith, ap (λ (k : Keys). k.deadband) are)
deadband_fits (Some BitStringValue) has site are = omega (arith, ap (λ (k : Keys). k.deadband) are)
deadband_fits (Some CharacterStringValue) has site are = omega (arith, ap (λ (k : Keys). k.deadband) are)
deadband_fits (Some Device) has site are = omega (arith, ap (λ (k : Keys). k.deadband) are)
deadband_fits (Some EventEnrollment) has site are = omega (arith, ap (λ (k : Keys). k.deadband) are)
deadband_fits (Some NotificationClass) has site are = omega (arith, ap (λ (k : Keys). k.deadband) are)
deadband_fits (Some EventLog) has site are = omega (arith, ap (λ (k : Keys). k.deadband) are)
deadband_fits None has site are = omega (arith, ap (λ (k : Keys). k.deadband) are)

row_forth : (site : ObjectSite) → IsObject site → (x : SettingsData) → AreSettings site x → HasRow site (row_with site x) × (written_row (row_with site x) ≡ written_settings (kind_in site) x)
row_forth site is x f =
    let rest = f.1.1.1.1.1 in
    let alarm : KeepsAlarmKeys (kind_in site) site.class (object_with site x) = alarm_with (kind_in site) site.class site x is.alarm f.1.1.0 rest.0 rest.1.0 rest.1.1.0 rest.1.1.1 in
    let object : IsObject (object_with site x) = record { instance = is.instance; value = present_own (kind_in site) site x f.0.1; states = is.states; fault_limits = is.fault_limits; fault_values = is.fault_values; few = is.few; alarm = alarm } in (
      record {
        written = record { same = refl; value = f.0.1; delay = rest.1.1.0.0; takes = record { site = object; field_fault = f.1.1.1.1.0.1 } };
        fits = record { value = fits_value x.0 f.0.0; delay = rest.1.0.0; normal_delay = rest.1.1.0.1; deadband = deadband_fits (kind_in site) (is_some site.class) (object_with site x) rest.1.1.1; field_fault = f.1.1.1.1.0.0 };
      },
      ap (behind_settings x) (keys_written (kind_in site) (object_with site x)),
    )

row_back : (site : ObjectSite) → IsObject site → (row : Row) → HasRow site row → AreSettings site (settings_of row) × (row_with site (settings_of row) ≡ row) × (written_row row ≡ written_settings (kind_in site) (settings_of row))
row_back site is row f =
    let kind_same : kind_in row.site ≡ kind_in site = ap kind_in f.written.same in
    let class_same : row.site.class ≡ site.class = ap (λ (s : ObjectSite). s.class) f.written.same in
    let reference_same : row.site.inhibit_ref ≡ site.inhibit_ref = ap (λ (s : ObjectSite). s.inhibit_ref) f.written.same in
    let keeps : KeepsAlarmKeys (kind_in site) site.class row.site = subst (λ (c : Option ℕ). KeepsAlarmKeys (kind_in site) c row.site) class_same (subst (λ (k : Option ObjectKind). KeepsAlarmKeys k row.site.class row.site) kind_same f.written.takes.site.alarm) in
    let t = alarm_from (kind_in site) site.class row.site keeps f.fits.delay f.fits.deadband in
    let inhibit : Kept (has_inhibit site) not IsAny row.site.inhibit = subst (λ (r : Option ObjectIdData). Kept (is_some site.class && not (is_some r)) not IsAny row.site.inhibit) reference_same t.0 in (
      (
        (recorded_present (kind_in site) site row.site.value f.fits.value f.written.value, f.written.value),
        (tt, (inhibit, (tt, ((f.fits.field_fault, f.written.takes.field_fault), (t.1, (t.2, ((f.written.delay, f.fits.normal_delay), t.3))))))),
      ),
      ap (λ (s : ObjectSite). row_of_object s row.field_fault) (sym f.written.same),
      ap (behind_settings (settings_of row)) (keys_written (kind_in row.site) row.site ∙ ap (λ (k : Option ObjectKind). written_keys_of k (keys_of row.site)) kind_same),
    )

-- a row is read exactly as it is written, and those that an object of a site may have
pub row_reads : (site : ObjectSite) → IsObject site → Reads (row_at site) written_row (HasRow site)
unfolding row_at
row_reads site is = reads_made (settings_at site) (row_with site) settings_of (written_settings (kind_in site)) (AreSettings site) written_row (HasRow site) (settings_reads site) (row_forth site is) (row_back site is)
