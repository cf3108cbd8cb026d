-- Rows of value objects: each is read exactly as it is written, and those that a site's object may have.
use Rattle.std.proofs.Common.{◌≡◌, ℕ, ◌^◌, ◌<◌, Bool, true, not, eqb, List, ◌++◌, Option, Some, None, is_some, refl}
use Rattle.std.specs.Int.{w32, to_be_bytes}
use Rattle.bac_values.specs.declared.object_kind.ObjectKind.{ObjectKind}
use Rattle.bac_values.specs.declared.object_kind.ObjectKind.TheVariants.{BinaryValue, Device, EventEnrollment, NotificationClass, MultiStateValue, EventLog, BitStringValue, CharacterStringValue, IntegerValue, PositiveIntegerValue}
use Rattle.bac_values.specs.declared.value.Value.{Value}
use Rattle.object_table.specs.Properties.{kind_in}
use Rattle.object_table.specs.Values.{is_field_fault, is_present_value}
use Rattle.object_table.specs.declared.object_site.ObjectSite.{ObjectSite}
use Rattle.state_codec.specs.Records.{written_flag, written_flags, written_value, IsRecorded}
use Rattle.state_codec.specs.Snapshots.{written_delay, written_keys}
use Rattle.state_codec.specs.declared.reading_keys.Keys.{Keys}
use Rattle.state_codec.specs.ReadingSteps.{octet_at, number_at, flag_at, flags_at, value_at}
use Rattle.state_codec.specs.SnapshotSteps.{DetectionData, SettingsData, where_at, kept_at, are_clear, delay_at, has_inhibit, present_at, detection_at, settings_at}
use Rattle.state_codec.proofs.Behind.{Reads}
use Rattle.state_codec.proofs.PartLaws.{written_octet, IsOctet, IsBelow, IsAny, AreThree, octet_reads, u32_reads, flag_reads, flags_reads}
use Rattle.state_codec.proofs.ValueLaws.{value_reads}
use Rattle.state_codec.proofs.Together.{reads_pair, reads_where}
use Rattle.state_codec.proofs.KeysLaws.{AreKeys, IsDelay, Kept, delay_reads, keys_reads, reads_kept, written_keys_of}

-- ---- values and field faults

-- a value that a write of Present_Value takes, and that has a record
abbrev pub IsPresent : ObjectSite → Value → Type 0
IsPresent site value = IsRecorded value × (is_present_value (kind_in site) site value ≡ true)

present_reads : (site : ObjectSite) → Reads (present_at site) written_value (IsPresent site)
unfolding present_at
present_reads site = reads_where value_at (is_present_value (kind_in site) site) written_value IsRecorded (IsPresent site) value_reads (λ a f t. (f, t)) (λ a f. f)

abbrev pub IsFieldFault : ℕ → Type 0
IsFieldFault fault = (fault < 256) × (is_field_fault fault ≡ true)

fault_reads : Reads (where_at octet_at is_field_fault) written_octet IsFieldFault
fault_reads = reads_where octet_at is_field_fault written_octet IsOctet IsFieldFault octet_reads (λ a f t. (f, t)) (λ a f. f)

-- ---- what is kept of detection

abbrev pub written_detection : Option ObjectKind → DetectionData → List ℕ
written_detection kind x = written_flags x.0 ++ (to_be_bytes w32 x.1.0 ++ (written_delay x.1.1.0 ++ written_keys_of kind x.1.1.1))

-- the class is there or isn't
abbrev pub AreDetection : ObjectSite → DetectionData → Type 0
AreDetection site x =
    Kept (is_some site.class) are_clear AreThree x.0
    × (Kept (is_some site.class) (λ n. eqb n 0) (IsBelow (2 ^ 32)) x.1.0
    × (IsDelay (is_some site.time_delay_normal) x.1.1.0 × AreKeys (kind_in site) (is_some site.class) x.1.1.1))

detection_reads : (site : ObjectSite) → Reads (detection_at site) (written_detection (kind_in site)) (AreDetection site)
unfolding detection_at
detection_reads site =
    let has = is_some site.class in
    reads_pair (kept_at (is_some site.class) flags_at are_clear) _ written_flags (λ (x : ℕ × (Option ℕ × Keys)). to_be_bytes w32 x.0 ++ (written_delay x.1.0 ++ written_keys_of (kind_in site) x.1.1)) (Kept (is_some site.class) are_clear AreThree)
    (λ a x. Kept (is_some site.class) (λ n. eqb n 0) (IsBelow (2 ^ 32)) x.0 × (IsDelay (is_some site.time_delay_normal) x.1.0 × AreKeys (kind_in site) (is_some site.class) x.1.1))
    (reads_kept (is_some site.class) flags_at are_clear written_flags AreThree flags_reads) (λ enable is_enable.
    reads_pair (kept_at (is_some site.class) (number_at w32) λ seconds. eqb seconds 0) _ (to_be_bytes w32) (λ (x : Option ℕ × Keys). written_delay x.0 ++ written_keys_of (kind_in site) x.1) (Kept (is_some site.class) (λ n. eqb n 0) (IsBelow (2 ^ 32)))
    (λ a x. IsDelay (is_some site.time_delay_normal) x.0 × AreKeys (kind_in site) (is_some site.class) x.1)
    (reads_kept (is_some site.class) (number_at w32) (λ n. eqb n 0) (to_be_bytes w32) (IsBelow (2 ^ 32)) u32_reads) (λ seconds is_seconds.
    reads_pair (delay_at (is_some site.time_delay_normal)) _ written_delay (written_keys_of (kind_in site)) (IsDelay (is_some site.time_delay_normal)) (λ a. AreKeys (kind_in site) (is_some site.class)) (delay_reads (is_some site.time_delay_normal)) (λ normal is_normal.
    keys_reads (kind_in site) (is_some site.class))))

-- ---- settings

abbrev pub written_settings : Option ObjectKind → SettingsData → List ℕ
written_settings kind x =
    written_value x.0 ++ (written_flag x.1.0 ++ (written_flag x.1.1.0 ++ (written_flag x.1.1.1.0 ++ (written_octet x.1.1.1.1.0 ++ written_detection kind x.1.1.1.1.1))))

abbrev pub AreSettings : ObjectSite → SettingsData → Type 0
AreSettings site x =
    IsPresent site x.0 × (Unit {0} × (Kept (has_inhibit site) not IsAny x.1.1.0 × (Unit {0} × (IsFieldFault x.1.1.1.1.0 × AreDetection site x.1.1.1.1.1))))

pub settings_reads : (site : ObjectSite) → Reads (settings_at site) (written_settings (kind_in site)) (AreSettings site)
unfolding settings_at
settings_reads site =
    reads_pair (present_at site) _ written_value (λ (x : Bool × (Bool × (Bool × (ℕ × DetectionData)))). written_flag x.0 ++ (written_flag x.1.0 ++ (written_flag x.1.1.0 ++ (written_octet x.1.1.1.0 ++ written_detection (kind_in site) x.1.1.1.1)))) (IsPresent site)
    (λ a x. Unit {0} × (Kept (has_inhibit site) not IsAny x.1.0 × (Unit {0} × (IsFieldFault x.1.1.1.0 × AreDetection site x.1.1.1.1)))) (present_reads site) (λ value is_value.
    reads_pair flag_at _ written_flag (λ (x : Bool × (Bool × (ℕ × DetectionData))). written_flag x.0 ++ (written_flag x.1.0 ++ (written_octet x.1.1.0 ++ written_detection (kind_in site) x.1.1.1))) IsAny
    (λ a x. Kept (has_inhibit site) not IsAny x.0 × (Unit {0} × (IsFieldFault x.1.1.0 × AreDetection site x.1.1.1))) flag_reads (λ out is_out.
    reads_pair (kept_at (has_inhibit site) flag_at not) _ written_flag (λ (x : Bool × (ℕ × DetectionData)). written_flag x.0 ++ (written_octet x.1.0 ++ written_detection (kind_in site) x.1.1)) (Kept (has_inhibit site) not IsAny)
    (λ a x. Unit {0} × (IsFieldFault x.1.0 × AreDetection site x.1.1)) (reads_kept (has_inhibit site) flag_at not written_flag IsAny flag_reads) (λ inhibit is_inhibit.
    reads_pair flag_at _ written_flag (λ (x : ℕ × DetectionData). written_octet x.0 ++ written_detection (kind_in site) x.1) IsAny (λ a x. IsFieldFault x.0 × AreDetection site x.1) flag_reads (λ reliability is_reliability.
    reads_pair (where_at octet_at is_field_fault) _ written_octet (written_detection (kind_in site)) IsFieldFault (λ a. AreDetection site) fault_reads (λ fault is_fault.
    detection_reads site)))))

-- ---- rows

abbrev pub keys_of : ObjectSite → Keys
keys_of site = record { low = site.low; high = site.high; deadband = site.deadband; limit_enable = site.limit_enable; alarm_value = site.alarm_value }

-- the keys of an object are written as those of its kind
pub keys_written : (kind : Option ObjectKind) (site : ObjectSite) → written_keys kind site ≡ written_keys_of kind (keys_of site)
keys_written (Some IntegerValue) site = refl
keys_written (Some PositiveIntegerValue) site = refl
keys_written (Some BinaryValue) site = refl
keys_written (Some MultiStateValue) site = refl
keys_written (Some BitStringValue) site = refl
keys_written (Some CharacterStringValue) site = refl
keys_written (Some Device) site = refl
keys_written (Some EventEnrollment) site = refl
keys_written (Some NotificationClass) site = refl
keys_written (Some EventLog) site = refl
keys_written None site = refl
