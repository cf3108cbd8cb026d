-- What only some kinds of value objects have: it is read exactly as it is written.
use Rattle.std.proofs.Common.{◌≡◌, ℕ, zero, suc, ℤ, pos, negsuc, ◌^◌, ◌<◌, Bool, true, false, cond, eqb, ltb, leb, ◌||◌, List, [], ◌∷◌, ◌++◌, length, IsTrue, IfSome, Option, Some, None, is_some, refl, sym, ap, subst, ◌∙◌, arith}
use Rattle.std.specs.Int.{w32, to_be_bytes, cast_signed, cast_unsigned}
use Rattle.std.proofs.lemmas.Bool.{ltb-true, leb-true, eqb-true}
use Rattle.std.proofs.lemmas.Int.{ints, to_z-of_z, of_z-to_z}
use Rattle.std.proofs.lemmas.Option.{cond_some}
use mir.ValLaws as laws
use Rattle.bac_values.specs.BitString.{flags_number, two_flags}
use Rattle.bac_values.specs.declared.object_kind.ObjectKind.{ObjectKind}
use Rattle.bac_values.specs.declared.object_kind.ObjectKind.TheVariants.{BinaryValue, Device, EventEnrollment, NotificationClass, MultiStateValue, EventLog, BitStringValue, CharacterStringValue, IntegerValue, PositiveIntegerValue}
use Rattle.bac_values.specs.declared.value.Value.{Value}
use Rattle.bac_values.specs.declared.value.Value.TheVariants as values
use Rattle.object_table.specs.Objects.{IsWithin}
use Rattle.object_table.specs.Values.{is_binary_value}
use Rattle.state_codec.specs.Records.{written_flag, written_flags}
use Rattle.state_codec.specs.Snapshots.{number_of, written_delay}
use Rattle.state_codec.specs.declared.reading_keys.Keys.{Keys}
use Rattle.state_codec.specs.ReadingSteps.{last_at, done_at, octet_at, number_at, flag_at}
use Rattle.state_codec.specs.SnapshotSteps.{no_keys, with_alarm_value, with_limits, and_at, kept_at, are_clear, two_flags_of, two_flags_at, delay_of, delay_at, signed_at, unsigned_at, is_none, limits_at, alarm_value_of, keys_at}
use Rattle.state_codec.proofs.Behind.{Reads, some_is, reads_last}
use Rattle.state_codec.proofs.PartLaws.{written_octet, IsOctet, IsBelow, IsAny, octet_reads, u32_reads, flag_reads}
use Rattle.state_codec.proofs.Together.{reads_pair, reads_made, reads_where, reads_done}

-- ---- what only an object with a class has

-- a value, and where there is no class the one that is absent
abbrev pub Kept : {A : Type 0} → Bool → (A → Bool) → (A → Type 0) → A → Type 0
Kept has is_absent F value = F value × ((has || is_absent value) ≡ true)

pub reads_kept : {A : Type 0} (has : Bool) (ra : List ℕ → Option (A × List ℕ)) (is_absent : A → Bool) (w : A → List ℕ) (F : A → Type 0) → Reads ra w F → Reads (kept_at has ra is_absent) w (Kept has is_absent F)
reads_kept has ra is_absent w F first = reads_where ra (λ value. has || is_absent value) w F (Kept has is_absent F) first (λ a fa t. (fa, t)) (λ a f. f)

-- ---- two flags

abbrev pub AreTwo : List Bool → Type 0
AreTwo flags = length flags ≡ 2

two_flags_in : (octet : ℕ) → octet < 4 → (length (two_flags (record { size = 2; bits = octet })) ≡ 2) × (flags_number (two_flags (record { size = 2; bits = octet })) ≡ octet)
two_flags_in zero lt = (refl, refl)
two_flags_in (suc zero) lt = (refl, refl)
two_flags_in (suc (suc zero)) lt = (refl, refl)
two_flags_in (suc (suc (suc zero))) lt = (refl, refl)
two_flags_in (suc (suc (suc (suc n)))) lt = absurd (omega arith)

two_flags_forth : (octet : ℕ) (flags : List Bool) → octet < 256 → two_flags_of octet ≡ Some flags → (length flags ≡ 2) × (written_flags flags ≡ octet ∷ [])
two_flags_forth octet flags lt e =
    let g = cond_some (ltb octet 4) (two_flags (record { size = 2; bits = octet })) flags e in
    let is = two_flags_in octet (ltb-true _ _ g.0) in
    subst (λ (f : List Bool). (length f ≡ 2) × (written_flags f ≡ octet ∷ [])) g.1 (is.0, ap (λ (n : ℕ). n ∷ []) is.1)

two_flags_back : (flags : List Bool) → length flags ≡ 2 → (octet : ℕ) × (octet < 256) × (two_flags_of octet ≡ Some flags) × (written_flags flags ≡ octet ∷ [])
two_flags_back (false ∷ false ∷ []) e = (0, omega arith, refl, refl)
two_flags_back (true ∷ false ∷ []) e = (1, omega arith, refl, refl)
two_flags_back (false ∷ true ∷ []) e = (2, omega arith, refl, refl)
two_flags_back (true ∷ true ∷ []) e = (3, omega arith, refl, refl)
two_flags_back [] e = absurd (omega (arith, e))
two_flags_back (a ∷ []) e = absurd (omega (arith, e))
two_flags_back (a ∷ b ∷ c ∷ rest) e = absurd (omega (arith, e))

two_flags_reads : Reads two_flags_at written_flags AreTwo
unfolding two_flags_at
two_flags_reads = reads_last octet_at two_flags_of written_octet IsOctet written_flags AreTwo octet_reads two_flags_forth two_flags_back

-- ---- Time_Delay_Normal

-- it is there where it is wanted
abbrev pub IsDelay : Bool → Option ℕ → Type 0
IsDelay has normal = (is_some normal ≡ has) × IfSome normal (λ seconds. seconds < 2 ^ 32)

abbrev written_pair : Bool × ℕ → List ℕ
written_pair x = written_flag x.0 ++ to_be_bytes w32 x.1

abbrev IsPair : Bool × ℕ → Type 0
IsPair x = Unit {0} × (x.1 < 2 ^ 32)

delay_forth : (has : Bool) (x : Bool × ℕ) (normal : Option ℕ) → IsPair x → delay_of has x ≡ Some normal → IsDelay has normal × (written_delay normal ≡ written_pair x)
delay_forth true (true, seconds) normal f e = subst (λ (o : Option ℕ). IsDelay true o × (written_delay o ≡ written_pair (true, seconds))) (some_is (Some seconds) normal e) ((refl, f.1), refl)
delay_forth true (false, seconds) normal f e = absurd cc
delay_forth false (true, seconds) normal f e = absurd cc
delay_forth false (false, seconds) normal f e =
    let g = cond_some (eqb seconds 0) None normal e in
    subst (λ (o : Option ℕ). IsDelay false o × (written_delay o ≡ written_pair (false, seconds))) g.1 ((refl, tt), ap (λ (n : ℕ). written_pair (false, n)) (sym (eqb-true seconds 0 g.0)))

delay_back : (has : Bool) (normal : Option ℕ) → IsDelay has normal → (x : Bool × ℕ) × IsPair x × (delay_of has x ≡ Some normal) × (written_delay normal ≡ written_pair x)
delay_back true (Some seconds) f = ((true, seconds), (tt, f.1), refl, refl)
delay_back false None f = ((false, 0), (tt, omega arith), refl, refl)
delay_back true None f = absurd (let e = f.0 in cc)
delay_back false (Some seconds) f = absurd (let e = f.0 in cc)

pub delay_reads : (has : Bool) → Reads (delay_at has) written_delay (IsDelay has)
unfolding delay_at
delay_reads has =
    reads_last (and_at flag_at λ flag. number_at w32) (delay_of has) written_pair IsPair written_delay (IsDelay has)
    (reads_pair flag_at (λ flag. number_at w32) written_flag (to_be_bytes w32) IsAny (λ flag. IsBelow (2 ^ 32)) flag_reads (λ flag any. u32_reads))
    (delay_forth has) (delay_back has)

-- ---- limits

-- the octets of a limit
abbrev pub written_limit : ℤ → List ℕ
written_limit number = to_be_bytes w32 (cast_unsigned w32 number)

signed_reads : Reads signed_at written_limit (IsWithin (Some IntegerValue))
unfolding signed_at
signed_reads =
    reads_made (number_at w32) (λ number. cast_signed w32 number) (λ number. cast_unsigned w32 number) (to_be_bytes w32) (IsBelow (2 ^ 32)) written_limit (IsWithin (Some IntegerValue)) u32_reads
    (λ number lt. (laws.to_z-Fits w32 number (record { fits = lt }), ap (to_be_bytes w32) (of_z-to_z w32 number lt)))
    (λ number fits. ((laws.of_z_fits w32 number fits).fits, to_z-of_z w32 number fits, refl))

unsigned_back : (number : ℤ) → IsWithin (Some PositiveIntegerValue) number → (cast_unsigned w32 number < 2 ^ 32) × (pos (cast_unsigned w32 number) ≡ number) × (written_limit number ≡ to_be_bytes w32 (cast_unsigned w32 number))
unsigned_back (pos n) fits = (omega (arith, ints, fits.1), refl, refl)
unsigned_back (negsuc n) fits = absurd (omega (arith, ints, fits.0))

unsigned_forth : (n : ℕ) → n < 2 ^ 32 → IsWithin (Some PositiveIntegerValue) (pos n)
unsigned_forth n lt = (omega (arith, ints), omega (arith, ints, lt))

unsigned_reads : Reads unsigned_at written_limit (IsWithin (Some PositiveIntegerValue))
unfolding unsigned_at
unsigned_reads =
    reads_made (number_at w32) (λ number. pos number) (λ number. cast_unsigned w32 number) (to_be_bytes w32) (IsBelow (2 ^ 32)) written_limit (IsWithin (Some PositiveIntegerValue)) u32_reads
    (λ number lt. (unsigned_forth number lt, refl)) unsigned_back

-- the keys are limits, such as an object with a class or one without may have
pub record AreLimits (has : Bool) (Within : ℤ → Type 0) (keys : Keys) : Type 0 where
  pub high : Kept has is_none Within keys.high
  pub low : Kept has is_none Within keys.low
  pub deadband : Kept has (λ n. eqb n 0) (IsBelow (2 ^ 32)) keys.deadband
  pub flags : Kept has are_clear AreTwo keys.limit_enable
  pub alone : keys.alarm_value ≡ None

abbrev pub written_limits_of : Keys → List ℕ
written_limits_of keys = written_limit keys.high ++ (written_limit keys.low ++ (to_be_bytes w32 keys.deadband ++ written_flags keys.limit_enable))

abbrev pub keys_of_parts : ℤ → ℤ → ℕ → List Bool → Option Value → Keys
keys_of_parts high low deadband flags value = record { low = low; high = high; deadband = deadband; limit_enable = flags; alarm_value = value }

limits_reads : (limit : List ℕ → Option (ℤ × List ℕ)) (has : Bool) (Within : ℤ → Type 0) → Reads limit written_limit Within → Reads (limits_at limit has) written_limits_of (AreLimits has Within)
unfolding limits_at
limits_reads limit has Within reads =
    reads_made (and_at (kept_at has limit is_none) λ high. and_at (kept_at has limit is_none) λ low. and_at (kept_at has (number_at w32) λ deadband. eqb deadband 0) λ deadband. kept_at has two_flags_at are_clear)
    (λ x. with_limits x.0 x.1.0 x.1.1.0 x.1.1.1) (λ keys. (keys.high, (keys.low, (keys.deadband, keys.limit_enable))))
    (λ x. written_limit x.0 ++ (written_limit x.1.0 ++ (to_be_bytes w32 x.1.1.0 ++ written_flags x.1.1.1)))
    (λ x. Kept has is_none Within x.0 × (Kept has is_none Within x.1.0 × (Kept has (λ n. eqb n 0) (IsBelow (2 ^ 32)) x.1.1.0 × Kept has are_clear AreTwo x.1.1.1)))
    written_limits_of (AreLimits has Within)
    (reads_pair (kept_at has limit is_none) _ written_limit (λ (x : ℤ × (ℕ × List Bool)). written_limit x.0 ++ (to_be_bytes w32 x.1.0 ++ written_flags x.1.1)) (Kept has is_none Within) (λ a x. Kept has is_none Within x.0 × (Kept has (λ n. eqb n 0) (IsBelow (2 ^ 32)) x.1.0 × Kept has are_clear AreTwo x.1.1)) (reads_kept has limit is_none written_limit Within reads) (λ high is_high.
    reads_pair (kept_at has limit is_none) _ written_limit (λ (x : ℕ × List Bool). to_be_bytes w32 x.0 ++ written_flags x.1) (Kept has is_none Within) (λ a x. Kept has (λ n. eqb n 0) (IsBelow (2 ^ 32)) x.0 × Kept has are_clear AreTwo x.1) (reads_kept has limit is_none written_limit Within reads) (λ low is_low.
    reads_pair (kept_at has (number_at w32) λ deadband. eqb deadband 0) _ (to_be_bytes w32) written_flags (Kept has (λ n. eqb n 0) (IsBelow (2 ^ 32))) (λ a. Kept has are_clear AreTwo) (reads_kept has (number_at w32) (λ n. eqb n 0) (to_be_bytes w32) (IsBelow (2 ^ 32)) u32_reads) (λ deadband is_deadband.
    reads_kept has two_flags_at are_clear written_flags AreTwo two_flags_reads))))
    (λ x f. (record { high = f.0; low = f.1.0; deadband = f.1.1.0; flags = f.1.1.1; alone = refl }, refl))
    (λ keys f. ((f.high, (f.low, (f.deadband, f.flags))), ap (keys_of_parts keys.high keys.low keys.deadband keys.limit_enable) (sym f.alone), refl))

-- ---- the alarm value of a binary value

abbrev pub keys_with : Option Value → Keys
keys_with value = keys_of_parts (pos 0) (pos 0) 0 (false ∷ false ∷ []) value

abbrev pub KeepsBinary : Bool → Option Value → Type 0
KeepsBinary true (Some value) = IsTrue (is_binary_value value)
KeepsBinary true None = ⊥
KeepsBinary false (Some value) = ⊥
KeepsBinary false None = Unit {0}

abbrev pub AreBinary : Bool → Keys → Type 0
AreBinary has keys = (keys ≡ keys_with keys.alarm_value) × KeepsBinary has keys.alarm_value

abbrev pub written_alarm_value : Keys → List ℕ
written_alarm_value keys = to_be_bytes w32 (number_of keys.alarm_value)

binary_forth : (has : Bool) (number : ℕ) (keys : Keys) → number < 2 ^ 32 → alarm_value_of has number ≡ Some keys → AreBinary has keys × (written_alarm_value keys ≡ to_be_bytes w32 number)
binary_forth true number keys lt e =
    let g = cond_some (leb number 1) (with_alarm_value number) keys e in
    subst (λ (k : Keys). AreBinary true k × (written_alarm_value k ≡ to_be_bytes w32 number)) g.1 ((refl, g.0), refl)
binary_forth false number keys lt e =
    let g = cond_some (eqb number 0) no_keys keys e in
    subst (λ (k : Keys). AreBinary false k × (written_alarm_value k ≡ to_be_bytes w32 number)) g.1 ((refl, tt), ap (to_be_bytes w32) (sym (eqb-true number 0 g.0)))

binary_back : (has : Bool) (keys : Keys) (value : Option Value) → keys.alarm_value ≡ value → keys ≡ keys_with keys.alarm_value → KeepsBinary has value
    → (number : ℕ) × (number < 2 ^ 32) × (alarm_value_of has number ≡ Some keys) × (written_alarm_value keys ≡ to_be_bytes w32 number)
binary_back true keys (Some (values.Enumerated number)) is same keeps =
    (number, omega (arith, leb-true number 1 keeps), ap (λ (t : Bool). cond t (Some (with_alarm_value number)) None) keeps ∙ ap (λ (o : Option Value). Some (keys_with o)) (sym is) ∙ ap (λ (k : Keys). Some k) (sym same), ap (λ (o : Option Value). to_be_bytes w32 (number_of o)) is)
binary_back true keys (Some (values.Bool flag)) is same keeps = absurd (let e = keeps in cc)
binary_back true keys (Some (values.Unsigned number)) is same keeps = absurd (let e = keeps in cc)
binary_back true keys (Some (values.Signed number)) is same keeps = absurd (let e = keeps in cc)
binary_back true keys (Some (values.Text text)) is same keeps = absurd (let e = keeps in cc)
binary_back true keys (Some (values.Bits string)) is same keeps = absurd (let e = keeps in cc)
binary_back true keys (Some values.Null) is same keeps = absurd (let e = keeps in cc)
binary_back true keys (Some (values.Object object)) is same keeps = absurd (let e = keeps in cc)
binary_back true keys (Some (values.DateTime stamp)) is same keeps = absurd (let e = keeps in cc)
binary_back true keys (Some (values.Opaque tag why)) is same keeps = absurd (let e = keeps in cc)
binary_back true keys None is same keeps = absurd keeps
binary_back false keys None is same keeps = (0, omega arith, ap (λ (o : Option Value). Some (keys_with o)) (sym is) ∙ ap (λ (k : Keys). Some k) (sym same), ap (λ (o : Option Value). to_be_bytes w32 (number_of o)) is)
binary_back false keys (Some value) is same keeps = absurd keeps

binary_reads : (has : Bool) → Reads (last_at (number_at w32) (alarm_value_of has)) written_alarm_value (AreBinary has)
binary_reads has =
    reads_last (number_at w32) (alarm_value_of has) (to_be_bytes w32) (IsBelow (2 ^ 32)) written_alarm_value (AreBinary has) u32_reads (binary_forth has) (λ keys f. binary_back has keys keys.alarm_value refl f.0 f.1)

-- ---- what only some kinds have

abbrev pub written_keys_of : Option ObjectKind → Keys → List ℕ
written_keys_of (Some IntegerValue) keys = written_limits_of keys
written_keys_of (Some PositiveIntegerValue) keys = written_limits_of keys
written_keys_of (Some BinaryValue) keys = written_alarm_value keys
written_keys_of _ keys = []

abbrev pub AreKeys : Option ObjectKind → Bool → Keys → Type 0
AreKeys (Some IntegerValue) has keys = AreLimits has (IsWithin (Some IntegerValue)) keys
AreKeys (Some PositiveIntegerValue) has keys = AreLimits has (IsWithin (Some PositiveIntegerValue)) keys
AreKeys (Some BinaryValue) has keys = AreBinary has keys
AreKeys _ has keys = keys ≡ no_keys

nothing_reads : Reads (done_at no_keys) (λ keys. []) (λ keys. keys ≡ no_keys)
nothing_reads = reads_done no_keys (λ keys. []) (λ keys. keys ≡ no_keys) refl refl (λ keys e. e)

pub keys_reads : (kind : Option ObjectKind) (has : Bool) → Reads (keys_at kind has) (written_keys_of kind) (AreKeys kind has)
unfolding keys_at
keys_reads (Some IntegerValue) has = limits_reads signed_at has (IsWithin (Some IntegerValue)) signed_reads
keys_reads (Some PositiveIntegerValue) has = limits_reads unsigned_at has (IsWithin (Some PositiveIntegerValue)) unsigned_reads
keys_reads (Some BinaryValue) has = binary_reads has
keys_reads (Some MultiStateValue) has = nothing_reads
keys_reads (Some BitStringValue) has = nothing_reads
keys_reads (Some CharacterStringValue) has = nothing_reads
keys_reads (Some Device) has = nothing_reads
keys_reads (Some EventEnrollment) has = nothing_reads
keys_reads (Some NotificationClass) has = nothing_reads
keys_reads (Some EventLog) has = nothing_reads
keys_reads None has = nothing_reads
