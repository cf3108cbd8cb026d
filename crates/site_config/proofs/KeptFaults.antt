-- What the keys of an object that have to do with faults keep to.
use Rattle.std.proofs.Common.{◌≡◌, ◌≤◌, ℕ, ℤ, List, [], length, true, false, Bool, ◌&&◌, if◌then◌else◌, Option, Some, None, Ok, is_none, refl, arith}
use Rattle.std.specs.List.{All}
use Rattle.std.proofs.lemmas.List.Elements.{All-from_recursion, All-nil}
use Rattle.toml.specs.Data.{Data, Members, get_member}
use Rattle.std.specs.Prelude.{codes, Result}
use Rattle.bac_values.specs.declared.object_kind.ObjectKind.{ObjectKind}
use Rattle.bac_values.specs.declared.object_kind.ObjectKind.TheVariants.{BinaryValue, Device, EventEnrollment, NotificationClass, MultiStateValue, EventLog, BitStringValue, CharacterStringValue, IntegerValue, PositiveIntegerValue}
use Rattle.bac_values.specs.declared.value.Value.{Value}
use Rattle.bac_values.specs.declared.value.Value.TheVariants.{Unsigned, Text}
use Rattle.object_table.specs.Objects.{HasStates, AreFaultLimits, IsFaultValue, IsWithin}
use Rattle.site_config.specs.declared.fault_keys.FaultKeys.{FaultKeys}
use Rattle.toml_items.specs.declared.item_fault.ItemFault.{ItemFault}
use Rattle.site_config.specs.FaultKeys.{no_fault_keys, state_number, state_fault_keys_of, text_fault_keys_of, limit_fault_keys_of, fault_limits_of, fault_keys_of}
use Rattle.toml_items.specs.Answers.{◌>>=◌}
use Rattle.toml_items.specs.Members.{required, or_else}
use Rattle.toml_items.specs.Values.{unsigned_in, last_unsigned, text_in}
use Rattle.site_config.specs.Values.{limit_in, value_in}
use Rattle.toml_items.specs.Lists.{list_in}
use Rattle.toml_items.proofs.Numbers.{unsigned_kept, KeptList, list_kept}
use Rattle.site_config.proofs.Numbers.{integer_limit, positive_limit}
use Rattle.toml_items.proofs.Steps.{after, mapped, required_keeps, or_else_keeps}

pub record KeepsFaults (kind : ObjectKind) (faults : FaultKeys) : Type 0 where
  pub states : HasStates (Some kind) faults.states
  pub limits : AreFaultLimits (Some kind) faults.fault_low faults.fault_high
  pub values : All (IsFaultValue (Some kind)) faults.fault_values
  pub few : length faults.fault_values ≤ 32

-- fault values are of the type of the value
state_value : (d : Data) (v : Value) → value_in MultiStateValue d ≡ Some v → IsFaultValue (Some MultiStateValue) v
state_value d v h = let m = mapped Unsigned (unsigned_in 0 last_unsigned d) v h in rw (← m.is) tt

text_value : (d : Data) (v : Value) → value_in CharacterStringValue d ≡ Some v → IsFaultValue (Some CharacterStringValue) v
text_value d v h = let m = mapped Text (text_in d) v h in rw (← m.is) tt

-- a list of fault values, which may be left out
few_values : (kind : ObjectKind) → ((d : Data) (v : Value) → value_in kind d ≡ Some v → IsFaultValue (Some kind) v)
    → (ms : Members) (values : List Value) → or_else [] (list_in 0 32 (value_in kind)) (codes "fault_values") ms ≡ Ok values
    → KeptList (IsFaultValue (Some kind)) 0 32 values
few_values kind each ms values h =
    let P : List Value → Type 0 = KeptList (IsFaultValue (Some kind)) 0 32 in
    or_else_keeps P (list_in 0 32 (value_in kind)) (list_kept (IsFaultValue (Some kind)) (value_in kind) each 0 32) (codes "fault_values") [] (record { all = tt; enough = omega arith; few = omega arith }) ms values h

-- there are at least as many states as the number of the value's own
pub states_cover : (value : Value) (ms : Members) (faults : FaultKeys) → state_fault_keys_of value ms ≡ Ok faults → state_number value ≤ faults.states
unfolding state_fault_keys_of
states_cover value ms faults h =
    let states = after (required (unsigned_in (state_number value) last_unsigned) (codes "states") ms) _ faults h in
    let values = after (or_else [] (list_in 0 32 (value_in MultiStateValue)) (codes "fault_values") ms) _ faults states.next_is in
    let is : record no_fault_keys { states = states.value; fault_values = values.value } ≡ faults = cc in
    let P : ℕ → Type 0 = λ n. state_number value ≤ n in
    let covered : state_number value ≤ states.value =
    required_keeps P (unsigned_in (state_number value) last_unsigned) (λ d n e. (unsigned_kept (state_number value) last_unsigned d n e).0) (codes "states") ms states.value states.first_is in
    rw (← is) covered

of_states : (value : Value) (ms : Members) (faults : FaultKeys) → state_fault_keys_of value ms ≡ Ok faults → KeepsFaults MultiStateValue faults
unfolding state_fault_keys_of
of_states value ms faults h =
    let states = after (required (unsigned_in (state_number value) last_unsigned) (codes "states") ms) _ faults h in
    let values = after (or_else [] (list_in 0 32 (value_in MultiStateValue)) (codes "fault_values") ms) _ faults states.next_is in
    let is : record no_fault_keys { states = states.value; fault_values = values.value } ≡ faults = cc in
    let kept = few_values MultiStateValue state_value ms values.value values.first_is in
    rw (← is) (record { states = tt; limits = tt; values = All-from_recursion (IsFaultValue (Some MultiStateValue)) values.value kept.all; few = kept.few })

of_texts : (ms : Members) (faults : FaultKeys) → text_fault_keys_of ms ≡ Ok faults → KeepsFaults CharacterStringValue faults
unfolding text_fault_keys_of
of_texts ms faults h =
    let values = after (or_else [] (list_in 0 32 (value_in CharacterStringValue)) (codes "fault_values") ms) _ faults h in
    let is : record no_fault_keys { fault_values = values.value } ≡ faults = cc in
    let kept = few_values CharacterStringValue text_value ms values.value values.first_is in
    rw (← is) (record { states = refl; limits = tt; values = All-from_recursion (IsFaultValue (Some CharacterStringValue)) values.value kept.all; few = kept.few })

-- both fault limits, or none
both_or_none : (kind : ObjectKind) → ((d : Data) (z : ℤ) → limit_in kind d ≡ Some z → IsWithin (Some kind) z)
    → (ms : Members) (limits : Option ℤ × Option ℤ) → fault_limits_of kind ms ≡ Ok limits → AreFaultLimits (Some kind) limits.0 limits.1
unfolding fault_limits_of
both_or_none kind each ms limits h = by (is_none (get_member (codes "fault_low") ms) && is_none (get_member (codes "fault_high") ms)) h
  where
    by : (neither : Bool) → (if neither then Ok (None, None) else (required (limit_in kind) (codes "fault_low") ms >>= λ low. required (limit_in kind) (codes "fault_high") ms >>= λ high. Ok (Some low, Some high))) ≡ Ok limits
        → AreFaultLimits (Some kind) limits.0 limits.1
    by true e = let is : (None, None) ≡ limits = cc in rw (← is) tt
    by false e =
        let low = after (required (limit_in kind) (codes "fault_low") ms) _ limits e in
        let high = after (required (limit_in kind) (codes "fault_high") ms) _ limits low.next_is in
        let is : (Some low.value, Some high.value) ≡ limits = cc in
        let P : ℤ → Type 0 = IsWithin (Some kind) in
        rw (← is) (required_keeps P (limit_in kind) each (codes "fault_low") ms low.value low.first_is, required_keeps P (limit_in kind) each (codes "fault_high") ms high.value high.first_is)

of_limits : (kind : ObjectKind) → ((d : Data) (z : ℤ) → limit_in kind d ≡ Some z → IsWithin (Some kind) z)
    → HasStates (Some kind) 0
    → (ms : Members) (faults : FaultKeys) → limit_fault_keys_of kind ms ≡ Ok faults → KeepsFaults kind faults
unfolding limit_fault_keys_of
of_limits kind each none ms faults h =
    let limits = after (fault_limits_of kind ms) _ faults h in
    let is : record no_fault_keys { fault_low = limits.value.0; fault_high = limits.value.1 } ≡ faults = cc in
    rw (← is) (record { states = none; limits = both_or_none kind each ms limits.value limits.first_is; values = All-nil (IsFaultValue (Some kind)); few = omega arith })

-- other kinds have none of them
of_none : (kind : ObjectKind) (faults : FaultKeys) → HasStates (Some kind) 0 → ◌≡◌ {A = Result FaultKeys ItemFault} (Ok no_fault_keys) (Ok faults) → KeepsFaults kind faults
of_none kind faults none h =
    let is : no_fault_keys ≡ faults = cc in
    rw (← is) (record { states = none; limits = tt; values = All-nil (IsFaultValue (Some kind)); few = omega arith })

pub faults_kept : (kind : ObjectKind) (value : Value) (ms : Members) (faults : FaultKeys) → fault_keys_of kind value ms ≡ Ok faults → KeepsFaults kind faults
faults_kept MultiStateValue value ms faults h = of_states value ms faults h
faults_kept CharacterStringValue value ms faults h = of_texts ms faults h
faults_kept IntegerValue value ms faults h = of_limits IntegerValue integer_limit refl ms faults h
faults_kept PositiveIntegerValue value ms faults h = of_limits PositiveIntegerValue positive_limit refl ms faults h
faults_kept BinaryValue value ms faults h = of_none BinaryValue faults refl h
faults_kept BitStringValue value ms faults h = of_none BitStringValue faults refl h
faults_kept Device value ms faults h = of_none Device faults refl h
faults_kept EventEnrollment value ms faults h = of_none EventEnrollment faults refl h
faults_kept NotificationClass value ms faults h = of_none NotificationClass faults refl h
faults_kept EventLog value ms faults h = of_none EventLog faults refl h
