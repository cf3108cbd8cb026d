-- What a table takes is what passes the tests of a write without an index.
use Rattle.std.proofs.Common.{◌≡◌, ℕ, Bool, true, false, true≢false, ◌&&◌, Option, Some, None, is_none, Result, Ok, Err, IsOk, IsTrue, IsSomeAnd, refl, sym}
use Rattle.bac_values.specs.declared.object_kind.ObjectKind.{ObjectKind}
use Rattle.bac_values.specs.declared.object_kind.ObjectKind.TheVariants.{BinaryValue, MultiStateValue, BitStringValue, CharacterStringValue, IntegerValue, PositiveIntegerValue}
use Rattle.bac_values.specs.declared.value.Value.{Value}
use Rattle.bac_values.specs.declared.value.Value.TheVariants.{Bool as Truth, Unsigned, Signed, Text, Bits, Enumerated}
use Rattle.bac_values.specs.Identifier.{ObjectIdData}
use Rattle.object_table.specs.declared.change.Change.{Change}
use Rattle.object_table.specs.declared.faults.WriteFault.{WriteFault}
use Rattle.object_table.specs.declared.object_property.ObjectProperty.{ObjectProperty}
use Rattle.object_table.specs.declared.object_property.ObjectProperty.TheVariants.{PresentValue, OutOfService, ReliabilityEvaluationInhibit, TimeDelay, TimeDelayNormal, HighLimit, LowLimit, Deadband, LimitEnable, AlarmValue, EventEnable, EventAlgorithmInhibit}
use Rattle.object_table.specs.declared.object_site.ObjectSite.{ObjectSite}
use Rattle.object_table.specs.declared.row.Row.{Row}
use Rattle.object_table.specs.Properties.{kind_in, property_of, has}
use Rattle.object_table.specs.Rows.{row_of}
use Rattle.object_table.specs.Values.{are_flags, can_be, has_length_of, is_binary_value, is_number, is_present_value, is_state, is_text, is_truth, is_unsigned, takes_known, takes_value}
use Rattle.object_table.specs.Laws.{TakesWhatWritesMake}
use Rattle.object_table.proofs.Taking.{write_ok}
use Rattle.object_table.specs.Verdicts.{allowed_change, inhibit_tag, known_verdict, property_change, value_tag, value_verdict, write_by_row, write_verdict, writable_tag}

-- a value that passes its test has the tag of the test's type, and stands for itself
truth_passes : (value : Value) → is_truth value ≡ true → value_verdict (Some 1) true value ≡ Ok tt
truth_passes (Truth truth) h = refl
truth_passes _ h = absurd (true≢false (sym h))

unsigned_passes : (value : Value) → is_unsigned value ≡ true → value_verdict (Some 2) true value ≡ Ok tt
unsigned_passes (Unsigned number) h = refl
unsigned_passes _ h = absurd (true≢false (sym h))

text_passes : (value : Value) → is_text value ≡ true → value_verdict (Some 7) true value ≡ Ok tt
text_passes (Text text) h = refl
text_passes _ h = absurd (true≢false (sym h))

binary_passes : (value : Value) → is_binary_value value ≡ true → value_verdict (Some 9) true value ≡ Ok tt
binary_passes (Enumerated number) h = refl
binary_passes _ h = absurd (true≢false (sym h))

flags_pass : (size : ℕ) (value : Value) → are_flags size value ≡ true → value_verdict (Some 8) true value ≡ Ok tt
flags_pass size (Bits string) h = refl
flags_pass size _ h = absurd (true≢false (sym h))

state_passes : (states : ℕ) (value : Value) → is_state states value ≡ true → value_verdict (Some 2) true value ≡ Ok tt
state_passes states (Unsigned state) h = refl
state_passes states _ h = absurd (true≢false (sym h))

length_passes : (old value : Value) → has_length_of old value ≡ true → value_verdict (Some 8) true value ≡ Ok tt
length_passes (Bits old) (Bits string) h = refl
length_passes _ _ h = absurd (true≢false (sym h))

number_passes : (kind : Option ObjectKind) (value : Value) → is_number kind value ≡ true → value_verdict (value_tag kind) true value ≡ Ok tt
number_passes (Some IntegerValue) (Signed number) h = refl
number_passes (Some PositiveIntegerValue) (Unsigned number) h = refl
number_passes _ _ h = absurd (true≢false (sym h))

present_passes : (kind : Option ObjectKind) (site : ObjectSite) (value : Value) → is_present_value kind site value ≡ true → value_verdict (value_tag kind) true value ≡ Ok tt
present_passes (Some IntegerValue) site value h = number_passes (Some IntegerValue) value h
present_passes (Some PositiveIntegerValue) site value h = number_passes (Some PositiveIntegerValue) value h
present_passes (Some BinaryValue) site value h = binary_passes value h
present_passes (Some MultiStateValue) site value h = state_passes site.states value h
present_passes (Some BitStringValue) site value h = length_passes site.value value h
present_passes (Some CharacterStringValue) site value h = text_passes value h
present_passes _ site value h = absurd (true≢false (sym h))

-- without a reference the one that inhibits is written as any other truth
inhibit_passes : (reference : Option ObjectIdData) (value : Value) → (is_none reference && is_truth value) ≡ true → value_verdict (inhibit_tag reference) true value ≡ Ok tt
inhibit_passes None value h = truth_passes value h
inhibit_passes (Some referred) value h = absurd (true≢false (sym h))

-- so does a value that a property can be
possible_passes : (kind : Option ObjectKind) (site : ObjectSite) (property : ObjectProperty) (value : Value) → can_be kind site property value ≡ true → value_verdict (writable_tag kind site property) true value ≡ Ok tt
possible_passes kind site PresentValue value h = present_passes kind site value h
possible_passes kind site OutOfService value h = truth_passes value h
possible_passes kind site ReliabilityEvaluationInhibit value h = truth_passes value h
possible_passes kind site TimeDelay value h = unsigned_passes value h
possible_passes kind site TimeDelayNormal value h = unsigned_passes value h
possible_passes kind site HighLimit value h = number_passes kind value h
possible_passes kind site LowLimit value h = number_passes kind value h
possible_passes kind site Deadband value h = unsigned_passes value h
possible_passes kind site LimitEnable value h = flags_pass 2 value h
possible_passes kind site AlarmValue value h = binary_passes value h
possible_passes kind site EventEnable value h = flags_pass 3 value h
possible_passes kind site EventAlgorithmInhibit value h = inhibit_passes site.inhibit_ref value h
possible_passes kind site _ value h = absurd (true≢false (sym h))

both : (s t : Bool) → (s && t) ≡ true → (s ≡ true) × (t ≡ true)
both true t h = (refl, h)
both false t h = absurd (true≢false (sym h))

property_passes : (kind : Option ObjectKind) (site : ObjectSite) (property : Option ObjectProperty) (value : Value) → IsTrue (takes_known kind site property value) → known_verdict kind site property None value ≡ Ok tt
property_passes kind site None value h = absurd (true≢false (sym h))
property_passes kind site (Some property) value h =
    let parts = both (has kind site property) (can_be kind site property value) h in
    rw (parts.0, parts.1) (possible_passes kind site property value parts.1)

passes_by_row : (row : Option Row) (object : ObjectIdData) (number : ℕ) (value : Value) → IsSomeAnd row (λ (r : Row). IsTrue (takes_value number value r.site)) → IsOk (write_by_row row object number None value)
passes_by_row (Some row) object number value h = rw (property_passes (kind_in row.site) row.site (property_of number) value h) refl
passes_by_row None object number value h = absurd h

-- a write that passes is taken
ok_verdict : (verdict : Result (Unit {0}) WriteFault) (change : Change) → IsOk (allowed_change verdict change) → verdict ≡ Ok tt
ok_verdict (Ok passed) change h = refl
ok_verdict (Err fault) change h = absurd (true≢false (sym h))

taken_by_row : (row : Option Row) (object : ObjectIdData) (number : ℕ) (value : Value) → IsOk (write_by_row row object number None value) → IsSomeAnd row (λ (r : Row). IsTrue (takes_value number value r.site))
taken_by_row (Some row) object number value h = write_ok row.site number None value (ok_verdict (write_verdict row.site number None value) (property_change object number value) h)
taken_by_row None object number value h = absurd (true≢false (sym h))

pub takes_what_writes_make : TakesWhatWritesMake
takes_what_writes_make rows object number value =
    (passes_by_row (row_of object rows) object number value, taken_by_row (row_of object rows) object number value)
