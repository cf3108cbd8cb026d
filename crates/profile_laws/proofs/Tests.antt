-- The tests of an index and of a value answer the first error of their rows.
use Rattle.std.proofs.Common.{◌≡◌, ℕ, Bool, true, false, not, if◌then◌else◌, ◌==◌, nat_lt, Option, Some, None, Result, Ok, Err, List, [], ◌∷◌, refl}
use Rattle.bac_values.specs.Errors.{character_set_not_supported_error, invalid_array_index_error, invalid_data_type_error, no_space_to_write_property_error, property_is_not_an_array_error, unknown_object_error, unknown_property_error, value_out_of_range_error, write_access_denied_error}
use Rattle.bac_values.specs.declared.service_error.ServiceError.{ServiceError}
use Rattle.bac_values.specs.declared.value.Foreign.TheVariants.{CharacterSet, TooLong}
use Rattle.bac_values.specs.declared.value.Value.{Value}
use Rattle.bac_values.specs.declared.value.Value.TheVariants.{Opaque}
use Rattle.object_table.specs.declared.faults.WriteFault.{WriteFault}
use Rattle.object_table.specs.Verdicts.{and_then, content_verdict, error_of, index_verdict, invalid_array_index, invalid_data_type, tag_of, value_verdict}
use Rattle.profile_laws.specs.ErrorTables.{first_error}
use Rattle.profile_laws.specs.PropertyErrors.{is_above_length, is_in_other_characters, is_indexed_without_array, is_of_other_type, is_out_of_range, is_read_only, is_too_long, is_unknown_property, size_in, tag_in}
use Rattle.profile_laws.specs.PropertyTables.{PropertyRow}

abbrev pub Table : Type 0
Table = List (Bool × ServiceError)

abbrev pub index_rows : Option ℕ → Option ℕ → Table → Table
index_rows size index later = (is_indexed_without_array size index, property_is_not_an_array_error) ∷ (is_above_length size index, invalid_array_index_error) ∷ later

abbrev content_rows : Bool → Value → Table
content_rows possible value =
    (is_in_other_characters value, character_set_not_supported_error) ∷ (is_too_long value, no_space_to_write_property_error) ∷ (not possible, value_out_of_range_error) ∷ []

abbrev value_rows : Option ℕ → Bool → Value → Table
value_rows tag possible value = (is_read_only tag, write_access_denied_error) ∷ (is_of_other_type tag value, invalid_data_type_error) ∷ content_rows possible value

-- the rows of a read, with more behind them
abbrev pub table : Bool → Option PropertyRow → Option ℕ → Table → Table
table unknown rules index later = (unknown, unknown_object_error) ∷ (is_unknown_property rules, unknown_property_error) ∷ index_rows (size_in rules) index later

-- those of a value
abbrev pub written : Option PropertyRow → Value → Table
written rules value =
    (is_read_only (tag_in rules), write_access_denied_error)
    ∷ (is_of_other_type (tag_in rules) value, invalid_data_type_error)
    ∷ (is_in_other_characters value, character_set_not_supported_error)
    ∷ (is_too_long value, no_space_to_write_property_error)
    ∷ (is_out_of_range rules value, value_out_of_range_error)
    ∷ []

-- a verdict is the error, or that there is none
abbrev pub VerdictSays : Option ServiceError → Result (Unit {0}) WriteFault → Type 0
VerdictSays (Some error) verdict = verdict ≡ Err (error_of error)
VerdictSays None verdict = verdict ≡ Ok tt

abbrev beyond_verdict : Bool → Result (Unit {0}) WriteFault
beyond_verdict beyond = if beyond then Err invalid_array_index else Ok tt

beyond_says : (beyond : Bool) (later : Table) (second : Result (Unit {0}) WriteFault) → VerdictSays (first_error later) second →
    VerdictSays (if beyond then Some invalid_array_index_error else first_error later) (and_then (beyond_verdict beyond) second)
beyond_says true later second h = refl
beyond_says false later second h = h

index_says : (size index : Option ℕ) (later : Table) (second : Result (Unit {0}) WriteFault) → VerdictSays (first_error later) second →
    VerdictSays (first_error (index_rows size index later)) (and_then (index_verdict size index) second)
index_says None None later second h = h
index_says (Some size) None later second h = h
index_says None (Some index) later second h = refl
index_says (Some size) (Some index) later second h = beyond_says (nat_lt size index) later second h

content_says : (possible : Bool) (value : Value) → VerdictSays (first_error (content_rows possible value)) (content_verdict possible value)
content_says possible (Opaque tag CharacterSet) = refl
content_says possible (Opaque tag TooLong) = refl
content_says true value = refl
content_says false value = refl

abbrev typed : Bool → Value → Bool → Result (Unit {0}) WriteFault
typed possible value same = if same then content_verdict possible value else Err invalid_data_type

type_says : (possible : Bool) (value : Value) (same : Bool) →
    VerdictSays (if not same then Some invalid_data_type_error else first_error (content_rows possible value)) (typed possible value same)
type_says possible value true = content_says possible value
type_says possible value false = refl

value_says : (tag : Option ℕ) (possible : Bool) (value : Value) → VerdictSays (first_error (value_rows tag possible value)) (value_verdict tag possible value)
value_says None possible value = refl
value_says (Some tag) possible value = type_says possible value (tag_of value == tag)

-- a property with its rules
pub rules_say : (rules : PropertyRow) (index : Option ℕ) (value : Value) →
    VerdictSays (first_error (table false (Some rules) index (written (Some rules) value))) (and_then (index_verdict rules.size index) (value_verdict rules.tag (rules.can_be value) value))
rules_say rules index value =
    index_says rules.size index (value_rows rules.tag (rules.can_be value) value) (value_verdict rules.tag (rules.can_be value) value) (value_says rules.tag (rules.can_be value) value)
