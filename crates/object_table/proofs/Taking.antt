-- What passes the tests of a write, or of a set, is taken.
use Rattle.std.proofs.Common.{◌≡◌, ℕ, Bool, true, false, ◌&&◌, Option, Some, None, Result, Ok, Err, IsTrue, IsSomeAnd, List, refl, sym, subst}
use Rattle.std.specs.Prelude.{if◌then◌else◌, ◌==◌}
use Rattle.bac_values.specs.declared.input.SetFault.TheVariants.{WrongKind, OutOfService as IsOutOfService}
use Rattle.bac_values.specs.declared.object_kind.ObjectKind.{ObjectKind}
use Rattle.bac_values.specs.declared.value.Foreign.TheVariants.{CharacterSet, TooLong}
use Rattle.bac_values.specs.declared.value.Value.{Value}
use Rattle.bac_values.specs.declared.value.Value.TheVariants.{Opaque}
use Rattle.object_table.specs.declared.change.Change.{Change}
use Rattle.object_table.specs.declared.faults.WriteFault.{WriteFault}
use Rattle.object_table.specs.declared.object_property.ObjectProperty.{ObjectProperty}
use Rattle.object_table.specs.declared.object_property.ObjectProperty.TheVariants.{PresentValue}
use Rattle.object_table.specs.declared.object_site.ObjectSite.{ObjectSite}
use Rattle.object_table.specs.declared.row.Row.{Row}
use Rattle.object_table.specs.Properties.{kind_in, property_of, has, length_of}
use Rattle.object_table.specs.Rows.{row_of}
use Rattle.object_table.specs.Values.{can_be, is_present_value, takes_known, takes_value}
use Rattle.object_table.specs.Verdicts.{and_then, content_verdict, index_verdict, invalid_data_type, known_verdict, set_range_verdict, set_verdict, tag_of, typed_verdict, unknown_property, value_tag, value_verdict, write_verdict, writable_tag}
use Rattle.object_table.specs.Writes.{IsTaken, takes}

-- what a table takes: its row of the object does
pub taken_by_row : (change : Change) (rows : List Row) (row : Row) → Some row ≡ row_of change.object rows → IsTrue (takes change.what row.site) → IsTaken change rows
taken_by_row change rows row found taken = subst (λ o. IsSomeAnd o (λ (r : Row). IsTrue (takes change.what r.site))) found taken

content_ok : (possible : Bool) (value : Value) → content_verdict possible value ≡ Ok tt → possible ≡ true
content_ok true value h = refl
content_ok false (Opaque tag CharacterSet) h = cc
content_ok false (Opaque tag TooLong) h = cc
content_ok false value h = cc

value_ok : (tag : Option ℕ) (possible : Bool) (value : Value) → value_verdict tag possible value ≡ Ok tt → possible ≡ true
value_ok None possible value h = cc
value_ok (Some tag) possible value h = by_tag (tag_of value == tag) h
  where
    by_tag : (same : Bool) → (if same then content_verdict possible value else Err invalid_data_type) ≡ Ok tt → possible ≡ true
    by_tag true h = content_ok possible value h
    by_tag false h = cc

property_ok : (has possible : Bool) (index : Result (Unit {0}) WriteFault) (tag : Option ℕ) (value : Value) → (if has then and_then index (value_verdict tag possible value) else Err unknown_property) ≡ Ok tt → IsTrue (has && possible)
property_ok true possible (Ok passed) tag value h = value_ok tag possible value h
property_ok true possible (Err fault) tag value h = cc
property_ok false possible index tag value h = cc

known_ok : (kind : Option ObjectKind) (site : ObjectSite) (property : Option ObjectProperty) (index : Option ℕ) (value : Value) → known_verdict kind site property index value ≡ Ok tt → IsTrue (takes_known kind site property value)
known_ok kind site None index value h = cc
known_ok kind site (Some property) index value h =
    property_ok (has kind site property) (can_be kind site property value) (index_verdict (length_of kind site property) index) (writable_tag kind site property) value h

-- what passes the tests of a write
pub write_ok : (site : ObjectSite) (number : ℕ) (index : Option ℕ) (value : Value) → write_verdict site number index value ≡ Ok tt → IsTrue (takes_value number value site)
write_ok site number index value h = known_ok (kind_in site) site (property_of number) index value h

typed_ok : (tag : Option ℕ) (possible : Bool) (value : Value) → typed_verdict tag possible value ≡ Ok tt → possible ≡ true
typed_ok None possible value h = cc
typed_ok (Some tag) possible value h = by_tag (tag_of value == tag) possible h
  where
    by_tag : (same possible : Bool) → (if same then set_range_verdict possible else Err WrongKind) ≡ Ok tt → possible ≡ true
    by_tag true true h = refl
    by_tag true false h = cc
    by_tag false possible h = cc

set_by_service : (out possible : Bool) (tag : Option ℕ) (value : Value) → (if out then Err IsOutOfService else typed_verdict tag possible value) ≡ Ok tt → possible ≡ true
set_by_service true possible tag value h = cc
set_by_service false possible tag value h = typed_ok tag possible value h

present_value : property_of 85 ≡ Some PresentValue
unfolding property_of
present_value = refl

-- what passes the tests of a set
pub set_ok : (site : ObjectSite) (value : Value) → set_verdict (kind_in site) site value ≡ Ok tt → IsTrue (takes_value 85 value site)
set_ok site value h =
    let possible : IsTrue (is_present_value (kind_in site) site value) = set_by_service site.out_of_service (is_present_value (kind_in site) site value) (value_tag (kind_in site)) value h in
    subst (λ (p : Option ObjectProperty). IsTrue (takes_known (kind_in site) site p value)) (sym present_value) possible
