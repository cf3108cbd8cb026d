-- What passes the tests of a write is taken, and the other way round.
use Rattle.std.proofs.Common.{◌≡◌, ℕ, Bool, true, false, true≢false, ◌||◌, ◌&&◌, Option, Some, None, Result, Ok, Err, IsOk, IsTrue, IsSomeAnd, List, is_none, refl, subst, sym}
use Rattle.std.specs.Prelude.{if◌then◌else◌, ◌==◌}
use Rattle.bac_values.specs.declared.value.Foreign.TheVariants.{CharacterSet, TooLong}
use Rattle.bac_values.specs.declared.value.Value.{Value}
use Rattle.bac_values.specs.declared.value.Value.TheVariants.{Bool as Truth, Bits, Opaque}
use Rattle.bac_values.specs.Identifier.{ObjectIdData}
use Rattle.object_table.specs.declared.change.Change.{Change}
use Rattle.object_table.specs.declared.faults.WriteFault.{WriteFault}
use Rattle.object_table.specs.Values.{are_flags, is_truth}
use Rattle.object_table.specs.Verdicts.{allowed_change, and_then, content_verdict, index_verdict, inhibit_tag, invalid_data_type, property_change, tag_of, unknown_property, value_verdict}
use Rattle.enrollment.specs.declared.enrollment_property.EnrollmentProperty.{EnrollmentProperty}
use Rattle.enrollment.specs.declared.enrollment_property.EnrollmentProperty.TheVariants.{EventEnable, EventAlgorithmInhibit}
use Rattle.enrollment.specs.declared.enrollment_site.EnrollmentSite.{EnrollmentSite}
use Rattle.enrollment.specs.Enrollments.{site_of}
use Rattle.enrollment.specs.Laws.{TakesWhatWritesMake}
use Rattle.enrollment.specs.Properties.{has, length_of, property_of}
use Rattle.enrollment.specs.Verdicts.{can_be, known_verdict, property_verdict, write_by_site, write_verdict, writable_tag}
use Rattle.enrollment.specs.Writes.{IsTaken, takes, takes_known, takes_value}

content_ok : (possible : Bool) (value : Value) → content_verdict possible value ≡ Ok tt → possible ≡ true
content_ok true value h = refl
content_ok false (Opaque tag CharacterSet) h = cc
content_ok false (Opaque tag TooLong) h = cc
content_ok false value h = cc

value_ok : (tag : Option ℕ) (possible : Bool) (value : Value) → value_verdict tag possible value ≡ Ok tt → possible ≡ true
value_ok None possible value h = cc
value_ok (Some tag) possible value h = by_tag (tag_of value == tag) h
  where
    by_tag : (same : Bool) → (if same then content_verdict possible value else Err invalid_data_type) ≡ Ok tt → possible ≡ true
    by_tag true h = content_ok possible value h
    by_tag false h = cc

property_ok : (has possible : Bool) (index : Result (Unit {0}) WriteFault) (tag : Option ℕ) (value : Value) → (if has then and_then index (value_verdict tag possible value) else Err unknown_property) ≡ Ok tt → possible ≡ true
property_ok true possible (Ok passed) tag value h = value_ok tag possible value h
property_ok true possible (Err fault) tag value h = cc
property_ok false possible index tag value h = cc

known_ok : (site : EnrollmentSite) (property : Option EnrollmentProperty) (index : Option ℕ) (value : Value) → known_verdict site property index value ≡ Ok tt → IsTrue (takes_known site property value)
known_ok site None index value h = cc
known_ok site (Some property) index value h = property_ok (has site property) (can_be site property value) (index_verdict (length_of property) index) (writable_tag site property) value h

-- what passes the tests of a write
pub write_ok : (site : EnrollmentSite) (number : ℕ) (index : Option ℕ) (value : Value) → write_verdict site number index value ≡ Ok tt → IsTrue (takes_value number value site)
write_ok site number index value h = known_ok site (property_of number) index value h

-- what an enrollment takes passes the tests of a write without an index, and is three flags, or true or false
inhibit_passes : (reference : Option ObjectIdData) (value : Value) → (is_none reference && is_truth value) ≡ true → value_verdict (inhibit_tag reference) (is_none reference && is_truth value) value ≡ Ok tt
inhibit_passes None (Truth truth) h = refl
inhibit_passes None _ h = absurd (true≢false (sym h))
inhibit_passes (Some referred) value h = absurd (true≢false (sym h))

inhibit_is_truth : (reference : Option ObjectIdData) (value : Value) → (is_none reference && is_truth value) ≡ true → IsTrue (are_flags 3 value || is_truth value)
inhibit_is_truth None (Truth truth) h = refl
inhibit_is_truth None _ h = absurd (true≢false (sym h))
inhibit_is_truth (Some referred) value h = absurd (true≢false (sym h))

small : (site : EnrollmentSite) (property : EnrollmentProperty) (value : Value) → can_be site property value ≡ true → IsTrue (are_flags 3 value || is_truth value)
small site EventEnable value h = rw h refl
small site EventAlgorithmInhibit value h = inhibit_is_truth site.inhibit_ref value h
small site _ value h = absurd (true≢false (sym h))

pub taken_is_small : (site : EnrollmentSite) (property : Option EnrollmentProperty) (value : Value) → IsTrue (takes_known site property value) → IsTrue (are_flags 3 value || is_truth value)
taken_is_small site None value h = absurd (true≢false (sym h))
taken_is_small site (Some property) value h = small site property value h

possible_passes : (site : EnrollmentSite) (property : EnrollmentProperty) (value : Value) → can_be site property value ≡ true → property_verdict site property None value ≡ Ok tt
possible_passes site EventEnable (Bits string) h = rw h refl
possible_passes site EventEnable _ h = absurd (true≢false (sym h))
possible_passes site EventAlgorithmInhibit value h = inhibit_passes site.inhibit_ref value h
possible_passes site _ value h = absurd (true≢false (sym h))

known_passes : (site : EnrollmentSite) (property : Option EnrollmentProperty) (value : Value) → IsTrue (takes_known site property value) → known_verdict site property None value ≡ Ok tt
known_passes site None value h = absurd (true≢false (sym h))
known_passes site (Some property) value h = possible_passes site property value h

passes_by_site : (site : Option EnrollmentSite) (object : ObjectIdData) (number : ℕ) (value : Value) → IsSomeAnd site (λ (s : EnrollmentSite). IsTrue (takes_value number value s)) → IsOk (write_by_site site object number None value)
passes_by_site (Some site) object number value h = rw (known_passes site (property_of number) value h) refl
passes_by_site None object number value h = absurd h

ok_verdict : (verdict : Result (Unit {0}) WriteFault) (change : Change) → IsOk (allowed_change verdict change) → verdict ≡ Ok tt
ok_verdict (Ok passed) change h = refl
ok_verdict (Err fault) change h = absurd (true≢false (sym h))

taken_by_site : (site : Option EnrollmentSite) (object : ObjectIdData) (number : ℕ) (value : Value) → IsOk (write_by_site site object number None value) → IsSomeAnd site (λ (s : EnrollmentSite). IsTrue (takes_value number value s))
taken_by_site (Some site) object number value h = write_ok site number None value (ok_verdict (write_verdict site number None value) (property_change object number value) h)
taken_by_site None object number value h = absurd (true≢false (sym h))

pub takes_what_writes_make : TakesWhatWritesMake
takes_what_writes_make sites object number value =
    (passes_by_site (site_of object sites) object number value, taken_by_site (site_of object sites) object number value)

-- what is found takes a change that it takes itself
pub taken_where : (change : Change) (sites : List EnrollmentSite) (site : EnrollmentSite) → Some site ≡ site_of change.object sites → IsTrue (takes change.what site) → IsTaken change sites
taken_where change sites site found taken = subst (λ (o : Option EnrollmentSite). IsSomeAnd o (λ (s : EnrollmentSite). IsTrue (takes change.what s))) found taken
