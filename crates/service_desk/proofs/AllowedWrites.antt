-- A write that is answered with no error makes a change that is allowed, with an index or without.
use Rattle.std.proofs.Common.{◌≡◌, ℕ, Bool, true, false, List, Option, Some, None, Result, Ok, Err, IsOk, if◌then◌else◌, refl, ap, ◌∙◌, sym, subst}
use Rattle.bac_values.specs.Identifier.{ObjectIdData}
use Rattle.bac_values.specs.Properties.{present_value_property}
use Rattle.bac_values.specs.declared.input.SetFault.TheVariants.{ValueRange}
use Rattle.bac_values.specs.declared.object_kind.ObjectKind.{ObjectKind}
use Rattle.bac_values.specs.declared.value.Value.{Value}
use Rattle.object_table.specs.declared.change.Change.{Change}
use Rattle.object_table.specs.declared.faults.WriteFault.{WriteFault}
use Rattle.object_table.specs.declared.object_property.ObjectProperty.{ObjectProperty}
use Rattle.object_table.specs.declared.object_site.ObjectSite.{ObjectSite}
use Rattle.object_table.specs.declared.row.Row.{Row}
use Rattle.object_table.specs.Properties.{has, kind_in, length_of, property_of}
use Rattle.object_table.specs.Rows.{is_object, row_of}
use Rattle.object_table.specs.Values.{can_be, is_field_fault}
use Rattle.object_table.specs.Verdicts.{allowed_change, and_then, fault_by_row, fault_change, index_verdict, known_verdict, property_change, set_by_row, set_verdict, unknown_property, value_verdict, writable_tag, write_verdict}
use Rattle.enrollment.specs.declared.enrollment_property.EnrollmentProperty.{EnrollmentProperty}
use Rattle.enrollment.specs.declared.enrollment_site.EnrollmentSite.{EnrollmentSite}
use Rattle.enrollment.specs.Enrollments.{site_of}
use Rattle.enrollment.specs.Properties as enrollments
use Rattle.enrollment.specs.Verdicts as sites
use Rattle.property_values.specs.declared.content.ReadFault.{ReadFault}
use Rattle.alarm_core.specs.declared.event.Act.TheVariants.{Write}
use Rattle.alarm_core.specs.declared.event.Event.{Event}
use Rattle.alarm_core.specs.declared.site.Site.{Site}
use Rattle.alarm_core.specs.Allowed.{IsAllowed}
use Rattle.alarm_core.specs.Contents.{other_content}
use Rattle.property_values.specs.LogProperties.{log_content, log_write, write_with}
use Rattle.property_values.specs.LogProperties as log_properties
use Rattle.alarm_core.specs.Logs.{kept_log, SiteLogState}
use Rattle.alarm_core.specs.Logs as logs
use Rattle.alarm_core.specs.Reading.{denied, denied_by, write_by, write_of}
use Rattle.alarm_core.specs.Sites.{IsSite}
use Rattle.alarm_core.specs.State.{state_of, CoreState}
use Rattle.alarm_core.proofs.Accepted.{allows_what_checks_accept}
use Rattle.enrollment.proofs.Parted.{found_passes, same_object}

-- ---- verdicts

passed_verdict : {Fault : Type 0} (verdict : Result (Unit {0}) Fault) (given change : Change) → allowed_change verdict given ≡ Ok change → verdict ≡ Ok tt
passed_verdict (Ok passed) given change e = refl
passed_verdict (Err fault) given change e = absurd cc

given_change : {Fault : Type 0} (verdict : Result (Unit {0}) Fault) (given change : Change) → allowed_change verdict given ≡ Ok change → given ≡ change
given_change (Ok passed) given change e = cc
given_change (Err fault) given change e = absurd cc

ok_change : {Fault : Type 0} (verdict : Result (Unit {0}) Fault) (given : Change) → verdict ≡ Ok tt → IsOk (allowed_change verdict given)
ok_change (Ok passed) given e = refl
ok_change (Err fault) given e = absurd cc

second_passed : {Fault : Type 0} (first second : Result (Unit {0}) Fault) → and_then first second ≡ Ok tt → second ≡ Ok tt
second_passed (Ok passed) second e = e
second_passed (Err fault) second e = absurd cc

-- ---- what passes with an index passes without

there_or_not : (there : Bool) (size index : Option ℕ) (second : Result (Unit {0}) WriteFault) →
    (if there then and_then (index_verdict size index) second else Err unknown_property) ≡ Ok tt →
    (if there then and_then (index_verdict size None) second else Err unknown_property) ≡ Ok tt
there_or_not true size index second e = second_passed (index_verdict size index) second e
there_or_not false size index second e = e

row_plain : (kind : Option ObjectKind) (site : ObjectSite) (property : Option ObjectProperty) (index : Option ℕ) (value : Value) →
    known_verdict kind site property index value ≡ Ok tt → known_verdict kind site property None value ≡ Ok tt
row_plain kind site None index value e = e
row_plain kind site (Some property) index value e =
    there_or_not (has kind site property) (length_of kind site property) index (value_verdict (writable_tag kind site property) (can_be kind site property value) value) e

site_plain : (site : EnrollmentSite) (property : Option EnrollmentProperty) (index : Option ℕ) (value : Value) → sites.known_verdict site property index value ≡ Ok tt → sites.known_verdict site property None value ≡ Ok tt
site_plain site None index value e = e
site_plain site (Some property) index value e =
    there_or_not (enrollments.has site property) (enrollments.length_of property) index (value_verdict (sites.writable_tag site property) (sites.can_be site property value) value) e

-- what follows from what is read, or from the fault
of_read : {X : Type 0} (P Q : Result X ReadFault → Type 0) → ((fault : ReadFault) → P (Err fault) → Q (Err fault)) → ((x : X) → P (Ok x) → Q (Ok x)) → (read : Result X ReadFault) → P read → Q read
of_read P Q first second (Err fault) p = first fault p
of_read P Q first second (Ok x) p = second x p

log_plain : (log : SiteLogState) (number : ℕ) (index : Option ℕ) (value : Value) → write_with (log_content log.site log.log number) number index value ≡ Ok tt → write_with (log_content log.site log.log number) number None value ≡ Ok tt
log_plain log number index value e =
    of_read (λ content. write_with content number index value ≡ Ok tt) (λ content. write_with content number None value ≡ Ok tt) (λ fault p. p)
    (λ content p. second_passed (index_verdict None index) (value_verdict (log_properties.writable_tag number) (logs.takes_value number value) value) p)
    (log_content log.site log.log number) e

-- ---- a write

never_by : (verdict : Result (Unit {0}) WriteFault) (change : Change) → denied_by verdict ≡ Ok change → ⊥
never_by (Ok passed) change e = cc
never_by (Err fault) change e = cc

never_denied : (state : CoreState) (object : ObjectIdData) (number : ℕ) (index : Option ℕ) (change : Change) → denied (other_content state.site state.classes object number) index ≡ Ok change → ⊥
never_denied state object number index change e =
    of_read (λ content. denied content index ≡ Ok change) (λ content. ⊥) (λ fault p. absurd cc) (λ content p. never_by _ change p) (other_content state.site state.classes object number) e

-- the change is that of the value, which a write without an index makes too
record Writes (plain : Result Change WriteFault) (object : ObjectIdData) (number : ℕ) (value : Value) (change : Change) : Type 0 where
  passes : IsOk plain
  is : property_change object number value ≡ change

writes_by : (state : CoreState) (site : Option EnrollmentSite) (row : Option Row) (kept : Option SiteLogState) (object : ObjectIdData) (number : ℕ) (index : Option ℕ) (value : Value) (change : Change) →
    ((log : SiteLogState) → kept ≡ Some log → log.site.object ≡ object) → write_by state site row kept object number index value ≡ Ok change →
    Writes (write_by state site row kept object number None value) object number value change
writes_by state (Some site) row kept object number index value change own e =
    let given = property_change object number value in
    record {
      passes = ok_change (sites.write_verdict site number None value) given (site_plain site (enrollments.property_of number) index value (passed_verdict (sites.write_verdict site number index value) given change e));
      is = given_change (sites.write_verdict site number index value) given change e;
    }
writes_by state None (Some row) kept object number index value change own e =
    let given = property_change object number value in
    record {
      passes = ok_change (write_verdict row.site number None value) given (row_plain (kind_in row.site) row.site (property_of number) index value (passed_verdict (write_verdict row.site number index value) given change e));
      is = given_change (write_verdict row.site number index value) given change e;
    }
writes_by state None None (Some log) object number index value change own e =
    let given = property_change log.site.object number value in
    record {
      passes = ok_change (write_with (log_content log.site log.log number) number None value) given (log_plain log number index value (passed_verdict (write_with (log_content log.site log.log number) number index value) given change e));
      is = ap (λ o. property_change o number value) (sym (own log refl)) ∙ given_change (write_with (log_content log.site log.log number) number index value) given change e;
    }
writes_by state None None None object number index value change own e =
    absurd (never_denied state object number index change e)

-- what a write makes is allowed
pub write_allowed : (site : Site) → IsSite site → (history : List Event) (object : ObjectIdData) (number : ℕ) (index : Option ℕ) (value : Value) (change : Change) →
    write_of (state_of site history) object number index value ≡ Ok change → IsAllowed (state_of site history) (Write change)
write_allowed site is history object number index value change e =
    let state = state_of site history in
    let own : (log : SiteLogState) → kept_log object state.logs ≡ Some log → log.site.object ≡ object =
    λ log found. same_object object log.site.object (found_passes (λ (k : SiteLogState). is_object object k.site.object) state.logs log found) in
    let writes = writes_by state (site_of object state.values.enrollments) (row_of object state.values.rows) (kept_log object state.logs) object number index value change own e in
    subst (λ c. IsAllowed state (Write c)) writes.is ((allows_what_checks_accept.writes site is history object number value).1 writes.passes)

-- ---- what comes from the field

ok_of : {A E : Type 0} (answer : Result A E) (x : A) → answer ≡ Ok x → IsOk answer
ok_of (Ok y) x e = refl
ok_of (Err fault) x e = absurd cc

set_made : (row : Option Row) (object : ObjectIdData) (value : Value) (change : Change) → set_by_row row object value ≡ Ok change → property_change object present_value_property value ≡ change
set_made (Some row) object value change e = given_change (set_verdict (kind_in row.site) row.site value) (property_change object present_value_property value) change e
set_made None object value change e = absurd cc

pub set_allowed : (state : CoreState) (object : ObjectIdData) (value : Value) (change : Change) → set_by_row (row_of object state.values.rows) object value ≡ Ok change → IsAllowed state (Write change)
set_allowed state object value change e =
    let row = row_of object state.values.rows in
    subst (λ c. IsAllowed state (Write c)) (set_made row object value change e) (allows_what_checks_accept.sets state object value (ok_of (set_by_row row object value) change e))

fault_tested : (fault : Bool) (given change : Change) → (if fault then Ok given else Err ValueRange) ≡ Ok change → given ≡ change
fault_tested true given change e = cc
fault_tested false given change e = absurd cc

fault_made : (row : Option Row) (object : ObjectIdData) (reliability : ℕ) (change : Change) → fault_by_row row object reliability ≡ Ok change → fault_change object reliability ≡ change
fault_made (Some row) object reliability change e = fault_tested (is_field_fault reliability) (fault_change object reliability) change e
fault_made None object reliability change e = absurd cc

pub fault_allowed : (state : CoreState) (object : ObjectIdData) (reliability : ℕ) (change : Change) → fault_by_row (row_of object state.values.rows) object reliability ≡ Ok change → IsAllowed state (Write change)
fault_allowed state object reliability change e =
    let row = row_of object state.values.rows in
    subst (λ c. IsAllowed state (Write c)) (fault_made row object reliability change e)
    ((allows_what_checks_accept.field_faults state object reliability).1 (ok_of (fault_by_row row object reliability) change e))
