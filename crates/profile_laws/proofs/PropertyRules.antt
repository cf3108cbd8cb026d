-- The tables of properties have the rules by which requests are answered.
use Rattle.std.proofs.Common.{◌≡◌, ℕ, zero, Bool, true, false, ◌==◌, if◌then◌else◌, Option, Some, None, List, length, map, refl, sym, ap, ◌∙◌}
use Rattle.std.proofs.Math.Path.{fun_ext}
use Rattle.std.proofs.lemmas.Bool.{eqb-true}
use Rattle.std.specs.List.{find}
use Rattle.std.specs.Option.{option_map}
use Rattle.bac_values.specs.declared.value.Value.{Value}
use Rattle.bac_values.specs.declared.value.Value.TheVariants.{Bool as Truth, Unsigned}
use Rattle.object_table.specs.declared.object_property.ObjectProperty.{ObjectProperty}
use Rattle.object_table.specs.declared.object_site.ObjectSite.{ObjectSite}
use Rattle.object_table.specs.Properties as of_objects
use Rattle.object_table.specs.Values as values
use Rattle.object_table.specs.Verdicts as tags
use Rattle.enrollment.specs.declared.enrollment_property.EnrollmentProperty.{EnrollmentProperty}
use Rattle.enrollment.specs.declared.enrollment_site.EnrollmentSite.{EnrollmentSite}
use Rattle.enrollment.specs.Properties as of_enrollments
use Rattle.enrollment.specs.Verdicts as enrollment_values
use Rattle.notify_class.specs.declared.class_site.ClassSite.{ClassSite}
use Rattle.property_values.specs.declared.class_properties.ClassProperty.{ClassProperty}
use Rattle.property_values.specs.declared.class_properties.ClassProperty.TheVariants.{Priority}
use Rattle.property_values.specs.declared.device_properties.DeviceProperty.{DeviceProperty}
use Rattle.property_values.specs.declared.device_properties.DeviceProperty.TheVariants.{ObjectList}
use Rattle.property_values.specs.declared.log_properties.LogProperty.{LogProperty}
use Rattle.property_values.specs.declared.log_properties.LogProperty.TheVariants.{BufferSize, Enable, ObjectIdentifier, ObjectName, ObjectType, RecordCount, StopWhenFull, TotalRecordCount}
use Rattle.property_values.specs.ClassProperties as of_classes
use Rattle.property_values.specs.DeviceProperties as of_devices
use Rattle.property_values.specs.LogProperties as of_logs
use Rattle.alarm_core.specs.declared.site.Site.{Site}
use Rattle.alarm_core.specs.Devices.{identifiers_of}
use Rattle.alarm_core.proofs.Searches.{find_map, passes}
use Rattle.profile_laws.specs.PropertyTables.{PropertyRow, array, class_properties, device_properties, enrollment_properties, if_there, is_zero, log_properties, object_properties, property_in, read, written}

-- a table that is made of the properties of an object, one after the other, has a property where that is found by its number
found : {X : Type 0} (number : ℕ) (number_of : X → ℕ) (row : X → PropertyRow) → ((x : X) → (row x).number ≡ number_of x) → (xs : List X) →
    find (λ (r : PropertyRow). r.number == number) (map row xs) ≡ option_map row (find (λ x. number_of x == number) xs)
found number number_of row same xs =
    find_map row (λ (r : PropertyRow). r.number == number) xs ∙ ap (λ test. option_map row (find test xs)) (fun_ext (λ x. ap (λ n. n == number) (same x)))

-- ---- value objects

abbrev pub object_rule : ObjectSite → ObjectProperty → PropertyRow
object_rule site property =
    record {
      number = of_objects.number_of_property property;
      there = of_objects.has (of_objects.kind_in site) site property;
      size = of_objects.length_of (of_objects.kind_in site) site property;
      tag = tags.writable_tag (of_objects.kind_in site) site property;
      can_be = values.can_be (of_objects.kind_in site) site property;
    }

abbrev pub object_rules : ObjectSite → Option ObjectProperty → Option PropertyRow
object_rules site property = if_there (option_map (object_rule site) property)

pub object_found : (site : ObjectSite) (number : ℕ) → property_in number (object_properties site) ≡ object_rules site (of_objects.property_of number)
unfolding of_objects.property_of
object_found site number = ap if_there (found number of_objects.number_of_property (object_rule site) (λ x. refl) of_objects.object_properties)

-- ---- enrollments

abbrev pub enrollment_rule : EnrollmentSite → EnrollmentProperty → PropertyRow
enrollment_rule site property =
    record {
      number = of_enrollments.number_of_property property;
      there = of_enrollments.has site property;
      size = of_enrollments.length_of property;
      tag = enrollment_values.writable_tag site property;
      can_be = enrollment_values.can_be site property;
    }

abbrev pub enrollment_rules : EnrollmentSite → Option EnrollmentProperty → Option PropertyRow
enrollment_rules site property = if_there (option_map (enrollment_rule site) property)

pub enrollment_found : (site : EnrollmentSite) (number : ℕ) → property_in number (enrollment_properties site) ≡ enrollment_rules site (of_enrollments.property_of number)
unfolding of_enrollments.property_of
enrollment_found site number = ap if_there (found number of_enrollments.number_of_property (enrollment_rule site) (λ x. refl) of_enrollments.enrollment_properties)

-- ---- the device and notification classes

there_anyhow : {X : Type 0} (row : X → PropertyRow) → ((x : X) → (row x).there ≡ true) → (property : Option X) → if_there (option_map row property) ≡ option_map row property
there_anyhow row h None = refl
there_anyhow row h (Some property) = ap (λ (b : Bool). if b then Some (row property) else None) (h property)

abbrev pub device_size : Site → DeviceProperty → Option ℕ
device_size site ObjectList = Some (length (of_devices.object_list (identifiers_of site)))
device_size site _ = None

abbrev pub device_rule : Site → DeviceProperty → PropertyRow
device_rule site property = array (of_devices.number_of_property property) true (device_size site property)

abbrev pub device_rules : Site → Option DeviceProperty → Option PropertyRow
device_rules site property = option_map (device_rule site) property

pub device_found : (site : Site) (number : ℕ) → property_in number (device_properties site) ≡ device_rules site (of_devices.property_of number)
unfolding of_devices.property_of
device_found site number =
    ap if_there (found number of_devices.number_of_property (device_rule site) (λ x. refl) of_devices.device_properties)
    ∙ there_anyhow (device_rule site) (λ x. refl) (find (λ property. of_devices.number_of_property property == number) of_devices.device_properties)

abbrev pub class_size : ClassSite → ClassProperty → Option ℕ
class_size listed Priority = Some (length listed.class.priority)
class_size listed _ = None

abbrev pub class_rule : ClassSite → ClassProperty → PropertyRow
class_rule listed property = array (of_classes.number_of_property property) true (class_size listed property)

abbrev pub class_rules : ClassSite → Option ClassProperty → Option PropertyRow
class_rules listed property = option_map (class_rule listed) property

pub class_found : (listed : ClassSite) (number : ℕ) → property_in number (class_properties listed) ≡ class_rules listed (of_classes.property_of number)
unfolding of_classes.property_of
class_found listed number =
    ap if_there (found number of_classes.number_of_property (class_rule listed) (λ x. refl) of_classes.class_properties)
    ∙ there_anyhow (class_rule listed) (λ x. refl) (find (λ property. of_classes.number_of_property property == number) of_classes.class_properties)

-- ---- logs

abbrev log_row : LogProperty → PropertyRow
log_row Enable = written 133 true (Some 1) values.is_truth
log_row RecordCount = written 141 true (Some 2) is_zero
log_row property = read (of_logs.number_of_property property) true

log_number : (property : LogProperty) → (log_row property).number ≡ of_logs.number_of_property property
log_number Enable = refl
log_number RecordCount = refl
log_number _ = refl

log_there : (property : LogProperty) → (log_row property).there ≡ true
log_there Enable = refl
log_there RecordCount = refl
log_there _ = refl

abbrev log_with : LogProperty → ℕ → (Value → Bool) → PropertyRow
log_with property number can_be = record { number = of_logs.number_of_property property; there = true; size = None; tag = of_logs.writable_tag number; can_be = can_be }

abbrev pub log_rule : ℕ → LogProperty → PropertyRow
log_rule number property = log_with property number (of_logs.takes_value number)

abbrev pub log_rules : ℕ → Option LogProperty → Option PropertyRow
log_rules number property = option_map (log_rule number) property

takes_truth : (value : Value) → values.is_truth value ≡ of_logs.takes_value 133 value
takes_truth (Truth on) = refl
takes_truth (Unsigned zero) = refl
takes_truth _ = refl

takes_zero : (value : Value) → is_zero value ≡ of_logs.takes_value 141 value
takes_zero (Truth on) = refl
takes_zero (Unsigned zero) = refl
takes_zero _ = refl

takes_none : (number : ℕ) → (number == 133) ≡ false → (number == 141) ≡ false → (value : Value) → false ≡ of_logs.takes_value number value
takes_none number e r (Truth on) = sym e
takes_none number e r (Unsigned zero) = sym r
takes_none number e r _ = refl

log_same : (property : LogProperty) → log_row property ≡ log_rule (of_logs.number_of_property property) property
log_same Enable = ap (log_with Enable 133) (fun_ext takes_truth)
log_same RecordCount = ap (log_with RecordCount 141) (fun_ext takes_zero)
log_same ObjectIdentifier = ap (log_with ObjectIdentifier 75) (fun_ext (takes_none 75 refl refl))
log_same ObjectName = ap (log_with ObjectName 77) (fun_ext (takes_none 77 refl refl))
log_same ObjectType = ap (log_with ObjectType 79) (fun_ext (takes_none 79 refl refl))
log_same BufferSize = ap (log_with BufferSize 126) (fun_ext (takes_none 126 refl refl))
log_same StopWhenFull = ap (log_with StopWhenFull 144) (fun_ext (takes_none 144 refl refl))
log_same TotalRecordCount = ap (log_with TotalRecordCount 145) (fun_ext (takes_none 145 refl refl))

log_by : (number : ℕ) (property : Option LogProperty) → of_logs.property_of number ≡ property → option_map log_row property ≡ log_rules number property
unfolding of_logs.property_of
log_by number None e = refl
log_by number (Some property) e =
    let is : of_logs.number_of_property property ≡ number = eqb-true (of_logs.number_of_property property) number (passes (λ p. of_logs.number_of_property p == number) property of_logs.log_properties e) in
    ap (λ (row : PropertyRow). Some row) (log_same property ∙ ap (λ n. log_rule n property) is)

pub log_found : (number : ℕ) → property_in number log_properties ≡ log_rules number (of_logs.property_of number)
unfolding of_logs.property_of
log_found number =
    ap if_there (found number of_logs.number_of_property log_row log_number of_logs.log_properties)
    ∙ (there_anyhow log_row log_there (of_logs.property_of number) ∙ log_by number (of_logs.property_of number) refl)
