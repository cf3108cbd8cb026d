-- A write is answered with the first error of its table.
use Rattle.std.proofs.Common.{◌≡◌, ℕ, Bool, true, false, not, ◌||◌, if◌then◌else◌, nat_lt, Option, Some, None, is_some, Result, Ok, Err, List, refl, sym, ap, ◌∙◌, subst}
use Rattle.std.proofs.lemmas.List.{length-map}
use Rattle.bac_values.specs.Errors.{invalid_array_index_error, write_access_denied_error}
use Rattle.bac_values.specs.Identifier.{ObjectIdData}
use Rattle.bac_values.specs.declared.service_error.ServiceError.{ServiceError}
use Rattle.bac_values.specs.declared.value.Value.{Value}
use Rattle.bac_tags.specs.Writing.{written_object, written_unsigned}
use Rattle.event_log.specs.Log.{EventLogState}
use Rattle.event_log.specs.declared.log_site.LogSite.{LogSite}
use Rattle.notify_class.specs.Recipients.{DestinationData}
use Rattle.notify_class.specs.declared.class_site.ClassSite.{ClassSite}
use Rattle.object_table.specs.declared.change.Change.{Change}
use Rattle.object_table.specs.declared.faults.WriteFault.{WriteFault}
use Rattle.object_table.specs.declared.object_property.ObjectProperty.{ObjectProperty}
use Rattle.object_table.specs.declared.object_site.ObjectSite.{ObjectSite}
use Rattle.object_table.specs.declared.row.Row.{Row}
use Rattle.object_table.specs.Properties as of_objects
use Rattle.object_table.specs.Rows.{is_object}
use Rattle.object_table.specs.Verdicts.{allowed_change, and_then, error_of, index_verdict, invalid_array_index, known_verdict, property_change, unknown_property, value_verdict}
use Rattle.enrollment.specs.declared.enrollment_property.EnrollmentProperty.{EnrollmentProperty}
use Rattle.enrollment.specs.declared.enrollment_site.EnrollmentSite.{EnrollmentSite}
use Rattle.enrollment.specs.Properties as of_enrollments
use Rattle.enrollment.specs.Verdicts as enrollment_values
use Rattle.property_values.specs.declared.class_properties.ClassProperty.{ClassProperty}
use Rattle.property_values.specs.declared.class_properties.ClassProperty.TheVariants.{Priority}
use Rattle.property_values.specs.declared.content.Content.{Content}
use Rattle.property_values.specs.declared.content.ReadFault.{ReadFault}
use Rattle.property_values.specs.declared.device_properties.DeviceProperty.{DeviceProperty}
use Rattle.property_values.specs.declared.device_properties.DeviceProperty.TheVariants.{ObjectList}
use Rattle.property_values.specs.declared.log_properties.LogProperty.{LogProperty}
use Rattle.property_values.specs.ClassProperties as of_classes
use Rattle.property_values.specs.DeviceProperties as of_devices
use Rattle.property_values.specs.LogProperties as of_logs
use Rattle.property_values.specs.Properties as reading
use Rattle.property_values.specs.Reading.{size_of}
use Rattle.alarm_core.specs.declared.site.Site.{Site}
use Rattle.alarm_core.specs.Contents.{class_or_other, recipients_of}
use Rattle.alarm_core.specs.Classes.{class_in}
use Rattle.alarm_core.specs.Devices.{device_object, identifiers_of, listed_class}
use Rattle.alarm_core.specs.Found.{is_other_object}
use Rattle.alarm_core.specs.Logs.{SiteLogState}
use Rattle.alarm_core.specs.Reading.{denied, denied_by, write_by}
use Rattle.alarm_core.specs.State.{CoreState}
use Rattle.profile_laws.specs.ErrorTables.{first_error}
use Rattle.profile_laws.specs.PropertyTables.{PropertyRow, array, class_properties, device_properties, enrollment_properties, log_properties, object_properties, properties_by, properties_of_class, property_in}
use Rattle.profile_laws.proofs.PropertyRules.{class_found, class_rules, class_size, device_found, device_rules, device_size, enrollment_found, enrollment_rule, enrollment_rules, log_found, log_rule, log_rules, object_found, object_rule, object_rules}
use Rattle.profile_laws.proofs.Tests.{VerdictSays, rules_say, table, written}

-- an answer is the error, or a change
abbrev pub WriteSays : Option ServiceError → Result Change WriteFault → Type 0
WriteSays (Some error) answer = answer ≡ Err (error_of error)
WriteSays None answer = (change : Change) × (answer ≡ Ok change)

-- the first error of the table of a write
abbrev pub first_of : Bool → Option PropertyRow → Option ℕ → Value → Option ServiceError
first_of unknown rules index value = first_error (table unknown rules index (written rules value))

allowed_says : (first : Option ServiceError) (verdict : Result (Unit {0}) WriteFault) (change : Change) → VerdictSays first verdict → WriteSays first (allowed_change verdict change)
allowed_says (Some error) verdict change h = ap (λ (v : Result (Unit {0}) WriteFault). allowed_change v change) h
allowed_says None verdict change h = (change, ap (λ (v : Result (Unit {0}) WriteFault). allowed_change v change) h)

-- ---- enrollments, value objects and logs

abbrev rules_verdict : PropertyRow → Option ℕ → Value → Result (Unit {0}) WriteFault
rules_verdict rules index value = and_then (index_verdict rules.size index) (value_verdict rules.tag (rules.can_be value) value)

where_there : (rules : PropertyRow) (index : Option ℕ) (value : Value) (change : Change) (there : Bool) →
    WriteSays (first_of false (if there then Some rules else None) index value) (allowed_change (if there then rules_verdict rules index value else Err unknown_property) change)
where_there rules index value change true = allowed_says (first_of false (Some rules) index value) (rules_verdict rules index value) change (rules_say rules index value)
where_there rules index value change false = refl

enrollment_says : (site : EnrollmentSite) (property : Option EnrollmentProperty) (index : Option ℕ) (value : Value) (change : Change) →
    WriteSays (first_of false (enrollment_rules site property) index value) (allowed_change (enrollment_values.known_verdict site property index value) change)
enrollment_says site None index value change = refl
enrollment_says site (Some property) index value change = where_there (enrollment_rule site property) index value change (of_enrollments.has site property)

row_says : (site : ObjectSite) (property : Option ObjectProperty) (index : Option ℕ) (value : Value) (change : Change) →
    WriteSays (first_of false (object_rules site property) index value) (allowed_change (known_verdict (of_objects.kind_in site) site property index value) change)
row_says site None index value change = refl
row_says site (Some property) index value change = where_there (object_rule site property) index value change (of_objects.has (of_objects.kind_in site) site property)

log_says : (site : LogSite) (log : EventLogState) (number : ℕ) (property : Option LogProperty) (index : Option ℕ) (value : Value) (change : Change) →
    WriteSays (first_of false (log_rules number property) index value) (allowed_change (of_logs.write_with (of_logs.known_log_content site log property) number index value) change)
log_says site log number None index value change = refl
log_says site log number (Some property) index value change =
    allowed_says (first_of false (Some (log_rule number property)) index value) (and_then (index_verdict None index) (value_verdict (of_logs.writable_tag number) (of_logs.takes_value number value) value)) change
    (rules_say (log_rule number property) index value)

-- ---- what can't be written

-- a property that is read alone
abbrev alone : ℕ → Option ℕ → Option PropertyRow
alone number size = Some (array number true size)

denied_says : (number : ℕ) (size index : Option ℕ) (value : Value) → WriteSays (first_of false (alone number size) index value) (denied_by (index_verdict size index))
denied_says number None None value = refl
denied_says number (Some size) None value = refl
denied_says number None (Some index) value = refl
denied_says number (Some size) (Some index) value = by_length (nat_lt size index)
  where
    by_length : (beyond : Bool) → WriteSays (if beyond then Some invalid_array_index_error else Some write_access_denied_error) (denied_by (if beyond then Err invalid_array_index else Ok tt))
    by_length true = refl
    by_length false = refl

content_denied : (number : ℕ) (content : Content) (size : Option ℕ) (index : Option ℕ) (value : Value) → size_of content ≡ size → WriteSays (first_of false (alone number size) index value) (denied (Ok content) index)
content_denied number content size index value e =
    subst (λ (s : Option ℕ). WriteSays (first_of false (alone number s) index value) (denied (Ok content) index)) e (denied_says number (size_of content) index value)

pub device_sizes : (site : Site) (property : DeviceProperty) → size_of (of_devices.device_property site.device (identifiers_of site) property) ≡ device_size site property
device_sizes site ObjectList = ap (λ (n : ℕ). Some n) (length-map (of_devices.object_list (identifiers_of site)) (written_object None))
device_sizes site _ = refl

pub class_sizes : (listed : ClassSite) (recipients : List DestinationData) (property : ClassProperty) → size_of (of_classes.class_property listed recipients property) ≡ class_size listed property
class_sizes listed recipients Priority = ap (λ (n : ℕ). Some n) (length-map listed.class.priority (written_unsigned None))
class_sizes listed recipients _ = refl

device_says : (site : Site) (property : Option DeviceProperty) (index : Option ℕ) (value : Value) →
    WriteSays (first_of false (device_rules site property) index value) (denied (of_devices.known_device_content site.device (identifiers_of site) property) index)
device_says site None index value = refl
device_says site (Some property) index value = content_denied (of_devices.number_of_property property) (of_devices.device_property site.device (identifiers_of site) property) (device_size site property) index value (device_sizes site property)

class_says : (listed : ClassSite) (recipients : List DestinationData) (property : Option ClassProperty) (index : Option ℕ) (value : Value) →
    WriteSays (first_of false (class_rules listed property) index value) (denied (of_classes.known_class_content listed recipients property) index)
class_says listed recipients None index value = refl
class_says listed recipients (Some property) index value = content_denied (of_classes.number_of_property property) (of_classes.class_property listed recipients property) (class_size listed property) index value (class_sizes listed recipients property)

pub or_true : (a : Bool) → (a || true) ≡ true
or_true true = refl
or_true false = refl

module _ (state : CoreState) (object : ObjectIdData) (number : ℕ) (index : Option ℕ) (value : Value) where
  -- what is known is no unknown object
  as_known : (known : Bool) (rules : Option PropertyRow) (answer : Result Change WriteFault) → known ≡ true → WriteSays (first_of false rules index value) answer → WriteSays (first_of (not known) rules index value) answer
  as_known known rules answer e h = subst (λ (k : Bool). WriteSays (first_of (not k) rules index value) answer) (sym e) h

  abbrev table_of : Bool → Option ClassSite → List PropertyRow
  table_of device listed = if device then device_properties state.site else properties_of_class listed

  abbrev other : Bool → Option ClassSite → Result Content ReadFault
  other device listed =
      if device then of_devices.device_content state.site.device (identifiers_of state.site) number
      else class_or_other state.site state.classes object number listed

  -- by the rules of the table
  found_says : (table : List PropertyRow) (rules : Option PropertyRow) (known : Bool) (answer : Result Change WriteFault) → property_in number table ≡ rules → known ≡ true →
      WriteSays (first_of false rules index value) answer → WriteSays (first_of (not known) (property_in number table) index value) answer
  found_says table rules known answer found e h =
      as_known known (property_in number table) answer e (subst (λ (r : Option PropertyRow). WriteSays (first_of false r index value) answer) (sym found) h)

  others_say : (device : Bool) (listed : Option ClassSite) (known : Bool) →
      known ≡ (device || (is_some listed || false)) → is_other_object state.site object ≡ (device || (is_some listed || false)) →
      WriteSays (first_of (not known) (property_in number (table_of device listed)) index value) (denied (other device listed) index)
  others_say true listed known e o =
      found_says (device_properties state.site) (device_rules state.site (of_devices.property_of number)) known (denied (other true listed) index) (device_found state.site number) e
      (device_says state.site (of_devices.property_of number) index value)
  others_say false (Some listed) known e o =
      found_says (class_properties listed) (class_rules listed (of_classes.property_of number)) known (denied (other false (Some listed)) index) (class_found listed number) e
      (class_says listed (recipients_of (class_in listed.class.instance state.classes)) (of_classes.property_of number) index value)
  others_say false None known e o =
      subst (λ (k : Bool). WriteSays (first_of (not k) None index value) (denied (other false None) index)) (sym e)
      (ap (λ (b : Bool). denied (if b then Err reading.unknown_property else Err reading.unknown_object) index) o)

  pub write_says : (enrollment : Option EnrollmentSite) (row : Option Row) (kept : Option SiteLogState) (known : Bool) →
      known ≡ (is_object object (device_object state.site) || (is_some row || (is_some (listed_class object state.site.classes) || (is_some enrollment || is_some kept)))) →
      is_other_object state.site object ≡ (is_object object (device_object state.site) || (is_some (listed_class object state.site.classes) || (is_some enrollment || is_some kept))) →
      WriteSays (first_of (not known) (property_in number (properties_by state.site object enrollment row kept)) index value) (write_by state enrollment row kept object number index value)
  write_says (Some enrollment) row kept known e o =
      let device = is_object object (device_object state.site) in
      let listed = is_some (listed_class object state.site.classes) in
      found_says (enrollment_properties enrollment) (enrollment_rules enrollment (of_enrollments.property_of number)) known (write_by state (Some enrollment) row kept object number index value) (enrollment_found enrollment number)
      (e ∙ (ap (λ b. device || (is_some row || b)) (or_true listed) ∙ (ap (λ b. device || b) (or_true (is_some row)) ∙ or_true device)))
      (enrollment_says enrollment (of_enrollments.property_of number) index value (property_change object number value))
  write_says None (Some row) kept known e o =
      found_says (object_properties row.site) (object_rules row.site (of_objects.property_of number)) known (write_by state None (Some row) kept object number index value) (object_found row.site number)
      (e ∙ or_true (is_object object (device_object state.site)))
      (row_says row.site (of_objects.property_of number) index value (property_change object number value))
  write_says None None (Some kept) known e o =
      let device = is_object object (device_object state.site) in
      found_says log_properties (log_rules number (of_logs.property_of number)) known (write_by state None None (Some kept) object number index value) (log_found number)
      (e ∙ (ap (λ b. device || b) (or_true (is_some (listed_class object state.site.classes))) ∙ or_true device))
      (log_says kept.site kept.log number (of_logs.property_of number) index value (property_change kept.site.object number value))
  write_says None None None known e o = others_say (is_object object (device_object state.site)) (listed_class object state.site.classes) known e o
