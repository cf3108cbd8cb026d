-- A read is answered with the first error of its table.
use Rattle.std.proofs.Common.{◌≡◌, ◌≤◌, ◌<◌, ℕ, zero, suc, ◌-◌, ◌==◌, Bool, true, false, not, ◌||◌, if◌then◌else◌, nat_lt, Option, Some, None, is_some, Result, Ok, Err, List, [], length, get_or, refl, sym, ap, ◌∙◌, subst, arith, inl, inr}
use Rattle.std.specs.List.{flat_map, slice_get}
use Rattle.std.proofs.lemmas.Bool.{cases_Bool, ltb-true, ltb-false, ne_eqb}
use Rattle.std.proofs.lemmas.List.{length-map}
use Rattle.std.proofs.lemmas.Option.{slice_get_past, slice_get-get_or}
use Rattle.bac_values.specs.Errors.{invalid_array_index_error}
use Rattle.bac_values.specs.Identifier.{ObjectIdData}
use Rattle.bac_values.specs.declared.object_kind.ObjectKind.{ObjectKind}
use Rattle.bac_values.specs.declared.object_kind.ObjectKind.TheVariants.{MultiStateValue}
use Rattle.bac_values.specs.declared.reliability.Reliability.{Reliability as Reliability'}
use Rattle.bac_values.specs.declared.service_error.ServiceError.{ServiceError}
use Rattle.bac_values.specs.declared.value.Value.{Value}
use Rattle.bac_tags.specs.Writing.{written_unsigned, written_value}
use Rattle.event_log.specs.Log.{EventLogState}
use Rattle.event_log.specs.declared.log_site.LogSite.{LogSite}
use Rattle.event_machine.specs.Summary.{AlarmState}
use Rattle.notify_class.specs.Recipients.{DestinationData}
use Rattle.notify_class.specs.declared.class_site.ClassSite.{ClassSite}
use Rattle.object_table.specs.declared.object_property.ObjectProperty.{ObjectProperty}
use Rattle.object_table.specs.declared.object_property.ObjectProperty.TheVariants.{AlarmValues, EventAlgorithmInhibitRef, EventTimeStamps, FaultValues}
use Rattle.object_table.specs.declared.row.Row.{Row}
use Rattle.object_table.specs.Properties as of_objects
use Rattle.object_table.specs.Rows.{is_object}
use Rattle.enrollment.specs.declared.enrollment_property.EnrollmentProperty.{EnrollmentProperty}
use Rattle.enrollment.specs.declared.enrollment_property.EnrollmentProperty.TheVariants as enrolled
use Rattle.enrollment.specs.declared.enrollment_site.EnrollmentSite.{EnrollmentSite}
use Rattle.enrollment.specs.Properties as of_enrollments
use Rattle.enrollment.specs.Reliabilities.{reliability_of_enrollment}
use Rattle.enrollment.specs.Subjects.{is_inhibited}
use Rattle.property_values.specs.declared.class_properties.ClassProperty.{ClassProperty}
use Rattle.property_values.specs.declared.content.Content.{Content}
use Rattle.property_values.specs.declared.content.Content.TheVariants.{Whole, Elements}
use Rattle.property_values.specs.declared.content.ReadFault.{ReadFault}
use Rattle.property_values.specs.declared.device_properties.DeviceProperty.{DeviceProperty}
use Rattle.property_values.specs.declared.log_properties.LogProperty.{LogProperty}
use Rattle.property_values.specs.declared.log_properties.LogProperty.TheVariants.{Enable}
use Rattle.property_values.specs.ClassProperties as of_classes
use Rattle.property_values.specs.DeviceProperties as of_devices
use Rattle.property_values.specs.LogProperties as of_logs
use Rattle.property_values.specs.Properties as reading
use Rattle.property_values.specs.Reading.{found_element, part_in, part_of, size_of}
use Rattle.alarm_core.specs.declared.site.Site.{Site}
use Rattle.alarm_core.specs.Classes.{class_in}
use Rattle.alarm_core.specs.Contents.{class_or_other, content_by, recipients_of}
use Rattle.alarm_core.specs.Devices.{device_object, identifiers_of, listed_class}
use Rattle.alarm_core.specs.EnrollmentProperties as enrollments
use Rattle.alarm_core.specs.Found.{alarm_in, is_other_object}
use Rattle.alarm_core.specs.Logs.{SiteLogState}
use Rattle.alarm_core.specs.State.{CoreState}
use Rattle.profile_laws.specs.ErrorTables.{first_error}
use Rattle.profile_laws.specs.PropertyTables.{PropertyRow, class_properties, device_properties, enrollment_properties, log_properties, object_properties, properties_by, properties_of_class, property_in}
use Rattle.profile_laws.proofs.PropertyRules.{class_found, class_rules, device_found, device_rules, enrollment_found, enrollment_rule, enrollment_rules, log_found, log_rules, object_found, object_rule, object_rules}
use Rattle.profile_laws.proofs.Tests.{index_rows, table}
use Rattle.profile_laws.proofs.WriteTables.{class_sizes, device_sizes, or_true}

-- an answer is the error, or octets
abbrev pub ReadSays : Option ServiceError → Result (List ℕ) ReadFault → Type 0
ReadSays (Some error) answer = answer ≡ Err (reading.error_of error)
ReadSays None answer = (octets : List ℕ) × (answer ≡ Ok octets)

-- the first error of the table of a read
abbrev pub first_of : Bool → Option PropertyRow → Option ℕ → Option ServiceError
first_of unknown rules index = first_error (table unknown rules index [])

-- ---- an index

abbrev element : List (List ℕ) → ℕ → Result (List ℕ) ReadFault
element elements index = if index == 0 then Ok (written_unsigned None (length elements)) else found_element (slice_get elements (index - 1))

later : (elements : List (List ℕ)) (index : ℕ) → 0 < index → element elements index ≡ found_element (slice_get elements (index - 1))
later elements index h =
    let none : (index == 0) ≡ false = ne_eqb index 0 (λ first. omega (arith, h, first)) in
    ap (λ (b : Bool). if b then Ok (written_unsigned None (length elements)) else found_element (slice_get elements (index - 1))) none

past : (elements : List (List ℕ)) (index : ℕ) → length elements < index → element elements index ≡ Err reading.invalid_array_index
past elements index h = later elements index (omega (arith, h)) ∙ ap found_element (slice_get_past elements (index - 1) (omega (arith, h)))

within : (elements : List (List ℕ)) (index : ℕ) → index ≤ length elements → (octets : List ℕ) × (element elements index ≡ Ok octets)
within elements zero h = (written_unsigned None (length elements), refl)
within elements (suc index) h =
    let before : suc index - 1 ≡ index = omega arith in
    (get_or elements index [], later elements (suc index) (omega arith) ∙ (ap (λ (place : ℕ). found_element (slice_get elements place)) before ∙ ap found_element (slice_get-get_or elements index [] (omega (arith, h)))))

element_says : (elements : List (List ℕ)) (index : ℕ) → ReadSays (if nat_lt (length elements) index then Some invalid_array_index_error else None) (element elements index)
element_says elements index = elim (cases_Bool (nat_lt (length elements) index)) [
  | inl above ↦ subst (λ (b : Bool). ReadSays (if b then Some invalid_array_index_error else None) (element elements index)) (sym above) (past elements index (ltb-true (length elements) index above))
  | inr below ↦ subst (λ (b : Bool). ReadSays (if b then Some invalid_array_index_error else None) (element elements index)) (sym below) (within elements index (ltb-false (length elements) index below))
]

part_says : (content : Content) (index : Option ℕ) → ReadSays (first_error (index_rows (size_of content) index [])) (part_of content index)
part_says (Whole octets) None = (octets, refl)
part_says (Whole octets) (Some index) = refl
part_says (Elements elements) None = (flat_map (λ (octets : List ℕ). octets) elements, refl)
part_says (Elements elements) (Some index) = element_says elements index

content_says : (content : Content) (rules : PropertyRow) (index : Option ℕ) → size_of content ≡ rules.size → ReadSays (first_of false (Some rules) index) (part_of content index)
content_says content rules index e = subst (λ (s : Option ℕ). ReadSays (first_error (index_rows s index [])) (part_of content index)) e (part_says content index)

-- ---- value objects, enrollments and logs

values_sizes : (kind : Option ObjectKind) (items : List Value) → size_of (reading.values_of kind items) ≡ of_objects.array_of_values kind items
values_sizes (Some MultiStateValue) items = refl
values_sizes _ items = ap (λ (n : ℕ). Some n) (length-map items written_value)

reference_sizes : (reference : Option ObjectIdData) → size_of (reading.reference_to reference) ≡ None
reference_sizes None = refl
reference_sizes (Some object) = refl

row_sizes : (kind : Option ObjectKind) (alarm : AlarmState) (inhibited : Bool) (row : Row) (property : ObjectProperty) → length alarm.stamps ≡ 3 →
    size_of (reading.object_content kind alarm inhibited row property) ≡ of_objects.length_of kind row.site property
row_sizes kind alarm inhibited row AlarmValues h = values_sizes kind row.site.alarm_values
row_sizes kind alarm inhibited row FaultValues h = values_sizes kind row.site.fault_values
row_sizes kind alarm inhibited row EventAlgorithmInhibitRef h = reference_sizes row.site.inhibit_ref
row_sizes kind alarm inhibited row EventTimeStamps h = ap (λ (n : ℕ). Some n) (length-map alarm.stamps reading.written_time_stamp ∙ h)
row_sizes kind alarm inhibited row _ h = refl

where_there : (content : Content) (rules : PropertyRow) (index : Option ℕ) (there : Bool) → size_of content ≡ rules.size →
    ReadSays (first_of false (if there then Some rules else None) index) (part_in (if there then Ok content else Err reading.unknown_property) index)
where_there content rules index true e = content_says content rules index e
where_there content rules index false e = refl

row_says : (alarm : AlarmState) (inhibited : Bool) (row : Row) (property : Option ObjectProperty) (index : Option ℕ) → length alarm.stamps ≡ 3 →
    ReadSays (first_of false (object_rules row.site property) index) (part_in (reading.known_content (of_objects.kind_in row.site) alarm inhibited row property) index)
row_says alarm inhibited row None index h = refl
row_says alarm inhibited row (Some property) index h =
    where_there (reading.object_content (of_objects.kind_in row.site) alarm inhibited row property) (object_rule row.site property) index (of_objects.has (of_objects.kind_in row.site) row.site property)
    (row_sizes (of_objects.kind_in row.site) alarm inhibited row property h)

enrollment_sizes : (alarm : AlarmState) (reliability : Reliability') (inhibited : Bool) (site : EnrollmentSite) (property : EnrollmentProperty) → length alarm.stamps ≡ 3 →
    size_of (enrollments.enrollment_property alarm reliability inhibited site property) ≡ of_enrollments.length_of property
enrollment_sizes alarm reliability inhibited site enrolled.EventAlgorithmInhibitRef h = reference_sizes site.inhibit_ref
enrollment_sizes alarm reliability inhibited site enrolled.EventTimeStamps h = ap (λ (n : ℕ). Some n) (length-map alarm.stamps reading.written_time_stamp ∙ h)
enrollment_sizes alarm reliability inhibited site _ h = refl

enrollment_says : (alarm : AlarmState) (reliability : Reliability') (inhibited : Bool) (site : EnrollmentSite) (property : Option EnrollmentProperty) (index : Option ℕ) → length alarm.stamps ≡ 3 →
    ReadSays (first_of false (enrollment_rules site property) index) (part_in (enrollments.known_enrollment_content alarm reliability inhibited site property) index)
enrollment_says alarm reliability inhibited site None index h = refl
enrollment_says alarm reliability inhibited site (Some property) index h =
    where_there (enrollments.enrollment_property alarm reliability inhibited site property) (enrollment_rule site property) index (of_enrollments.has site property)
    (enrollment_sizes alarm reliability inhibited site property h)

log_sizes : (site : LogSite) (log : EventLogState) (property : LogProperty) → size_of (of_logs.log_property site log property) ≡ None
log_sizes site log Enable = refl
log_sizes site log _ = refl

log_says : (site : LogSite) (log : EventLogState) (number : ℕ) (property : Option LogProperty) (index : Option ℕ) →
    ReadSays (first_of false (log_rules number property) index) (part_in (of_logs.known_log_content site log property) index)
log_says site log number None index = refl
log_says site log number (Some property) index =
    subst (λ (s : Option ℕ). ReadSays (first_error (index_rows s index [])) (part_of (of_logs.log_property site log property) index))
    (log_sizes site log property) (part_says (of_logs.log_property site log property) index)

-- ---- the device and notification classes

device_says : (site : Site) (property : Option DeviceProperty) (index : Option ℕ) →
    ReadSays (first_of false (device_rules site property) index) (part_in (of_devices.known_device_content site.device (identifiers_of site) property) index)
device_says site None index = refl
device_says site (Some property) index =
    subst (λ (s : Option ℕ). ReadSays (first_error (index_rows s index [])) (part_of (of_devices.device_property site.device (identifiers_of site) property) index))
    (device_sizes site property) (part_says (of_devices.device_property site.device (identifiers_of site) property) index)

class_says : (listed : ClassSite) (recipients : List DestinationData) (property : Option ClassProperty) (index : Option ℕ) →
    ReadSays (first_of false (class_rules listed property) index) (part_in (of_classes.known_class_content listed recipients property) index)
class_says listed recipients None index = refl
class_says listed recipients (Some property) index =
    subst (λ (s : Option ℕ). ReadSays (first_error (index_rows s index [])) (part_of (of_classes.class_property listed recipients property) index))
    (class_sizes listed recipients property) (part_says (of_classes.class_property listed recipients property) index)

module _ (state : CoreState) (object : ObjectIdData) (number : ℕ) (index : Option ℕ) where
  as_known : (known : Bool) (rules : Option PropertyRow) (answer : Result (List ℕ) ReadFault) → known ≡ true → ReadSays (first_of false rules index) answer → ReadSays (first_of (not known) rules index) answer
  as_known known rules answer e h = subst (λ (k : Bool). ReadSays (first_of (not k) rules index) answer) (sym e) h

  abbrev table_of : Bool → Option ClassSite → List PropertyRow
  table_of device listed = if device then device_properties state.site else properties_of_class listed

  abbrev other : Bool → Option ClassSite → Result Content ReadFault
  other device listed =
      if device then of_devices.device_content state.site.device (identifiers_of state.site) number
      else class_or_other state.site state.classes object number listed

  -- by the rules of the table
  found_says : (table : List PropertyRow) (rules : Option PropertyRow) (known : Bool) (answer : Result (List ℕ) ReadFault) → property_in number table ≡ rules → known ≡ true →
      ReadSays (first_of false rules index) answer → ReadSays (first_of (not known) (property_in number table) index) answer
  found_says table rules known answer found e h =
      as_known known (property_in number table) answer e (subst (λ (r : Option PropertyRow). ReadSays (first_of false r index) answer) (sym found) h)

  others_say : (device : Bool) (listed : Option ClassSite) (known : Bool) →
      known ≡ (device || (is_some listed || false)) → is_other_object state.site object ≡ (device || (is_some listed || false)) →
      ReadSays (first_of (not known) (property_in number (table_of device listed)) index) (part_in (other device listed) index)
  others_say true listed known e o =
      found_says (device_properties state.site) (device_rules state.site (of_devices.property_of number)) known (part_in (other true listed) index) (device_found state.site number) e
      (device_says state.site (of_devices.property_of number) index)
  others_say false (Some listed) known e o =
      found_says (class_properties listed) (class_rules listed (of_classes.property_of number)) known (part_in (other false (Some listed)) index) (class_found listed number) e
      (class_says listed (recipients_of (class_in listed.class.instance state.classes)) (of_classes.property_of number) index)
  others_say false None known e o =
      subst (λ (k : Bool). ReadSays (first_of (not k) None index) (part_in (other false None) index)) (sym e)
      (ap (λ (b : Bool). part_in (if b then Err reading.unknown_property else Err reading.unknown_object) index) o)

  pub read_says : (enrollment : Option EnrollmentSite) (row : Option Row) (kept : Option SiteLogState) (known : Bool) → length (alarm_in state object).stamps ≡ 3 →
      known ≡ (is_object object (device_object state.site) || (is_some row || (is_some (listed_class object state.site.classes) || (is_some enrollment || is_some kept)))) →
      is_other_object state.site object ≡ (is_object object (device_object state.site) || (is_some (listed_class object state.site.classes) || (is_some enrollment || is_some kept))) →
      ReadSays (first_of (not known) (property_in number (properties_by state.site object enrollment row kept)) index) (part_in (content_by state object number enrollment row kept) index)
  read_says (Some enrollment) row kept known h e o =
      let device = is_object object (device_object state.site) in
      let listed = is_some (listed_class object state.site.classes) in
      found_says (enrollment_properties enrollment) (enrollment_rules enrollment (of_enrollments.property_of number)) known (part_in (content_by state object number (Some enrollment) row kept) index) (enrollment_found enrollment number)
      (e ∙ (ap (λ b. device || (is_some row || b)) (or_true listed) ∙ (ap (λ b. device || b) (or_true (is_some row)) ∙ or_true device)))
      (enrollment_says (alarm_in state object) (reliability_of_enrollment enrollment state.values.rows) (is_inhibited object state.values) enrollment (of_enrollments.property_of number) index h)
  read_says None (Some row) kept known h e o =
      found_says (object_properties row.site) (object_rules row.site (of_objects.property_of number)) known (part_in (content_by state object number None (Some row) kept) index) (object_found row.site number)
      (e ∙ or_true (is_object object (device_object state.site)))
      (row_says (alarm_in state object) (is_inhibited object state.values) row (of_objects.property_of number) index h)
  read_says None None (Some kept) known h e o =
      let device = is_object object (device_object state.site) in
      found_says log_properties (log_rules number (of_logs.property_of number)) known (part_in (content_by state object number None None (Some kept)) index) (log_found number)
      (e ∙ (ap (λ b. device || b) (or_true (is_some (listed_class object state.site.classes))) ∙ or_true device))
      (log_says kept.site kept.log number (of_logs.property_of number) index)
  read_says None None None known h e o = others_say (is_object object (device_object state.site)) (listed_class object state.site.classes) known e o
