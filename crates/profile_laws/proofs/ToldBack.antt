-- What is read of properties that no write changes is what the state tells.
use Rattle.std.proofs.Common.{◌≡◌, ℕ, suc, ◌+◌, ◌-◌, ◌<◌, ◌==◌, ◌&&◌, Bool, true, false, true≢false, not, if◌then◌else◌, Option, Some, None, is_none, is_some, Result, Ok, Err, List, [], ◌∷◌, ◌++◌, length, map, append_assoc, refl, sym, ap, ◌∙◌, subst, arith}
use Rattle.std.specs.List.{flat_map, slice_get}
use Rattle.std.specs.Option.{option_map}
use Rattle.std.proofs.lemmas.Bool.{ne_eqb}
use Rattle.bac_values.specs.BitString.{string_of_flags}
use Rattle.bac_values.specs.EventStates.{is_normal, number_of_state}
use Rattle.bac_values.specs.Identifier.{ObjectIdData}
use Rattle.bac_values.specs.Reliabilities.{number_of_reliability}
use Rattle.bac_values.specs.declared.stamp.Stamp.{Stamp}
use Rattle.bac_values.specs.declared.value.Value.{Value}
use Rattle.bac_values.specs.declared.value.Value.TheVariants.{Enumerated, Unsigned}
use Rattle.bac_tags.specs.EnclosingTags.{closing, opening}
use Rattle.bac_tags.specs.Writing.{written_stamp, written_tag, written_unsigned}
use Rattle.event_log.specs.Log.{EventLogState}
use Rattle.event_machine.specs.Summary.{AlarmState}
use Rattle.event_services.specs.Information.{written_moment}
use Rattle.notify_class.specs.declared.class_site.ClassSite.{ClassSite}
use Rattle.object_table.specs.Properties as of_objects
use Rattle.object_table.specs.Rows.{is_object, row_of}
use Rattle.object_table.specs.declared.row.Row.{Row}
use Rattle.enrollment.specs.Enrollments.{site_of}
use Rattle.enrollment.specs.Properties as of_enrollments
use Rattle.enrollment.specs.Reliabilities.{reliability_by_site}
use Rattle.enrollment.specs.declared.enrollment_site.EnrollmentSite.{EnrollmentSite}
use Rattle.property_values.specs.ClassProperties as of_classes
use Rattle.property_values.specs.LogProperties as of_logs
use Rattle.property_values.specs.Properties.{flags, one, unknown_property, written_time_stamp}
use Rattle.property_values.specs.Reading.{found_element, part_in}
use Rattle.property_values.specs.declared.content.Content.{Content}
use Rattle.property_values.specs.declared.content.Content.TheVariants.{Elements}
use Rattle.property_values.specs.declared.content.ReadFault.{ReadFault}
use Rattle.reliability_eval.specs.Reliability.{reliability_found}
use Rattle.alarm_core.specs.Contents.{content_by, content_of}
use Rattle.alarm_core.specs.Devices.{device_object, listed_class}
use Rattle.alarm_core.specs.Found.{alarm_in}
use Rattle.alarm_core.specs.Logs.{SiteLogState, kept_log, log_in, log_of}
use Rattle.alarm_core.specs.State.{CoreState}
use Rattle.profile_laws.specs.FieldRefusals.{is_out_of_service}
use Rattle.profile_laws.specs.ManyLaws.{read_of_one}
use Rattle.profile_laws.specs.PropertyTables.{PropertyRow, device_properties, properties_by, properties_of_class, property_in, property_of}
use Rattle.profile_laws.specs.ToldStates.{AreToldAs, IsToldAs, TellsTheState, status_flags}
use Rattle.profile_laws.proofs.ReadingBack.{read_as}

-- a property that an object has where its table has it
if_has : (there : Bool) (row : PropertyRow) (content : Content) → is_some (if there then Some row else None) ≡ true → (if there then Ok content else Err unknown_property) ≡ Ok content
if_has true row content h = refl
if_has false row content h = absurd (true≢false (sym h))

module _ (state : CoreState) (object : ObjectIdData) where
  abbrev alarm : AlarmState
  alarm = alarm_in state object

  abbrev enrollment_is : Option EnrollmentSite
  enrollment_is = site_of object state.values.enrollments

  abbrev row_is : Option Row
  row_is = row_of object state.values.rows

  abbrev kept_is : Option SiteLogState
  kept_is = kept_log object state.logs

  -- the object has the property with a number, by what stands there
  abbrev Has : ℕ → Option EnrollmentSite → Option Row → Option SiteLogState → Type 0
  Has number enrollment row kept = is_some (property_in number (properties_by state.site object enrollment row kept)) ≡ true

  -- neither the device nor a class has the property
  nothing_else : (number : ℕ) → is_some (property_in number (device_properties state.site)) ≡ false → ((listed : ClassSite) → is_some (property_in number (properties_of_class (Some listed))) ≡ false) → Has number None None None → ⊥
  nothing_else number no_device no_class h = by (is_object object (device_object state.site)) (listed_class object state.site.classes) h
    where
      by : (device : Bool) (listed : Option ClassSite) → is_some (property_in number (if device then device_properties state.site else properties_of_class listed)) ≡ true → ⊥
      by true listed e = true≢false (sym e ∙ no_device)
      by false (Some listed) e = true≢false (sym e ∙ no_class listed)
      by false None e = true≢false (sym e)

  -- ---- what each property is

  state_by : (enrollment : Option EnrollmentSite) (row : Option Row) (kept : Option SiteLogState) → Has 36 enrollment row kept → content_by state object 36 enrollment row kept ≡ Ok (one (Enumerated (number_of_state alarm.state)))
  unfolding of_objects.property_of of_enrollments.property_of
  state_by (Some site) row kept h = refl
  state_by None (Some row) kept h = refl
  state_by None None (Some kept) h = absurd (true≢false (sym h))
  state_by None None None h = absurd (nothing_else 36 refl (λ listed. refl) h)

  acked_by : (enrollment : Option EnrollmentSite) (row : Option Row) (kept : Option SiteLogState) → Has 0 enrollment row kept → content_by state object 0 enrollment row kept ≡ Ok (flags alarm.acked)
  unfolding of_objects.property_of of_enrollments.property_of
  acked_by (Some site) row kept h = refl
  acked_by None (Some row) kept h = if_has (is_some row.site.class) (record { number = 0; there = is_some row.site.class; size = None; tag = None; can_be = λ value. false }) (flags alarm.acked) h
  acked_by None None (Some kept) h = absurd (true≢false (sym h))
  acked_by None None None h = absurd (nothing_else 0 refl (λ listed. refl) h)

  stamps_by : (enrollment : Option EnrollmentSite) (row : Option Row) (kept : Option SiteLogState) → Has 130 enrollment row kept → content_by state object 130 enrollment row kept ≡ Ok (Elements (map written_time_stamp alarm.stamps))
  unfolding of_objects.property_of of_enrollments.property_of
  stamps_by (Some site) row kept h = refl
  stamps_by None (Some row) kept h =
      if_has (is_some row.site.class) (record { number = 130; there = is_some row.site.class; size = Some 3; tag = None; can_be = λ value. false }) (Elements (map written_time_stamp alarm.stamps)) h
  stamps_by None None (Some kept) h = absurd (true≢false (sym h))
  stamps_by None None None h = absurd (nothing_else 130 refl (λ listed. refl) h)

  abbrev in_alarm : Bool
  in_alarm = not (is_normal alarm.state)

  status_by : (enrollment : Option EnrollmentSite) (row : Option Row) (kept : Option SiteLogState) → enrollment_is ≡ enrollment → row_is ≡ row → Has 111 enrollment row kept →
      content_by state object 111 enrollment row kept ≡ Ok (flags (status_flags state object))
  unfolding of_objects.property_of of_enrollments.property_of
  status_by (Some site) row kept e r h =
      sym (ap (λ (s : Option EnrollmentSite). Ok (flags (in_alarm ∷ not (number_of_reliability (reliability_by_site s object state.values.rows) == 0) ∷ false ∷ (is_none s && is_out_of_service row_is) ∷ []))) e)
  status_by None (Some row) kept e r h =
      sym (ap (λ (s : Option EnrollmentSite). Ok (flags (in_alarm ∷ not (number_of_reliability (reliability_by_site s object state.values.rows) == 0) ∷ false ∷ (is_none s && is_out_of_service row_is) ∷ []))) e
      ∙ ap (λ (found : Option Row). Ok (flags (in_alarm ∷ not (number_of_reliability (reliability_found found) == 0) ∷ false ∷ is_out_of_service found ∷ []))) r)
  status_by None None (Some kept) e r h = absurd (true≢false (sym h))
  status_by None None None e r h = absurd (nothing_else 111 refl (λ listed. refl) h)

  total_by : (enrollment : Option EnrollmentSite) (row : Option Row) (kept : Option SiteLogState) (log : EventLogState) → option_map log_of kept ≡ Some log → Has 145 enrollment row kept →
      content_by state object 145 enrollment row kept ≡ Ok (one (Unsigned log.total))
  unfolding of_logs.property_of
  total_by (Some site) row kept log l h = absurd (true≢false (sym h))
  total_by None (Some row) kept log l h = absurd (true≢false (sym h))
  total_by None None (Some kept) log l h = ap (λ (found : Option EventLogState). total found) l
    where
      total : Option EventLogState → Result Content ReadFault
      total None = Err unknown_property
      total (Some found) = Ok (one (Unsigned found.total))
  total_by None None None log l h = absurd (nothing_else 145 refl (λ listed. refl) h)

  -- of a class, where neither the device nor anything else has the identifier
  priority_by : (enrollment : Option EnrollmentSite) (row : Option Row) (kept : Option SiteLogState) (listed : ClassSite) → listed_class object state.site.classes ≡ Some listed → Has 86 enrollment row kept →
      content_by state object 86 enrollment row kept ≡ Ok (Elements (map (written_unsigned None) listed.class.priority))
  unfolding of_classes.property_of
  priority_by (Some site) row kept listed l h = absurd (true≢false (sym h))
  priority_by None (Some row) kept listed l h = absurd (true≢false (sym h))
  priority_by None None (Some kept) listed l h = absurd (true≢false (sym h))
  priority_by None None None listed l h = by (is_object object (device_object state.site)) refl
    where
      by : (device : Bool) → is_object object (device_object state.site) ≡ device → content_by state object 86 None None None ≡ Ok (Elements (map (written_unsigned None) listed.class.priority))
      by true d = absurd (true≢false (sym (subst (λ (b : Bool). is_some (property_in 86 (if b then device_properties state.site else properties_of_class (listed_class object state.site.classes))) ≡ true) d h)))
      by false d = rw (d, l) refl

  -- ---- as it is read

  whole : (number : ℕ) (content : Content) (octets : List ℕ) → content_of state object number ≡ Ok content → part_in (Ok content) None ≡ Ok octets → IsToldAs state object number octets
  whole number content octets e part h = read_as state (read_of_one object number None) octets (ap (λ (c : Result Content ReadFault). part_in c None) e ∙ part)

  elements : (number : ℕ) (parts : List (List ℕ)) → (is_some (property_of state object number) ≡ true → content_of state object number ≡ Ok (Elements parts)) → AreToldAs state object number parts
  elements number parts is = record {
    whole = λ h. read_as state (read_of_one object number None) (flat_map (λ octets. octets) parts) (ap (λ (c : Result Content ReadFault). part_in c None) (is h));
    number = λ h. read_as state (read_of_one object number (Some 0)) (written_unsigned None (length parts)) (ap (λ (c : Result Content ReadFault). part_in c (Some 0)) (is h));
    each = λ h before octets found. read_as state (read_of_one object number (Some (suc before))) octets (ap (λ (c : Result Content ReadFault). part_in c (Some (suc before))) (is h) ∙ at_place before octets found);
  }
    where
      at_place : (before : ℕ) (octets : List ℕ) → slice_get parts before ≡ Some octets → part_in (Ok (Elements parts)) (Some (suc before)) ≡ Ok octets
      at_place before octets found =
          let later : (suc before == 0) ≡ false = ne_eqb (suc before) 0 (λ none. omega (arith, none)) in
          let place : suc before - 1 ≡ before = omega arith in
          ap (λ (b : Bool). if b then Ok (written_unsigned None (length parts)) else found_element (slice_get parts (suc before - 1))) later
          ∙ (ap (λ (n : ℕ). found_element (slice_get parts n)) place ∙ ap found_element found)

-- a stamp, in either of its two definitions
same_stamp : (stamp : Stamp) → written_time_stamp stamp ≡ written_moment stamp
same_stamp stamp = sym (append_assoc (written_tag (opening 2)) (written_stamp stamp) (written_tag (closing 2)))

same_stamps : (stamps : List Stamp) → map written_time_stamp stamps ≡ map written_moment stamps
same_stamps [] = refl
same_stamps (stamp ∷ stamps) = ap (λ (first : List ℕ). first ∷ map written_time_stamp stamps) (same_stamp stamp) ∙ ap (λ (rest : List (List ℕ)). written_moment stamp ∷ rest) (same_stamps stamps)

pub tells_the_state : TellsTheState
tells_the_state = record {
  event_state = λ state object h. whole state object 36 (one (Enumerated (number_of_state (alarm_in state object).state))) _ (state_by state object (enrollment_is state object) (row_is state object) (kept_is state object) h) refl h;
  acked_transitions = λ state object h. whole state object 0 (flags (alarm_in state object).acked) _ (acked_by state object (enrollment_is state object) (row_is state object) (kept_is state object) h) refl h;
  status = λ state object h. whole state object 111 (flags (status_flags state object)) _ (status_by state object (enrollment_is state object) (row_is state object) (kept_is state object) refl refl h) refl h;
  event_time_stamps = λ state object.
      elements state object 130 (map written_moment (alarm_in state object).stamps)
      (λ h. stamps_by state object (enrollment_is state object) (row_is state object) (kept_is state object) h ∙ ap (λ (parts : List (List ℕ)). Ok (Elements parts)) (same_stamps (alarm_in state object).stamps));
  priority = λ state object listed l. elements state object 86 (map (written_unsigned None) listed.class.priority) (priority_by state object (enrollment_is state object) (row_is state object) (kept_is state object) listed l);
  total_record_count = λ state object log l h. whole state object 145 (one (Unsigned log.total)) _ (total_by state object (enrollment_is state object) (row_is state object) (kept_is state object) log l h) refl h;
}
