-- What is written to an event enrollment is read back.
use Rattle.std.proofs.Common.{◌≡◌, ℕ, Bool, true, true≢false, if◌then◌else◌, Option, Some, None, IsSome, Result, Ok, List, refl, sym, ap, ◌∙◌, subst}
use Rattle.std.specs.Option.{is_none}
use Rattle.std.proofs.lemmas.Bool.{eqb-true}
use Rattle.bac_values.specs.BitString.{BitsData}
use Rattle.bac_values.specs.Identifier.{ObjectIdData}
use Rattle.bac_values.specs.declared.reliability.Reliability.{Reliability as Reliability'}
use Rattle.bac_values.specs.declared.value.Value.{Value}
use Rattle.bac_values.specs.declared.value.Value.TheVariants.{Bits, Bool as Truth}
use Rattle.bac_tags.specs.Writing.{written_value}
use Rattle.event_machine.specs.Summary.{AlarmState}
use Rattle.object_table.specs.Rows.{is_object}
use Rattle.object_table.specs.Values.{is_truth}
use Rattle.object_table.specs.Verdicts.{and_then, index_verdict, property_change, value_verdict}
use Rattle.object_table.specs.declared.row.Row.{Row}
use Rattle.enrollment.specs.declared.enrollment_property.EnrollmentProperty.{EnrollmentProperty}
use Rattle.enrollment.specs.declared.enrollment_property.EnrollmentProperty.TheVariants.{EventAlgorithmInhibit, EventEnable, EventMessageTexts, EventMessageTextsConfig, EventTimeStamps}
use Rattle.enrollment.specs.declared.enrollment_site.EnrollmentSite.{EnrollmentSite}
use Rattle.enrollment.specs.Properties.{has, length_of, property_of}
use Rattle.enrollment.specs.Reliabilities.{reliability_of_enrollment}
use Rattle.enrollment.specs.Subjects.{inhibited_by}
use Rattle.enrollment.specs.Verdicts.{can_be, known_verdict, writable_tag, write_verdict}
use Rattle.enrollment.specs.Writes.{changed, set_by, set_known}
use Rattle.property_values.specs.declared.content.Content.{Content}
use Rattle.property_values.specs.declared.content.ReadFault.{ReadFault}
use Rattle.property_values.specs.Properties.{one}
use Rattle.property_values.specs.Reading.{part_in, part_of}
use Rattle.alarm_core.specs.EnrollmentProperties.{enrollment_content, known_enrollment_content}
use Rattle.alarm_core.proofs.Stays.{written_site}
use Rattle.profile_laws.proofs.FlagsBack.{three_back}
use Rattle.profile_laws.proofs.PassedTests.{inhibited_alone, no_index, passes, second_true, there as is_there}
use Rattle.profile_laws.proofs.SoundValues.{IsSound}

abbrev of_string : BitsData → Result Content ReadFault
of_string string = Ok (one (Bits string))

abbrev of_truth : Bool → Result Content ReadFault
of_truth truth = Ok (one (Truth truth))

module _ (alarm : AlarmState) (rows : List Row) where
  -- what is read of an enrollment with these settings
  abbrev content : Reliability' → EnrollmentSite → Option EnrollmentProperty → Result Content ReadFault
  content reliability site property = known_enrollment_content alarm reliability (inhibited_by site.inhibit_ref site.inhibit rows) site property

  property_reads : (reliability : Reliability') (site : EnrollmentSite) (property : EnrollmentProperty) (value : Value) → can_be site property value ≡ true → IsSound value →
      content reliability (set_known property value site) (Some property) ≡ Ok (one value)
  property_reads reliability site EventEnable (Bits string) can sound = ap of_string (three_back string (eqb-true string.size 3 can) sound)
  property_reads reliability site EventEnable value can sound = absurd (true≢false (sym can))
  property_reads reliability site EventAlgorithmInhibit (Truth truth) can sound = ap of_truth (inhibited_alone site.inhibit_ref truth rows can)
  property_reads reliability site EventAlgorithmInhibit value can sound = absurd (true≢false (sym (second_true (is_none site.inhibit_ref) (is_truth value) can)))
  property_reads reliability site _ value can sound = absurd (true≢false (sym can))

  no_array : (site : EnrollmentSite) (property : EnrollmentProperty) → IsSome (writable_tag site property) → length_of property ≡ None
  no_array site EventTimeStamps tag = absurd (true≢false (sym tag))
  no_array site EventMessageTexts tag = absurd (true≢false (sym tag))
  no_array site EventMessageTextsConfig tag = absurd (true≢false (sym tag))
  no_array site _ tag = refl

  known_back : (reliability : Reliability') (site : EnrollmentSite) (property : Option EnrollmentProperty) (index : Option ℕ) (value : Value) → known_verdict site property index value ≡ Ok tt → IsSound value →
      part_in (content reliability (set_by property value site) property) index ≡ Ok (written_value value)
  known_back reliability site None index value h sound = absurd cc
  known_back reliability site (Some property) index value h sound =
      let size = length_of property in
      let tag = writable_tag site property in
      let possible = can_be site property value in
      let is = is_there (has site property) (and_then (index_verdict size index) (value_verdict tag possible value)) h in
      let passed = passes size index tag possible value is.1 in
      let none = no_index index (subst (λ (s : Option ℕ). index_verdict s index ≡ Ok tt) (no_array site property passed.writable) passed.within) in
      ap (λ (c : Result Content ReadFault). part_in c index) (property_reads reliability site property value passed.can sound) ∙ ap (λ (i : Option ℕ). part_of (one value) i) none

  pub enrollment_back : (site : EnrollmentSite) (object : ObjectIdData) (number : ℕ) (index : Option ℕ) (value : Value) →
      is_object object site.object ≡ true → write_verdict site number index value ≡ Ok tt → IsSound value →
      let after = written_site (property_change object number value) site in
      part_in (enrollment_content alarm (inhibited_by after.inhibit_ref after.inhibit rows) after rows number) index ≡ Ok (written_value value)
  enrollment_back site object number index value same h sound =
      let change = property_change object number value in
      ap (λ (b : Bool). let after = if b then changed change.what site else site in part_in (content (reliability_of_enrollment after rows) after (property_of number)) index) same
      ∙ known_back (reliability_of_enrollment (changed change.what site) rows) site (property_of number) index value h sound
