-- A change is allowed exactly where a check accepts it.
use Rattle.std.proofs.Common.{◌≡◌, ◌↔◌, ◌⊎◌, ℕ, suc, zero, Bool, true, false, true≢false, Option, Some, None, Result, Ok, Err, IsOk, IsTrue, IsSomeAnd, if◌then◌else◌, inl, inr, refl, sym, ap, ◌∙◌, subst}
use Rattle.std.specs.Prelude.{◌==◌, List}
use Rattle.std.proofs.lemmas.Bool.{cases_Bool, eqb-true, eqb-false}
use Rattle.bac_values.specs.Identifier.{ObjectIdData}
use Rattle.bac_values.specs.declared.input.SetFault.{SetFault}
use Rattle.bac_values.specs.declared.input.SetFault.TheVariants.{ValueRange}
use Rattle.bac_values.specs.declared.value.Foreign.TheVariants.{CharacterSet, TooLong}
use Rattle.bac_values.specs.declared.value.Value.{Value}
use Rattle.bac_values.specs.declared.value.Value.TheVariants.{Bool as Truth, Unsigned, Opaque}
use Rattle.object_table.specs.declared.change.Change.{Change}
use Rattle.object_table.specs.declared.faults.WriteFault.{WriteFault}
use Rattle.object_table.specs.declared.row.Row.{Row}
use Rattle.object_table.specs.Properties.{kind_in}
use Rattle.object_table.specs.Rows.{row_of}
use Rattle.object_table.specs.Values.{is_field_fault, takes_value}
use Rattle.object_table.specs.Verdicts.{allowed_change, content_verdict, fault_by_row, fault_change, invalid_data_type, property_change, set_by_row, set_verdict, tag_of, value_verdict, write_by_row}
use Rattle.object_table.proofs.Accepting.{takes_what_writes_make}
use Rattle.object_table.proofs.Taking.{set_ok}
use Rattle.enrollment.specs.declared.enrollment_site.EnrollmentSite.{EnrollmentSite}
use Rattle.enrollment.specs.Enrollments.{site_of}
use Rattle.enrollment.specs.Verdicts.{write_by_site}
use Rattle.enrollment.specs.Writes as sites
use Rattle.enrollment.proofs.Taking.{takes_what_writes_make as sites_take}
use Rattle.property_values.specs.declared.content.Content.{Content}
use Rattle.property_values.specs.declared.content.ReadFault.{ReadFault}
use Rattle.alarm_core.specs.declared.event.Act.TheVariants.{Write}
use Rattle.alarm_core.specs.declared.event.Event.{Event}
use Rattle.alarm_core.specs.declared.site.Site.{Site}
use Rattle.alarm_core.specs.Allowed.{IsAllowed}
use Rattle.alarm_core.specs.Contents.{other_content}
use Rattle.alarm_core.specs.Laws.{AllowsWhatChecksAccept}
use Rattle.property_values.specs.LogProperties.{log_content, log_write, property_of, writable_tag, write_with}
use Rattle.alarm_core.specs.Logs.{kept_log, logs_after, SiteLogState}
use Rattle.alarm_core.specs.Logs as logs
use Rattle.alarm_core.specs.Reading.{denied, write_by, write_of}
use Rattle.alarm_core.specs.Sites.{IsSite}
use Rattle.alarm_core.specs.State.{state_of, CoreState}
use Rattle.alarm_core.proofs.TypesApart.{HasNoValue, no_enrollment, no_log, no_row}

-- ---- an event log

impossible : (value : Value) → content_verdict false value ≡ Ok tt → ⊥
impossible (Opaque tag CharacterSet) h = cc
impossible (Opaque tag TooLong) h = cc
impossible value h = cc

value_fails : (tag : Option ℕ) (value : Value) → value_verdict tag false value ≡ Ok tt → ⊥
value_fails None value h = cc
value_fails (Some tag) value h = by_tag (tag_of value == tag) h
  where
    by_tag : (same : Bool) → (if same then content_verdict false value else Err invalid_data_type) ≡ Ok tt → ⊥
    by_tag true h = impossible value h
    by_tag false h = cc

ok_verdict : (verdict : Result (Unit {0}) WriteFault) (change : Change) → IsOk (allowed_change verdict change) → verdict ≡ Ok tt
ok_verdict (Ok passed) change h = refl
ok_verdict (Err fault) change h = absurd (true≢false (sym h))

passed : (content : Result Content ReadFault) (number : ℕ) (value : Value) (possible : Bool) → logs.takes_value number value ≡ possible → write_with content number None value ≡ Ok tt → possible ≡ true
passed content number value true e h = refl
passed (Err fault) number value false e h = cc
passed (Ok content) number value false e h = absurd (value_fails (writable_tag number) value (ap (λ b. value_verdict (writable_tag number) b value) (sym e) ∙ h))

log_fits : (kept : SiteLogState) (number : ℕ) (value : Value) → IsTrue (logs.takes_value number value) → IsOk (log_write kept.site kept.log number None value)
unfolding property_of
log_fits kept number (Truth on) h = subst (λ n. IsOk (log_write kept.site kept.log n None (Truth on))) (sym (eqb-true number 133 h)) refl
log_fits kept number (Unsigned zero) h = subst (λ n. IsOk (log_write kept.site kept.log n None (Unsigned 0))) (sym (eqb-true number 141 h)) refl
log_fits kept number (Unsigned (suc count)) h = absurd (true≢false (sym h))
log_fits kept number _ h = absurd (true≢false (sym h))

log_takes : (kept : SiteLogState) (number : ℕ) (value : Value) → IsTrue (logs.takes_value number value) ↔ IsOk (log_write kept.site kept.log number None value)
log_takes kept number value = (
  log_fits kept number value,
  λ h. passed (log_content kept.site kept.log number) number value (logs.takes_value number value) refl (ok_verdict (write_with (log_content kept.site kept.log number) number None value) (property_change kept.site.object number value) h),
)

-- ---- what is found, where it is one thing at most

never_denied : (content : Result Content ReadFault) → IsOk (denied content None) → ⊥
never_denied (Ok content) h = absurd (true≢false (sym h))
never_denied (Err fault) h = absurd (true≢false (sym h))

module _ (state : CoreState) (object : ObjectIdData) (number : ℕ) (value : Value) where
  abbrev RowTakes : Option Row → Type 0
  RowTakes row = IsSomeAnd row (λ (r : Row). IsTrue (takes_value number value r.site))

  abbrev SiteTakes : Option EnrollmentSite → Type 0
  SiteTakes site = IsSomeAnd site (λ (s : EnrollmentSite). IsTrue (sites.takes_value number value s))

  abbrev LogTakes : Option SiteLogState → Type 0
  LogTakes kept = IsSomeAnd kept (λ (k : SiteLogState). IsTrue (logs.takes_value number value))

  -- some of what is found takes the value
  abbrev Takes : Option EnrollmentSite → Option Row → Option SiteLogState → Type 0
  Takes site row kept = (RowTakes row ⊎ SiteTakes site) ⊎ LogTakes kept

  -- a write of it is answered with no error
  abbrev Passes : Option EnrollmentSite → Option Row → Option SiteLogState → Type 0
  Passes site row kept = IsOk (write_by state site row kept object number None value)

  nothing_passes : Passes None None None → ⊥
  nothing_passes h = never_denied (other_content state.site state.classes object number) h

  site_passes : (site : Option EnrollmentSite) → (SiteTakes site → IsOk (write_by_site site object number None value)) → Takes site None None → Passes site None None
  site_passes (Some site) law (inl (inl row)) = absurd row
  site_passes (Some site) law (inl (inr takes)) = law takes
  site_passes (Some site) law (inr kept) = absurd kept
  site_passes None law (inl (inl row)) = absurd row
  site_passes None law (inl (inr takes)) = absurd takes
  site_passes None law (inr kept) = absurd kept

  site_takes : (site : Option EnrollmentSite) → (IsOk (write_by_site site object number None value) → SiteTakes site) → Passes site None None → Takes site None None
  site_takes (Some site) law h = inl (inr (law h))
  site_takes None law h = absurd (nothing_passes h)

  row_passes : (row : Option Row) → (RowTakes row → IsOk (write_by_row row object number None value)) → Takes None row None → Passes None row None
  row_passes (Some row) law (inl (inl takes)) = law takes
  row_passes (Some row) law (inl (inr site)) = absurd site
  row_passes (Some row) law (inr kept) = absurd kept
  row_passes None law (inl (inl takes)) = absurd takes
  row_passes None law (inl (inr site)) = absurd site
  row_passes None law (inr kept) = absurd kept

  row_takes : (row : Option Row) → (IsOk (write_by_row row object number None value) → RowTakes row) → Passes None row None → Takes None row None
  row_takes (Some row) law h = inl (inl (law h))
  row_takes None law h = absurd (nothing_passes h)

  log_passes : (kept : Option SiteLogState) → Takes None None kept → Passes None None kept
  log_passes (Some kept) (inl (inl row)) = absurd row
  log_passes (Some kept) (inl (inr site)) = absurd site
  log_passes (Some kept) (inr takes) = (log_takes kept number value).0 takes
  log_passes None (inl (inl row)) = absurd row
  log_passes None (inl (inr site)) = absurd site
  log_passes None (inr takes) = absurd takes

  log_passed : (kept : Option SiteLogState) → Passes None None kept → Takes None None kept
  log_passed (Some kept) h = inr ((log_takes kept number value).1 h)
  log_passed None h = absurd (nothing_passes h)

  -- the change is allowed exactly where the write is answered with no error
  abbrev AllowsWrite : Option EnrollmentSite → Option Row → Option SiteLogState → Type 0
  AllowsWrite site row kept = Takes site row kept ↔ Passes site row kept

  at_most_a_site : (site : Option EnrollmentSite) → site ≡ site_of object state.values.enrollments → AllowsWrite site None None
  at_most_a_site site e =
      let law = sites_take state.values.enrollments object number value in (
        site_passes site (subst (λ (s : Option EnrollmentSite). SiteTakes s → IsOk (write_by_site s object number None value)) (sym e) law.0),
        site_takes site (subst (λ (s : Option EnrollmentSite). IsOk (write_by_site s object number None value) → SiteTakes s) (sym e) law.1),
      )

  at_most_a_row : (row : Option Row) → row ≡ row_of object state.values.rows → AllowsWrite None row None
  at_most_a_row row e =
      let law = takes_what_writes_make state.values.rows object number value in (
        row_passes row (subst (λ (r : Option Row). RowTakes r → IsOk (write_by_row r object number None value)) (sym e) law.0),
        row_takes row (subst (λ (r : Option Row). IsOk (write_by_row r object number None value) → RowTakes r) (sym e) law.1),
      )

-- ---- a site

no_enrollment_value : HasNoValue 9
no_enrollment_value site h = absurd (true≢false (sym h))

no_log_value : HasNoValue 25
no_log_value site h = absurd (true≢false (sym h))

module _ (site : Site) (is : IsSite site) (history : List Event) (object : ObjectIdData) (number : ℕ) (value : Value) where
  abbrev state : CoreState
  state = state_of site history

  allows : Option EnrollmentSite → Option Row → Option SiteLogState → Type 0
  allows listed row kept = AllowsWrite state object number value listed row kept

  row : Option Row
  row = row_of object state.values.rows

  listed : Option EnrollmentSite
  listed = site_of object state.values.enrollments

  kept : Option SiteLogState
  kept = kept_log object state.logs

  of_enrollment : object.number ≡ 9 → allows listed row kept
  unfolding allows row listed kept
  of_enrollment nine =
      let no_row_is = no_row site history object is.objects (subst HasNoValue (sym nine) no_enrollment_value) in
      let no_log_is = no_log site history object is.logs (λ same. let wrong : 9 ≡ 25 = sym nine ∙ same in cc) in
      subst (λ (r : Option Row). allows listed r kept) (sym no_row_is)
      (subst (λ (k : Option SiteLogState). allows listed None k) (sym no_log_is)
      (at_most_a_site state object number value listed refl))

  of_log : (object.number ≡ 9 → ⊥) → object.number ≡ 25 → allows listed row kept
  unfolding allows row listed kept
  of_log other log =
      let no_row_is = no_row site history object is.objects (subst HasNoValue (sym log) no_log_value) in
      let no_site_is = no_enrollment site history object is.enrollments other in
      subst (λ (s : Option EnrollmentSite). allows s row kept) (sym no_site_is)
      (subst (λ (r : Option Row). allows None r kept) (sym no_row_is)
      (log_passes state object number value kept, log_passed state object number value kept))

  of_object : (object.number ≡ 9 → ⊥) → (object.number ≡ 25 → ⊥) → allows listed row kept
  unfolding allows row listed kept
  of_object other no_log_number =
      let no_site_is = no_enrollment site history object is.enrollments other in
      let no_log_is = no_log site history object is.logs no_log_number in
      subst (λ (s : Option EnrollmentSite). allows s row kept) (sym no_site_is)
      (subst (λ (k : Option SiteLogState). allows None row k) (sym no_log_is)
      (at_most_a_row state object number value row refl))

  -- a number is another
  other_than : (n : ℕ) → (object.number == n) ≡ false → object.number ≡ n → ⊥
  other_than n e same = eqb-false object.number n e same

  writes : IsAllowed state (Write (property_change object number value)) ↔ IsOk (write_of state object number None value)
  unfolding allows row listed kept
  writes = elim (cases_Bool (object.number == 9)) [
    | inl nine ↦ of_enrollment (eqb-true object.number 9 nine)
    | inr other ↦ elim (cases_Bool (object.number == 25)) [
      | inl log ↦ of_log (other_than 9 other) (eqb-true object.number 25 log)
      | inr neither ↦ of_object (other_than 9 other) (other_than 25 neither)
    ]
  ]

-- ---- what comes from the field

module _ (object : ObjectIdData) (reliability : ℕ) where
  abbrev TakesFault : Option Row → Option EnrollmentSite → Option SiteLogState → Type 0
  TakesFault found site log =
      (IsSomeAnd found (λ (r : Row). IsTrue (is_field_fault reliability)) ⊎ IsSomeAnd site (λ (s : EnrollmentSite). IsTrue false)) ⊎ IsSomeAnd log (λ (k : SiteLogState). IsTrue false)

  no_site_fault : (site : Option EnrollmentSite) → IsSomeAnd site (λ (s : EnrollmentSite). IsTrue false) → ⊥
  no_site_fault (Some site) h = absurd (true≢false (sym h))
  no_site_fault None h = absurd h

  no_log_fault : (log : Option SiteLogState) → IsSomeAnd log (λ (k : SiteLogState). IsTrue false) → ⊥
  no_log_fault (Some log) h = absurd (true≢false (sym h))
  no_log_fault None h = absurd h

  tested : (fault : Bool) → IsOk {T = Change} {E = SetFault} (if fault then Ok (fault_change object reliability) else Err ValueRange) → fault ≡ true
  tested true h = refl
  tested false h = absurd (true≢false (sym h))

  fault_passes : (found : Option Row) → IsSomeAnd found (λ (r : Row). IsTrue (is_field_fault reliability)) → IsOk (fault_by_row found object reliability)
  fault_passes (Some r) h = rw h refl
  fault_passes None h = absurd h

  fault_taken : (found : Option Row) → IsOk (fault_by_row found object reliability) → IsSomeAnd found (λ (r : Row). IsTrue (is_field_fault reliability))
  fault_taken (Some r) h = tested (is_field_fault reliability) h
  fault_taken None h = absurd (true≢false (sym h))

  field_fault : (found : Option Row) (site : Option EnrollmentSite) (log : Option SiteLogState) → TakesFault found site log → IsOk (fault_by_row found object reliability)
  field_fault found site log (inl (inl h)) = fault_passes found h
  field_fault found site log (inl (inr h)) = absurd (no_site_fault site h)
  field_fault found site log (inr h) = absurd (no_log_fault log h)

field_faults : (state : CoreState) (object : ObjectIdData) (reliability : ℕ) → IsAllowed state (Write (fault_change object reliability)) ↔ IsOk (fault_by_row (row_of object state.values.rows) object reliability)
field_faults state object reliability = (
  field_fault object reliability (row_of object state.values.rows) (site_of object state.values.enrollments) (kept_log object state.logs),
  λ h. inl (inl (fault_taken object reliability (row_of object state.values.rows) h)),
)

ok_set : {Fault : Type 0} (verdict : Result (Unit {0}) Fault) (change : Change) → IsOk (allowed_change verdict change) → verdict ≡ Ok tt
ok_set (Ok passed) change h = refl
ok_set (Err fault) change h = absurd (true≢false (sym h))

set_taken : (row : Option Row) (object : ObjectIdData) (value : Value) → IsOk (set_by_row row object value) → IsSomeAnd row (λ (r : Row). IsTrue (takes_value 85 value r.site))
set_taken (Some row) object value h = set_ok row.site value (ok_set (set_verdict (kind_in row.site) row.site value) (property_change object 85 value) h)
set_taken None object value h = absurd (true≢false (sym h))

pub allows_what_checks_accept : AllowsWhatChecksAccept
allows_what_checks_accept = record {
  writes = writes;
  field_faults = field_faults;
  sets = λ state object value h. inl (inl (set_taken (row_of object state.values.rows) object value h));
}
