-- The value objects and the enrollments of a site keep to what it says of them, whatever writes they take.
use Rattle.std.proofs.Common.{◌≡◌, ℕ, ◌<◌, inl, inr, ◌&&◌, ◌==◌, Bool, true, false, true≢false, if◌then◌else◌, Option, Some, None, IsTrue, IsSomeAnd, is_none, is_some, List, [], ◌∷◌, length, map, get_or, refl, sym, ap, ◌∙◌, subst, arith}
use Rattle.std.specs.List.{All, AllZip}
use Rattle.std.proofs.lemmas.Bool.{eqb-true}
use Rattle.std.proofs.lemmas.List.Elements.{All-nil, All-cons, All-head, All-tail}
use Rattle.bac_values.specs.Identifier.{ObjectIdData, kind_of}
use Rattle.bac_values.specs.declared.object_kind.ObjectKind.{ObjectKind}
use Rattle.bac_values.specs.declared.object_kind.ObjectKind.TheVariants.{BinaryValue, MultiStateValue, BitStringValue, CharacterStringValue, IntegerValue, PositiveIntegerValue}
use Rattle.bac_values.specs.declared.value.Value.{Value}
use Rattle.bac_values.specs.declared.value.Value.TheVariants.{Bool as Truth, Unsigned, Signed, Bits}
use Rattle.bac_values.specs.BitString.{two_flags, three_flags}
use Rattle.object_table.specs.declared.change.Change.{Change}
use Rattle.object_table.specs.declared.change.What.{What}
use Rattle.object_table.specs.declared.change.What.TheVariants.{Property, FieldFault}
use Rattle.object_table.specs.declared.object_property.ObjectProperty.{ObjectProperty}
use Rattle.object_table.specs.declared.object_property.ObjectProperty.TheVariants.{PresentValue, OutOfService, ReliabilityEvaluationInhibit, TimeDelay, TimeDelayNormal, HighLimit, LowLimit, Deadband, LimitEnable, AlarmValue, EventEnable, EventAlgorithmInhibit}
use Rattle.object_table.specs.declared.object_site.ObjectSite.{ObjectSite}
use Rattle.object_table.specs.declared.row.Row.{Row}
use Rattle.object_table.specs.Objects.{IsObject, IsObjectOf}
use Rattle.object_table.specs.Properties.{kind_in, property_of}
use Rattle.object_table.specs.Rows.{Ascends, is_object, object_in, row_of, rows_of}
use Rattle.object_table.specs.Values.{has_length_of, is_present_value, is_state, takes_known}
use Rattle.object_table.specs.Writes as rows
use Rattle.enrollment.specs.declared.enrollment_property.EnrollmentProperty.{EnrollmentProperty}
use Rattle.enrollment.specs.declared.enrollment_property.EnrollmentProperty.TheVariants as of_enrollments
use Rattle.enrollment.specs.declared.enrollment_site.EnrollmentSite.{EnrollmentSite}
use Rattle.enrollment.specs.Enrollments.{IsEnrollment, identifier_of, site_of}
use Rattle.enrollment.specs.Objects.{ObjectsState}
use Rattle.enrollment.specs.Properties as enrollment_properties
use Rattle.enrollment.specs.Writes as enrollments
use Rattle.enrollment.proofs.Parted.{is_other_kind, same_object}
use Rattle.alarm_core.specs.declared.event.Act.{Act}
use Rattle.alarm_core.specs.declared.event.Act.TheVariants.{Tick, Write, Ack, Pump, Answer, Edit}
use Rattle.alarm_core.specs.declared.event.Event.{Event}
use Rattle.alarm_core.specs.declared.site.Site.{Site}
use Rattle.alarm_core.specs.Allowed.{IsAllowed, IsHistory}
use Rattle.alarm_core.specs.Fits.{FitsAct, FitsEvent, FitsWhat}
use Rattle.alarm_core.specs.History.{values_after, values_with}
use Rattle.alarm_core.specs.Logs.{takes}
use Rattle.alarm_core.specs.SiteStates.{IsEnrollmentOf, IsRowOf}
use Rattle.alarm_core.specs.Sites.{IsSite}
use Rattle.alarm_core.specs.State.{state_of}
use Rattle.alarm_core.proofs.KeptObjects.{IsRewritten, both, known_kept, not_both}
use Rattle.alarm_core.proofs.OwnSubjects.{found_itself}
use Rattle.alarm_core.proofs.Stays.{row_objects_after, site_objects_after, written_row, written_site}
use Rattle.alarm_core.proofs.TypesApart.{HasNoValue, no_enrollment, no_log, no_row}

-- ---- one row

rewritten : (property : ObjectProperty) (value : Value) (site row : ObjectSite) → IsRewritten site row → IsRewritten site (rows.set_known property value row)
rewritten PresentValue value site row e = ap (λ (s : ObjectSite). record s { value = value }) e
rewritten OutOfService (Truth truth) site row e = ap (λ (s : ObjectSite). record s { out_of_service = truth }) e
rewritten ReliabilityEvaluationInhibit (Truth truth) site row e = ap (λ (s : ObjectSite). record s { reliability_inhibit = truth }) e
rewritten TimeDelay (Unsigned seconds) site row e = ap (λ (s : ObjectSite). record s { time_delay = seconds }) e
rewritten TimeDelayNormal (Unsigned seconds) site row e = ap (λ (s : ObjectSite). record s { time_delay_normal = Some seconds }) e
rewritten HighLimit (Signed limit) site row e = ap (λ (s : ObjectSite). record s { high = limit }) e
rewritten HighLimit (Unsigned limit) site row e = ap (rows.set_known HighLimit (Unsigned limit)) e
rewritten LowLimit (Signed limit) site row e = ap (λ (s : ObjectSite). record s { low = limit }) e
rewritten LowLimit (Unsigned limit) site row e = ap (rows.set_known LowLimit (Unsigned limit)) e
rewritten Deadband (Unsigned deadband) site row e = ap (λ (s : ObjectSite). record s { deadband = deadband }) e
rewritten LimitEnable (Bits flags) site row e = ap (λ (s : ObjectSite). record s { limit_enable = two_flags flags }) e
rewritten AlarmValue value site row e = ap (λ (s : ObjectSite). record s { alarm_value = Some value }) e
rewritten EventEnable (Bits flags) site row e = ap (λ (s : ObjectSite). record s { enable = three_flags flags }) e
rewritten EventAlgorithmInhibit (Truth truth) site row e = ap (λ (s : ObjectSite). record s { inhibit = truth }) e
rewritten _ _ site row e = e

-- Time_Delay_Normal is written where it is there
delay_there : (property : ObjectProperty) (value : Value) (row : ObjectSite) → IsTrue (takes_known (kind_in row) row (Some property) value) →
    is_some (rows.set_known property value row).time_delay_normal ≡ is_some row.time_delay_normal
delay_there PresentValue value row taken = refl
delay_there OutOfService (Truth truth) row taken = refl
delay_there ReliabilityEvaluationInhibit (Truth truth) row taken = refl
delay_there TimeDelay (Unsigned seconds) row taken = refl
delay_there TimeDelayNormal (Unsigned seconds) row taken =
    sym (both (is_some row.class) (is_some row.time_delay_normal) (both (is_some row.class && is_some row.time_delay_normal) true taken).0).1
delay_there HighLimit (Signed limit) row taken = refl
delay_there HighLimit (Unsigned limit) row taken = refl
delay_there LowLimit (Signed limit) row taken = refl
delay_there LowLimit (Unsigned limit) row taken = refl
delay_there Deadband (Unsigned deadband) row taken = refl
delay_there LimitEnable (Bits flags) row taken = refl
delay_there AlarmValue value row taken = refl
delay_there EventEnable (Bits flags) row taken = refl
delay_there EventAlgorithmInhibit (Truth truth) row taken = refl
delay_there _ _ row taken = refl

-- a present value that replaces one of the site's kind is of that kind, and as long
length_kept : (old now value : Value) → has_length_of old now ≡ true → has_length_of now value ≡ true → has_length_of old value ≡ true
length_kept (Bits old) (Bits now) (Bits value) one two = ap (λ (n : ℕ). value.size == n) (sym (eqb-true now.size old.size one)) ∙ two
length_kept (Bits old) (Bits now) _ one two = absurd (true≢false (sym two))
length_kept _ _ _ one two = absurd (true≢false (sym one))

present_kept : (kind : Option ObjectKind) (site row : ObjectSite) (value : Value) → row.states ≡ site.states → is_present_value kind site row.value ≡ true → is_present_value kind row value ≡ true → is_present_value kind site value ≡ true
present_kept (Some IntegerValue) site row value states old new = new
present_kept (Some PositiveIntegerValue) site row value states old new = new
present_kept (Some BinaryValue) site row value states old new = new
present_kept (Some MultiStateValue) site row value states old new = subst (λ (n : ℕ). is_state n value ≡ true) states new
present_kept (Some BitStringValue) site row value states old new = length_kept site.value row.value value old new
present_kept (Some CharacterStringValue) site row value states old new = new
present_kept _ site row value states old new = absurd (true≢false (sym new))

value_kept : (property : ObjectProperty) (value : Value) (site row : ObjectSite) → IsRewritten site row → IsTrue (takes_known (kind_in row) row (Some property) value) → IsTrue (is_present_value (kind_in site) site row.value) →
    IsTrue (is_present_value (kind_in site) site (rows.set_known property value row).value)
value_kept PresentValue value site row e taken is =
    present_kept (kind_in site) site row value (ap (λ (s : ObjectSite). s.states) e) is (subst (λ kind. is_present_value kind row value ≡ true) (ap kind_in e) taken)
value_kept OutOfService (Truth truth) site row e taken is = is
value_kept ReliabilityEvaluationInhibit (Truth truth) site row e taken is = is
value_kept TimeDelay (Unsigned seconds) site row e taken is = is
value_kept TimeDelayNormal (Unsigned seconds) site row e taken is = is
value_kept HighLimit (Signed limit) site row e taken is = is
value_kept HighLimit (Unsigned limit) site row e taken is = is
value_kept LowLimit (Signed limit) site row e taken is = is
value_kept LowLimit (Unsigned limit) site row e taken is = is
value_kept Deadband (Unsigned deadband) site row e taken is = is
value_kept LimitEnable (Bits flags) site row e taken is = is
value_kept AlarmValue value site row e taken is = is
value_kept EventEnable (Bits flags) site row e taken is = is
value_kept EventAlgorithmInhibit (Truth truth) site row e taken is = is
value_kept _ _ site row e taken is = is

row_set : (site : ObjectSite) (property : Option ObjectProperty) (value : Value) (row : Row) → FitsWhat (Property (record { 0 = 0 }) value) → IsTrue (takes_known (kind_in row.site) row.site property value) → IsRowOf site row →
    IsRowOf site (record row { site = rows.set_by property value row.site })
row_set site None value row fits taken is = absurd (true≢false (sym taken))
row_set site (Some property) value row fits taken is = record {
  same = rewritten property value site row.site is.same;
  value = value_kept property value site row.site is.same taken is.value;
  delay = delay_there property value row.site taken ∙ is.delay;
  takes = record { site = known_kept row.site is.takes.site property value fits taken; field_fault = is.takes.field_fault };
}

row_changed : (site : ObjectSite) (what : What) (row : Row) → FitsWhat what → IsTrue (rows.takes what row.site) → IsRowOf site row → IsRowOf site (rows.changed what row)
row_changed site (Property property value) row fits taken is = row_set site (property_of property.0) value row fits taken is
row_changed site (FieldFault reliability) row fits taken is = record { same = is.same; value = is.value; delay = is.delay; takes = record { site = is.takes.site; field_fault = taken } }

-- a change that a row takes where it has the row's identifier
abbrev TakesOwn : Change → Row → Type 0
TakesOwn change row = is_object change.object row.site.object ≡ true → IsTrue (rows.takes change.what row.site)

row_written : (site : ObjectSite) (change : Change) (row : Row) → FitsWhat change.what → TakesOwn change row → IsRowOf site row → IsRowOf site (written_row change row)
row_written site change row fits taken is = by_object (is_object change.object row.site.object) refl
  where
    by_object : (b : Bool) → is_object change.object row.site.object ≡ b → IsRowOf site (if b then rows.changed change.what row else row)
    by_object true e = row_changed site change.what row fits (taken e) is
    by_object false e = is

zip_written : (change : Change) (sites : List ObjectSite) (table : List Row) → FitsWhat change.what → All (TakesOwn change) table → AllZip IsRowOf sites table → AllZip IsRowOf sites (rows.written change table)
zip_written change [] [] fits taken is = tt
zip_written change [] (row ∷ table) fits taken is = absurd is
zip_written change (site ∷ sites) [] fits taken is = absurd is
zip_written change (site ∷ sites) (row ∷ table) fits taken is = (
  row_written site change row fits (All-head (TakesOwn change) row table taken) is.0,
  zip_written change sites table fits (All-tail (TakesOwn change) row table taken) is.1,
)

-- ---- the row of an identifier takes what is allowed

-- a type of logs has no value object
no_object : (site : ObjectSite) → IsObjectOf (kind_of 25) site → ⊥
no_object site is = true≢false (sym is.value)

is_no_log : (site : ObjectSite) → IsObject site → site.object.number ≡ 25 → ⊥
is_no_log site is number = no_object site (subst (λ n. IsObjectOf (kind_of n) site) number is)

in_zip : (sites : List ObjectSite) (table : List Row) → AllZip IsRowOf sites table → All (λ (row : Row). IsObject row.site) table
in_zip [] [] is = All-nil (λ (row : Row). IsObject row.site)
in_zip [] (row ∷ table) is = absurd is
in_zip (site ∷ sites) [] is = absurd is
in_zip (site ∷ sites) (row ∷ table) is = All-cons (λ (r : Row). IsObject r.site) row table is.0.takes.site (in_zip sites table is.1)

module _ (site : Site) (is : IsSite site) (history : List Event) (change : Change) where
  taken_own : IsAllowed (state_of site history) (Write change) → AllZip IsRowOf site.objects (values_after site history).rows → All (TakesOwn change) (values_after site history).rows
  taken_own allowed zip = λ k d low same. by_taken allowed k d low same
    where
      table : List Row
      table = (values_after site history).rows

      ascends : Ascends (map object_in (values_after site history).rows)
      ascends = subst Ascends (sym (row_objects_after site history)) is.ascending

      is_change : (k : ℕ) (d : Row) → k < length (values_after site history).rows → is_object change.object (get_or (values_after site history).rows k d).site.object ≡ true →
          row_of change.object (values_after site history).rows ≡ Some (get_or (values_after site history).rows k d)
      is_change k d low same =
          let row = get_or (values_after site history).rows k d in
          subst (λ object. row_of object (values_after site history).rows ≡ Some row) (same_object change.object row.site.object same) (found_itself object_in (values_after site history).rows ascends k d low)

      by_taken : IsAllowed (state_of site history) (Write change) → (k : ℕ) (d : Row) → k < length (values_after site history).rows → is_object change.object (get_or (values_after site history).rows k d).site.object ≡ true →
          IsTrue (rows.takes change.what (get_or (values_after site history).rows k d).site)
      by_taken (inl (inl taken)) k d low same = subst (λ found. IsSomeAnd found (λ (row : Row). IsTrue (rows.takes change.what row.site))) (is_change k d low same) taken
      by_taken (inl (inr taken)) k d low same =
          let row = get_or (values_after site history).rows k d in
          let object = same_object change.object row.site.object same in
          let other = is_other_kind row.site (in_zip site.objects (values_after site history).rows zip k d low) in
          absurd (subst (λ found. IsSomeAnd found (λ s. IsTrue (enrollments.takes change.what s))) (no_enrollment site history change.object is.enrollments (λ e. other (ap (λ (o : ObjectIdData). o.number) object ∙ e))) taken)
      by_taken (inr taken) k d low same =
          let row = get_or (values_after site history).rows k d in
          let object = same_object change.object row.site.object same in
          let other = is_no_log row.site (in_zip site.objects (values_after site history).rows zip k d low) in
          absurd (subst (λ found. IsSomeAnd found (λ kept. IsTrue (takes change.what))) (no_log site history change.object is.logs (λ e. other (ap (λ (o : ObjectIdData). o.number) object ∙ e))) taken)

-- ---- the rows over a history

first_zip : (sites : List ObjectSite) → All IsObject sites → AllZip IsRowOf sites (rows_of sites)
first_zip [] all = tt
first_zip (site ∷ sites) all = (
  record { same = refl; value = (All-head IsObject site sites all).value; delay = refl; takes = record { site = All-head IsObject site sites all; field_fault = refl } },
  first_zip sites (All-tail IsObject site sites all),
)

module _ (site : Site) (is : IsSite site) where
  rows_with : (act : Act) (history : List Event) → FitsAct act → IsAllowed (state_of site history) act → AllZip IsRowOf site.objects (values_after site history).rows →
      AllZip IsRowOf site.objects (values_with act (values_after site history)).rows
  rows_with (Write change) history fits allowed zip = zip_written change site.objects (values_after site history).rows fits (taken_own site is history change allowed zip) zip
  rows_with Tick history fits allowed zip = zip
  rows_with (Ack object transition named) history fits allowed zip = zip
  rows_with Pump history fits allowed zip = zip
  rows_with (Answer peer invoke kind) history fits allowed zip = zip
  rows_with (Edit number recipients) history fits allowed zip = zip

  pub rows_kept : (history : List Event) → IsHistory site history → All FitsEvent history → AllZip IsRowOf site.objects (values_after site history).rows
  rows_kept [] h fits = first_zip site.objects is.objects
  rows_kept (event ∷ older) h fits =
      rows_with event.act older (All-head FitsEvent event older fits) h.2 (rows_kept older h.4 (All-tail FitsEvent event older fits))

-- ---- the enrollments over a history

enrollment_set : (property : EnrollmentProperty) (value : Value) (site listed : EnrollmentSite) → IsTrue (enrollments.takes_known site (Some property) value) → IsEnrollmentOf listed site →
    IsEnrollmentOf listed (enrollments.set_known property value site)
enrollment_set of_enrollments.EventEnable (Bits flags) site listed taken is = record { same = ap (λ (s : EnrollmentSite). record s { enable = three_flags flags }) is.same; enable = refl; inhibit = is.inhibit }
enrollment_set of_enrollments.EventAlgorithmInhibit (Truth truth) site listed taken is =
    let free : is_none site.inhibit_ref ≡ true = (both (is_none site.inhibit_ref) true taken).0 in
    let same : listed.inhibit_ref ≡ site.inhibit_ref = sym (ap (λ (s : EnrollmentSite). s.inhibit_ref) is.same) in
    record {
      same = ap (λ (s : EnrollmentSite). record s { inhibit = truth }) is.same;
      enable = is.enable;
      inhibit = λ referred. absurd (not_both site.inhibit_ref free (subst (λ (r : Option ObjectIdData). is_some r ≡ true) same referred));
    }
enrollment_set _ _ site listed taken is = is

enrollment_by : (property : Option EnrollmentProperty) (value : Value) (site listed : EnrollmentSite) → IsTrue (enrollments.takes_known site property value) → IsEnrollmentOf listed site →
    IsEnrollmentOf listed (enrollments.set_by property value site)
enrollment_by None value site listed taken is = is
enrollment_by (Some property) value site listed taken is = enrollment_set property value site listed taken is

enrollment_changed : (what : What) (site listed : EnrollmentSite) → IsTrue (enrollments.takes what site) → IsEnrollmentOf listed site → IsEnrollmentOf listed (enrollments.changed what site)
enrollment_changed (Property property value) site listed taken is = enrollment_by (enrollment_properties.property_of property.0) value site listed taken is
enrollment_changed (FieldFault reliability) site listed taken is = is

-- a change that an enrollment takes where it has the enrollment's identifier
abbrev TakesAsOwn : Change → EnrollmentSite → Type 0
TakesAsOwn change site = is_object change.object site.object ≡ true → IsTrue (enrollments.takes change.what site)

enrollment_written : (change : Change) (site listed : EnrollmentSite) → TakesAsOwn change site → IsEnrollmentOf listed site → IsEnrollmentOf listed (written_site change site)
enrollment_written change site listed taken is = by_object (is_object change.object site.object) refl
  where
    by_object : (b : Bool) → is_object change.object site.object ≡ b → IsEnrollmentOf listed (if b then enrollments.changed change.what site else site)
    by_object true e = enrollment_changed change.what site listed (taken e) is
    by_object false e = is

enrollments_written : (change : Change) (listed sites : List EnrollmentSite) → All (TakesAsOwn change) sites → AllZip IsEnrollmentOf listed sites → AllZip IsEnrollmentOf listed (enrollments.written change sites)
enrollments_written change [] [] taken is = tt
enrollments_written change [] (site ∷ sites) taken is = absurd is
enrollments_written change (one ∷ listed) [] taken is = absurd is
enrollments_written change (one ∷ listed) (site ∷ sites) taken is = (
  enrollment_written change site one (All-head (TakesAsOwn change) site sites taken) is.0,
  enrollments_written change listed sites (All-tail (TakesAsOwn change) site sites taken) is.1,
)

-- each has the type of enrollments
abbrev HasOwnType : EnrollmentSite → Type 0
HasOwnType site = site.object.number ≡ 9

own_types : (listed sites : List EnrollmentSite) → All IsEnrollment listed → AllZip IsEnrollmentOf listed sites → All HasOwnType sites
own_types [] [] allowed is = All-nil HasOwnType
own_types [] (site ∷ sites) allowed is = absurd is
own_types (one ∷ listed) [] allowed is = absurd is
own_types (one ∷ listed) (site ∷ sites) allowed is =
    All-cons HasOwnType site sites (ap (λ (s : EnrollmentSite). s.object.number) is.0.same ∙ (All-head IsEnrollment one listed allowed).number)
    (own_types listed sites (All-tail IsEnrollment one listed allowed) is.1)

-- the type of enrollments is none of logs, and has no value
nine : ◌≡◌ {A = ℕ} 9 25 → ⊥
nine same = omega (arith, same)

no_value : HasNoValue 9
no_value site is = true≢false (sym is)

module _ (site : Site) (is : IsSite site) (history : List Event) (change : Change) where
  abbrev kept_sites : List EnrollmentSite
  kept_sites = (values_after site history).enrollments

  taken_as_own : IsAllowed (state_of site history) (Write change) → AllZip IsEnrollmentOf site.enrollments kept_sites → All (TakesAsOwn change) kept_sites
  taken_as_own allowed zip = λ k d low same. by_taken allowed k d low same
    where
      ascends : Ascends (map identifier_of kept_sites)
      ascends = subst Ascends (sym (site_objects_after site history)) is.enrollments_ascend

      is_change : (k : ℕ) (d : EnrollmentSite) → k < length kept_sites → is_object change.object (get_or kept_sites k d).object ≡ true → site_of change.object kept_sites ≡ Some (get_or kept_sites k d)
      is_change k d low same =
          let one = get_or kept_sites k d in
          subst (λ object. site_of object kept_sites ≡ Some one) (same_object change.object one.object same) (found_itself identifier_of kept_sites ascends k d low)

      own_type : (k : ℕ) (d : EnrollmentSite) → k < length kept_sites → is_object change.object (get_or kept_sites k d).object ≡ true → change.object.number ≡ 9
      own_type k d low same =
          ap (λ (o : ObjectIdData). o.number) (sym (same_object change.object (get_or kept_sites k d).object same)) ∙ own_types site.enrollments kept_sites is.enrollments zip k d low

      by_taken : IsAllowed (state_of site history) (Write change) → (k : ℕ) (d : EnrollmentSite) → k < length kept_sites → is_object change.object (get_or kept_sites k d).object ≡ true →
          IsTrue (enrollments.takes change.what (get_or kept_sites k d))
      by_taken (inl (inl taken)) k d low same =
          let none = no_row site history change.object is.objects (subst HasNoValue (sym (own_type k d low same)) no_value) in
          absurd (subst (λ found. IsSomeAnd found (λ (row : Row). IsTrue (rows.takes change.what row.site))) none taken)
      by_taken (inl (inr taken)) k d low same = subst (λ found. IsSomeAnd found (λ one. IsTrue (enrollments.takes change.what one))) (is_change k d low same) taken
      by_taken (inr taken) k d low same =
          let type = own_type k d low same in
          absurd (subst (λ found. IsSomeAnd found (λ kept. IsTrue (takes change.what))) (no_log site history change.object is.logs (λ log. nine (sym type ∙ log))) taken)

module _ (site : Site) (is : IsSite site) where
  enrollments_with : (act : Act) (history : List Event) → IsAllowed (state_of site history) act → AllZip IsEnrollmentOf site.enrollments (values_after site history).enrollments →
      AllZip IsEnrollmentOf site.enrollments (values_with act (values_after site history)).enrollments
  enrollments_with (Write change) history allowed zip =
      enrollments_written change site.enrollments (values_after site history).enrollments (taken_as_own site is history change allowed zip) zip
  enrollments_with Tick history allowed zip = zip
  enrollments_with (Ack object transition named) history allowed zip = zip
  enrollments_with Pump history allowed zip = zip
  enrollments_with (Answer peer invoke kind) history allowed zip = zip
  enrollments_with (Edit number recipients) history allowed zip = zip

  first_enrollments : (sites : List EnrollmentSite) → All IsEnrollment sites → AllZip IsEnrollmentOf sites sites
  first_enrollments [] all = tt
  first_enrollments (one ∷ sites) all =
      let first = All-head IsEnrollment one sites all in
      (record { same = refl; enable = first.enable; inhibit = first.inhibit }, first_enrollments sites (All-tail IsEnrollment one sites all))

  pub enrollments_kept : (history : List Event) → IsHistory site history → AllZip IsEnrollmentOf site.enrollments (values_after site history).enrollments
  enrollments_kept [] h = first_enrollments site.enrollments is.enrollments
  enrollments_kept (event ∷ older) h = enrollments_with event.act older h.2 (enrollments_kept older h.4)
