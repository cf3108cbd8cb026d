-- A write of an event log changes no value object and no enrollment.
use Rattle.std.proofs.Common.{◌≡◌, ℕ, Bool, true, false, true≢false, List, [], ◌∷◌, refl, sym, ap, ◌∙◌, subst, arith}
use Rattle.std.specs.List.{All, AllZip}
use Rattle.std.specs.Option.{option_map}
use Rattle.std.proofs.lemmas.List.Elements.{All-nil, All-cons, All-head, All-tail}
use Rattle.bac_values.specs.Identifier.{ObjectIdData}
use Rattle.object_table.specs.declared.change.Change.{Change}
use Rattle.object_table.specs.declared.object_site.ObjectSite.{ObjectSite}
use Rattle.object_table.specs.declared.row.Row.{Row}
use Rattle.object_table.specs.Rows.{is_object}
use Rattle.object_table.proofs.Places.{find_none}
use Rattle.enrollment.specs.declared.enrollment_site.EnrollmentSite.{EnrollmentSite}
use Rattle.enrollment.specs.Enrollments.{IsEnrollment}
use Rattle.enrollment.specs.Objects.{ObjectsState, written}
use Rattle.enrollment.proofs.Parted.{enrollments_stay, rows_stay, same_object}
use Rattle.alarm_core.specs.declared.site.Site.{Site}
use Rattle.alarm_core.specs.Logs.{HasNoLog}
use Rattle.alarm_core.specs.SiteStates.{IsEnrollmentOf, IsRowOf, IsStateOf}
use Rattle.alarm_core.specs.Sites.{IsSite}
use Rattle.alarm_core.specs.State.{CoreState}
use Rattle.alarm_core.specs.Values.{first_values}
use Rattle.alarm_core.proofs.Stays.{row_of-written, site_of-written, written_row, written_site}
use Rattle.alarm_core.proofs.TypesApart.{HasNoValue, no_enrollment, no_row}

-- what no log is among stays as a log is written, and none comes to be among it as anything is
pub written_elsewhere : (change : Change) (values : ObjectsState) → change.object.number ≡ 25 → HasNoLog values → written change values ≡ values
written_elsewhere change values log none =
    let first = rows_stay change values.rows (none change.object log).0 in
    let second = enrollments_stay change values.enrollments (none change.object log).1 in
    λ k. record { rows = first k; enrollments = second k }

pub written_apart : (change : Change) (values : ObjectsState) → HasNoLog values → HasNoLog (written change values)
written_apart change values none = λ object log. (
  row_of-written object change values.rows ∙ ap (option_map (written_row change)) (none object log).0,
  site_of-written object change values.enrollments ∙ ap (option_map (written_site change)) (none object log).1,
)

-- ---- at the start

no_log_value : HasNoValue 25
no_log_value site h = true≢false (sym h)

not_nine : (number : ℕ) → number ≡ 25 → number ≡ 9 → ⊥
not_nine number log nine = absurd (omega (arith, log, nine))

pub first_apart : (site : Site) → IsSite site → (values : ObjectsState) → values ≡ first_values site → HasNoLog values
first_apart site is values e = subst HasNoLog (sym e) (λ object log. (
  no_row site [] object is.objects (subst HasNoValue (sym log) no_log_value),
  no_enrollment site [] object is.enrollments (not_nine object.number log),
))

-- ---- in the state of a site

not_true : (b : Bool) → (b ≡ true → ⊥) → b ≡ false
not_true true never = absurd (never refl)
not_true false never = refl

module _ (object : ObjectIdData) (log : object.number ≡ 25) where
  other_row : (site : ObjectSite) (row : Row) → IsRowOf site row → is_object object row.site.object ≡ false
  other_row site row is = not_true (is_object object row.site.object) (λ same.
      let number : row.site.object.number ≡ 25 = ap (λ (i : ObjectIdData). i.number) (same_object object row.site.object same) ∙ log in
      subst HasNoValue (sym number) no_log_value row.site is.takes.site.value)

  rows_apart : (sites : List ObjectSite) (table : List Row) → AllZip IsRowOf sites table → All (λ (row : Row). is_object object row.site.object ≡ false) table
  rows_apart [] [] all = All-nil (λ (row : Row). is_object object row.site.object ≡ false)
  rows_apart [] (row ∷ table) all = absurd all
  rows_apart (site ∷ sites) [] all = absurd all
  rows_apart (site ∷ sites) (row ∷ table) all = All-cons (λ (r : Row). is_object object r.site.object ≡ false) row table (other_row site row all.0) (rows_apart sites table all.1)

  other_enrollment : (site now : EnrollmentSite) → IsEnrollment site → IsEnrollmentOf site now → is_object object now.object ≡ false
  other_enrollment site now allowed is = not_true (is_object object now.object) (λ same.
      let here : now.object ≡ site.object = ap (λ (s : EnrollmentSite). s.object) is.same in
      not_nine object.number log (ap (λ (i : ObjectIdData). i.number) (sym (same_object object now.object same) ∙ here) ∙ allowed.number))

  enrollments_apart : (sites now : List EnrollmentSite) → All IsEnrollment sites → AllZip IsEnrollmentOf sites now → All (λ (site : EnrollmentSite). is_object object site.object ≡ false) now
  enrollments_apart [] [] allowed all = All-nil (λ (site : EnrollmentSite). is_object object site.object ≡ false)
  enrollments_apart [] (one ∷ now) allowed all = absurd all
  enrollments_apart (site ∷ sites) [] allowed all = absurd all
  enrollments_apart (site ∷ sites) (one ∷ now) allowed all =
      All-cons (λ (s : EnrollmentSite). is_object object s.object ≡ false) one now (other_enrollment site one (All-head IsEnrollment site sites allowed) all.0)
      (enrollments_apart sites now (All-tail IsEnrollment site sites allowed) all.1)

pub state_apart : (site : Site) (state : CoreState) → IsSite site → IsStateOf site state → HasNoLog state.values
state_apart site state is of = λ object log. (
  find_none (λ (row : Row). is_object object row.site.object) state.values.rows (rows_apart object log site.objects state.values.rows of.rows),
  find_none (λ (now : EnrollmentSite). is_object object now.object) state.values.enrollments (enrollments_apart object log site.enrollments state.values.enrollments is.enrollments of.enrollments),
)
