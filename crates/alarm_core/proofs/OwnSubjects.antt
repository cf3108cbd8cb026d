-- At the start of a site each of its subjects is found as itself, there is something to look at, and its algorithm is that of its identifier.
use Rattle.std.proofs.Common.{◌≡◌, ℕ, ◌==◌, ◌&&◌, ◌<◌, true, false, Some, None, is_some, List, ◌++◌, length, map, filter, get_or, ap, ◌∙◌, sym, arith}
use Rattle.std.specs.List.{All, find}
use Rattle.std.specs.Option.{option_and_then, option_map}
use Rattle.std.proofs.lemmas.Bool.{ne_eqb}
use Rattle.std.proofs.lemmas.Bool.Decides.{nat_tests}
use Rattle.std.proofs.lemmas.List.{get_or-map, length-map}
use Rattle.std.proofs.lemmas.List.Elements.{All-append, All-filter, All-map}
use Rattle.bac_values.specs.Identifier.{ObjectIdData}
use Rattle.object_table.specs.declared.object_site.ObjectSite.{ObjectSite}
use Rattle.object_table.specs.declared.row.Row.{Row}
use Rattle.object_table.specs.Rows.{Ascends, first_row, is_object, object_of, row_of, rows_of}
use Rattle.object_table.proofs.Order.{less_is_other}
use Rattle.object_table.proofs.Places.{find_at, find_none}
use Rattle.enrollment.specs.declared.enrollment_site.EnrollmentSite.{EnrollmentSite}
use Rattle.enrollment.specs.Enrollments.{IsEnrollment, identifier_of, site_of}
use Rattle.enrollment.specs.Snapshots.{algorithm_by_site, algorithm_with, facts_by_site, facts_of_enrollment, facts_of_row, value_in}
use Rattle.enrollment.specs.declared.subject.Subject.{Subject}
use Rattle.enrollment.specs.Objects.{facts_at}
use Rattle.enrollment.specs.Subjects.{is_before_enrollments, is_behind_enrollments, is_detecting, subject_by, subject_in, subject_of_enrollment, subject_of_object}
use Rattle.alarm_core.specs.declared.site.Site.{Site}
use Rattle.alarm_core.specs.Sites.{IsSite}
use Rattle.alarm_core.specs.Subjects.{detecting_subjects, subjects_of}
use Rattle.alarm_core.specs.Values.{first_values}
use Rattle.enrollment.proofs.Parted.{is_other_kind}
use Rattle.alarm_core.proofs.Searches.{find_map, is_some-map}

pub record IsOwn (site : Site) (subject : Subject) : Type 0 where
  pub found : subject_in subject.object (first_values site) ≡ Some subject
  pub facts : is_some (facts_at subject.object (first_values site)) ≡ true
  pub algorithm : algorithm_with subject.object site.enrollments ≡ subject.algorithm

-- ---- what ascends is found by its identifier

is_itself : (object : ObjectIdData) → is_object object object ≡ true
is_itself object = grind (arith, nat_tests)

module _ {X : Type 0} (object : X → ObjectIdData) (xs : List X) (ascending : Ascends (map object xs)) where
  earlier_is_other : (j k : ℕ) (d : X) → j < k → k < length xs → is_object (object (get_or xs k d)) (object (get_or xs j d)) ≡ false
  earlier_is_other j k d before low =
      let in_range : k < length (map object xs) = rw (length-map xs object) low in
      let high : j < length xs = omega (arith, before, low) in
      let below = ascending j k (object d) before in_range in
      less_is_other (object (get_or xs j d)) (object (get_or xs k d))
      (rw (← get_or-map object xs j d (object d) high, ← get_or-map object xs k d (object d) low) below)

  pub found_itself : (k : ℕ) (d : X) → k < length xs → find (λ x. is_object (object (get_or xs k d)) (object x)) xs ≡ Some (get_or xs k d)
  found_itself k d low =
      find_at (λ x. is_object (object (get_or xs k d)) (object x)) xs k d low (is_itself (object (get_or xs k d)))
      (λ j before. earlier_is_other j k d before low)

-- ---- no value object is an enrollment

other_number : (object : ObjectIdData) → (object.number ≡ 9 → ⊥) → (site : EnrollmentSite) → IsEnrollment site → is_object object site.object ≡ false
other_number object other site allowed =
    ap (λ b. b && (site.object.instance == object.instance)) (ne_eqb site.object.number object.number (λ same. other (sym same ∙ allowed.number)))

pub no_site : (object : ObjectIdData) → (object.number ≡ 9 → ⊥) → (sites : List EnrollmentSite) → All IsEnrollment sites → site_of object sites ≡ None
no_site object other sites allowed =
    find_none (λ (site : EnrollmentSite). is_object object site.object) sites (λ k d low. other_number object other (get_or sites k d) (allowed k d low))

-- ---- the subjects of a site

module _ (site : Site) (is : IsSite site) where
  own_object : All (λ object. IsOwn site (subject_of_object object)) site.objects
  own_object k d low =
      let listed = get_or site.objects k d in
      let none : site_of listed.object site.enrollments ≡ None = no_site listed.object (is_other_kind listed (is.objects k d low)) site.enrollments is.enrollments in
      let row : row_of listed.object (rows_of site.objects) ≡ Some (first_row listed) =
      find_map first_row (λ (r : Row). is_object listed.object r.site.object) site.objects
      ∙ ap (option_map first_row) (found_itself object_of site.objects is.ascending k d low) in
      record {
        found = ap (λ found. subject_by found (row_of listed.object (rows_of site.objects))) none ∙ ap (subject_by None) row;
        facts = ap (λ found. is_some (facts_by_site found listed.object (rows_of site.objects))) none
            ∙ ap (λ found. is_some (facts_of_row found)) row;
        algorithm = ap (λ found. algorithm_by_site found listed.object) none;
      }

  own_enrollment : All (λ enrollment. IsOwn site (subject_of_enrollment enrollment)) site.enrollments
  own_enrollment k d low =
      let listed = get_or site.enrollments k d in
      let rows = rows_of site.objects in
      let found : site_of listed.object site.enrollments ≡ Some listed = found_itself identifier_of site.enrollments is.enrollments_ascend k d low in
      let there : is_some (row_of listed.monitored rows) ≡ true = (is.referred.enrollments k d low).monitored in
      record {
        found = ap (λ one. subject_by one (row_of listed.object rows)) found;
        facts = ap (λ one. is_some (facts_by_site one listed.object rows)) found
            ∙ (is_some-map (λ value. facts_of_enrollment value (option_and_then (value_in rows) listed.feedback) listed) (value_in rows listed.monitored)
            ∙ (is_some-map (λ (row : Row). row.site.value) (row_of listed.monitored rows) ∙ there));
        algorithm = ap (λ one. algorithm_by_site one listed.object) found;
      }

  pub own_subjects : All (IsOwn site) (subjects_of site)
  own_subjects =
      let before = map subject_of_object (filter is_before_enrollments site.objects) in
      let between = map subject_of_enrollment site.enrollments in
      let behind = map subject_of_object (filter is_behind_enrollments site.objects) in
      let IsOwnObject : ObjectSite → Type 0 = λ object. IsOwn site (subject_of_object object) in
      All-append (IsOwn site) before (between ++ behind)
      (All-map (IsOwn site) subject_of_object (filter is_before_enrollments site.objects) (All-filter is_before_enrollments IsOwnObject site.objects own_object))
      (All-append (IsOwn site) between behind
      (All-map (IsOwn site) subject_of_enrollment site.enrollments own_enrollment)
      (All-map (IsOwn site) subject_of_object (filter is_behind_enrollments site.objects) (All-filter is_behind_enrollments IsOwnObject site.objects own_object)))

  pub own_detecting : All (IsOwn site) (detecting_subjects site)
  own_detecting = All-filter is_detecting (IsOwn site) (subjects_of site) own_subjects
