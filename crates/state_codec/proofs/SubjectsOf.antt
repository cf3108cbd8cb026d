-- The subjects that have alarms: the value objects before the enrollments, the enrollments, and the value objects behind them.
use Rattle.std.proofs.Common.{◌≡◌, ◌&&◌, Bool, true, false, not, cond, List, [], ◌∷◌, ◌++◌, filter, map, is_some, refl, sym, ap, ◌∙◌, append-nil}
use Rattle.std.proofs.lemmas.List.Elements.{filter-append}
use Rattle.object_table.specs.declared.object_site.ObjectSite.{ObjectSite}
use Rattle.enrollment.specs.Subjects.{is_before_enrollments, is_behind_enrollments, subject_of_enrollment, subject_of_object}
use Rattle.enrollment.specs.declared.enrollment_site.EnrollmentSite.{EnrollmentSite}
use Rattle.enrollment.specs.declared.subject.Subject.{Subject}
use Rattle.alarm_core.specs.Subjects.{alarm_subjects, has_class}
use Rattle.alarm_core.specs.declared.site.Site.{Site}
use Rattle.state_codec.specs.SnapshotSteps.{is_before, is_behind, object_subjects}

-- two tests that agree on those that are kept
module _ (keep : ObjectSite → Bool) (test other : Subject → Bool) (same : (site : ObjectSite) → keep site ≡ true → test (subject_of_object site) ≡ other (subject_of_object site)) where
  kept : (site : ObjectSite) (rest : List ObjectSite) (there : Bool) → keep site ≡ there → filter test (map subject_of_object rest) ≡ filter other (map subject_of_object rest)
      → filter test (map subject_of_object (cond there (site ∷ rest) rest)) ≡ filter other (map subject_of_object (cond there (site ∷ rest) rest))
  kept site rest true is later =
      ap (λ (b : Bool). cond b (subject_of_object site ∷ filter test (map subject_of_object rest)) (filter test (map subject_of_object rest))) (same site is)
      ∙ ap (λ (ss : List Subject). cond (other (subject_of_object site)) (subject_of_object site ∷ ss) ss) later
  kept site rest false is later = later

  agree : (sites : List ObjectSite) → filter test (map subject_of_object (filter keep sites)) ≡ filter other (map subject_of_object (filter keep sites))
  agree [] = refl
  agree (site ∷ sites) = kept site (filter keep sites) (keep site) refl (agree sites)

abbrev never : Subject → Bool
never subject = false

none : (subjects : List Subject) → filter never subjects ≡ []
none [] = refl
none (subject ∷ subjects) = none subjects

with_true : (a b : Bool) → b ≡ true → (a && b) ≡ a
with_true true b e = e
with_true false b e = refl

with_false : (a b : Bool) → b ≡ false → (a && b) ≡ false
with_false true b e = e
with_false false b e = refl

not_true : (b : Bool) → not b ≡ true → b ≡ false
not_true true e = sym e
not_true false e = refl

abbrev first_objects : Site → List Subject
first_objects site = map subject_of_object (filter is_before_enrollments site.objects)

abbrev last_objects : Site → List Subject
last_objects site = map subject_of_object (filter is_behind_enrollments site.objects)

pub before_same : (site : Site) → filter is_before (object_subjects site) ≡ filter has_class (first_objects site)
before_same site =
    filter-append is_before (first_objects site) (last_objects site)
    ∙ ap (λ (ss : List Subject). filter is_before (first_objects site) ++ ss)
    (agree is_behind_enrollments is_before never (λ it e. with_false (is_some it.class) (is_before_enrollments it) (not_true (is_before_enrollments it) e)) site.objects ∙ none (last_objects site))
    ∙ append-nil (filter is_before (first_objects site))
    ∙ agree is_before_enrollments is_before has_class (λ it e. with_true (is_some it.class) (is_before_enrollments it) e) site.objects

pub behind_same : (site : Site) → filter is_behind (object_subjects site) ≡ filter has_class (last_objects site)
behind_same site =
    filter-append is_behind (first_objects site) (last_objects site)
    ∙ ap (λ (ss : List Subject). ss ++ filter is_behind (last_objects site))
    (agree is_before_enrollments is_behind never (λ it e. with_false (is_some it.class) (not (is_before_enrollments it)) (ap not e)) site.objects ∙ none (first_objects site))
    ∙ agree is_behind_enrollments is_behind has_class (λ it e. with_true (is_some it.class) (not (is_before_enrollments it)) e) site.objects

enrolled_all : (sites : List EnrollmentSite) → filter has_class (map subject_of_enrollment sites) ≡ map subject_of_enrollment sites
enrolled_all [] = refl
enrolled_all (site ∷ sites) = ap (λ (ss : List Subject). subject_of_enrollment site ∷ ss) (enrolled_all sites)

abbrev pub in_three : Site → List Subject
in_three site = filter is_before (object_subjects site) ++ (map subject_of_enrollment site.enrollments ++ filter is_behind (object_subjects site))

pub subjects_split : (site : Site) → alarm_subjects site ≡ in_three site
subjects_split site =
    let first = first_objects site in
    let middle = map subject_of_enrollment site.enrollments in
    let last = last_objects site in
    filter-append has_class first (middle ++ last)
    ∙ ap (λ (ss : List Subject). filter has_class first ++ ss) (filter-append has_class middle last ∙ ap (λ (ss : List Subject). ss ++ filter has_class last) (enrolled_all site.enrollments))
    ∙ (λ k. sym (before_same site) k ++ (middle ++ sym (behind_same site) k))
