-- What stands under an identifier in the state of a history: just what the site lists there.
use Rattle.std.proofs.Common.{◌≡◌, ◌⊎◌, Bool, true, false, cond, ◌||◌, Option, Some, None, is_some, List, [], ◌∷◌, ◌++◌, map, length, filter, refl, sym, ap, ap₂, ◌∙◌, inl, inr}
use Rattle.std.specs.List.{find, list_any}
use Rattle.std.specs.Option.{option_map}
use Rattle.std.proofs.lemmas.List.Folds.{list_any-append}
use Rattle.std.proofs.lemmas.Simd.{map-map}
use Rattle.bac_values.specs.Identifier.{ObjectIdData}
use Rattle.event_log.specs.declared.log_site.LogSite.{LogSite}
use Rattle.notify_class.specs.declared.class_site.ClassSite.{ClassSite}
use Rattle.object_table.specs.declared.object_site.ObjectSite.{ObjectSite}
use Rattle.object_table.specs.Rows.{is_object, object_in, object_of, row_of}
use Rattle.enrollment.specs.declared.subject.Subject.{Subject}
use Rattle.enrollment.specs.Enrollments.{identifier_of, site_of}
use Rattle.enrollment.specs.Subjects.{is_before_enrollments, is_behind_enrollments, is_detecting, subject_of_enrollment, subject_of_object}
use Rattle.alarm_core.specs.declared.event.Event.{Event}
use Rattle.alarm_core.specs.declared.site.Site.{Site}
use Rattle.alarm_core.specs.Devices.{class_object, device_object, identifiers_of, listed_class}
use Rattle.alarm_core.specs.Found.{alarm_in, alarm_or_new, detected_object_in, is_other_object}
use Rattle.alarm_core.specs.History.{Occurrence, occurrences_of, values_after}
use Rattle.alarm_core.specs.Logs.{kept_log, kept_log_of, logs_after, SiteLogState}
use Rattle.alarm_core.specs.State.{CoreState, DetectedObjectState, alarms_of, detected_object_of, state_of}
use Rattle.alarm_core.specs.Subjects.{detecting_subjects, subjects_of}
use Rattle.alarm_core.proofs.Searches.{find_map, is_some-map}
use Rattle.alarm_core.proofs.Stays.{row_objects_after, site_objects_after}
use Rattle.profile_laws.specs.AcknowledgementErrors.{has_event_detection}

-- ---- lists

any_found : {X : Type 0} (test : X → Bool) (xs : List X) → list_any test xs ≡ is_some (find test xs)
any_found test [] = refl
any_found {X} test (x ∷ xs) = one (test x) (list_any test xs) (find test xs) (any_found test xs)
  where
    one : (b any : Bool) (rest : Option X) → any ≡ is_some rest → (b || any) ≡ is_some (cond b (Some x) rest)
    one true any rest e = refl
    one false any rest e = e

any_map : {X Y : Type 0} (test : Y → Bool) (f : X → Y) (xs : List X) → list_any test (map f xs) ≡ list_any (λ x. test (f x)) xs
any_map test f [] = refl
any_map test f (x ∷ xs) = ap (λ b. test (f x) || b) (any_map test f xs)

or_true : (a : Bool) → (a || true) ≡ true
or_true true = refl
or_true false = refl

seen_among : (b kept any : Bool) → (kept ≡ true → any ≡ true) → (b || kept) ≡ true → (b || any) ≡ true
seen_among true kept any h e = refl
seen_among false kept any h e = h e

seen_behind : (b kept any : Bool) → (kept ≡ true → any ≡ true) → kept ≡ true → (b || any) ≡ true
seen_behind b kept any h e = ap (λ x. b || x) (h e) ∙ or_true b

one_more : {X : Type 0} (test : X → Bool) (x : X) (kept : List X) (any k : Bool) → (list_any test kept ≡ true → any ≡ true) → list_any test (cond k (x ∷ kept) kept) ≡ true → (test x || any) ≡ true
one_more test x kept any true h e = seen_among (test x) (list_any test kept) any h e
one_more test x kept any false h e = seen_behind (test x) (list_any test kept) any h e

any_filter : {X : Type 0} (test keep : X → Bool) (xs : List X) → list_any test (filter keep xs) ≡ true → list_any test xs ≡ true
any_filter test keep [] h = h
any_filter test keep (x ∷ xs) h = one_more test x (filter keep xs) (list_any test xs) (keep x) (any_filter test keep xs) h

either : (a b : Bool) → (a || b) ≡ true → (a ≡ true) ⊎ (b ≡ true)
either true b e = inl refl
either false b e = inr e

-- ---- a site and its history

module _ (site : Site) (history : List Event) (object : ObjectIdData) where
  abbrev is_it : ObjectIdData → Bool
  is_it other = is_object object other

  abbrev device : Bool
  device = is_object object (device_object site)

  rows_known : list_any is_it (map object_of site.objects) ≡ is_some (row_of object (values_after site history).rows)
  rows_known =
      sym (ap (list_any is_it) (row_objects_after site history))
      ∙ (any_map is_it object_in (values_after site history).rows
      ∙ any_found (λ row. is_it (object_in row)) (values_after site history).rows)

  enrollments_known : list_any is_it (map identifier_of site.enrollments) ≡ is_some (site_of object (values_after site history).enrollments)
  enrollments_known =
      sym (ap (list_any is_it) (site_objects_after site history))
      ∙ (any_map is_it identifier_of (values_after site history).enrollments
      ∙ any_found (λ listed. is_it (identifier_of listed)) (values_after site history).enrollments)

  logs_known : list_any is_it (map (λ (log : LogSite). log.object) site.logs) ≡ is_some (kept_log object (logs_after site history))
  logs_known =
      sym (ap (list_any is_it) (map-map (λ (kept : SiteLogState). kept.site.object) (kept_log_of site history) site.logs))
      ∙ (any_map is_it (λ (kept : SiteLogState). kept.site.object) (logs_after site history)
      ∙ any_found (λ (kept : SiteLogState). is_it kept.site.object) (logs_after site history))

  classes_known : list_any is_it (map class_object site.classes) ≡ is_some (listed_class object site.classes)
  classes_known = any_map is_it class_object site.classes ∙ any_found (λ (listed : ClassSite). is_it (class_object listed)) site.classes

  known : list_any is_it (identifiers_of site)
      ≡ (device || (is_some (row_of object (values_after site history).rows) || (is_some (listed_class object site.classes)
      || (is_some (site_of object (values_after site history).enrollments) || is_some (kept_log object (logs_after site history))))))
  known =
      let objects = map object_of site.objects in
      let classes = map class_object site.classes in
      let enrollments = map identifier_of site.enrollments in
      let logs = map (λ (log : LogSite). log.object) site.logs in
      ap (λ b. device || b)
      (list_any-append is_it objects (classes ++ (enrollments ++ logs))
      ∙ ap₂ (λ a b. a || b) rows_known
      (list_any-append is_it classes (enrollments ++ logs)
      ∙ ap₂ (λ a b. a || b) classes_known (list_any-append is_it enrollments logs ∙ ap₂ (λ a b. a || b) enrollments_known logs_known)))

  other : is_other_object site object
      ≡ (device || (is_some (listed_class object site.classes)
      || (is_some (site_of object (values_after site history).enrollments) || is_some (kept_log object (logs_after site history)))))
  other =
      ap (λ b. device || b)
      (ap₂ (λ a b. a || b) (any_found (λ (listed : ClassSite). is_it (class_object listed)) site.classes)
      (ap₂ (λ a b. a || b) (sym (any_map is_it identifier_of site.enrollments) ∙ enrollments_known) (sym (any_map is_it (λ (log : LogSite). log.object) site.logs) ∙ logs_known)))

  -- ---- detection

  abbrev occurrences : List Occurrence
  occurrences = occurrences_of site history

  abbrev is_of : Subject → Bool
  is_of subject = is_object object subject.object

  found : detected_object_in object (alarms_of site occurrences) ≡ option_map (detected_object_of site occurrences) (find is_of (detecting_subjects site))
  found = find_map (detected_object_of site occurrences) (λ (detected : DetectedObjectState). is_object object detected.object) (detecting_subjects site)

  detection : has_event_detection site object ≡ is_some (detected_object_in object (alarms_of site occurrences))
  detection =
      any_found is_of (detecting_subjects site)
      ∙ (sym (is_some-map (detected_object_of site occurrences) (find is_of (detecting_subjects site))) ∙ ap is_some (sym found))

  objects_there : (keep : ObjectSite → Bool) → list_any is_of (map subject_of_object (filter keep site.objects)) ≡ true → list_any is_it (map object_of site.objects) ≡ true
  objects_there keep h =
      any_map is_it object_of site.objects
      ∙ any_filter (λ (listed : ObjectSite). is_it listed.object) keep site.objects (sym (any_map is_of subject_of_object (filter keep site.objects)) ∙ h)

  by_object : list_any is_it (map object_of site.objects) ≡ true → list_any is_it (identifiers_of site) ≡ true
  by_object h =
      ap (λ b. device || b)
      (list_any-append is_it (map object_of site.objects) (map class_object site.classes ++ (map identifier_of site.enrollments ++ map (λ (log : LogSite). log.object) site.logs))
      ∙ ap (λ b. b || list_any is_it (map class_object site.classes ++ (map identifier_of site.enrollments ++ map (λ (log : LogSite). log.object) site.logs))) h)
      ∙ or_true device

  by_enrollment : list_any is_it (map identifier_of site.enrollments) ≡ true → list_any is_it (identifiers_of site) ≡ true
  by_enrollment h = known ∙ at_last device (is_some (row_of object (values_after site history).rows)) (is_some (listed_class object site.classes)) (is_some (site_of object (values_after site history).enrollments)) (is_some (kept_log object (logs_after site history))) (sym enrollments_known ∙ h)
    where
      at_last : (a b c d e : Bool) → d ≡ true → (a || (b || (c || (d || e)))) ≡ true
      at_last true b c d e h = refl
      at_last false true c d e h = refl
      at_last false false true d e h = refl
      at_last false false false d e h = ap (λ x. x || e) h

  -- what has event detection is one of the site's objects
  there : has_event_detection site object ≡ true → list_any is_it (identifiers_of site) ≡ true
  there h =
      let all = any_filter is_of is_detecting (subjects_of site) h in
      let first = map subject_of_object (filter is_before_enrollments site.objects) in
      let middle = map subject_of_enrollment site.enrollments in
      let last = map subject_of_object (filter is_behind_enrollments site.objects) in
      elim (either (list_any is_of first) (list_any is_of (middle ++ last)) (sym (list_any-append is_of first (middle ++ last)) ∙ all)) [
        | inl before ↦ by_object (objects_there is_before_enrollments before)
        | inr later ↦ elim (either (list_any is_of middle) (list_any is_of last) (sym (list_any-append is_of middle last) ∙ later)) [
          | inl enrolled ↦ by_enrollment (any_map is_it identifier_of site.enrollments ∙ (sym (any_map is_of subject_of_enrollment site.enrollments) ∙ enrolled))
          | inr behind ↦ by_object (objects_there is_behind_enrollments behind)
        ]
      ]

  three_stamps : (subject : Option Subject) → length (alarm_or_new (option_map (detected_object_of site occurrences) subject)).stamps ≡ 3
  three_stamps None = refl
  three_stamps (Some subject) = refl

  stamps : length (alarm_or_new (detected_object_in object (alarms_of site occurrences))).stamps ≡ 3
  stamps = ap (λ (o : Option DetectedObjectState). length (alarm_or_new o).stamps) found ∙ three_stamps (find is_of (detecting_subjects site))

-- what is so of an identifier in a state that stands for a history
pub record Identifies (state : CoreState) (object : ObjectIdData) : Type 0 where
  pub known : list_any (is_object object) (identifiers_of state.site)
      ≡ (is_object object (device_object state.site) || (is_some (row_of object state.values.rows) || (is_some (listed_class object state.site.classes)
      || (is_some (site_of object state.values.enrollments) || is_some (kept_log object state.logs)))))
  pub other : is_other_object state.site object
      ≡ (is_object object (device_object state.site) || (is_some (listed_class object state.site.classes)
      || (is_some (site_of object state.values.enrollments) || is_some (kept_log object state.logs))))
  pub logged : list_any (λ (log : LogSite). is_object object log.object) state.site.logs ≡ is_some (kept_log object state.logs)
  pub detection : has_event_detection state.site object ≡ is_some (detected_object_in object state.alarms)
  pub there : has_event_detection state.site object ≡ true → list_any (is_object object) (identifiers_of state.site) ≡ true
  pub stamps : length (alarm_in state object).stamps ≡ 3
  pub valued : list_any (λ (listed : ObjectSite). is_object object listed.object) state.site.objects ≡ is_some (row_of object state.values.rows)

pub identifies : (site : Site) (history : List Event) (object : ObjectIdData) → Identifies (state_of site history) object
identifies site history object = record {
  known = known site history object;
  other = other site history object;
  logged = sym (any_map (is_object object) (λ (log : LogSite). log.object) site.logs) ∙ logs_known site history object;
  detection = detection site history object;
  there = there site history object;
  stamps = stamps site history object;
  valued = sym (any_map (is_object object) object_of site.objects) ∙ rows_known site history object;
}
