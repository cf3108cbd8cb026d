-- Value objects, enrollments and logs are of different types, so an identifier is that of one of them at most.
use Rattle.std.proofs.Common.{◌≡◌, ℕ, false, ◌&&◌, None, IsTrue, List, ap, ◌∙◌, sym, subst, get_or, All}
use Rattle.std.proofs.lemmas.Bool.{ne_eqb}
use Rattle.std.specs.List.{find}
use Rattle.std.specs.Prelude.{◌==◌}
use Rattle.std.specs.Option.{option_map}
use Rattle.bac_values.specs.Identifier.{kind_of, ObjectIdData}
use Rattle.object_table.specs.declared.object_site.ObjectSite.{ObjectSite}
use Rattle.object_table.specs.Objects.{IsObject}
use Rattle.object_table.specs.Rows.{is_object, object_in, object_of, row_of}
use Rattle.object_table.specs.Values.{is_present_value}
use Rattle.object_table.proofs.Places.{find_none}
use Rattle.enrollment.specs.Enrollments.{IsEnrollment, identifier_of, site_of}
use Rattle.alarm_core.specs.declared.event.Event.{Event}
use Rattle.event_log.specs.declared.log_site.LogSite.{LogSite}
use Rattle.alarm_core.specs.declared.site.Site.{Site}
use Rattle.alarm_core.specs.History.{values_after}
use Rattle.alarm_core.specs.Logs.{kept_log, kept_log_of, logs_after, SiteLogState}
use Rattle.alarm_core.specs.Sites.{IsLogSite}
use Rattle.alarm_core.proofs.OwnSubjects.{no_site}
use Rattle.alarm_core.proofs.Searches.{find_map, is_none}
use Rattle.alarm_core.proofs.Stays.{row_objects_after, site_objects_after}

-- a type of objects that have no value
abbrev pub HasNoValue : ℕ → Type 0
HasNoValue number = (site : ObjectSite) → IsTrue (is_present_value (kind_of number) site site.value) → ⊥

module _ (site : Site) (history : List Event) (object : ObjectIdData) where
  other_object : HasNoValue object.number → (listed : ObjectSite) → IsObject listed → is_object object listed.object ≡ false
  other_object none listed is =
      ap (λ b. b && (listed.object.instance == object.instance))
      (ne_eqb listed.object.number object.number (λ same. none listed (subst (λ n. IsTrue (is_present_value (kind_of n) listed listed.value)) same is.value)))

  pub no_row : All IsObject site.objects → HasNoValue object.number → row_of object (values_after site history).rows ≡ None
  no_row allowed none =
      is_none object_in (row_of object (values_after site history).rows)
      (sym (find_map object_in (is_object object) (values_after site history).rows)
      ∙ (ap (find (is_object object)) (row_objects_after site history)
      ∙ (find_map object_of (is_object object) site.objects
      ∙ ap (option_map object_of) (find_none (λ (listed : ObjectSite). is_object object listed.object) site.objects (λ k d low. other_object none (get_or site.objects k d) (allowed k d low))))))

  pub no_enrollment : All IsEnrollment site.enrollments → (object.number ≡ 9 → ⊥) → site_of object (values_after site history).enrollments ≡ None
  no_enrollment allowed other =
      is_none identifier_of (site_of object (values_after site history).enrollments)
      (sym (find_map identifier_of (is_object object) (values_after site history).enrollments)
      ∙ (ap (find (is_object object)) (site_objects_after site history)
      ∙ (find_map identifier_of (is_object object) site.enrollments
      ∙ ap (option_map identifier_of) (no_site object other site.enrollments allowed))))

  other_log : (object.number ≡ 25 → ⊥) → (listed : LogSite) → IsLogSite listed → is_object object listed.object ≡ false
  other_log other listed is =
      ap (λ b. b && (listed.object.instance == object.instance)) (ne_eqb listed.object.number object.number (λ same. other (sym same ∙ is.number)))

  pub no_log : All IsLogSite site.logs → (object.number ≡ 25 → ⊥) → kept_log object (logs_after site history) ≡ None
  no_log allowed other =
      find_map (kept_log_of site history) (λ (kept : SiteLogState). is_object object kept.site.object) site.logs
      ∙ ap (option_map (kept_log_of site history))
      (find_none (λ (listed : LogSite). is_object object listed.object) site.logs (λ k d low. other_log other (get_or site.logs k d) (allowed k d low)))
