-- The value objects that were read refer to the objects to which those of the site refer.
use Rattle.std.proofs.Common.{◌≡◌, List, [], ◌∷◌, map, refl, ap, ◌∙◌}
use Rattle.std.specs.List.{AllZip}
use Rattle.std.specs.Option.{option_to_list}
use Rattle.bac_values.specs.Identifier.{ObjectIdData}
use Rattle.std.specs.Prelude.{Option}
use Rattle.object_table.specs.declared.object_site.ObjectSite.{ObjectSite}
use Rattle.object_table.specs.declared.row.Row.{Row}
use Rattle.enrollment.specs.Objects.{EnrollmentsState}
use Rattle.enrollment.specs.References.{enrollments_in, enrollments_of}
use Rattle.enrollment.specs.Watchers.{referrer_of_object, site_in}
use Rattle.enrollment.specs.declared.enrollment_site.EnrollmentSite.{EnrollmentSite}
use Rattle.enrollment.proofs.Referrers.{known_by_rows}
use Rattle.state_codec.specs.SnapshotLaws.{HasRow}

alike : (objects : List ObjectSite) (rows : List Row) → AllZip HasRow objects rows → map referrer_of_object (map site_in rows) ≡ map referrer_of_object objects
alike [] [] are = refl
alike [] (row ∷ rows) are = absurd are
alike (site ∷ sites) [] are = absurd are
alike (site ∷ sites) (row ∷ rows) are =
    let object : row.site.object ≡ site.object = ap (λ (it : ObjectSite). it.object) are.0.written.same in
    let reference : row.site.inhibit_ref ≡ site.inhibit_ref = ap (λ (it : ObjectSite). it.inhibit_ref) are.0.written.same in
    λ k. record { object = object k; refers = option_to_list (reference k) } ∷ alike sites rows are.1 k

-- so the enrollments of the site have the references of the value objects that were read
pub known_as_read : (objects : List ObjectSite) (rows : List Row) (enrollments : List EnrollmentSite) (made : EnrollmentsState) → AllZip HasRow objects rows → made ≡ enrollments_of objects enrollments → made ≡ enrollments_in (record { rows = rows; enrollments = enrollments })
known_as_read objects rows enrollments made are is =
    let own : made.sites ≡ enrollments = ap (λ (e : EnrollmentsState). e.sites) is in
    known_by_rows objects enrollments made rows is (alike objects rows are) ∙ (λ k. enrollments_in (record { rows = rows; enrollments = own k }))
