-- Who refers to an object (ANSI/ASHRAE 135-2020, 12.12, 13.2 and the parameters of the event algorithms in 13.3).
use Rattle.std.specs.Prelude.{Bool, List, ◌∷◌, ◌++◌, map, filter}
use Rattle.std.specs.List.{list_any}
use Rattle.std.specs.Option.{option_to_list}
use Rattle.bac_values.specs.Identifier.{ObjectIdData}
use Rattle.object_table.specs.declared.object_site.ObjectSite.{ObjectSite}
use Rattle.object_table.specs.declared.row.Row.{Row}
use Rattle.object_table.specs.Rows.{is_object}
use Rattle.enrollment.specs.declared.enrollment_site.EnrollmentSite.{EnrollmentSite}
use Rattle.enrollment.specs.Objects.{ObjectsState}
use Rattle.enrollment.specs.Subjects.{is_before_enrollments, is_behind_enrollments}

-- an object or an enrollment, and the objects to which it refers
pub record Referrer : Type 0 where
  pub object : ObjectIdData
  pub refers : List ObjectIdData

-- a value object refers to the one that inhibits it; an enrollment to the one that it monitors, to its feedback, and to the one that inhibits it
abbrev pub referrer_of_object : ObjectSite → Referrer
referrer_of_object site = record { object = site.object; refers = option_to_list site.inhibit_ref }

abbrev pub referrer_of_enrollment : EnrollmentSite → Referrer
referrer_of_enrollment site = record { object = site.object; refers = site.monitored ∷ (option_to_list site.feedback ++ option_to_list site.inhibit_ref) }

abbrev pub refers_to : ObjectIdData → Referrer → Bool
refers_to object referrer = list_any (is_object object) referrer.refers

-- those of some value objects and enrollments, by ascending identifier where each of the two lists ascends
abbrev pub referrers_of : List ObjectSite → List EnrollmentSite → List Referrer
referrers_of objects enrollments =
    map referrer_of_object (filter is_before_enrollments objects)
    ++ (map referrer_of_enrollment enrollments
    ++ map referrer_of_object (filter is_behind_enrollments objects))

abbrev pub site_in : Row → ObjectSite
site_in row = row.site

-- all value objects and enrollments, as the writes have left them
abbrev pub referrers_in : ObjectsState → List Referrer
referrers_in objects = referrers_of (map site_in objects.rows) objects.enrollments

-- the object that refers
abbrev pub identifier_of_referrer : Referrer → ObjectIdData
identifier_of_referrer referrer = referrer.object

-- those that refer to an object, each once, in their order
abbrev pub watchers : ObjectIdData → List Referrer → List ObjectIdData
watchers object referrers = map identifier_of_referrer (filter (refers_to object) referrers)
