-- The references of value objects and enrollments, kept in the order of what they refer to.
use Rattle.std.specs.Prelude.{◌≡◌, Bool, Option, Some, None, List, [], ◌∷◌, ◌++◌, map, filter, All, if◌then◌else◌}
use Rattle.std.specs.List.{flat_map, list_any}
use Rattle.std.specs.List.Sorted.{IsSortedByKey}
use Rattle.std.specs.Ordering.{is_le, is_lt}
use Rattle.bac_values.specs.Identifier.{ObjectIdData}
use Rattle.bac_values.specs.Orders.{identifier_order}
use Rattle.object_table.specs.declared.object_site.ObjectSite.{ObjectSite}
use Rattle.object_table.specs.Rows.{Ascends, is_object}
use Rattle.enrollment.specs.declared.enrollment_site.EnrollmentSite.{EnrollmentSite}
use Rattle.enrollment.specs.declared.references.Reference.{Reference}
use Rattle.enrollment.specs.Enrollments.{AscendById, IsEnrollment}
use Rattle.enrollment.specs.Objects.{EnrollmentsState, ObjectsState}
use Rattle.enrollment.specs.Subjects.{is_before_enrollments, is_behind_enrollments}
use Rattle.enrollment.specs.Watchers.{Referrer, referrers_in, referrers_of}

-- ---- the references of one

abbrev pub reference_to : ObjectIdData → ObjectIdData → Reference
reference_to object watcher = record { referred = object; watcher = watcher }

-- the reference of a watcher to one more object; one to an object to which it refers already is no second reference
abbrev pub reference_if_new : ObjectIdData → List ObjectIdData → Option ObjectIdData → List Reference
reference_if_new watcher earlier (Some object) = if list_any (is_object object) earlier then [] else reference_to object watcher ∷ []
reference_if_new watcher earlier None = []

-- those to more objects, one after the other
abbrev pub references_behind : ObjectIdData → List ObjectIdData → List ObjectIdData → List Reference
references_behind watcher earlier [] = []
references_behind watcher earlier (object ∷ objects) = reference_if_new watcher earlier (Some object) ++ references_behind watcher (object ∷ earlier) objects

abbrev pub references_by : Referrer → List Reference
references_by referrer = references_behind referrer.object [] referrer.refers

-- whether a value object stands before the enrollments, or else behind them
abbrev pub stands : Bool → ObjectSite → Bool
stands before site = if before then is_before_enrollments site else is_behind_enrollments site

-- ---- the references of all

abbrev pub referred_by : Reference → ObjectIdData
referred_by reference = reference.referred

abbrev pub watcher_of : Reference → ObjectIdData
watcher_of reference = reference.watcher

abbrev pub is_to : ObjectIdData → Reference → Bool
is_to object reference = is_object object reference.referred

-- who refers to the object
abbrev pub watchers_in : ObjectIdData → List Reference → List ObjectIdData
watchers_in object references = map watcher_of (filter (is_to object) references)

-- whether a reference is to an object below one, or to that one or an object below it
abbrev pub is_below : ObjectIdData → Reference → Bool
is_below object reference = is_lt (identifier_order reference.referred object)

abbrev pub is_up_to : ObjectIdData → Reference → Bool
is_up_to object reference = is_le (identifier_order reference.referred object)

-- references in the order of what they refer to; those to one object keep theirs
abbrev pub placed : Reference → List Reference → List Reference
placed reference [] = reference ∷ []
placed reference (other ∷ others) = if is_below reference.referred other then other ∷ placed reference others else reference ∷ other ∷ others

abbrev pub in_order : List Reference → List Reference
in_order [] = []
in_order (reference ∷ references) = placed reference (in_order references)

abbrev pub references_of : List Referrer → List Reference
references_of referrers = in_order (flat_map references_by referrers)

-- references in that order, with the list of those that refer
pub record AreOrdered (references : List Reference) (all : List ObjectIdData) : Type 0 where
  pub ascending : IsSortedByKey referred_by identifier_order references
  pub watchers : all ≡ map watcher_of references

-- ---- enrollments with the references of all

-- the enrollments of a site with these value objects
abbrev pub enrollments_of : List ObjectSite → List EnrollmentSite → EnrollmentsState
enrollments_of objects sites = record { sites = sites; references = references_of (referrers_of objects sites) }

-- the enrollments among all objects
abbrev pub enrollments_in : ObjectsState → EnrollmentsState
enrollments_in objects = record { sites = objects.enrollments; references = references_of (referrers_in objects) }

-- enrollments that ascend, each one that a site may have, and references by which the watchers of each object ascend
pub record AreEnrollments (sites : List EnrollmentSite) (references : List Reference) : Type 0 where
  pub ascending : AscendById sites
  pub allowed : All IsEnrollment sites
  pub watched : (object : ObjectIdData) → Ascends (watchers_in object references)
