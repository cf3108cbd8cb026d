-- What the event detection of an object is set to, alike for a value object and for an event enrollment (ANSI/ASHRAE 135-2020, 12.12 and 13.2).
use Rattle.std.specs.Prelude.{nat_lt, ◌==◌, ◌&&◌, Bool, not, false, Option, Some, None, is_some, List, ◌++◌, map, filter, slice_index_or}
use Rattle.bac_values.specs.EventStates.{place_of_transition}
use Rattle.bac_values.specs.Identifier.{number_of_kind, ObjectIdData}
use Rattle.bac_values.specs.declared.object_kind.ObjectKind.TheVariants.{EventEnrollment}
use Rattle.bac_values.specs.declared.transition.Transition.{Transition}
use Rattle.bac_values.specs.declared.value.Value.{Value}
use Rattle.bac_values.specs.declared.value.Value.TheVariants.{Enumerated}
use Rattle.object_table.specs.declared.object_site.ObjectSite.{ObjectSite}
use Rattle.object_table.specs.declared.row.Row.{Row}
use Rattle.object_table.specs.Rows.{row_of}
use Rattle.enrollment.specs.declared.enrollment_site.EnrollmentSite.{EnrollmentSite}
use Rattle.enrollment.specs.declared.subject.Subject.{Subject}
use Rattle.enrollment.specs.Enrollments.{site_of}
use Rattle.enrollment.specs.Objects.{ObjectsState}
use Rattle.enrollment.specs.Snapshots.{algorithm_for, value_in}

-- what is the same of both
abbrev pub subject_of_object : ObjectSite → Subject
subject_of_object site = record {
  object = site.object;
  algorithm = algorithm_for site.object;
  class = site.class;
  notify = site.notify;
  enable = site.enable;
  detection = site.detection;
  inhibit = site.inhibit;
  inhibit_ref = site.inhibit_ref;
}

abbrev pub subject_of_enrollment : EnrollmentSite → Subject
subject_of_enrollment site = record {
  object = site.object;
  algorithm = site.algorithm;
  class = Some site.class;
  notify = site.notify;
  enable = site.enable;
  detection = site.detection;
  inhibit = site.inhibit;
  inhibit_ref = site.inhibit_ref;
}

-- the object of a subject
abbrev pub object_of : Subject → ObjectIdData
object_of subject = subject.object

-- the value object or the enrollment with an identifier, as it is now
abbrev pub subject_by : Option EnrollmentSite → Option Row → Option Subject
subject_by (Some site) row = Some (subject_of_enrollment site)
subject_by None (Some row) = Some (subject_of_object row.site)
subject_by None None = None

abbrev pub subject_in : ObjectIdData → ObjectsState → Option Subject
subject_in object objects = subject_by (site_of object objects.enrollments) (row_of object objects.rows)

-- whether an object's type has a lower number than that of enrollments
abbrev pub is_before_enrollments : ObjectSite → Bool
is_before_enrollments site = nat_lt site.object.number (number_of_kind EventEnrollment)

abbrev pub is_behind_enrollments : ObjectSite → Bool
is_behind_enrollments site = not (is_before_enrollments site)

-- those of some value objects and enrollments, by ascending identifier where each of the two lists ascends
abbrev pub subjects_of : List ObjectSite → List EnrollmentSite → List Subject
subjects_of objects enrollments =
    map subject_of_object (filter is_before_enrollments objects)
    ++ (map subject_of_enrollment enrollments
    ++ map subject_of_object (filter is_behind_enrollments objects))

-- whether it has event detection, and that is enabled
abbrev pub is_detecting : Subject → Bool
is_detecting subject = is_some subject.class && subject.detection

-- whether transitions of a kind are told of (Event_Enable)
abbrev pub is_enabled : Transition → Subject → Bool
is_enabled transition subject = slice_index_or subject.enable (place_of_transition transition) false

-- active is 1
abbrev pub is_active : Option Value → Bool
is_active (Some (Enumerated number)) = number == 1
is_active value = false

-- where an object has a reference, the Present_Value of that binary value is active; otherwise its Event_Algorithm_Inhibit is TRUE
abbrev pub inhibited_by : Option ObjectIdData → Bool → List Row → Bool
inhibited_by (Some referred) inhibit rows = is_active (value_in rows referred)
inhibited_by None inhibit rows = inhibit

-- of an object or an enrollment as it is now; one that isn't there isn't inhibited
abbrev pub inhibited_with : Option Subject → List Row → Bool
inhibited_with (Some subject) rows = inhibited_by subject.inhibit_ref subject.inhibit rows
inhibited_with None rows = false

abbrev pub is_inhibited : ObjectIdData → ObjectsState → Bool
is_inhibited object objects = inhibited_with (subject_in object objects) objects.rows
