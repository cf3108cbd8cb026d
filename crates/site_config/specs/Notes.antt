-- How many notifications one tick may bring: one of each object and enrollment with a class to each destination of the class.
use Rattle.std.specs.Prelude.{ℕ, Option, List, ◌++◌, map, sum_by}
use Rattle.std.specs.List.{filter_map}
use Rattle.enrollment.specs.declared.enrollment_site.EnrollmentSite.{EnrollmentSite}
use Rattle.object_table.specs.declared.object_site.ObjectSite.{ObjectSite}
use Rattle.site_config.specs.declared.destination.DestinationSite.{DestinationSite}
use Rattle.site_config.specs.declared.draft.Draft.{Draft}
use Rattle.site_config.specs.Limits.{count_of}

abbrev pub class_of_object : ObjectSite → Option ℕ
class_of_object site = site.class

abbrev pub class_of_enrollment : EnrollmentSite → ℕ
class_of_enrollment site = site.class

-- the class of each object and enrollment that has one
abbrev pub members_of : Draft → List ℕ
members_of draft = filter_map class_of_object draft.objects ++ map class_of_enrollment draft.enrollments

abbrev pub notes_of : List DestinationSite → List ℕ → ℕ
notes_of destinations members = sum_by (λ class. count_of class destinations) members
