-- What refers to what isn't there.
use Rattle.std.specs.Prelude.{ℕ, ◌==◌, ◌||◌, not, Bool, true, false, Option, Some, None, List, map, filter}
use Rattle.std.specs.List.{list_any}
use Rattle.algorithm_rules.specs.declared.table.Algorithm.{Algorithm}
use Rattle.algorithm_rules.specs.declared.table.Algorithm.TheVariants.{UnsignedRange}
use Rattle.bac_values.specs.Identifier.{number_of_kind, ObjectIdData}
use Rattle.bac_values.specs.declared.object_kind.ObjectKind.TheVariants as kinds
use Rattle.enrollment.specs.declared.enrollment_site.EnrollmentSite.{EnrollmentSite}
use Rattle.event_log.specs.declared.log_site.LogSite.{LogSite}
use Rattle.object_table.specs.Rows.{is_object}
use Rattle.object_table.specs.declared.object_site.ObjectSite.{ObjectSite}
use Rattle.site_config.specs.declared.class.ClassItem.{ClassItem}
use Rattle.site_config.specs.declared.destination.DestinationSite.{DestinationSite}
use Rattle.site_config.specs.declared.draft.Draft.{Draft}
use Rattle.site_config.specs.Identifiers.{id_of_object, id_of_enrollment, id_of_log, least_with}

abbrev pub has_class : List ClassItem → ℕ → Bool
has_class classes instance = list_any (λ item. item.object.instance == instance) classes

-- the class of a destination isn't there; the class's identifier stands for it
abbrev pub destination_dangles : List ClassItem → DestinationSite → Bool
destination_dangles classes site = not (has_class classes site.class.instance)

abbrev pub id_of_destination : DestinationSite → ObjectIdData
id_of_destination site = site.class

-- the class of an object, if it has one, isn't there
abbrev pub lacks_class : List ClassItem → Option ℕ → Bool
lacks_class classes None = false
lacks_class classes (Some instance) = not (has_class classes instance)

-- one of the objects
abbrev pub is_there : List ObjectSite → ObjectIdData → Bool
is_there objects object = list_any (λ site. is_object object site.object) objects

-- the binary value that inhibits an object or an enrollment, if it has one, isn't there
abbrev pub reference_dangles : List ObjectSite → Option ObjectIdData → Bool
reference_dangles objects None = false
reference_dangles objects (Some referred) = not (is_there objects referred)

abbrev pub object_dangles : List ClassItem → List ObjectSite → ObjectSite → Bool
object_dangles classes objects site = lacks_class classes site.class || reference_dangles objects site.inhibit_ref

-- UNSIGNED_RANGE monitors a positive integer or a multi-state value, COMMAND_FAILURE every value
abbrev pub can_monitor : Algorithm → ObjectIdData → Bool
can_monitor UnsignedRange object = object.number == number_of_kind kinds.PositiveIntegerValue || object.number == number_of_kind kinds.MultiStateValue
can_monitor _ object = true

-- the feedback, if there is one, isn't there or isn't of the kind of the monitored object
abbrev pub feedback_dangles : List ObjectSite → ObjectIdData → Option ObjectIdData → Bool
feedback_dangles objects monitored None = false
feedback_dangles objects monitored (Some feedback) = not (is_there objects feedback) || not (feedback.number == monitored.number)

abbrev pub enrollment_dangles : List ClassItem → List ObjectSite → EnrollmentSite → Bool
enrollment_dangles classes objects site =
    (((not (has_class classes site.class) || not (is_there objects site.monitored)) || not (can_monitor site.algorithm site.monitored))
    || feedback_dangles objects site.monitored site.feedback)
    || reference_dangles objects site.inhibit_ref

-- a class of a log isn't there
abbrev pub log_dangles : List ClassItem → LogSite → Bool
log_dangles classes site = list_any (λ instance. not (has_class classes instance)) site.classes

-- the least object that refers to what isn't there
abbrev pub least_dangling : Draft → Option ObjectIdData
least_dangling draft =
    let destinations = least_with None (map id_of_destination (filter (destination_dangles draft.classes) draft.destinations)) in
    let objects = least_with destinations (map id_of_object (filter (object_dangles draft.classes draft.objects) draft.objects)) in
    let enrollments = least_with objects (map id_of_enrollment (filter (enrollment_dangles draft.classes draft.objects) draft.enrollments)) in
    least_with enrollments (map id_of_log (filter (log_dangles draft.classes) draft.logs))
