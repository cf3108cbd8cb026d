-- The identifiers of a site's objects.
use Rattle.std.specs.Prelude.{List, ◌∷◌, ◌++◌, map, Option, find}
use Rattle.bac_values.specs.Identifier.{ObjectIdData}
use Rattle.event_log.specs.declared.log_site.LogSite.{LogSite}
use Rattle.notify_class.specs.declared.class_site.ClassSite.{ClassSite}
use Rattle.object_table.specs.declared.object_site.ObjectSite.{ObjectSite}
use Rattle.object_table.specs.Rows.{is_object}
use Rattle.enrollment.specs.declared.enrollment_site.EnrollmentSite.{EnrollmentSite}
use Rattle.property_values.specs.Devices.{object_of_device}
pub use Rattle.property_values.specs.Devices.{class_object}
use Rattle.alarm_core.specs.declared.site.Site.{Site}

abbrev pub device_object : Site → ObjectIdData
device_object site = object_of_device site.device

-- the identifiers of a site's objects, each type in the order of its instances
abbrev pub identifiers_of : Site → List ObjectIdData
identifiers_of site =
    device_object site
    ∷ (map (λ (object : ObjectSite). object.object) site.objects
    ++ (map class_object site.classes
    ++ (map (λ (enrollment : EnrollmentSite). enrollment.object) site.enrollments
    ++ map (λ (log : LogSite). log.object) site.logs)))

-- the class of the site with an identifier
abbrev pub listed_class : ObjectIdData → List ClassSite → Option ClassSite
listed_class object classes = find (λ (listed : ClassSite). is_object object (class_object listed)) classes
