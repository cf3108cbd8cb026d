-- What a property of an object is, or why there is none (ANSI/ASHRAE 135-2020, clause 12).
use Rattle.std.specs.Prelude.{ℕ, if◌then◌else◌, Option, Some, None, Result, Err, List, []}
use Rattle.bac_values.specs.Identifier.{ObjectIdData}
use Rattle.notify_class.specs.declared.class.Class.{Class}
use Rattle.notify_class.specs.Recipients.{DestinationData}
use Rattle.object_table.specs.declared.row.Row.{Row}
use Rattle.object_table.specs.Rows.{is_object, row_of}
use Rattle.enrollment.specs.declared.enrollment_site.EnrollmentSite.{EnrollmentSite}
use Rattle.enrollment.specs.Enrollments.{site_of}
use Rattle.enrollment.specs.Subjects.{is_inhibited}
use Rattle.property_values.specs.declared.content.Content.{Content}
use Rattle.property_values.specs.declared.content.ReadFault.{ReadFault}
use Rattle.notify_class.specs.declared.class_site.ClassSite.{ClassSite}
use Rattle.alarm_core.specs.declared.site.Site.{Site}
use Rattle.alarm_core.specs.Classes.{class_in}
use Rattle.property_values.specs.ClassProperties.{class_content}
use Rattle.property_values.specs.DeviceProperties.{device_content}
use Rattle.property_values.specs.LogProperties.{log_content}
use Rattle.property_values.specs.Properties.{row_content, unknown_object, unknown_property}
use Rattle.alarm_core.specs.Devices.{device_object, identifiers_of, listed_class}
use Rattle.alarm_core.specs.EnrollmentProperties.{enrollment_content}
use Rattle.alarm_core.specs.Logs.{kept_log, SiteLogState}
use Rattle.alarm_core.specs.Found.{alarm_in, is_other_object}
use Rattle.alarm_core.specs.State.{CoreState}

-- the recipients of a class, if there is one
abbrev pub recipients_of : Option Class → List DestinationData
recipients_of (Some class) = class.destinations
recipients_of None = []

-- a class has the site's properties, but for its recipients, which are those that the last edit left
abbrev pub class_or_other : Site → List Class → ObjectIdData → ℕ → Option ClassSite → Result Content ReadFault
class_or_other site classes object number (Some listed) = class_content listed (recipients_of (class_in listed.class.instance classes)) number
class_or_other site classes object number None = if is_other_object site object then Err unknown_property else Err unknown_object

-- a property of an object beside the value objects, the enrollments and the logs
abbrev pub other_content : Site → List Class → ObjectIdData → ℕ → Result Content ReadFault
other_content site classes object number =
    if is_object object (device_object site) then device_content site.device (identifiers_of site) number
    else class_or_other site classes object number (listed_class object site.classes)

abbrev pub content_by : CoreState → ObjectIdData → ℕ → Option EnrollmentSite → Option Row → Option SiteLogState → Result Content ReadFault
content_by state object number (Some site) row kept = enrollment_content (alarm_in state object) (is_inhibited object state.values) site state.values.rows number
content_by state object number None (Some row) kept = row_content (alarm_in state object) (is_inhibited object state.values) row number
content_by state object number None None (Some kept) = log_content kept.site kept.log number
content_by state object number None None None = other_content state.site state.classes object number

-- what a property of an object is, or why there is none
abbrev pub content_of : CoreState → ObjectIdData → ℕ → Result Content ReadFault
content_of state object number = content_by state object number (site_of object state.values.enrollments) (row_of object state.values.rows) (kept_log object state.logs)
