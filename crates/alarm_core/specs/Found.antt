-- What there is under an identifier.
use Rattle.std.specs.Prelude.{Bool, ◌||◌, if◌then◌else◌, Option, Some, None, List, find, is_some}
use Rattle.std.specs.List.{list_any}
use Rattle.bac_values.specs.Identifier.{ObjectIdData}
use Rattle.event_machine.specs.Summary.{new_alarm, AlarmState}
use Rattle.event_machine.specs.Finding.{Finding, NoSuchObject, WithoutAlarm, WithAlarm}
use Rattle.object_table.specs.Rows.{is_object, row_of}
use Rattle.notify_class.specs.declared.class_site.ClassSite.{ClassSite}
use Rattle.enrollment.specs.declared.enrollment_site.EnrollmentSite.{EnrollmentSite}
use Rattle.event_log.specs.declared.log_site.LogSite.{LogSite}
use Rattle.alarm_core.specs.declared.site.Site.{Site}
pub use Rattle.alarm_core.specs.Devices.{device_object, class_object}
use Rattle.alarm_core.specs.State.{DetectedObjectState, CoreState}

-- whether a site has the object beside its value objects
abbrev pub is_other_object : Site → ObjectIdData → Bool
is_other_object site object =
    is_object object (device_object site)
    || (list_any (λ (listed : ClassSite). is_object object (class_object listed)) site.classes
    || (list_any (λ (listed : EnrollmentSite). is_object object listed.object) site.enrollments
    || list_any (λ (listed : LogSite). is_object object listed.object) site.logs))

abbrev pub has_object : CoreState → ObjectIdData → Bool
has_object state object = is_some (row_of object state.values.rows) || is_other_object state.site object

abbrev pub detected_object_in : ObjectIdData → List DetectedObjectState → Option DetectedObjectState
detected_object_in object alarms = find (λ detected. is_object object detected.object) alarms

-- the alarm of an object; one whose event detection isn't enabled has the alarm of an object that never moved
abbrev pub alarm_or_new : Option DetectedObjectState → AlarmState
alarm_or_new (Some detected) = detected.alarm
alarm_or_new None = new_alarm

abbrev pub alarm_in : CoreState → ObjectIdData → AlarmState
alarm_in state object = alarm_or_new (detected_object_in object state.alarms)

abbrev pub finding_of : Option DetectedObjectState → Bool → Finding
finding_of (Some detected) there = WithAlarm detected.alarm
finding_of None there = if there then WithoutAlarm else NoSuchObject

abbrev pub found_in : CoreState → ObjectIdData → Finding
found_in state object = finding_of (detected_object_in object state.alarms) (has_object state object)
