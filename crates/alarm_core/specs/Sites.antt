-- What a site keeps to.
use Rattle.std.specs.Prelude.{◌≡◌, ◌<◌, ◌≤◌, ◌==◌, ◌&&◌, ℕ, ℤ, pos, nat_le, Bool, List, length, map, All, AllPairs, IfSome, IsTrue, is_some}
use Rattle.std.specs.Char.{is_ascii}
use Rattle.std.specs.List.{list_all, list_any}
use Rattle.bac_values.specs.Identifier.{number_of_kind, ObjectIdData}
use Rattle.bac_values.specs.Limits.{most_records}
use Rattle.bac_values.specs.Moments.{IsMoment}
use Rattle.bac_values.specs.declared.object_kind.ObjectKind.TheVariants.{EventLog}
use Rattle.civil_stamp.specs.LocalTime.{IsZone, rule_zone}
use Rattle.object_table.specs.Objects.{IsObject}
use Rattle.notify_class.specs.declared.class_site.ClassSite.{ClassSite}
use Rattle.object_table.specs.Rows.{Ascends, AscendsById, rows_of}
use Rattle.object_table.specs.declared.object_site.ObjectSite.{ObjectSite}
use Rattle.outbox.specs.Outboxes.{AreSettings}
use Rattle.enrollment.specs.Enrollments.{AscendById, IsEnrollment}
use Rattle.enrollment.specs.Snapshots.{Holds}
use Rattle.enrollment.specs.declared.enrollment_site.EnrollmentSite.{EnrollmentSite}
pub use Rattle.property_values.specs.Devices.{HasInstance}
use Rattle.event_log.specs.declared.log_site.LogSite.{LogSite}
use Rattle.alarm_core.specs.declared.site.Site.{Site}
use Rattle.alarm_core.specs.Bindings.{BindingsAscend, IsBinding}
use Rattle.alarm_core.specs.Classes.{first_classes}
use Rattle.alarm_core.specs.Limits.{KeepsLimits}
use Rattle.alarm_core.specs.Room.{LeaveRoom}

-- an event log that a site may have: it holds from 1 to 16,384 records
pub record IsLogSite (listed : LogSite) : Type 0 where
  pub number : listed.object.number ≡ number_of_kind EventLog
  pub instance : listed.object.instance ≤ 4194302
  pub least : 1 ≤ listed.size
  pub most : listed.size ≤ most_records

-- a text that may be a site's zone rule: from 1 to 64 ASCII octets that jiff takes for a rule
abbrev pub is_zone_rule : List ℕ → Bool
is_zone_rule text = nat_le 1 (length text) && nat_le (length text) 64 && list_all is_ascii text && is_some (rule_zone text)

-- a text that is a site's zone rule, where no minutes are given beside it
pub record IsSiteRule (minutes : ℤ) (text : List ℕ) : Type 0 where
  pub rule : IsTrue (is_zone_rule text)
  pub alone : minutes ≡ pos 0

-- ---- its lists

abbrev pub instance_of : ClassSite → ℕ
instance_of listed = listed.class.instance

-- the instance of each class is below that of every later one
abbrev pub ClassesAscend : List ClassSite → Type 0
ClassesAscend classes = AllPairs (λ earlier later. earlier < later) (map instance_of classes)

abbrev pub identifier_of_log : LogSite → ObjectIdData
identifier_of_log listed = listed.object

-- so is the identifier of each log
abbrev pub LogsAscend : List LogSite → Type 0
LogsAscend logs = Ascends (map identifier_of_log logs)

-- the class with a number is there
abbrev pub HasClass : List ClassSite → ℕ → Type 0
HasClass classes number = IsTrue (list_any (λ (listed : ClassSite). listed.class.instance == number) classes)

-- so is that of an object, if it has one, that of an enrollment, and each that a log names
abbrev pub HasItsClass : List ClassSite → ObjectSite → Type 0
HasItsClass classes object = IfSome object.class (HasClass classes)

abbrev pub HasOwnClass : List ClassSite → EnrollmentSite → Type 0
HasOwnClass classes enrollment = HasClass classes enrollment.class

abbrev pub HasItsClasses : List ClassSite → LogSite → Type 0
HasItsClasses classes listed = All (HasClass classes) listed.classes

-- ---- all of it

-- It starts at a moment in range, its local time is at most fourteen hours from UTC or goes by a zone rule, its device and its classes have instances that objects can have, its outbox has the settings of one, its lists ascend, its value objects and its enrollments have the properties of their types, its logs and its bindings are such as a site may have, and the objects and the classes to which these refer are there. It keeps to the limits, and leaves room for the notifications of one transition of every object.
pub record IsSite (site : Site) : Type 0 where
  pub start : IsMoment site.device.start
  pub zone : IsZone site.device.zone_minutes
  pub rule : IfSome site.device.zone_rule (IsSiteRule site.device.zone_minutes)
  pub instance : site.device.instance ≤ 4194302
  pub classes : All HasInstance site.classes
  pub classes_ascend : ClassesAscend site.classes
  pub settings : AreSettings site.device.outbox site.device.apdu_timeout site.device.retries
  pub ascending : AscendsById site.objects
  pub objects : All IsObject site.objects
  pub object_classes : All (HasItsClass site.classes) site.objects
  pub enrollments_ascend : AscendById site.enrollments
  pub enrollments : All IsEnrollment site.enrollments
  pub enrollment_classes : All (HasOwnClass site.classes) site.enrollments
  pub referred : Holds (rows_of site.objects) site.enrollments
  pub logs_ascend : LogsAscend site.logs
  pub logs : All IsLogSite site.logs
  pub log_classes : All (HasItsClasses site.classes) site.logs
  pub bindings_ascend : BindingsAscend site.bindings
  pub bindings : All IsBinding site.bindings
  pub limits : KeepsLimits site
  pub room : LeaveRoom site (first_classes site)
