-- What the types of the program say of the values of a site's objects and of those that events write: a number has 32 bits, a text at most 256 octets, and a string at most 64 bits.
use Rattle.std.specs.Prelude.{◌<◌, ◌≤◌, ◌^◌, ℕ, All, List, length, FitsSigned}
use Rattle.std.specs.Int.{w32}
use Rattle.bac_values.specs.declared.value.Value.{Value}
use Rattle.bac_values.specs.declared.value.Value.TheVariants.{Unsigned, Signed, Text, Bits}
use Rattle.object_table.specs.declared.change.What.{What}
use Rattle.object_table.specs.declared.change.What.TheVariants.{Property, FieldFault}
use Rattle.object_table.specs.declared.object_site.ObjectSite.{ObjectSite}
use Rattle.enrollment.specs.declared.enrollment_site.EnrollmentSite.{EnrollmentSite}
use Rattle.alarm_core.specs.declared.event.Act.{Act}
use Rattle.alarm_core.specs.declared.event.Act.TheVariants.{Write}
use Rattle.alarm_core.specs.declared.event.Event.{Event}
use Rattle.alarm_core.specs.declared.site.Site.{Site}

abbrev pub FitsText : List ℕ → Type 0
FitsText text = length text ≤ 256

abbrev pub FitsValue : Value → Type 0
FitsValue (Signed number) = FitsSigned w32 number
FitsValue (Unsigned number) = number < 2 ^ 32
FitsValue (Text text) = FitsText text
FitsValue (Bits string) = string.size ≤ 64
FitsValue _ = Unit {0}

abbrev pub FitsWhat : What → Type 0
FitsWhat (Property property value) = FitsValue value
FitsWhat (FieldFault reliability) = Unit {0}

abbrev pub FitsAct : Act → Type 0
FitsAct (Write change) = FitsWhat change.what
FitsAct _ = Unit {0}

-- an event that the program can hold
abbrev pub FitsEvent : Event → Type 0
FitsEvent event = FitsAct event.act

-- the values and the texts of an object that its notifications may tell
pub record FitsObject (object : ObjectSite) : Type 0 where
  pub value : FitsValue object.value
  pub alarm_values : All FitsValue object.alarm_values
  pub texts : All FitsText object.texts

-- and the texts of an enrollment
abbrev pub FitsEnrollment : EnrollmentSite → Type 0
FitsEnrollment enrollment = All FitsText enrollment.texts

-- a site that the program can hold
pub record FitsSite (site : Site) : Type 0 where
  pub objects : All FitsObject site.objects
  pub enrollments : All FitsEnrollment site.enrollments
