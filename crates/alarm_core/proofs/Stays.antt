-- What writes never change: which objects there are, their classes, and to which objects enrollments refer.
use Rattle.std.proofs.Common.{◌≡◌, ℕ, true, false, if◌then◌else◌, Option, Some, None, is_some, List, [], ◌∷◌, map, refl, ap, ◌∙◌, sym}
use Rattle.std.proofs.Math.Path.{fun_ext}
use Rattle.std.specs.Option.{option_and_then, option_map}
use Rattle.std.proofs.lemmas.Simd.{map-map}
use Rattle.bac_values.specs.Identifier.{ObjectIdData}
use Rattle.bac_values.specs.declared.value.Value.{Value}
use Rattle.bac_values.specs.declared.value.Value.TheVariants.{Bool as Truth, Unsigned, Signed, Bits}
use Rattle.object_table.specs.declared.change.Change.{Change}
use Rattle.object_table.specs.declared.change.What.{What}
use Rattle.object_table.specs.declared.change.What.TheVariants.{Property, FieldFault}
use Rattle.object_table.specs.declared.object_property.ObjectProperty.{ObjectProperty}
use Rattle.object_table.specs.declared.object_property.ObjectProperty.TheVariants.{PresentValue, OutOfService, ReliabilityEvaluationInhibit, TimeDelay, TimeDelayNormal, HighLimit, LowLimit, Deadband, LimitEnable, AlarmValue, EventEnable, EventAlgorithmInhibit}
use Rattle.object_table.specs.declared.object_site.ObjectSite.{ObjectSite}
use Rattle.object_table.specs.declared.row.Row.{Row}
use Rattle.object_table.specs.Properties.{property_of}
use Rattle.object_table.specs.Rows.{first_row, is_object, object_in, object_of, row_of}
use Rattle.object_table.specs.Writes as rows
use Rattle.enrollment.specs.declared.enrollment_property.EnrollmentProperty.{EnrollmentProperty}
use Rattle.enrollment.specs.declared.enrollment_property.EnrollmentProperty.TheVariants as of_enrollments
use Rattle.enrollment.specs.declared.enrollment_site.EnrollmentSite.{EnrollmentSite}
use Rattle.enrollment.specs.Enrollments.{identifier_of, site_of}
use Rattle.enrollment.specs.Properties as enrollment_properties
use Rattle.enrollment.specs.Snapshots.{algorithm_by_site, algorithm_with, facts_by_site, facts_of_enrollment, facts_of_object, facts_of_site, value_in}
use Rattle.enrollment.specs.Writes as enrollments
use Rattle.enrollment.specs.declared.subject.Subject.{Subject}
use Rattle.enrollment.specs.Objects.{facts_at, ObjectsState, written}
use Rattle.enrollment.specs.Subjects.{subject_by, subject_in}
use Rattle.alarm_core.specs.declared.event.Act.{Act}
use Rattle.alarm_core.specs.declared.event.Act.TheVariants.{Tick, Write, Ack, Pump, Answer, Edit}
use Rattle.alarm_core.specs.declared.event.Event.{Event}
use Rattle.alarm_core.specs.declared.site.Site.{Site}
use Rattle.alarm_core.specs.History.{values_after, values_with}
use Rattle.alarm_core.specs.Values.{first_values}
use Rattle.alarm_core.proofs.Searches.{find_map, find_same, is_some-map}

-- ---- value objects

-- a write keeps the identifiers and the classes
pub record Keeps (before after : ObjectSite) : Type 0 where
  pub object : after.object ≡ before.object
  pub class : after.class ≡ before.class

known_keeps : (property : ObjectProperty) (value : Value) (site : ObjectSite) → Keeps site (rows.set_known property value site)
known_keeps PresentValue value site = record { object = refl; class = refl }
known_keeps OutOfService (Truth truth) site = record { object = refl; class = refl }
known_keeps ReliabilityEvaluationInhibit (Truth truth) site = record { object = refl; class = refl }
known_keeps TimeDelay (Unsigned seconds) site = record { object = refl; class = refl }
known_keeps TimeDelayNormal (Unsigned seconds) site = record { object = refl; class = refl }
known_keeps HighLimit (Signed limit) site = record { object = refl; class = refl }
known_keeps HighLimit (Unsigned limit) site = record { object = refl; class = refl }
known_keeps LowLimit (Signed limit) site = record { object = refl; class = refl }
known_keeps LowLimit (Unsigned limit) site = record { object = refl; class = refl }
known_keeps Deadband (Unsigned deadband) site = record { object = refl; class = refl }
known_keeps LimitEnable (Bits flags) site = record { object = refl; class = refl }
known_keeps AlarmValue value site = record { object = refl; class = refl }
known_keeps EventEnable (Bits flags) site = record { object = refl; class = refl }
known_keeps EventAlgorithmInhibit (Truth truth) site = record { object = refl; class = refl }
known_keeps _ _ site = record { object = refl; class = refl }

set_keeps : (property : Option ObjectProperty) (value : Value) (site : ObjectSite) → Keeps site (rows.set_by property value site)
set_keeps None value site = record { object = refl; class = refl }
set_keeps (Some property) value site = known_keeps property value site

changed_keeps : (what : What) (row : Row) → Keeps row.site (rows.changed what row).site
changed_keeps (Property property value) row = set_keeps (property_of property.0) value row.site
changed_keeps (FieldFault reliability) row = record { object = refl; class = refl }

abbrev pub written_row : Change → Row → Row
written_row change row = if is_object change.object row.site.object then rows.changed change.what row else row

pub written_keeps : (change : Change) (row : Row) → Keeps row.site (written_row change row).site
written_keeps change row =
    elim (is_object change.object row.site.object) as (λ b. Keeps row.site (if b then rows.changed change.what row else row).site) [
      | true ↦ changed_keeps change.what row
      | false ↦ record { object = refl; class = refl }
    ]

-- so the row of an object is found behind it too
pub row_of-written : (object : ObjectIdData) (change : Change) (table : List Row) → row_of object (rows.written change table) ≡ option_map (written_row change) (row_of object table)
row_of-written object change table =
    find_map (written_row change) (λ (row : Row). is_object object row.site.object) table
    ∙ ap (option_map (written_row change))
    (find_same (λ row. is_object object (written_row change row).site.object) (λ (row : Row). is_object object row.site.object)
    (λ row. ap (is_object object) (written_keeps change row).object) table)

row_there : (object : ObjectIdData) (change : Change) (table : List Row) → is_some (row_of object (rows.written change table)) ≡ is_some (row_of object table)
row_there object change table = ap is_some (row_of-written object change table) ∙ is_some-map (written_row change) (row_of object table)

-- the rows stand for the same objects
pub row_objects : (change : Change) (table : List Row) → map object_in (rows.written change table) ≡ map object_in table
row_objects change table = map-map object_in (written_row change) table ∙ ap (λ f. map f table) (fun_ext (λ row. (written_keeps change row).object))

-- ---- enrollments

-- a write keeps the identifiers, the classes, the algorithms, and what the enrollments refer to
pub record KeepsSite (before after : EnrollmentSite) : Type 0 where
  pub object : after.object ≡ before.object
  pub class : after.class ≡ before.class
  pub algorithm : after.algorithm ≡ before.algorithm
  pub monitored : after.monitored ≡ before.monitored
  pub feedback : after.feedback ≡ before.feedback

same_site : (site : EnrollmentSite) → KeepsSite site site
same_site site = record { object = refl; class = refl; algorithm = refl; monitored = refl; feedback = refl }

known_keeps_site : (property : EnrollmentProperty) (value : Value) (site : EnrollmentSite) → KeepsSite site (enrollments.set_known property value site)
known_keeps_site of_enrollments.EventEnable (Bits flags) site = record { object = refl; class = refl; algorithm = refl; monitored = refl; feedback = refl }
known_keeps_site of_enrollments.EventAlgorithmInhibit (Truth truth) site = record { object = refl; class = refl; algorithm = refl; monitored = refl; feedback = refl }
known_keeps_site _ _ site = same_site site

set_keeps_site : (property : Option EnrollmentProperty) (value : Value) (site : EnrollmentSite) → KeepsSite site (enrollments.set_by property value site)
set_keeps_site None value site = same_site site
set_keeps_site (Some property) value site = known_keeps_site property value site

changed_keeps_site : (what : What) (site : EnrollmentSite) → KeepsSite site (enrollments.changed what site)
changed_keeps_site (Property property value) site = set_keeps_site (enrollment_properties.property_of property.0) value site
changed_keeps_site (FieldFault reliability) site = same_site site

abbrev pub written_site : Change → EnrollmentSite → EnrollmentSite
written_site change site = if is_object change.object site.object then enrollments.changed change.what site else site

pub written_keeps_site : (change : Change) (site : EnrollmentSite) → KeepsSite site (written_site change site)
written_keeps_site change site =
    elim (is_object change.object site.object) as (λ b. KeepsSite site (if b then enrollments.changed change.what site else site)) [
      | true ↦ changed_keeps_site change.what site
      | false ↦ same_site site
    ]

pub site_of-written : (object : ObjectIdData) (change : Change) (sites : List EnrollmentSite) →
    site_of object (enrollments.written change sites) ≡ option_map (written_site change) (site_of object sites)
site_of-written object change sites =
    find_map (written_site change) (λ (site : EnrollmentSite). is_object object site.object) sites
    ∙ ap (option_map (written_site change))
    (find_same (λ site. is_object object (written_site change site).object) (λ (site : EnrollmentSite). is_object object site.object)
    (λ site. ap (is_object object) (written_keeps_site change site).object) sites)

pub site_objects : (change : Change) (sites : List EnrollmentSite) → map identifier_of (enrollments.written change sites) ≡ map identifier_of sites
site_objects change sites = map-map identifier_of (written_site change) sites ∙ ap (λ f. map f sites) (fun_ext (λ site. (written_keeps_site change site).object))

algorithm_by : (change : Change) (object : ObjectIdData) (found : Option EnrollmentSite) → algorithm_by_site (option_map (written_site change) found) object ≡ algorithm_by_site found object
algorithm_by change object None = refl
algorithm_by change object (Some site) = (written_keeps_site change site).algorithm

pub algorithm_stays : (object : ObjectIdData) (change : Change) (sites : List EnrollmentSite) → algorithm_with object (enrollments.written change sites) ≡ algorithm_with object sites
algorithm_stays object change sites = ap (λ found. algorithm_by_site found object) (site_of-written object change sites) ∙ algorithm_by change object (site_of object sites)

-- ---- what an event algorithm looks at stays there

sees : (site : EnrollmentSite) (table : List Row) → is_some (facts_of_site site table) ≡ is_some (row_of site.monitored table)
sees site table =
    is_some-map (λ value. facts_of_enrollment value (option_and_then (value_in table) site.feedback) site) (value_in table site.monitored)
    ∙ is_some-map (λ (row : Row). row.site.value) (row_of site.monitored table)

facts_by : (found : Option EnrollmentSite) (object : ObjectIdData) (change : Change) (table : List Row) →
    is_some (facts_by_site (option_map (written_site change) found) object (rows.written change table)) ≡ is_some (facts_by_site found object table)
facts_by None object change table =
    is_some-map (λ (row : Row). facts_of_object row.site) (row_of object (rows.written change table))
    ∙ (row_there object change table ∙ sym (is_some-map (λ (row : Row). facts_of_object row.site) (row_of object table)))
facts_by (Some site) object change table =
    sees (written_site change site) (rows.written change table)
    ∙ (ap (λ referred. is_some (row_of referred (rows.written change table))) (written_keeps_site change site).monitored
    ∙ (row_there site.monitored change table ∙ sym (sees site table)))

pub facts_stay : (object : ObjectIdData) (change : Change) (values : ObjectsState) → is_some (facts_at object (written change values)) ≡ is_some (facts_at object values)
facts_stay object change values =
    ap (λ found. is_some (facts_by_site found object (rows.written change values.rows))) (site_of-written object change values.enrollments)
    ∙ facts_by (site_of object values.enrollments) object change values.rows

-- ---- classes stay

abbrev pub class_of : Subject → Option ℕ
class_of subject = subject.class

class_by : (change : Change) (found : Option EnrollmentSite) (row : Option Row) →
    option_map class_of (subject_by (option_map (written_site change) found) (option_map (written_row change) row)) ≡ option_map class_of (subject_by found row)
class_by change (Some site) row = ap (λ number. Some (Some number)) (written_keeps_site change site).class
class_by change None (Some row) = ap Some (written_keeps change row).class
class_by change None None = refl

pub class_stays : (object : ObjectIdData) (change : Change) (values : ObjectsState) → option_map class_of (subject_in object (written change values)) ≡ option_map class_of (subject_in object values)
class_stays object change values =
    ap (λ found. option_map class_of (subject_by found (row_of object (rows.written change values.rows)))) (site_of-written object change values.enrollments)
    ∙ (ap (λ row. option_map class_of (subject_by (option_map (written_site change) (site_of object values.enrollments)) row)) (row_of-written object change values.rows)
    ∙ class_by change (site_of object values.enrollments) (row_of object values.rows))

-- a subject is found after a write exactly where it was before
pub subject_stays : (object : ObjectIdData) (change : Change) (values : ObjectsState) → is_some (subject_in object (written change values)) ≡ is_some (subject_in object values)
subject_stays object change values =
    sym (is_some-map class_of (subject_in object (written change values))) ∙ (ap is_some (class_stays object change values) ∙ is_some-map class_of (subject_in object values))

-- ---- the same after a history

-- what no write changes is after a history what it was at the start
module _ {X : Type 0} (f : ObjectsState → X) (stays : (change : Change) (values : ObjectsState) → f (written change values) ≡ f values) where
  same_with : (act : Act) (values : ObjectsState) → f (values_with act values) ≡ f values
  same_with (Write change) values = stays change values
  same_with Tick values = refl
  same_with (Ack acknowledged transition named) values = refl
  same_with Pump values = refl
  same_with (Answer peer invoke kind) values = refl
  same_with (Edit number recipients) values = refl

  pub same_after : (site : Site) (history : List Event) → f (values_after site history) ≡ f (first_values site)
  same_after site [] = refl
  same_after site (event ∷ older) = same_with event.act (values_after site older) ∙ same_after site older

pub facts_after : (site : Site) (object : ObjectIdData) (history : List Event) → is_some (facts_at object (values_after site history)) ≡ is_some (facts_at object (first_values site))
facts_after site object history = same_after (λ values. is_some (facts_at object values)) (facts_stay object) site history

pub class_after : (site : Site) (object : ObjectIdData) (history : List Event) →
    option_map class_of (subject_in object (values_after site history)) ≡ option_map class_of (subject_in object (first_values site))
class_after site object history = same_after (λ values. option_map class_of (subject_in object values)) (class_stays object) site history

pub algorithm_after : (site : Site) (object : ObjectIdData) (history : List Event) → algorithm_with object (values_after site history).enrollments ≡ algorithm_with object site.enrollments
algorithm_after site object history = same_after (λ values. algorithm_with object values.enrollments) (λ change values. algorithm_stays object change values.enrollments) site history

pub row_objects_after : (site : Site) (history : List Event) → map object_in (values_after site history).rows ≡ map object_of site.objects
row_objects_after site history =
    same_after (λ values. map object_in values.rows) (λ change values. row_objects change values.rows) site history ∙ map-map object_in first_row site.objects

pub site_objects_after : (site : Site) (history : List Event) → map identifier_of (values_after site history).enrollments ≡ map identifier_of site.enrollments
site_objects_after site history = same_after (λ values. map identifier_of values.enrollments) (λ change values. site_objects change values.enrollments) site history
