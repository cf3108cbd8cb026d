-- All objects, value objects and event enrollments alike: the properties that writes change, and what event detection sees of an object (ANSI/ASHRAE 135-2020, 12.12, 13.2 and 13.3).
use Rattle.std.specs.Prelude.{◌⊎◌, Option, List}
use Rattle.bac_values.specs.Identifier.{ObjectIdData}
use Rattle.bac_values.specs.declared.reliability.Reliability.{Reliability}
use Rattle.algorithm_rules.specs.Facts.{Facts}
use Rattle.object_table.specs.declared.change.Change.{Change}
use Rattle.object_table.specs.declared.row.Row.{Row}
use Rattle.object_table.specs.Writes as rows
use Rattle.enrollment.specs.declared.enrollment_site.EnrollmentSite.{EnrollmentSite}
use Rattle.enrollment.specs.declared.references.Reference.{Reference}
use Rattle.enrollment.specs.Reliabilities.{reliability_with}
use Rattle.enrollment.specs.Snapshots.{facts_with}
use Rattle.enrollment.specs.Writes as enrollments

-- the enrollments as the writes have left them, and the references of all objects, by which it is known who watches an object
pub record EnrollmentsState : Type 0 where
  pub sites : List EnrollmentSite
  pub references : List Reference

-- the value objects and the enrollments, each list as the writes have left it
pub record ObjectsState : Type 0 where
  pub rows : List Row
  pub enrollments : List EnrollmentSite

-- those after a change of one object
abbrev pub written : Change → ObjectsState → ObjectsState
written change objects = record { rows = rows.written change objects.rows; enrollments = enrollments.written change objects.enrollments }

-- there is the value object or the enrollment, and it takes the change
abbrev pub IsTaken : Change → ObjectsState → Type 0
IsTaken change objects = rows.IsTaken change objects.rows ⊎ enrollments.IsTaken change objects.enrollments

-- the reliability of an object: an enrollment's is that of what it refers to
abbrev pub reliability_at : ObjectIdData → ObjectsState → Reliability
reliability_at object objects = reliability_with object objects.enrollments objects.rows

-- what the event algorithm of an object looks at, if it is there
abbrev pub facts_at : ObjectIdData → ObjectsState → Option Facts
facts_at object objects = facts_with object objects.enrollments objects.rows
