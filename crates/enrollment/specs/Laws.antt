-- Which changes enrollments take, said by the answers to writes; and whom a change doesn't touch.
use Rattle.std.specs.Prelude.{◌≡◌, ℕ, ◌↔◌, false, None, IsOk, List, All}
use Rattle.bac_values.specs.declared.value.Value.{Value}
use Rattle.bac_values.specs.Identifier.{ObjectIdData}
use Rattle.object_table.specs.declared.change.Change.{Change}
use Rattle.object_table.specs.Rows.{is_object, row_of}
use Rattle.object_table.specs.Verdicts.{property_change}
use Rattle.enrollment.specs.declared.enrollment_site.EnrollmentSite.{EnrollmentSite}
use Rattle.enrollment.specs.Enrollments.{site_of}
use Rattle.enrollment.specs.Objects.{ObjectsState, facts_at, reliability_at, written}
use Rattle.enrollment.specs.Subjects.{is_inhibited}
use Rattle.enrollment.specs.Verdicts.{checked_write}
use Rattle.enrollment.specs.Watchers.{referrers_in, watchers}
use Rattle.enrollment.specs.Writes.{IsTaken}

-- a value is taken for a property exactly where a write of it, without an index, is answered with no error
abbrev pub TakesWhatWritesMake : Type 0
TakesWhatWritesMake =
    (sites : List EnrollmentSite) (object : ObjectIdData) (number : ℕ) (value : Value) → IsTaken (property_change object number value) sites ↔ IsOk (checked_write sites object number None value)

-- a change doesn't touch an object: it is one of another object, to which this one doesn't refer
pub record IsUntouched (change : Change) (object : ObjectIdData) (objects : ObjectsState) : Type 0 where
  pub other : is_object change.object object ≡ false
  pub no_watcher : All (λ watcher. is_object object watcher ≡ false) (watchers change.object (referrers_in objects))

-- A value object or an enrollment after a change: its settings, what its algorithm looks at, its reliability and whether it is inhibited are as they were.
pub record StaysAsItWas (object : ObjectIdData) (before after : ObjectsState) : Type 0 where
  pub site : site_of object after.enrollments ≡ site_of object before.enrollments
  pub row : row_of object after.rows ≡ row_of object before.rows
  pub facts : facts_at object after ≡ facts_at object before
  pub reliability : reliability_at object after ≡ reliability_at object before
  pub inhibited : is_inhibited object after ≡ is_inhibited object before

-- beside the changed object itself its watchers are all that see a change of it
abbrev pub WatchersAreAllThatRefer : Type 0
WatchersAreAllThatRefer =
    (change : Change) (object : ObjectIdData) (objects : ObjectsState) → IsUntouched change object objects → StaysAsItWas object objects (written change objects)
