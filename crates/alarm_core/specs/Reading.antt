-- How reads and writes of properties are answered: the first error that applies (ANSI/ASHRAE 135-2020, 15.5, 15.9 and clause 18).
use Rattle.std.specs.Prelude.{◌≡◌, ℕ, ◌⊎◌, Option, Some, None, Result, Ok, Err, List}
use Rattle.bac_values.specs.Identifier.{ObjectIdData}
use Rattle.bac_values.specs.declared.value.Value.{Value}
use Rattle.object_table.specs.declared.change.Change.{Change}
use Rattle.object_table.specs.declared.faults.WriteFault.{WriteFault}
use Rattle.object_table.specs.declared.faults.WriteFault.TheVariants as write_faults
use Rattle.object_table.specs.declared.row.Row.{Row}
use Rattle.object_table.specs.Rows.{row_of}
use Rattle.object_table.specs.Verdicts.{index_verdict, write_access_denied, write_by_row}
use Rattle.enrollment.specs.declared.enrollment_site.EnrollmentSite.{EnrollmentSite}
use Rattle.enrollment.specs.Enrollments.{site_of}
use Rattle.enrollment.specs.Verdicts.{write_by_site}
use Rattle.property_values.specs.declared.content.Content.{Content}
use Rattle.property_values.specs.declared.content.ReadFault.{ReadFault}
use Rattle.property_values.specs.declared.content.ReadFault.TheVariants.{Error, NoMemory}
use Rattle.property_values.specs.LogProperties.{log_write}
use Rattle.property_values.specs.Properties.{as_write_fault}
use Rattle.property_values.specs.Reading.{part_in, size_of}
use Rattle.alarm_core.specs.Contents.{content_of, other_content}
use Rattle.alarm_core.specs.Logs.{kept_log, SiteLogState}
use Rattle.alarm_core.specs.State.{CoreState}

-- the octets of a property: no such object, no such property, an index where there is no array, and one above its length
abbrev pub read_of : CoreState → ObjectIdData → ℕ → Option ℕ → Result (List ℕ) ReadFault
read_of state object number index = part_in (content_of state object number) index

-- no property of such an object can be written
abbrev pub denied_by : Result (Unit {0}) WriteFault → Result Change WriteFault
denied_by (Err fault) = Err fault
denied_by (Ok passed) = Err write_access_denied

-- the length of a property that is an array, or why there is no property
abbrev pub size_in : Result Content ReadFault → Result (Option ℕ) ReadFault
size_in (Err fault) = Err fault
size_in (Ok content) = Ok (size_of content)

abbrev pub denied : Result Content ReadFault → Option ℕ → Result Change WriteFault
denied (Err fault) index = Err (as_write_fault fault)
denied (Ok content) index = denied_by (index_verdict (size_of content) index)

abbrev pub write_by : CoreState → Option EnrollmentSite → Option Row → Option SiteLogState → ObjectIdData → ℕ → Option ℕ → Value → Result Change WriteFault
write_by state (Some site) row kept object number index value = write_by_site (Some site) object number index value
write_by state None (Some row) kept object number index value = write_by_row (Some row) object number index value
write_by state None None (Some kept) object number index value = log_write kept.site kept.log number index value
write_by state None None None object number index value = denied (other_content state.site state.classes object number) index

-- the change that a write of a property makes, or the first error that applies to it
abbrev pub write_of : CoreState → ObjectIdData → ℕ → Option ℕ → Value → Result Change WriteFault
write_of state object number index value = write_by state (site_of object state.values.enrollments) (row_of object state.values.rows) (kept_log object state.logs) object number index value

-- the answer is that one, unless memory is refused
abbrev pub AnswersWrite : Result Change WriteFault → Result Change WriteFault → Type 0
AnswersWrite answer write = (answer ≡ write) ⊎ (answer ≡ Err write_faults.NoMemory)

-- so it is of a length
abbrev pub AnswersSize : Result (Option ℕ) ReadFault → Result (Option ℕ) ReadFault → Type 0
AnswersSize (Ok size) found = found ≡ Ok size
AnswersSize (Err (Error class code)) found = found ≡ Err (Error class code)
AnswersSize (Err NoMemory) found = Unit {0}
