-- How a write of an enrollment's property is answered: the first error that applies (ANSI/ASHRAE 135-2020, 15.9 and clause 18).
use Rattle.std.specs.Prelude.{ℕ, Bool, false, ◌&&◌, Option, Some, None, is_none, Result, Err, List, if◌then◌else◌}
use Rattle.bac_values.specs.ApplicationTags.{bit_string_tag}
use Rattle.bac_values.specs.declared.value.Value.{Value}
use Rattle.bac_values.specs.Identifier.{ObjectIdData}
use Rattle.object_table.specs.declared.change.Change.{Change}
use Rattle.object_table.specs.declared.faults.WriteFault.{WriteFault}
use Rattle.object_table.specs.declared.faults.WriteFault.TheVariants.{Error, NoMemory}
use Rattle.object_table.specs.Values.{are_flags, is_truth}
use Rattle.object_table.specs.Verdicts.{allowed_change, and_then, index_verdict, inhibit_tag, property_change, unknown_object, unknown_property, value_verdict}
use Rattle.enrollment.specs.declared.enrollment_property.EnrollmentProperty.{EnrollmentProperty}
use Rattle.enrollment.specs.declared.enrollment_property.EnrollmentProperty.TheVariants.{EventEnable, EventAlgorithmInhibit}
use Rattle.enrollment.specs.declared.enrollment_site.EnrollmentSite.{EnrollmentSite}
use Rattle.enrollment.specs.Enrollments.{site_of}
use Rattle.enrollment.specs.Properties.{has, length_of, property_of}

-- the tag of a property that may be written: Event_Enable is a bit string, and Event_Algorithm_Inhibit a Boolean where no reference inhibits
abbrev pub writable_tag : EnrollmentSite → EnrollmentProperty → Option ℕ
writable_tag site EventEnable = Some bit_string_tag
writable_tag site EventAlgorithmInhibit = inhibit_tag site.inhibit_ref
writable_tag site _ = None

-- whether a property that may be written can be the value; Event_Enable has a flag for each transition, and Event_Algorithm_Inhibit is written only without a reference
abbrev pub can_be : EnrollmentSite → EnrollmentProperty → Value → Bool
can_be site EventEnable value = are_flags 3 value
can_be site EventAlgorithmInhibit value = is_none site.inhibit_ref && is_truth value
can_be site _ value = false

-- a write of a property that enrollments know
abbrev pub property_verdict : EnrollmentSite → EnrollmentProperty → Option ℕ → Value → Result (Unit {0}) WriteFault
property_verdict site property index value =
    if has site property
    then and_then (index_verdict (length_of property) index) (value_verdict (writable_tag site property) (can_be site property value) value)
    else Err unknown_property

abbrev pub known_verdict : EnrollmentSite → Option EnrollmentProperty → Option ℕ → Value → Result (Unit {0}) WriteFault
known_verdict site (Some property) index value = property_verdict site property index value
known_verdict site None index value = Err unknown_property

-- a write of the property with a number
abbrev pub write_verdict : EnrollmentSite → ℕ → Option ℕ → Value → Result (Unit {0}) WriteFault
write_verdict site number index value = known_verdict site (property_of number) index value

abbrev pub write_by_site : Option EnrollmentSite → ObjectIdData → ℕ → Option ℕ → Value → Result Change WriteFault
write_by_site (Some site) object number index value = allowed_change (write_verdict site number index value) (property_change object number value)
write_by_site None object number index value = Err unknown_object

-- the answer to a write: the change, or the first error that applies
abbrev pub checked_write : List EnrollmentSite → ObjectIdData → ℕ → Option ℕ → Value → Result Change WriteFault
checked_write sites object number index value = write_by_site (site_of object sites) object number index value

-- a fault that is an error to answer, and no want of memory
abbrev pub IsError : WriteFault → Type 0
IsError (Error class code) = Unit {0}
IsError NoMemory = ⊥
