-- What a write changes in an enrollment, and which changes enrollments take.
use Rattle.std.specs.Prelude.{ℕ, Bool, false, IsTrue, IsSomeAnd, Option, Some, None, List, map, if◌then◌else◌}
use Rattle.bac_values.specs.declared.value.Value.{Value}
use Rattle.bac_values.specs.declared.value.Value.TheVariants.{Bool as Truth, Bits}
use Rattle.object_table.specs.declared.change.Change.{Change}
use Rattle.object_table.specs.declared.change.What.{What}
use Rattle.object_table.specs.declared.change.What.TheVariants.{Property, FieldFault}
use Rattle.bac_values.specs.BitString.{three_flags}
use Rattle.object_table.specs.Rows.{is_object}
use Rattle.enrollment.specs.declared.enrollment_property.EnrollmentProperty.{EnrollmentProperty}
use Rattle.enrollment.specs.declared.enrollment_property.EnrollmentProperty.TheVariants.{EventEnable, EventAlgorithmInhibit}
use Rattle.enrollment.specs.declared.enrollment_site.EnrollmentSite.{EnrollmentSite}
use Rattle.enrollment.specs.Enrollments.{site_of}
use Rattle.enrollment.specs.Properties.{property_of}
use Rattle.enrollment.specs.Verdicts.{can_be}

-- an enrollment whose property has the value; a value that the property can't hold changes nothing
abbrev pub set_known : EnrollmentProperty → Value → EnrollmentSite → EnrollmentSite
set_known EventEnable (Bits flags) site = record site { enable = three_flags flags }
set_known EventAlgorithmInhibit (Truth truth) site = record site { inhibit = truth }
set_known _ _ site = site

abbrev pub set_by : Option EnrollmentProperty → Value → EnrollmentSite → EnrollmentSite
set_by (Some property) value site = set_known property value site
set_by None value site = site

-- the same by the number of the property; one that can't be written changes nothing
abbrev pub property_set : ℕ → Value → EnrollmentSite → EnrollmentSite
property_set number value site = set_by (property_of number) value site

-- an enrollment after a change; the field gives it no value, and so no fault
abbrev pub changed : What → EnrollmentSite → EnrollmentSite
changed (Property property value) site = property_set property.0 value site
changed (FieldFault reliability) site = site

-- the enrollments after a change of one
abbrev pub written : Change → List EnrollmentSite → List EnrollmentSite
written change sites = map (λ site. if is_object change.object site.object then changed change.what site else site) sites

abbrev pub takes_known : EnrollmentSite → Option EnrollmentProperty → Value → Bool
takes_known site (Some property) value = can_be site property value
takes_known site None value = false

-- whether a write of the property with a number takes the value
abbrev pub takes_value : ℕ → Value → EnrollmentSite → Bool
takes_value number value site = takes_known site (property_of number) value

-- whether an enrollment takes a change
abbrev pub takes : What → EnrollmentSite → Bool
takes (Property property value) site = takes_value property.0 value site
takes (FieldFault reliability) site = false

-- there is the enrollment, and it takes the change
abbrev pub IsTaken : Change → List EnrollmentSite → Type 0
IsTaken change sites = IsSomeAnd (site_of change.object sites) (λ site. IsTrue (takes change.what site))
