-- What a write changes, and which changes a table takes.
use Rattle.std.specs.Prelude.{ℕ, pos, IsTrue, IsSomeAnd, Bool, Option, Some, None, List, map, if◌then◌else◌}
use Rattle.bac_values.specs.declared.value.Value.{Value}
use Rattle.bac_values.specs.declared.value.Value.TheVariants.{Bool as Truth, Unsigned, Signed, Bits}
use Rattle.object_table.specs.declared.change.Change.{Change}
use Rattle.object_table.specs.declared.change.What.{What}
use Rattle.object_table.specs.declared.change.What.TheVariants.{Property, FieldFault}
use Rattle.object_table.specs.declared.object_property.ObjectProperty.{ObjectProperty}
use Rattle.object_table.specs.declared.object_property.ObjectProperty.TheVariants.{PresentValue, OutOfService, ReliabilityEvaluationInhibit, TimeDelay, TimeDelayNormal, HighLimit, LowLimit, Deadband, LimitEnable, AlarmValue, EventEnable, EventAlgorithmInhibit}
use Rattle.object_table.specs.declared.object_site.ObjectSite.{ObjectSite}
use Rattle.object_table.specs.declared.row.Row.{Row}
use Rattle.bac_values.specs.BitString.{two_flags, three_flags}
use Rattle.object_table.specs.Properties.{property_of}
use Rattle.object_table.specs.Values.{takes_value, is_field_fault}
use Rattle.object_table.specs.Rows.{is_object, row_of}

-- an object whose property has the value; a value that the property can't hold changes nothing
abbrev pub set_known : ObjectProperty → Value → ObjectSite → ObjectSite
set_known PresentValue value site = record site { value = value }
set_known OutOfService (Truth truth) site = record site { out_of_service = truth }
set_known ReliabilityEvaluationInhibit (Truth truth) site = record site { reliability_inhibit = truth }
set_known TimeDelay (Unsigned seconds) site = record site { time_delay = seconds }
set_known TimeDelayNormal (Unsigned seconds) site = record site { time_delay_normal = Some seconds }
set_known HighLimit (Signed limit) site = record site { high = limit }
set_known HighLimit (Unsigned limit) site = record site { high = pos limit }
set_known LowLimit (Signed limit) site = record site { low = limit }
set_known LowLimit (Unsigned limit) site = record site { low = pos limit }
set_known Deadband (Unsigned deadband) site = record site { deadband = deadband }
set_known LimitEnable (Bits flags) site = record site { limit_enable = two_flags flags }
set_known AlarmValue value site = record site { alarm_value = Some value }
set_known EventEnable (Bits flags) site = record site { enable = three_flags flags }
set_known EventAlgorithmInhibit (Truth truth) site = record site { inhibit = truth }
set_known _ _ site = site

abbrev pub set_by : Option ObjectProperty → Value → ObjectSite → ObjectSite
set_by (Some property) value site = set_known property value site
set_by None value site = site

-- the same by the number of the property; one that can't be written changes nothing
abbrev pub property_set : ℕ → Value → ObjectSite → ObjectSite
property_set number value site = set_by (property_of number) value site

-- a row after a change
abbrev pub changed : What → Row → Row
changed (Property property value) row = record row { site = property_set property.0 value row.site }
changed (FieldFault reliability) row = record row { field_fault = reliability }

-- the rows after a change of one object
abbrev pub written : Change → List Row → List Row
written change rows = map (λ row. if is_object change.object row.site.object then changed change.what row else row) rows

-- whether an object takes a change
abbrev pub takes : What → ObjectSite → Bool
takes (Property property value) site = takes_value property.0 value site
takes (FieldFault reliability) site = is_field_fault reliability

-- the table has the object, and the object takes the change
abbrev pub IsTaken : Change → List Row → Type 0
IsTaken change rows = IsSomeAnd (row_of change.object rows) (λ row. IsTrue (takes change.what row.site))
