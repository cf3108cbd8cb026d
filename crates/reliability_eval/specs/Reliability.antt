-- The reliability of a value object (ANSI/ASHRAE 135-2020, 13.4: FAULT_STATE, FAULT_CHARACTERSTRING, FAULT_OUT_OF_RANGE).
use Rattle.std.specs.Prelude.{ℕ, ℤ, Bool, false, Option, Some, None, unwrap_or, List, if◌then◌else◌}
use Rattle.std.specs.List.{list_any}
use Rattle.bac_values.specs.declared.object_kind.ObjectKind.{ObjectKind}
use Rattle.bac_values.specs.declared.object_kind.ObjectKind.TheVariants.{MultiStateValue, CharacterStringValue, IntegerValue, PositiveIntegerValue}
use Rattle.bac_values.specs.declared.reliability.Reliability.{Reliability}
use Rattle.bac_values.specs.declared.reliability.Reliability.TheVariants.{NoFaultDetected, OverRange, UnderRange, MultiStateFault}
use Rattle.bac_values.specs.declared.value.Value.{Value}
use Rattle.bac_values.specs.Identifier.{ObjectIdData}
use Rattle.bac_values.specs.Reliabilities.{reliability_of_number}
use Rattle.algorithm_rules.specs.Conditions.{number_in, is_above, is_below}
use Rattle.algorithm_rules.specs.Matches.{matches}
use Rattle.object_table.specs.declared.object_site.ObjectSite.{ObjectSite}
use Rattle.object_table.specs.declared.row.Row.{Row}
use Rattle.object_table.specs.Properties.{kind_in}
use Rattle.object_table.specs.Rows.{row_of}

-- whether some fault value matches the value, as an alarm value would
abbrev pub is_fault_value : List Value → Value → Bool
is_fault_value faults value = list_any (λ fault. matches None fault value) faults

abbrev pub list_fault : List Value → Value → Reliability
list_fault faults value = if is_fault_value faults value then MultiStateFault else NoFaultDetected

-- whether there is a limit, and the number is above it or below it
abbrev pub is_over : Option ℤ → Option ℤ → Bool
is_over (Some high) number = is_above high number
is_over None number = false

abbrev pub is_under : Option ℤ → Option ℤ → Bool
is_under (Some low) number = is_below low number
is_under None number = false

abbrev pub range_fault : Option ℤ → Option ℤ → Value → Reliability
range_fault low high value =
    if is_over high (number_in value) then OverRange
    else (if is_under low (number_in value) then UnderRange else NoFaultDetected)

-- the fault that a value is, by the kind of its object
abbrev pub value_fault : Option ObjectKind → ObjectSite → Reliability
value_fault (Some MultiStateValue) site = list_fault site.fault_values site.value
value_fault (Some CharacterStringValue) site = list_fault site.fault_values site.value
value_fault (Some IntegerValue) site = range_fault site.fault_low site.fault_high site.value
value_fault (Some PositiveIntegerValue) site = range_fault site.fault_low site.fault_high site.value
value_fault _ site = NoFaultDetected

-- the reliability of what gives an object its value
abbrev pub fault_of_field : ℕ → Reliability
fault_of_field number = unwrap_or (reliability_of_number number) NoFaultDetected

-- the first of two faults
abbrev pub first_fault : Reliability → Reliability → Reliability
first_fault NoFaultDetected second = second
first_fault first second = first

-- none where its evaluation is inhibited; else that of what gives the value, before that of the value itself
abbrev pub reliability_of : Row → Reliability
reliability_of row =
    if row.site.reliability_inhibit then NoFaultDetected
    else first_fault (fault_of_field row.field_fault) (value_fault (kind_in row.site) row.site)

abbrev pub reliability_found : Option Row → Reliability
reliability_found (Some row) = reliability_of row
reliability_found None = NoFaultDetected

-- the reliability of an object, and none where there is no such object
abbrev pub reliability_in : ObjectIdData → List Row → Reliability
reliability_in object rows = reliability_found (row_of object rows)
