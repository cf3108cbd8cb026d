-- The refusals of a present value and of a fault that come from the field, by a script or at a site, in their order, each with its condition. They are no errors of a service: nobody is answered.
use Rattle.std.specs.Prelude.{◌≡◌, ℕ, ◌==◌, Bool, true, false, not, if◌then◌else◌, Option, Some, None, List, [], ◌∷◌}
use Rattle.std.specs.List.{list_any}
use Rattle.bac_values.specs.Identifier.{ObjectIdData}
use Rattle.bac_values.specs.Properties.{present_value_property}
use Rattle.bac_values.specs.Reliabilities.{number_of_reliability}
use Rattle.bac_values.specs.declared.input.Input.TheVariants.{Fault, Set}
use Rattle.bac_values.specs.declared.input.SetFault.{SetFault}
use Rattle.bac_values.specs.declared.input.SetFault.TheVariants.{OutOfService, UnknownObject, ValueRange, WrongKind}
use Rattle.bac_values.specs.declared.reliability.Reliability.{Reliability}
use Rattle.bac_values.specs.declared.reliability.Reliability.TheVariants.{CommunicationFailure, NoFaultDetected, OverRange, UnderRange, UnreliableOther}
use Rattle.bac_values.specs.declared.value.Value.{Value}
use Rattle.object_table.specs.declared.change.Change.{Change}
use Rattle.object_table.specs.declared.object_site.ObjectSite.{ObjectSite}
use Rattle.object_table.specs.declared.row.Row.{Row}
use Rattle.object_table.specs.Rows.{is_object, row_of}
use Rattle.object_table.specs.Verdicts.{fault_change, property_change, tag_of}
use Rattle.alarm_core.specs.Allowed.{Represents}
use Rattle.alarm_core.specs.State.{CoreState}
use Rattle.alarm_core.specs.declared.event.Event.{Event}
use Rattle.service_desk.specs.Decisions.{decision_on}
use Rattle.service_desk.specs.WriteProperty.{write_at}
use Rattle.service_desk.specs.declared.decision.Decision.{Decision}
use Rattle.service_desk.specs.declared.decision.Decision.TheVariants.{Enter, Refuse}
use Rattle.profile_laws.specs.PropertyErrors.{is_out_of_range, is_unknown_object, tag_in}
use Rattle.profile_laws.specs.PropertyTables.{PropertyRow, object_properties, property_in}

-- the refusal of the first row whose condition holds
abbrev pub first_refusal : List (Bool × SetFault) → Option SetFault
first_refusal [] = None
first_refusal (row ∷ later) = if row.0 then Some row.1 else first_refusal later

-- ---- conditions

-- no value object of the site has the identifier: what has it, if anything, has no present value
abbrev pub has_no_present_value : CoreState → ObjectIdData → Bool
has_no_present_value state object = not (list_any (λ (listed : ObjectSite). is_object object listed.object) state.site.objects)

-- Out_Of_Service is TRUE, as the site has it or the last write left it
abbrev pub is_out_of_service : Option Row → Bool
is_out_of_service (Some row) = row.site.out_of_service
is_out_of_service None = false

-- Present_Value in the table of value objects
abbrev pub present_value : Option Row → Option PropertyRow
present_value (Some row) = property_in present_value_property (object_properties row.site)
present_value None = None

-- the value's application tag is another one than that of the present value
abbrev pub is_of_wrong_type : Option ℕ → Value → Bool
is_of_wrong_type (Some tag) value = not (tag_of value == tag)
is_of_wrong_type None value = true

-- the reliabilities that what gives an object its value may have; NO_FAULT_DETECTED ends a fault
abbrev pub field_reliabilities : List Reliability
field_reliabilities = NoFaultDetected ∷ OverRange ∷ UnderRange ∷ UnreliableOther ∷ CommunicationFailure ∷ []

abbrev pub is_no_field_reliability : ℕ → Bool
is_no_field_reliability number = not (list_any (λ (known : Reliability). number == number_of_reliability known) field_reliabilities)

-- ---- tables

-- of a present value
abbrev pub set_refusals : CoreState → ObjectIdData → Value → List (Bool × SetFault)
set_refusals state object value =
    let row = row_of object state.values.rows in
    (is_unknown_object state object, UnknownObject)
    ∷ (has_no_present_value state object, WrongKind)
    ∷ (is_out_of_service row, OutOfService)
    ∷ (is_of_wrong_type (tag_in (present_value row)) value, WrongKind)
    ∷ (is_out_of_range (present_value row) value, ValueRange)
    ∷ []

-- of a fault, which an object takes out of service too
abbrev pub fault_refusals : CoreState → ObjectIdData → ℕ → List (Bool × SetFault)
fault_refusals state object reliability =
    (is_unknown_object state object, UnknownObject)
    ∷ (has_no_present_value state object, WrongKind)
    ∷ (is_no_field_reliability reliability, ValueRange)
    ∷ []

-- ---- the laws

-- what comes in is refused for a reason, or is a change at its moment, and nobody is answered
abbrev pub IsTakenUnless : Option SetFault → ℕ → Change → Decision → Type 0
IsTakenUnless (Some why) moment change decision = decision ≡ Refuse why
IsTakenUnless None moment change decision = decision ≡ Enter (write_at moment change) None None

-- In a state that stands for a history: a present value from the field is refused for the first reason of its table whose condition holds, and is a write of Present_Value exactly where none holds; and so of a fault.
abbrev pub RefusesSetsInTurn : Type 0
RefusesSetsInTurn =
    (state : CoreState) (history : List Event) → Represents state history → (moment : ℕ) (object : ObjectIdData) (value : Value) →
    IsTakenUnless (first_refusal (set_refusals state object value)) moment (property_change object present_value_property value) (decision_on state (Set object value) moment)

abbrev pub RefusesFaultsInTurn : Type 0
RefusesFaultsInTurn =
    (state : CoreState) (history : List Event) → Represents state history → (moment : ℕ) (object : ObjectIdData) (reliability : ℕ) →
    IsTakenUnless (first_refusal (fault_refusals state object reliability)) moment (fault_change object reliability) (decision_on state (Fault object reliability) moment)
