-- A present value and a fault from the field are refused for the first reason of their tables.
use Rattle.std.proofs.Common.{◌≡◌, ℕ, ◌==◌, Bool, true, false, not, ◌||◌, ◌&&◌, if◌then◌else◌, Option, Some, None, is_none, is_some, Result, Ok, Err, List, [], ◌∷◌, refl, sym, ap, ◌∙◌, subst}
use Rattle.std.specs.List.{list_any}
use Rattle.bac_values.specs.Identifier.{ObjectIdData}
use Rattle.bac_values.specs.declared.input.SetFault.{SetFault}
use Rattle.bac_values.specs.declared.input.SetFault.TheVariants.{OutOfService, UnknownObject, ValueRange, WrongKind}
use Rattle.bac_values.specs.declared.value.Value.{Value}
use Rattle.object_table.specs.declared.change.Change.{Change}
use Rattle.object_table.specs.declared.object_site.ObjectSite.{ObjectSite}
use Rattle.object_table.specs.declared.row.Row.{Row}
use Rattle.object_table.specs.Properties.{kind_in}
use Rattle.object_table.specs.Rows.{is_object, row_of}
use Rattle.object_table.specs.Values.{is_field_fault, is_present_value}
use Rattle.object_table.specs.Verdicts.{allowed_change, fault_by_row, fault_change, property_change, set_by_row, set_verdict, tag_of, typed_verdict, value_tag}
use Rattle.alarm_core.specs.Allowed.{Represents}
use Rattle.alarm_core.specs.Devices.{identifiers_of}
use Rattle.alarm_core.specs.Found.{is_other_object}
use Rattle.alarm_core.specs.State.{CoreState}
use Rattle.alarm_core.specs.declared.event.Event.{Event}
use Rattle.service_desk.specs.Decisions.{field_decision}
use Rattle.service_desk.specs.declared.decision.Decision.{Decision}
use Rattle.profile_laws.specs.FieldRefusals.{IsTakenUnless, RefusesFaultsInTurn, RefusesSetsInTurn, first_refusal, is_no_field_reliability, is_of_wrong_type, is_out_of_service, present_value}
use Rattle.profile_laws.specs.PropertyErrors.{is_out_of_range, tag_in}
use Rattle.profile_laws.proofs.Identified.{Identifies}
use Rattle.profile_laws.proofs.InTurn.{has_it, identified}

abbrev Checked : Type 0
Checked = Result Change SetFault

-- the decision on what was checked, where the object may be one without a value
abbrev decided : ℕ → Bool → Checked → Decision
decided moment without checked = field_decision moment (if without then Err WrongKind else checked)

module _ (moment : ℕ) (change : Change) where
  range_says : (possible : Bool) → IsTakenUnless (if not possible then Some ValueRange else None) moment change (field_decision moment (allowed_change (if possible then Ok tt else Err ValueRange) change))
  range_says true = refl
  range_says false = refl

  by_type : (same possible : Bool) →
      IsTakenUnless (if not same then Some WrongKind else (if not possible then Some ValueRange else None)) moment change
      (field_decision moment (allowed_change (if same then (if possible then Ok tt else Err ValueRange) else Err WrongKind) change))
  by_type true possible = range_says possible
  by_type false possible = refl

module _ (moment : ℕ) (object : ObjectIdData) (value : Value) where
  abbrev change : Change
  change = property_change object 85 value

  typed_says : (tag : Option ℕ) (possible : Bool) →
      IsTakenUnless (if is_of_wrong_type tag value then Some WrongKind else (if not possible then Some ValueRange else None)) moment change
      (field_decision moment (allowed_change (typed_verdict tag possible value) change))
  typed_says None possible = refl
  typed_says (Some tag) true = by_same (tag_of value == tag)
    where
      by_same : (same : Bool) → IsTakenUnless (if not same then Some WrongKind else None) moment change (field_decision moment (allowed_change (if same then Ok tt else Err WrongKind) change))
      by_same true = refl
      by_same false = refl
  typed_says (Some tag) false = by_same (tag_of value == tag)
    where
      by_same : (same : Bool) → IsTakenUnless (if not same then Some WrongKind else Some ValueRange) moment change (field_decision moment (allowed_change (if same then Err ValueRange else Err WrongKind) change))
      by_same true = refl
      by_same false = refl

  in_service : (out : Bool) (tag : Option ℕ) (possible : Bool) →
      IsTakenUnless (if out then Some OutOfService else (if is_of_wrong_type tag value then Some WrongKind else (if not possible then Some ValueRange else None))) moment change
      (field_decision moment (allowed_change (if out then Err OutOfService else typed_verdict tag possible value) change))
  in_service true tag possible = refl
  in_service false tag possible = typed_says tag possible

  abbrev rows : Bool → Bool → Option Row → List (Bool × SetFault)
  rows known valued row =
      (not known, UnknownObject)
      ∷ (not valued, WrongKind)
      ∷ (is_out_of_service row, OutOfService)
      ∷ (is_of_wrong_type (tag_in (present_value row)) value, WrongKind)
      ∷ (is_out_of_range (present_value row) value, ValueRange)
      ∷ []

  row_says : (row : Option Row) (other : Bool) →
      IsTakenUnless (first_refusal (rows (is_some row || other) (is_some row) row)) moment change (decided moment (is_none row && other) (set_by_row row object value))
  row_says (Some row) other = in_service row.site.out_of_service (value_tag (kind_in row.site)) (is_present_value (kind_in row.site) row.site value)
  row_says None true = refl
  row_says None false = refl

  pub set_says : (row : Option Row) (other known valued : Bool) → known ≡ (is_some row || other) → valued ≡ is_some row →
      IsTakenUnless (first_refusal (rows known valued row)) moment change (decided moment (is_none row && other) (set_by_row row object value))
  set_says row other known valued k v =
      subst (λ (b : Bool). IsTakenUnless (first_refusal (rows b valued row)) moment change (decided moment (is_none row && other) (set_by_row row object value))) (sym k)
      (subst (λ (b : Bool). IsTakenUnless (first_refusal (rows (is_some row || other) b row)) moment change (decided moment (is_none row && other) (set_by_row row object value))) (sym v)
      (row_says row other))

-- ---- a fault

same_range : (a b c d e : Bool) → (a || (b || (c || (d || (e || false))))) ≡ ((((a || b) || c) || d) || e)
same_range true b c d e = refl
same_range false true c d e = refl
same_range false false true d e = refl
same_range false false false true e = refl
same_range false false false false true = refl
same_range false false false false false = refl

none_of_them : (number : ℕ) → is_no_field_reliability number ≡ not (is_field_fault number)
none_of_them number = ap not (same_range (number == 0) (number == 2) (number == 3) (number == 7) (number == 12))

module _ (moment : ℕ) (object : ObjectIdData) (reliability : ℕ) where
  abbrev fault : Change
  fault = fault_change object reliability

  abbrev fault_rows : Bool → Bool → Bool → List (Bool × SetFault)
  fault_rows known valued outside = (not known, UnknownObject) ∷ (not valued, WrongKind) ∷ (outside, ValueRange) ∷ []

  in_range : (within : Bool) → IsTakenUnless (if not within then Some ValueRange else None) moment fault (field_decision moment (if within then Ok fault else Err ValueRange))
  in_range true = refl
  in_range false = refl

  fault_row_says : (row : Option Row) (other : Bool) →
      IsTakenUnless (first_refusal (fault_rows (is_some row || other) (is_some row) (not (is_field_fault reliability)))) moment fault (decided moment (is_none row && other) (fault_by_row row object reliability))
  fault_row_says (Some row) other = in_range (is_field_fault reliability)
  fault_row_says None true = refl
  fault_row_says None false = refl

  pub fault_says : (row : Option Row) (other known valued outside : Bool) → known ≡ (is_some row || other) → valued ≡ is_some row → outside ≡ not (is_field_fault reliability) →
      IsTakenUnless (first_refusal (fault_rows known valued outside)) moment fault (decided moment (is_none row && other) (fault_by_row row object reliability))
  fault_says row other known valued outside k v o =
      subst (λ (b : Bool). IsTakenUnless (first_refusal (fault_rows b valued outside)) moment fault (decided moment (is_none row && other) (fault_by_row row object reliability))) (sym k)
      (subst (λ (b : Bool). IsTakenUnless (first_refusal (fault_rows (is_some row || other) b outside)) moment fault (decided moment (is_none row && other) (fault_by_row row object reliability))) (sym v)
      (subst (λ (b : Bool). IsTakenUnless (first_refusal (fault_rows (is_some row || other) (is_some row) b)) moment fault (decided moment (is_none row && other) (fault_by_row row object reliability))) (sym o)
      (fault_row_says row other)))

-- ---- the laws

pub refuses_sets_in_turn : RefusesSetsInTurn
refuses_sets_in_turn state history represents moment object value =
    let is = identified state history represents object in
    set_says moment object value (row_of object state.values.rows) (is_other_object state.site object)
    (list_any (is_object object) (identifiers_of state.site)) (list_any (λ (listed : ObjectSite). is_object object listed.object) state.site.objects)
    (has_it state object is) is.valued

pub refuses_faults_in_turn : RefusesFaultsInTurn
refuses_faults_in_turn state history represents moment object reliability =
    let is = identified state history represents object in
    fault_says moment object reliability (row_of object state.values.rows) (is_other_object state.site object)
    (list_any (is_object object) (identifiers_of state.site)) (list_any (λ (listed : ObjectSite). is_object object listed.object) state.site.objects) (is_no_field_reliability reliability)
    (has_it state object is) is.valued (none_of_them reliability)
