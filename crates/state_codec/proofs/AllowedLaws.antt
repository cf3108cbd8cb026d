-- Events that are allowed have records.
use Rattle.bac_values.specs.Limits.{most_destinations}
use Rattle.std.proofs.Common.{◌≡◌, ℕ, ◌≤◌, Bool, true, false, cond, ltb, IsTrue, IsSomeAnd, is_none, List, length, Option, Some, None, Result, Ok, Err, refl, inl, inr}
use Rattle.std.proofs.lemmas.Bool.{ltb-false}
use Rattle.bac_values.specs.Moments.{IsMoment}
use Rattle.bac_values.specs.declared.object_kind.ObjectKind.{ObjectKind}
use Rattle.bac_values.specs.declared.object_kind.ObjectKind.TheVariants.{BinaryValue, MultiStateValue, BitStringValue, CharacterStringValue, IntegerValue, PositiveIntegerValue}
use Rattle.bac_values.specs.declared.value.Value.{Value}
use Rattle.bac_values.specs.declared.value.Value.TheVariants as values
use Rattle.notify_class.specs.Edits.{edit_verdict}
use Rattle.notify_class.specs.declared.edit.EditFault.{EditFault}
use Rattle.notify_class.specs.Recipients.{DestinationData}
use Rattle.bac_values.specs.Address.{PeerData}
use Rattle.object_table.specs.declared.change.What.{What}
use Rattle.object_table.specs.declared.change.What.TheVariants.{Property, FieldFault}
use Rattle.object_table.specs.declared.object_property.ObjectProperty.{ObjectProperty}
use Rattle.object_table.specs.declared.object_property.ObjectProperty.TheVariants.{PresentValue, OutOfService, ReliabilityEvaluationInhibit, TimeDelay, TimeDelayNormal, HighLimit, LowLimit, Deadband, LimitEnable, AlarmValue, EventEnable, EventAlgorithmInhibit}
use Rattle.object_table.specs.declared.object_site.ObjectSite.{ObjectSite}
use Rattle.object_table.specs.Properties.{kind_in, property_of, has}
use Rattle.object_table.specs.Values as rows
use Rattle.object_table.specs.Writes as changes
use Rattle.enrollment.specs.declared.enrollment_property.EnrollmentProperty.{EnrollmentProperty}
use Rattle.enrollment.specs.declared.enrollment_property.EnrollmentProperty.TheVariants as enrolled
use Rattle.enrollment.specs.Properties as enrollment_properties
use Rattle.enrollment.specs.Verdicts as enrollment_values
use Rattle.enrollment.specs.Writes as enrollments
use Rattle.property_values.specs.LogProperties as logs
use Rattle.object_table.specs.declared.row.Row.{Row}
use Rattle.object_table.specs.Rows.{row_of}
use Rattle.enrollment.specs.declared.enrollment_site.EnrollmentSite.{EnrollmentSite}
use Rattle.enrollment.specs.Enrollments.{site_of}
use Rattle.alarm_core.specs.Logs.{SiteLogState, kept_log}
use Rattle.alarm_core.specs.State.{CoreState}
use Rattle.alarm_core.specs.Allowed.{IsAllowed}
use Rattle.alarm_core.specs.declared.event.Act.{Act}
use Rattle.alarm_core.specs.declared.event.Act.TheVariants.{Tick, Write, Ack, Pump, Answer, Edit}
use Rattle.alarm_core.specs.declared.event.Event.{Event}
use Rattle.state_codec.specs.Records.{IsRecorded, IsRecordedWhat, IsRecordedAct, HasRecord}
use Rattle.state_codec.specs.Types.{FitsValue, FitsWhat, FitsAct}
use Rattle.state_codec.proofs.Behind.{both_true}

-- the value is of a type that records have
abbrev HasType : Value → Type 0
HasType (values.Bool flag) = Unit {0}
HasType (values.Unsigned number) = Unit {0}
HasType (values.Signed number) = Unit {0}
HasType (values.Text text) = Unit {0}
HasType (values.Bits string) = Unit {0}
HasType (values.Enumerated number) = Unit {0}
HasType values.Null = ⊥
HasType (values.Object object) = ⊥
HasType (values.DateTime stamp) = ⊥
HasType (values.Opaque tag why) = ⊥

-- ---- a property takes only values of these types

truth_type : (value : Value) → rows.is_truth value ≡ true → HasType value
truth_type (values.Bool flag) e = tt
truth_type _ e = absurd cc

unsigned_type : (value : Value) → rows.is_unsigned value ≡ true → HasType value
unsigned_type (values.Unsigned number) e = tt
unsigned_type _ e = absurd cc

binary_type : (value : Value) → rows.is_binary_value value ≡ true → HasType value
binary_type (values.Enumerated number) e = tt
binary_type _ e = absurd cc

flags_type : (size : ℕ) (value : Value) → rows.are_flags size value ≡ true → HasType value
flags_type size (values.Bits string) e = tt
flags_type size _ e = absurd cc

length_type : (old value : Value) → rows.has_length_of old value ≡ true → HasType value
length_type (values.Bits first) (values.Bits second) e = tt
length_type _ _ e = absurd cc

text_type : (value : Value) → rows.is_text value ≡ true → HasType value
text_type (values.Text text) e = tt
text_type _ e = absurd cc

state_type : (states : ℕ) (value : Value) → rows.is_state states value ≡ true → HasType value
state_type states (values.Unsigned number) e = tt
state_type states _ e = absurd cc

number_type : (kind : Option ObjectKind) (value : Value) → rows.is_number kind value ≡ true → HasType value
number_type (Some IntegerValue) (values.Signed number) e = tt
number_type (Some PositiveIntegerValue) (values.Unsigned number) e = tt
number_type _ _ e = absurd cc

pub present_type : (kind : Option ObjectKind) (site : ObjectSite) (value : Value) → rows.is_present_value kind site value ≡ true → HasType value
present_type (Some IntegerValue) site value e = number_type (Some IntegerValue) value e
present_type (Some PositiveIntegerValue) site value e = number_type (Some PositiveIntegerValue) value e
present_type (Some BinaryValue) site value e = binary_type value e
present_type (Some MultiStateValue) site value e = state_type site.states value e
present_type (Some BitStringValue) site value e = length_type site.value value e
present_type (Some CharacterStringValue) site value e = text_type value e
present_type _ site value e = absurd cc

can_be_type : (kind : Option ObjectKind) (site : ObjectSite) (property : ObjectProperty) (value : Value) → rows.can_be kind site property value ≡ true → HasType value
can_be_type kind site PresentValue value e = present_type kind site value e
can_be_type kind site OutOfService value e = truth_type value e
can_be_type kind site ReliabilityEvaluationInhibit value e = truth_type value e
can_be_type kind site TimeDelay value e = unsigned_type value e
can_be_type kind site TimeDelayNormal value e = unsigned_type value e
can_be_type kind site HighLimit value e = number_type kind value e
can_be_type kind site LowLimit value e = number_type kind value e
can_be_type kind site Deadband value e = unsigned_type value e
can_be_type kind site LimitEnable value e = flags_type 2 value e
can_be_type kind site AlarmValue value e = binary_type value e
can_be_type kind site EventEnable value e = flags_type 3 value e
can_be_type kind site EventAlgorithmInhibit value e = truth_type value (both_true (is_none site.inhibit_ref) (rows.is_truth value) e).1
can_be_type kind site _ value e = absurd cc

known_type : (kind : Option ObjectKind) (site : ObjectSite) (property : Option ObjectProperty) (value : Value) → rows.takes_known kind site property value ≡ true → HasType value
known_type kind site (Some property) value e = can_be_type kind site property value (both_true (has kind site property) (rows.can_be kind site property value) e).1
known_type kind site None value e = absurd cc

enrolled_type : (site : EnrollmentSite) (property : EnrollmentProperty) (value : Value) → enrollment_values.can_be site property value ≡ true → HasType value
enrolled_type site enrolled.EventEnable value e = flags_type 3 value e
enrolled_type site enrolled.EventAlgorithmInhibit value e = truth_type value (both_true (is_none site.inhibit_ref) (rows.is_truth value) e).1
enrolled_type site _ value e = absurd cc

known_enrolled_type : (site : EnrollmentSite) (property : Option EnrollmentProperty) (value : Value) → enrollments.takes_known site property value ≡ true → HasType value
known_enrolled_type site (Some property) value e = enrolled_type site property value e
known_enrolled_type site None value e = absurd cc

log_type : (number : ℕ) (value : Value) → logs.takes_value number value ≡ true → HasType value
log_type number (values.Bool flag) e = tt
log_type number (values.Unsigned count) e = tt
log_type number _ e = absurd cc

-- ---- what is allowed has a record

pub value_has : (value : Value) → FitsValue value → HasType value → IsRecorded value
value_has (values.Bool flag) f t = tt
value_has (values.Unsigned number) f t = f
value_has (values.Signed number) f t = f
value_has (values.Text text) f t = f
value_has (values.Bits string) f t = f
value_has (values.Enumerated number) f t = f
value_has values.Null f t = absurd t
value_has (values.Object object) f t = absurd t
value_has (values.DateTime stamp) f t = absurd t
value_has (values.Opaque tag why) f t = absurd t

row_takes : (what : What) (site : ObjectSite) → FitsWhat what → IsTrue (changes.takes what site) → IsRecordedWhat what
row_takes (Property property value) site f e = (f.0, value_has value f.1 (known_type (kind_in site) site (property_of property.0) value e))
row_takes (FieldFault reliability) site f e = f

enrollment_takes : (what : What) (site : EnrollmentSite) → FitsWhat what → IsTrue (enrollments.takes what site) → IsRecordedWhat what
enrollment_takes (Property property value) site f e = (f.0, value_has value f.1 (known_enrolled_type site (enrollment_properties.property_of property.0) value e))
enrollment_takes (FieldFault reliability) site f e = f

log_takes : (what : What) → FitsWhat what → IsTrue (logs.takes what) → IsRecordedWhat what
log_takes (Property property value) f e = (f.0, value_has value f.1 (log_type property.0 value e))
log_takes (FieldFault reliability) f e = f

of_some : {A Q : Type 0} (o : Option A) (P : A → Type 0) → ((x : A) → P x → Q) → IsSomeAnd o P → Q
of_some (Some x) P f p = f x p
of_some None P f p = absurd p

no_fault : (b : Bool) (fault : EditFault) (others : Result (Unit {0}) EditFault) → cond b (Err fault) others ≡ Ok tt → b ≡ false
no_fault true fault others e = absurd cc
no_fault false fault others e = refl

few_recipients : (known : List PeerData) (recipients : List DestinationData) (members room : ℕ) → edit_verdict known recipients members room ≡ Ok tt → length recipients ≤ most_destinations
few_recipients known recipients members room e = ltb-false most_destinations (length recipients) (no_fault (ltb most_destinations (length recipients)) _ _ e)

act_has : (state : CoreState) (act : Act) → FitsAct act → IsAllowed state act → IsRecordedAct act
act_has state Tick f a = tt
act_has state (Write change) f a = (
  f.0,
  elim a [
    | inl taken ↦ elim taken [
      | inl row ↦ of_some (row_of change.object state.values.rows) (λ (x : Row). IsTrue (changes.takes change.what x.site)) (λ x e. row_takes change.what x.site f.1 e) row
      | inr enrollment ↦ of_some (site_of change.object state.values.enrollments) (λ (x : EnrollmentSite). IsTrue (enrollments.takes change.what x)) (λ x e. enrollment_takes change.what x f.1 e) enrollment
    ]
    | inr log ↦ of_some (kept_log change.object state.logs) (λ (x : SiteLogState). IsTrue (logs.takes change.what)) (λ x e. log_takes change.what f.1 e) log
  ],
)
act_has state (Ack object transition named) f a = f
act_has state Pump f a = tt
act_has state (Answer peer invoke kind) f a = f
act_has state (Edit number recipients) f a = (f.0, (few_recipients _ recipients _ _ a.1, f.1))

pub allowed_has_record : (state : CoreState) (event : Event) → FitsAct event.act → IsMoment event.moment → IsAllowed state event.act → HasRecord event
allowed_has_record state event fits moment allowed = record { moment = moment; act = act_has state event.act fits allowed }
