-- What is written to a value object is read back.
use Rattle.std.proofs.Common.{◌≡◌, ℕ, Bool, true, false, true≢false, ◌&&◌, if◌then◌else◌, Option, Some, None, IsSome, is_some, Result, Ok, Err, List, refl, sym, ap, ◌∙◌, subst}
use Rattle.std.specs.Option.{is_none}
use Rattle.std.proofs.lemmas.Bool.{cond-true, eqb-true}
use Rattle.bac_values.specs.Identifier.{ObjectIdData, kind_of}
use Rattle.bac_values.specs.BitString.{BitsData}
use Rattle.bac_values.specs.declared.object_kind.ObjectKind.{ObjectKind}
use Rattle.bac_values.specs.declared.object_kind.ObjectKind.TheVariants.{IntegerValue, PositiveIntegerValue}
use Rattle.bac_values.specs.declared.value.Value.{Value}
use Rattle.bac_values.specs.declared.value.Value.TheVariants.{Bits, Bool as Truth, Signed, Unsigned}
use Rattle.bac_tags.specs.Writing.{written_value}
use Rattle.event_machine.specs.Summary.{AlarmState}
use Rattle.object_table.specs.declared.object_property.ObjectProperty.{ObjectProperty}
use Rattle.object_table.specs.declared.object_property.ObjectProperty.TheVariants.{AlarmValue, AlarmValues, Deadband, EventAlgorithmInhibit, EventEnable, EventMessageTexts, EventMessageTextsConfig, EventTimeStamps, FaultValues, HighLimit, LimitEnable, LowLimit, OutOfService, PresentValue, ReliabilityEvaluationInhibit, TimeDelay, TimeDelayNormal}
use Rattle.object_table.specs.declared.object_site.ObjectSite.{ObjectSite}
use Rattle.object_table.specs.declared.row.Row.{Row}
use Rattle.object_table.specs.Properties.{has, has_limits, is_binary, kind_in, length_of, property_of}
use Rattle.object_table.specs.Rows.{is_object}
use Rattle.object_table.specs.Values.{can_be, is_truth}
use Rattle.object_table.specs.Verdicts.{and_then, index_verdict, known_verdict, property_change, value_verdict, writable_tag, write_verdict}
use Rattle.object_table.specs.Writes.{changed, set_by, set_known}
use Rattle.enrollment.specs.Subjects.{inhibited_by}
use Rattle.property_values.specs.declared.content.Content.{Content}
use Rattle.property_values.specs.declared.content.ReadFault.{ReadFault}
use Rattle.property_values.specs.Properties.{known_content, one, row_content, unknown_property}
use Rattle.property_values.specs.Reading.{part_in, part_of}
use Rattle.alarm_core.proofs.Stays.{written_keeps, written_row}
use Rattle.profile_laws.proofs.FlagsBack.{three_back, two_back}
use Rattle.profile_laws.proofs.PassedTests.{inhibited_alone, no_index, passes, second_true, there as is_there}
use Rattle.profile_laws.proofs.SoundValues.{IsSound}

-- a row whose property was set
abbrev set_row : ObjectProperty → Value → Row → Row
set_row property value row = record row { site = set_known property value row.site }

-- what a property is then, with these rows
abbrev content : Option ObjectKind → AlarmState → List Row → ObjectProperty → Value → Row → Result Content ReadFault
content kind alarm rows property value row =
    let after = set_row property value row in
    known_content kind alarm (inhibited_by after.site.inhibit_ref after.site.inhibit rows) after (Some property)

abbrev wrong : Result Content ReadFault
wrong = Err unknown_property

first_true : (a b : Bool) → (a && b) ≡ true → a ≡ true
first_true true b h = refl
first_true false b h = cc

high_reads : (kind : Option ObjectKind) (alarm : AlarmState) (rows : List Row) (row : Row) (value : Value) → has kind row.site HighLimit ≡ true → can_be kind row.site HighLimit value ≡ true → content kind alarm rows HighLimit value row ≡ Ok (one value)
high_reads (Some IntegerValue) alarm rows row (Signed limit) there can = cond-true (is_some row.site.class && true) (Ok (one (Signed limit))) wrong there
high_reads (Some PositiveIntegerValue) alarm rows row (Unsigned limit) there can = cond-true (is_some row.site.class && true) (Ok (one (Unsigned limit))) wrong there
high_reads kind alarm rows row value there can = absurd (true≢false (sym can))

low_reads : (kind : Option ObjectKind) (alarm : AlarmState) (rows : List Row) (row : Row) (value : Value) → has kind row.site LowLimit ≡ true → can_be kind row.site LowLimit value ≡ true → content kind alarm rows LowLimit value row ≡ Ok (one value)
low_reads (Some IntegerValue) alarm rows row (Signed limit) there can = cond-true (is_some row.site.class && true) (Ok (one (Signed limit))) wrong there
low_reads (Some PositiveIntegerValue) alarm rows row (Unsigned limit) there can = cond-true (is_some row.site.class && true) (Ok (one (Unsigned limit))) wrong there
low_reads kind alarm rows row value there can = absurd (true≢false (sym can))

-- the string of its flags
abbrev of_string : BitsData → Result Content ReadFault
of_string string = Ok (one (Bits string))

abbrev of_truth : Bool → Result Content ReadFault
of_truth truth = Ok (one (Truth truth))

row_reads : (kind : Option ObjectKind) (alarm : AlarmState) (rows : List Row) (row : Row) (property : ObjectProperty) (value : Value) →
    has kind row.site property ≡ true → can_be kind row.site property value ≡ true → IsSome (writable_tag kind row.site property) → IsSound value → content kind alarm rows property value row ≡ Ok (one value)
row_reads kind alarm rows row PresentValue value there can tag sound = refl
row_reads kind alarm rows row OutOfService (Truth truth) there can tag sound = refl
row_reads kind alarm rows row OutOfService value there can tag sound = absurd (true≢false (sym can))
row_reads kind alarm rows row ReliabilityEvaluationInhibit (Truth truth) there can tag sound = refl
row_reads kind alarm rows row ReliabilityEvaluationInhibit value there can tag sound = absurd (true≢false (sym can))
row_reads kind alarm rows row TimeDelay (Unsigned seconds) there can tag sound = cond-true (is_some row.site.class) (Ok (one (Unsigned seconds))) wrong there
row_reads kind alarm rows row TimeDelay value there can tag sound = absurd (true≢false (sym can))
row_reads kind alarm rows row TimeDelayNormal (Unsigned seconds) there can tag sound =
    cond-true (is_some row.site.class && true) (Ok (one (Unsigned seconds))) wrong (ap (λ b. b && true) (first_true (is_some row.site.class) (is_some row.site.time_delay_normal) there))
row_reads kind alarm rows row TimeDelayNormal value there can tag sound = absurd (true≢false (sym can))
row_reads kind alarm rows row HighLimit value there can tag sound = high_reads kind alarm rows row value there can
row_reads kind alarm rows row LowLimit value there can tag sound = low_reads kind alarm rows row value there can
row_reads kind alarm rows row Deadband (Unsigned deadband) there can tag sound = cond-true (is_some row.site.class && has_limits kind) (Ok (one (Unsigned deadband))) wrong there
row_reads kind alarm rows row Deadband value there can tag sound = absurd (true≢false (sym can))
row_reads kind alarm rows row LimitEnable (Bits string) there can tag sound =
    cond-true (is_some row.site.class && has_limits kind) _ wrong there ∙ ap of_string (two_back string (eqb-true string.size 2 can) sound)
row_reads kind alarm rows row LimitEnable value there can tag sound = absurd (true≢false (sym can))
row_reads kind alarm rows row AlarmValue value there can tag sound = cond-true (is_some row.site.class && is_binary kind) (Ok (one value)) wrong there
row_reads kind alarm rows row EventEnable (Bits string) there can tag sound = cond-true (is_some row.site.class) _ wrong there ∙ ap of_string (three_back string (eqb-true string.size 3 can) sound)
row_reads kind alarm rows row EventEnable value there can tag sound = absurd (true≢false (sym can))
row_reads kind alarm rows row EventAlgorithmInhibit (Truth truth) there can tag sound = cond-true (is_some row.site.class) _ wrong there ∙ ap of_truth (inhibited_alone row.site.inhibit_ref truth rows can)
row_reads kind alarm rows row EventAlgorithmInhibit value there can tag sound = absurd (true≢false (sym (second_true (is_none row.site.inhibit_ref) (is_truth value) can)))
row_reads kind alarm rows row _ value there can tag sound = absurd (true≢false (sym tag))

-- what may be written is no array
no_array : (kind : Option ObjectKind) (site : ObjectSite) (property : ObjectProperty) → IsSome (writable_tag kind site property) → length_of kind site property ≡ None
no_array kind site AlarmValues tag = absurd (true≢false (sym tag))
no_array kind site FaultValues tag = absurd (true≢false (sym tag))
no_array kind site EventTimeStamps tag = absurd (true≢false (sym tag))
no_array kind site EventMessageTexts tag = absurd (true≢false (sym tag))
no_array kind site EventMessageTextsConfig tag = absurd (true≢false (sym tag))
no_array kind site _ tag = refl

known_back : (kind : Option ObjectKind) (alarm : AlarmState) (rows : List Row) (row : Row) (property : Option ObjectProperty) (index : Option ℕ) (value : Value) →
    known_verdict kind row.site property index value ≡ Ok tt → IsSound value →
    let site = set_by property value row.site in
    part_in (known_content kind alarm (inhibited_by site.inhibit_ref site.inhibit rows) (record row { site = site }) property) index ≡ Ok (written_value value)
known_back kind alarm rows row None index value h sound = absurd cc
known_back kind alarm rows row (Some property) index value h sound =
    let size = length_of kind row.site property in
    let tag = writable_tag kind row.site property in
    let possible = can_be kind row.site property value in
    let is = is_there (has kind row.site property) (and_then (index_verdict size index) (value_verdict tag possible value)) h in
    let passed = passes size index tag possible value is.1 in
    let none = no_index index (subst (λ (s : Option ℕ). index_verdict s index ≡ Ok tt) (no_array kind row.site property passed.writable) passed.within) in
    ap (λ (c : Result Content ReadFault). part_in c index) (row_reads kind alarm rows row property value is.0 passed.can passed.writable sound)
    ∙ ap (λ (i : Option ℕ). part_of (one value) i) none

pub row_back : (alarm : AlarmState) (rows : List Row) (row : Row) (object : ObjectIdData) (number : ℕ) (index : Option ℕ) (value : Value) →
    is_object object row.site.object ≡ true → write_verdict row.site number index value ≡ Ok tt → IsSound value →
    let after = written_row (property_change object number value) row in
    part_in (row_content alarm (inhibited_by after.site.inhibit_ref after.site.inhibit rows) after number) index ≡ Ok (written_value value)
row_back alarm rows row object number index value same h sound =
    let change = property_change object number value in
    let after = written_row change row in
    ap (λ (o : ObjectIdData). part_in (known_content (kind_of o.number) alarm (inhibited_by after.site.inhibit_ref after.site.inhibit rows) after (property_of number)) index) (written_keeps change row).object
    ∙ (ap (λ (b : Bool). let then_row = if b then changed change.what row else row in part_in (known_content (kind_in row.site) alarm (inhibited_by then_row.site.inhibit_ref then_row.site.inhibit rows) then_row (property_of number)) index) same
    ∙ known_back (kind_in row.site) alarm rows row (property_of number) index value h sound)
