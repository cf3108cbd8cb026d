-- What is written to an event log is read back: Enable as it was written, and Record_Count as what the log holds then.
use Rattle.std.proofs.Common.{◌≡◌, ℕ, zero, Bool, true, false, true≢false, if◌then◌else◌, Option, Some, None, Result, Ok, Err, List, [], ◌∷◌, ◌++◌, length, refl, sym, ap, ◌∙◌, subst, arith}
use Rattle.std.specs.List.{flat_map}
use Rattle.std.specs.Option.{option_to_list}
use Rattle.std.proofs.lemmas.Bool.{eqb-true}
use Rattle.std.proofs.lemmas.Bool.Decides.{nat_tests}
use Rattle.bac_values.specs.Identifier.{ObjectIdData}
use Rattle.bac_values.specs.declared.value.Value.{Value}
use Rattle.bac_values.specs.declared.value.Value.TheVariants.{Bool as Truth, Unsigned}
use Rattle.bac_tags.specs.Writing.{written_value}
use Rattle.event_log.specs.History.{Call, Cleared, Recorded, Switched}
use Rattle.event_log.specs.Log.{EventLogState, LoggedEvent, is_taken, with_entry}
use Rattle.event_log.specs.declared.log_site.LogSite.{LogSite}
use Rattle.notify_class.specs.declared.class.Class.{Class}
use Rattle.object_table.specs.Rows.{is_object}
use Rattle.object_table.specs.Verdicts.{property_change}
use Rattle.enrollment.specs.declared.subject.Subject.{Subject}
use Rattle.property_values.specs.declared.content.Content.{Content}
use Rattle.property_values.specs.declared.content.ReadFault.{ReadFault}
use Rattle.property_values.specs.declared.log_properties.LogProperty.{LogProperty}
use Rattle.property_values.specs.declared.log_properties.LogProperty.TheVariants.{Enable, RecordCount}
use Rattle.property_values.specs.LogProperties.{known_log_content, log_content, property_of, takes_value, writable_tag, write_with}
use Rattle.property_values.specs.Properties.{one}
use Rattle.property_values.specs.Reading.{part_in, part_of}
use Rattle.alarm_core.specs.declared.event.Act.TheVariants.{Write}
use Rattle.alarm_core.specs.declared.site.Site.{Site}
use Rattle.alarm_core.specs.CoreSteps.{after_calls}
use Rattle.alarm_core.specs.History.{StateTransition, joined}
use Rattle.alarm_core.specs.Logs.{call_of_change, call_of_value, calls_by, record_of_transition, records_class, records_of}
use Rattle.alarm_core.specs.Notes.{addressed}
use Rattle.profile_laws.proofs.PassedTests.{no_index, passes}

-- ---- records alone

abbrev AreRecords : List Call → Type 0
AreRecords [] = Unit {0}
AreRecords (Recorded event ∷ later) = AreRecords later
AreRecords (Cleared ∷ later) = ⊥
AreRecords (Switched on ∷ later) = ⊥

both_are : (first second : List Call) → AreRecords first → AreRecords second → AreRecords (first ++ second)
both_are [] second a b = b
both_are (Recorded event ∷ later) second a b = both_are later second a b
both_are (Cleared ∷ later) second a b = absurd a
both_are (Switched on ∷ later) second a b = absurd a

all_are : {X : Type 0} (f : X → List Call) → ((x : X) → AreRecords (f x)) → (xs : List X) → AreRecords (flat_map f xs)
all_are f h [] = tt
all_are f h (x ∷ xs) = both_are (f x) (flat_map f xs) (h x) (all_are f h xs)

one_or_none : (event : LoggedEvent) (recorded : Bool) → AreRecords (if recorded then Recorded event ∷ [] else [])
one_or_none event true = tt
one_or_none event false = tt

records_are : (site : Site) (classes : List Class) (listed : LogSite) (transitions : List StateTransition) → AreRecords (records_of site classes listed transitions)
records_are site classes listed transitions =
    all_are (record_of_transition site classes listed) (λ transition. all_are _ (λ (to : Subject × Class). one_or_none _ (records_class listed to.1)) (option_to_list (addressed classes transition))) transitions

entry_keeps : (event : LoggedEvent) (log : EventLogState) (taken : Bool) → (if taken then with_entry event log else log).enabled ≡ log.enabled
entry_keeps event log true = refl
entry_keeps event log false = refl

keeps_enabled : (calls : List Call) → AreRecords calls → (log : EventLogState) → (after_calls calls log).enabled ≡ log.enabled
keeps_enabled [] are log = refl
keeps_enabled (Recorded event ∷ later) are log = keeps_enabled later are _ ∙ entry_keeps event log (is_taken log.enabled log.stops log.size (length log.records))
keeps_enabled (Cleared ∷ later) are log = absurd are
keeps_enabled (Switched on ∷ later) are log = absurd are

after_both : (first second : List Call) (log : EventLogState) → after_calls (first ++ second) log ≡ after_calls second (after_calls first log)
after_both [] second log = refl
after_both (call ∷ later) second log = after_both later second _

-- ---- a write

is_itself : (object : ObjectIdData) → is_object object object ≡ true
is_itself object = grind (arith, nat_tests)

-- the log after a write that two points surround
abbrev pub log_behind : Site → List Class → LogSite → ℕ → Value → List StateTransition → List (List StateTransition) → EventLogState → EventLogState
log_behind site classes listed number value first later log = after_calls (calls_by site classes listed (Write (property_change listed.object number value)) (first ∷ later)) log

module _ (site : Site) (classes : List Class) (listed : LogSite) (first : List StateTransition) (later : List (List StateTransition)) (log : EventLogState) where
  abbrev before : List Call
  before = records_of site classes listed first

  abbrev behind : List Call
  behind = records_of site classes listed (joined later)

  -- what is written stands between the records
  called : (number : ℕ) (value : Value) (call : Call) → call_of_value number value ≡ call ∷ [] → log_behind site classes listed number value first later log ≡ after_calls (call ∷ behind) (after_calls before log)
  called number value call e =
      let change = property_change listed.object number value in
      after_both before (call_of_change listed change ++ behind) log
      ∙ ap (λ (calls : List Call). after_calls (calls ++ behind) (after_calls before log))
      (ap (λ (b : Bool). if b then call_of_value number value else []) (is_itself listed.object) ∙ e)

  pub switched_on : (on : Bool) → (log_behind site classes listed 133 (Truth on) first later log).enabled ≡ on
  switched_on on =
      ap (λ (l : EventLogState). l.enabled) (called 133 (Truth on) (Switched on) refl) ∙ keeps_enabled behind (records_are site classes listed (joined later)) _

  pub emptied : joined later ≡ [] → (log_behind site classes listed 141 (Unsigned 0) first later log).records ≡ []
  emptied none =
      ap (λ (l : EventLogState). l.records) (called 141 (Unsigned 0) Cleared refl)
      ∙ ap (λ (transitions : List StateTransition). (after_calls (Cleared ∷ records_of site classes listed transitions) (after_calls before log)).records) none

-- ---- reading

enable_is : property_of 133 ≡ Some Enable
unfolding property_of
enable_is = refl

count_is : property_of 141 ≡ Some RecordCount
unfolding property_of
count_is = refl

pub read_enable : (listed : LogSite) (log : EventLogState) (on : Bool) → log.enabled ≡ on → part_in (log_content listed log 133) None ≡ Ok (written_value (Truth on))
read_enable listed log on e =
    ap (λ (p : Option LogProperty). part_in (known_log_content listed log p) None) enable_is ∙ ap (λ (b : Bool). part_of (one (Truth b)) None) e

pub read_count : (listed : LogSite) (log : EventLogState) → part_in (log_content listed log 141) None ≡ Ok (written_value (Unsigned (length log.records)))
read_count listed log = ap (λ (p : Option LogProperty). part_in (known_log_content listed log p) None) count_is

-- ---- what passed

known_passes : (number : ℕ) (content : Result Content ReadFault) (index : Option ℕ) (value : Value) → write_with content number index value ≡ Ok tt → (index ≡ None) × (takes_value number value ≡ true)
known_passes number (Err fault) index value h = absurd cc
known_passes number (Ok content) index value h =
    let passed = passes None index (writable_tag number) (takes_value number value) value h in
    (no_index index passed.within, passed.can)

pub log_passes : (listed : LogSite) (log : EventLogState) (number : ℕ) (index : Option ℕ) (value : Value) → write_with (log_content listed log number) number index value ≡ Ok tt →
    (index ≡ None) × (takes_value number value ≡ true)
log_passes listed log number index value h = known_passes number (log_content listed log number) index value h

-- a value that a log takes: Enable is a Boolean, and any other is a Record_Count of 0
pub record TakesEnable (number : ℕ) (value : Value) : Type 0 where
  pub on : Bool
  pub is : number ≡ 133
  pub value_is : value ≡ Truth on

pub takes_enable : (number : ℕ) (value : Value) → takes_value number value ≡ true → (number ≡ 141 → ⊥) → TakesEnable number value
takes_enable number (Truth on) takes other = record { on = on; is = eqb-true number 133 takes; value_is = refl }
takes_enable number (Unsigned zero) takes other = absurd (other (eqb-true number 141 takes))
takes_enable number _ takes other = absurd (true≢false (sym takes))

pub takes_zero : (value : Value) → takes_value 141 value ≡ true → value ≡ Unsigned 0
takes_zero (Truth on) takes = absurd (true≢false (sym takes))
takes_zero (Unsigned zero) takes = refl
takes_zero _ takes = absurd (true≢false (sym takes))

-- Enable as it was written
module _ (site : Site) (classes : List Class) (listed : LogSite) (first : List StateTransition) (later : List (List StateTransition)) (log : EventLogState) where
  abbrev ReadsBack : ℕ → Option ℕ → Value → Type 0
  ReadsBack number index value = part_in (log_content listed (log_behind site classes listed number value first later log) number) index ≡ Ok (written_value value)

  pub enable_back : (number : ℕ) (index : Option ℕ) (value : Value) → index ≡ None → TakesEnable number value → ReadsBack number index value
  enable_back number index value none takes =
      let on = takes.on in
      let read = read_enable listed (log_behind site classes listed 133 (Truth on) first later log) on (switched_on site classes listed first later log on) in
      subst (λ (n : ℕ). ReadsBack n index value) (sym takes.is)
      (subst (λ (v : Value). ReadsBack 133 index v) (sym takes.value_is) (subst (λ (i : Option ℕ). ReadsBack 133 i (Truth on)) (sym none) read))
