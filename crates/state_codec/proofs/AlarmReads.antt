-- Alarms: each is read exactly as it is written, and those that an object may have.
use Rattle.std.proofs.Common.{◌≡◌, ℕ, zero, suc, ◌^◌, ◌<◌, ◌≤◌, Bool, true, false, not, cond, eqb, ltb, leb, ◌&&◌, List, [], ◌∷◌, ◌++◌, length, All, IfSome, IsSome, Option, Some, None, refl, sym, ap, subst, ◌∙◌, arith}
use Rattle.std.specs.Int.{w32, w64, to_be_bytes}
use Rattle.std.specs.List.{AllZip, flat_map}
use Rattle.std.proofs.lemmas.Bool.{ltb-true, lt-ltb, leb-true, le-leb, eqb-true}
use Rattle.std.proofs.lemmas.List.Elements.{All-nil, All-cons, All-head, All-tail}
use Rattle.std.proofs.lemmas.Option.{cond_some}
use Rattle.bac_values.specs.EventStates.{number_of_state, state_of_number, transition_to, event_states}
use Rattle.bac_values.specs.Moments.{first_moment, last_moment}
use Rattle.bac_values.specs.Reliabilities.{number_of_reliability, reliability_of_number, reliabilities}
use Rattle.bac_values.specs.declared.event_state.EventState.{EventState}
use Rattle.bac_values.specs.declared.event_state.EventState.TheVariants.{Normal, Fault, Offnormal, HighLimit, LowLimit}
use Rattle.bac_values.specs.declared.reliability.Reliability.{Reliability}
use Rattle.bac_values.specs.declared.reliability.Reliability.TheVariants.{NoFaultDetected, OverRange, UnderRange, UnreliableOther, MultiStateFault, CommunicationFailure, MonitoredObjectFault}
use Rattle.bac_values.specs.declared.stamp.Stamp.{Stamp}
use Rattle.bac_values.specs.declared.transition.Transition.{Transition}
use Rattle.bac_values.specs.declared.transition.Transition.TheVariants.{ToOffnormal, ToFault, ToNormal}
use Rattle.algorithm_rules.specs.Rules.{rules_of}
use Rattle.algorithm_rules.specs.declared.table.Algorithm.{Algorithm}
use Rattle.algorithm_rules.specs.declared.table.Rule.{Rule}
use Rattle.event_machine.specs.AlarmRecord.{is_same}
use Rattle.event_machine.specs.Runs.{places}
use Rattle.event_machine.specs.Summary.{AlarmState, transitions}
use Rattle.event_machine.specs.declared.run.Run.{Run}
use Rattle.alarm_core.specs.SiteStates.{IsLastState, IsRunAt, is_state_of}
use Rattle.state_codec.specs.Records.{written_flag, written_flags}
use Rattle.state_codec.specs.Snapshots.{no_state, written_alarm, written_cause, written_last, written_run, written_stamp}
use Rattle.state_codec.specs.ReadingSteps.{◌>>=◌, octet_at, octets_at, number_at, flag_at, flags_at, state_at}
use Rattle.state_codec.specs.SnapshotSteps.{TracesData, and_at, led_at, stamp_of, stamp_at, stamps_at, entered_by, last_state_of, last_state_at, last_states_at, wants_cause, cause_of, cause_at, reliability_at, may_start, run_of, run_at, runs_at, traces_at, alarm_with, alarm_at}
use Rattle.state_codec.specs.SnapshotLaws.{FitsRun, FitsRunAt, HasAlarm, IsStamp}
use Rattle.state_codec.proofs.Behind.{Reads, bind_some, some_is, both_true, reads_last}
use Rattle.state_codec.proofs.PartLaws.{written_octet, IsOctet, as_they_are, HasLength, IsBelow, IsAny, AreThree, octet_reads, octets_reads, u32_reads, u64_reads, flag_reads, flags_reads}
use Rattle.state_codec.proofs.ActLaws.{found_passes, state_reads, written_state}
use Rattle.state_codec.proofs.Together.{reads_pair, reads_made, reads_where, reads_three}

-- ---- states

IsLed : Algorithm → EventState → Type 0
IsLed algorithm state = is_state_of algorithm state ≡ true

led_reads : (algorithm : Algorithm) → Reads (led_at algorithm) written_state (IsLed algorithm)
unfolding led_at IsLed
led_reads algorithm = reads_where state_at (is_state_of algorithm) written_state IsAny (IsLed algorithm) state_reads (λ a f t. t) (λ a f. (tt, f))

-- ---- stamps

pub stamp_reads : Reads stamp_at written_stamp IsStamp
unfolding stamp_at
stamp_reads = reads_made (octets_at 8) stamp_of (λ stamp. stamp.octets) as_they_are (HasLength 8) written_stamp IsStamp (octets_reads 8) (λ octets long. (long, refl)) (λ stamp long. (long, refl, refl))

abbrev AreStamps : List Stamp → Type 0
AreStamps stamps = AllZip (λ (guide : Unit {0}). IsStamp) (tt ∷ tt ∷ tt ∷ []) stamps

stamps_reads : Reads stamps_at (flat_map written_stamp) AreStamps
stamps_reads = reads_three (λ (guide : Unit {0}). stamp_at) written_stamp (λ guide. IsStamp) (λ guide. stamp_reads) tt tt tt

-- ---- the states that transitions entered

same_transition : (a b : Transition) → is_same a b ≡ true → b ≡ a
same_transition ToOffnormal ToOffnormal e = refl
same_transition ToOffnormal ToFault e = absurd cc
same_transition ToOffnormal ToNormal e = absurd cc
same_transition ToFault ToOffnormal e = absurd cc
same_transition ToFault ToFault e = refl
same_transition ToFault ToNormal e = absurd cc
same_transition ToNormal ToOffnormal e = absurd cc
same_transition ToNormal ToFault e = absurd cc
same_transition ToNormal ToNormal e = refl

is_itself : (a : Transition) → is_same a a ≡ true
is_itself ToOffnormal = refl
is_itself ToFault = refl
is_itself ToNormal = refl

number_is : (octet : ℕ) (state : EventState) → state_of_number octet ≡ Some state → number_of_state state ≡ octet
number_is octet state e = eqb-true _ _ (found_passes (λ s. eqb (number_of_state s) octet) event_states state e)

has_number : (state : EventState) → (state_of_number (number_of_state state) ≡ Some state) × (eqb (number_of_state state) no_state ≡ false) × (number_of_state state < 256)
has_number Normal = (refl, refl, omega arith)
has_number Fault = (refl, refl, omega arith)
has_number Offnormal = (refl, refl, omega arith)
has_number HighLimit = (refl, refl, omega arith)
has_number LowLimit = (refl, refl, omega arith)

last_state_on : (transition : Transition) (octet : ℕ) (test : Bool) (last : Option EventState) → eqb octet no_state ≡ test → cond test (Some None) (state_of_number octet >>= entered_by transition) ≡ Some last → IsLastState transition last × (written_last last ≡ octet ∷ [])
last_state_on transition octet true last is e =
    subst (λ (o : Option EventState). IsLastState transition o × (written_last o ≡ octet ∷ [])) (some_is None last e) (tt, ap (λ (n : ℕ). n ∷ []) (sym (eqb-true octet no_state is)))
last_state_on transition octet false last is e =
    let b = bind_some (state_of_number octet) (entered_by transition) last e in
    let g = cond_some (is_same transition (transition_to b.0)) (Some b.0) last b.2 in
    subst (λ (o : Option EventState). IsLastState transition o × (written_last o ≡ octet ∷ [])) g.1 (same_transition transition (transition_to b.0) g.0, ap (λ (n : ℕ). n ∷ []) (number_is octet b.0 b.1))

last_state_back : (transition : Transition) (last : Option EventState) → IsLastState transition last → (octet : ℕ) × (octet < 256) × (last_state_of transition octet ≡ Some last) × (written_last last ≡ octet ∷ [])
last_state_back transition None is = (255, omega arith, refl, refl)
last_state_back transition (Some state) is =
    let n = has_number state in
    let same : is_same transition (transition_to state) ≡ true = ap (is_same transition) is ∙ is_itself transition in
    (number_of_state state, n.2, rw (n.1, n.0, same) refl, refl)

last_state_reads : (transition : Transition) → Reads (last_state_at transition) written_last (IsLastState transition)
unfolding last_state_at
last_state_reads transition =
    reads_last octet_at (last_state_of transition) written_octet IsOctet written_last (IsLastState transition) octet_reads (λ octet last lt e. last_state_on transition octet (eqb octet no_state) last refl e) (last_state_back transition)

last_states_reads : Reads last_states_at (flat_map written_last) (AllZip IsLastState transitions)
last_states_reads = reads_three last_state_at written_last IsLastState last_state_reads ToOffnormal ToFault ToNormal

-- ---- causes

abbrev IsCause : ℕ → EventState → Option ℕ → Type 0
IsCause values state cause = IfSome cause (λ place. place < values) × (state ≡ Offnormal → 0 < values → IsSome cause)

unwanted : (values : ℕ) (state : EventState) → not (wants_cause values state) ≡ true → state ≡ Offnormal → 0 < values → ⊥
unwanted values Normal e is lt = cc
unwanted values Fault e is lt = cc
unwanted values Offnormal e is lt = absurd (let t : ltb 0 values ≡ true = lt-ltb 0 values lt in let u : not true ≡ true = subst (λ (b : Bool). not b ≡ true) t e in cc)
unwanted values HighLimit e is lt = cc
unwanted values LowLimit e is lt = cc

cause_forth : (values : ℕ) (state : EventState) (number : ℕ) (cause : Option ℕ) → number < 2 ^ 32 → cause_of values state number ≡ Some cause → IsCause values state cause × (written_cause cause ≡ to_be_bytes w32 number)
cause_forth values state zero cause lt e =
    let g = cond_some (not (wants_cause values state)) None cause e in
    subst (λ (o : Option ℕ). IsCause values state o × (written_cause o ≡ to_be_bytes w32 0)) g.1 ((tt, λ is some. absurd (unwanted values state g.0 is some)), refl)
cause_forth values state (suc place) cause lt e =
    let g = cond_some (ltb place values) (Some place) cause e in
    subst (λ (o : Option ℕ). IsCause values state o × (written_cause o ≡ to_be_bytes w32 (suc place))) g.1 ((ltb-true _ _ g.0, λ is some. refl), ap (to_be_bytes w32) (omega arith))

wanted : (values : ℕ) (state : EventState) → (state ≡ Offnormal → 0 < values → IsSome {T = ℕ} None) → not (wants_cause values state) ≡ true
wanted values Normal none = refl
wanted values Fault none = refl
wanted values HighLimit none = refl
wanted values LowLimit none = refl
wanted zero Offnormal none = refl
wanted (suc values) Offnormal none = absurd (let e = none refl (omega arith) in cc)

cause_back : (values : ℕ) (state : EventState) → values ≤ 32 → (cause : Option ℕ) → IsCause values state cause → (number : ℕ) × (number < 2 ^ 32) × (cause_of values state number ≡ Some cause) × (written_cause cause ≡ to_be_bytes w32 number)
cause_back values state few None is = (0, omega arith, ap (λ (t : Bool). cond t (Some None) None) (wanted values state is.1), refl)
cause_back values state few (Some place) is = (suc place, omega (arith, few, is.0), ap (λ (t : Bool). cond t (Some (Some place)) None) (lt-ltb _ _ is.0), ap (to_be_bytes w32) (omega arith))

cause_reads : (values : ℕ) (state : EventState) → values ≤ 32 → Reads (cause_at values state) written_cause (IsCause values state)
unfolding cause_at
cause_reads values state few = reads_last (number_at w32) (cause_of values state) (to_be_bytes w32) (IsBelow (2 ^ 32)) written_cause (IsCause values state) u32_reads (cause_forth values state) (cause_back values state few)

-- ---- reliabilities

abbrev written_reliability : Reliability → List ℕ
written_reliability reliability = number_of_reliability reliability ∷ []

reliability_forth : (octet : ℕ) (reliability : Reliability) → octet < 256 → reliability_of_number octet ≡ Some reliability → Unit {0} × (written_reliability reliability ≡ octet ∷ [])
reliability_forth octet reliability lt e = (tt, ap (λ (n : ℕ). n ∷ []) (eqb-true _ _ (found_passes (λ r. eqb (number_of_reliability r) octet) reliabilities reliability e)))

reliability_back : (reliability : Reliability) → Unit {0} → (octet : ℕ) × (octet < 256) × (reliability_of_number octet ≡ Some reliability) × (written_reliability reliability ≡ octet ∷ [])
reliability_back NoFaultDetected f = (0, omega arith, refl, refl)
reliability_back OverRange f = (2, omega arith, refl, refl)
reliability_back UnderRange f = (3, omega arith, refl, refl)
reliability_back UnreliableOther f = (7, omega arith, refl, refl)
reliability_back MultiStateFault f = (9, omega arith, refl, refl)
reliability_back CommunicationFailure f = (12, omega arith, refl, refl)
reliability_back MonitoredObjectFault f = (14, omega arith, refl, refl)

reliability_reads : Reads reliability_at written_reliability IsAny
unfolding reliability_at
reliability_reads = reads_last octet_at reliability_of_number written_octet IsOctet written_reliability IsAny octet_reads reliability_forth reliability_back

-- ---- runs

abbrev IsRun : List Rule → ℕ → ℕ → Option Run → Type 0
IsRun rules last place run = IsRunAt rules last place run × IfSome run FitsRun

abbrev written_parts : Bool × (ℕ × ℕ) → List ℕ
written_parts x = written_flag x.0 ++ (to_be_bytes w64 x.1.0 ++ to_be_bytes w32 x.1.1)

abbrev AreParts : Bool × (ℕ × ℕ) → Type 0
AreParts x = Unit {0} × ((x.1.0 < 2 ^ 64) × (x.1.1 < 2 ^ 32))

abbrev run_with : ℕ → ℕ → Run
run_with start key = record { start = start; key = key }

run_forth : (rules : List Rule) (last place : ℕ) (x : Bool × (ℕ × ℕ)) (run : Option Run) → AreParts x → run_of rules last place x ≡ Some run → IsRun rules last place run × (written_run run ≡ written_parts x)
run_forth rules last place (true, (start, key)) run f e =
    let g = cond_some (may_start rules last place start) (Some (run_with start key)) run e in
    let t = both_true (ltb place (length rules)) (leb first_moment start && (leb start last_moment && leb start last)) g.0 in
    let u = both_true (leb first_moment start) (leb start last_moment && leb start last) t.1 in
    let v = both_true (leb start last_moment) (leb start last) u.1 in
    subst (λ (o : Option Run). IsRun rules last place o × (written_run o ≡ written_parts (true, (start, key)))) g.1
    ((record { within = ltb-true _ _ t.0; range = (leb-true _ _ u.0, leb-true _ _ v.0); past = leb-true _ _ v.1 }, f.1.1), refl)
run_forth rules last place (false, (start, key)) run f e =
    let g = cond_some (eqb start 0 && eqb key 0) None run e in
    let t = both_true (eqb start 0) (eqb key 0) g.0 in
    subst (λ (o : Option Run). IsRun rules last place o × (written_run o ≡ written_parts (false, (start, key)))) g.1
    ((tt, tt), ap (λ (n : ℕ). written_parts (false, (n, 0))) (sym (eqb-true start 0 t.0)) ∙ ap (λ (n : ℕ). written_parts (false, (start, n))) (sym (eqb-true key 0 t.1)))

run_back : (rules : List Rule) (last place : ℕ) (run : Option Run) → IsRun rules last place run → (x : Bool × (ℕ × ℕ)) × AreParts x × (run_of rules last place x ≡ Some run) × (written_run run ≡ written_parts x)
run_back rules last place None is = ((false, (0, 0)), (tt, (omega arith, omega arith)), refl, refl)
run_back rules last place (Some run) is =
    ((true, (run.start, run.key)), (tt, (omega (arith, is.0.range.1), is.1)), rw (lt-ltb _ _ is.0.within, le-leb _ _ is.0.range.0, le-leb _ _ is.0.range.1, le-leb _ _ is.0.past) refl, refl)

run_reads : (algorithm : Algorithm) (state : EventState) (last place : ℕ) → Reads (run_at algorithm state last place) written_run (IsRun (rules_of algorithm state) last place)
unfolding run_at
run_reads algorithm state last place =
    reads_last (and_at flag_at λ flag. and_at (number_at w64) λ start. number_at w32) (run_of (rules_of algorithm state) last place) written_parts AreParts written_run (IsRun (rules_of algorithm state) last place)
    (reads_pair flag_at (λ flag. and_at (number_at w64) λ start. number_at w32) written_flag (λ (x : ℕ × ℕ). to_be_bytes w64 x.0 ++ to_be_bytes w32 x.1) IsAny (λ flag x. (x.0 < 2 ^ 64) × (x.1 < 2 ^ 32)) flag_reads
    (λ flag any. reads_pair (number_at w64) (λ start. number_at w32) (to_be_bytes w64) (to_be_bytes w32) (IsBelow (2 ^ 64)) (λ start. IsBelow (2 ^ 32)) u64_reads (λ start lt. u32_reads)))
    (run_forth (rules_of algorithm state) last place) (run_back (rules_of algorithm state) last place)

pub runs_reads : (algorithm : Algorithm) (state : EventState) (last : ℕ) → Reads (runs_at algorithm state last) (flat_map written_run) (AllZip (IsRun (rules_of algorithm state) last) places)
runs_reads algorithm state last = reads_three (run_at algorithm state last) written_run (IsRun (rules_of algorithm state) last) (run_reads algorithm state last) 0 1 2

-- ---- alarms

abbrev written_traces : TracesData → List ℕ
written_traces x =
    written_flags x.0 ++ (flat_map written_stamp x.1.0 ++ (flat_map written_last x.1.1.0 ++ (written_cause x.1.1.1.0 ++ (written_reliability x.1.1.1.1.0 ++ flat_map written_run x.1.1.1.1.1))))

abbrev AreTraces : Algorithm → ℕ → ℕ → EventState → TracesData → Type 0
AreTraces algorithm values last state x =
    AreThree x.0 × (AreStamps x.1.0 × (AllZip IsLastState transitions x.1.1.0 × (IsCause values state x.1.1.1.0 × (Unit {0} × AllZip (IsRun (rules_of algorithm state) last) places x.1.1.1.1.1))))

traces_reads : (algorithm : Algorithm) (values last : ℕ) (state : EventState) → values ≤ 32 → Reads (traces_at algorithm values last state) written_traces (AreTraces algorithm values last state)
unfolding traces_at
traces_reads algorithm values last state few =
    reads_pair flags_at _ written_flags (λ (x : List Stamp × (List (Option EventState) × (Option ℕ × (Reliability × List (Option Run))))). flat_map written_stamp x.0 ++ (flat_map written_last x.1.0 ++ (written_cause x.1.1.0 ++ (written_reliability x.1.1.1.0 ++ flat_map written_run x.1.1.1.1)))) AreThree
    (λ a x. AreStamps x.0 × (AllZip IsLastState transitions x.1.0 × (IsCause values state x.1.1.0 × (Unit {0} × AllZip (IsRun (rules_of algorithm state) last) places x.1.1.1.1)))) flags_reads (λ acked is_acked.
    reads_pair stamps_at _ (flat_map written_stamp) (λ (x : List (Option EventState) × (Option ℕ × (Reliability × List (Option Run)))). flat_map written_last x.0 ++ (written_cause x.1.0 ++ (written_reliability x.1.1.0 ++ flat_map written_run x.1.1.1))) AreStamps
    (λ a x. AllZip IsLastState transitions x.0 × (IsCause values state x.1.0 × (Unit {0} × AllZip (IsRun (rules_of algorithm state) last) places x.1.1.1))) stamps_reads (λ stamps are_stamps.
    reads_pair last_states_at _ (flat_map written_last) (λ (x : Option ℕ × (Reliability × List (Option Run))). written_cause x.0 ++ (written_reliability x.1.0 ++ flat_map written_run x.1.1)) (AllZip IsLastState transitions)
    (λ a x. IsCause values state x.0 × (Unit {0} × AllZip (IsRun (rules_of algorithm state) last) places x.1.1)) last_states_reads (λ lasts are_lasts.
    reads_pair (cause_at values state) _ written_cause (λ (x : Reliability × List (Option Run)). written_reliability x.0 ++ flat_map written_run x.1) (IsCause values state)
    (λ a x. Unit {0} × AllZip (IsRun (rules_of algorithm state) last) places x.1) (cause_reads values state few) (λ cause is_cause.
    reads_pair reliability_at _ written_reliability (flat_map written_run) IsAny (λ a. AllZip (IsRun (rules_of algorithm state) last) places) reliability_reads (λ reliability any.
    runs_reads algorithm state last)))))

stamps_all : (stamps : List Stamp) → AreStamps stamps → (length stamps ≡ 3) × All IsStamp stamps
stamps_all (a ∷ b ∷ c ∷ []) are = (refl, All-cons IsStamp a (b ∷ c ∷ []) are.0 (All-cons IsStamp b (c ∷ []) are.1.0 (All-cons IsStamp c [] are.1.1.0 (All-nil IsStamp))))
stamps_all [] are = absurd are
stamps_all (a ∷ []) are = absurd are.1
stamps_all (a ∷ b ∷ []) are = absurd are.1.1
stamps_all (a ∷ b ∷ c ∷ d ∷ more) are = absurd are.1.1.1

all_stamps : (stamps : List Stamp) → length stamps ≡ 3 → All IsStamp stamps → AreStamps stamps
all_stamps (a ∷ b ∷ c ∷ []) long all =
    let t = All-tail IsStamp a (b ∷ c ∷ []) all in
    let u = All-tail IsStamp b (c ∷ []) t in
    (All-head IsStamp a (b ∷ c ∷ []) all, (All-head IsStamp b (c ∷ []) t, (All-head IsStamp c [] u, tt)))
all_stamps [] long all = absurd (omega (arith, long))
all_stamps (a ∷ []) long all = absurd (omega (arith, long))
all_stamps (a ∷ b ∷ []) long all = absurd (omega (arith, long))
all_stamps (a ∷ b ∷ c ∷ d ∷ more) long all = absurd (omega (arith, long))

runs_split : (rules : List Rule) (last : ℕ) (guides : List ℕ) (runs : List (Option Run)) → AllZip (IsRun rules last) guides runs → AllZip (IsRunAt rules last) guides runs × All FitsRunAt runs
runs_split rules last [] [] are = (tt, All-nil FitsRunAt)
runs_split rules last [] (run ∷ runs) are = absurd are
runs_split rules last (place ∷ guides) [] are = absurd are
runs_split rules last (place ∷ guides) (run ∷ runs) are =
    let t = runs_split rules last guides runs are.1 in
    ((are.0.0, t.0), All-cons FitsRunAt run runs are.0.1 t.1)

runs_join : (rules : List Rule) (last : ℕ) (guides : List ℕ) (runs : List (Option Run)) → AllZip (IsRunAt rules last) guides runs → All FitsRunAt runs → AllZip (IsRun rules last) guides runs
runs_join rules last [] [] are fit = tt
runs_join rules last [] (run ∷ runs) are fit = absurd are
runs_join rules last (place ∷ guides) [] are fit = absurd are
runs_join rules last (place ∷ guides) (run ∷ runs) are fit = ((are.0, All-head FitsRunAt run runs fit), runs_join rules last guides runs are.1 (All-tail FitsRunAt run runs fit))

abbrev traces_of : AlarmState → EventState × TracesData
traces_of alarm = (alarm.state, (alarm.acked, (alarm.stamps, (alarm.last_states, (alarm.cause, (alarm.last_reliability, alarm.runs))))))

abbrev written_all : EventState × TracesData → List ℕ
written_all x = written_state x.0 ++ written_traces x.1

alarm_forth : (algorithm : Algorithm) (values last : ℕ) (x : EventState × TracesData) → IsLed algorithm x.0 × AreTraces algorithm values last x.0 x.1 → HasAlarm algorithm values last (alarm_with x) × (written_alarm (alarm_with x) ≡ written_all x)
unfolding IsLed
alarm_forth algorithm values last x f =
    let s = stamps_all x.1.1.0 f.1.1.0 in
    let r = runs_split (rules_of algorithm x.0) last places x.1.1.1.1.1.1 f.1.1.1.1.1.1 in
    (record { own = record { state = f.0; acked = f.1.0; stamps = s.0; last_states = f.1.1.1.0; cause = f.1.1.1.1.0.0; caused = f.1.1.1.1.0.1; runs = r.0 }; fits = record { stamps = s.1; runs = r.1 } }, refl)

alarm_back : (algorithm : Algorithm) (values last : ℕ) (alarm : AlarmState) → HasAlarm algorithm values last alarm
    → (IsLed algorithm alarm.state × AreTraces algorithm values last alarm.state (traces_of alarm).1) × (alarm_with (traces_of alarm) ≡ alarm) × (written_alarm alarm ≡ written_all (traces_of alarm))
unfolding IsLed
alarm_back algorithm values last alarm f =
    ((f.own.state, (f.own.acked, (all_stamps alarm.stamps f.own.stamps f.fits.stamps, (f.own.last_states, ((f.own.cause, f.own.caused), (tt, runs_join (rules_of algorithm alarm.state) last places alarm.runs f.own.runs f.fits.runs)))))), refl, refl)

-- an alarm is read exactly as it is written, and those that an object may have
pub alarm_reads : (algorithm : Algorithm) (values last : ℕ) → values ≤ 32 → Reads (alarm_at algorithm values last) written_alarm (HasAlarm algorithm values last)
unfolding alarm_at
alarm_reads algorithm values last few =
    reads_made (and_at (led_at algorithm) (traces_at algorithm values last)) alarm_with traces_of written_all (λ x. IsLed algorithm x.0 × AreTraces algorithm values last x.0 x.1) written_alarm (HasAlarm algorithm values last)
    (reads_pair (led_at algorithm) (traces_at algorithm values last) written_state written_traces (IsLed algorithm) (AreTraces algorithm values last) (led_reads algorithm) (λ state led. traces_reads algorithm values last state few))
    (alarm_forth algorithm values last) (alarm_back algorithm values last)
