-- An object that is in FAULT only where its reliability shows a fault moves at most once as it is looked at.
use Rattle.std.proofs.Common.{◌≡◌, ◌≤◌, Bool, true, false, true≢false, ◌==◌, ◌&&◌, if◌then◌else◌, Option, Some, None, [], length, refl, sym, ap, subst, inl, inr, arith}
use Rattle.std.specs.List.{All}
use Rattle.std.specs.Option.{IfSome}
use Rattle.std.proofs.lemmas.Bool.{cases_Bool}
use Rattle.std.proofs.lemmas.List.Elements.{All-from_recursion, All-nil}
use Rattle.bac_values.specs.Reliabilities.{number_of_reliability}
use Rattle.bac_values.specs.declared.event_state.EventState.{EventState}
use Rattle.bac_values.specs.declared.event_state.EventState.TheVariants.{Normal, Fault, Offnormal, HighLimit, LowLimit}
use Rattle.bac_values.specs.declared.reliability.Reliability.{Reliability}
use Rattle.algorithm_rules.specs.Rules.{command_rules, limit_rules, match_rules, range_rules, rules_of}
use Rattle.algorithm_rules.specs.declared.table.Algorithm.{Algorithm}
use Rattle.algorithm_rules.specs.declared.table.Algorithm.TheVariants.{ChangeOfBitstring, ChangeOfState, CommandFailure, UnsignedRange, SignedOutOfRange, UnsignedOutOfRange, ChangeOfCharacterstring}
use Rattle.algorithm_rules.specs.declared.table.Rule.{Rule}
use Rattle.bac_values.specs.EventStates.{is_fault, is_normal}
use Rattle.event_machine.specs.Detection.{Detection, enters, fault_by, fault_target, inhibited_step, look_step, rule_by, rule_held, sees, stays}
use Rattle.event_machine.specs.Held.{is_held}
use Rattle.event_machine.specs.AlarmSteps as next
use Rattle.event_machine.specs.AlarmSteps.{goes_on, inhibited_change, later_change, next_look, relied_on, rule_lasting}
use Rattle.event_machine.specs.Points.{Point}
use Rattle.event_machine.specs.Summary.{AlarmState}
use Rattle.alarm_core.proofs.NotesGo.{found}

-- ---- no rule leads to FAULT

IsNotFault : Rule → Type 0
IsNotFault rule = is_fault rule.target ≡ false

match_leads : (state : EventState) → All IsNotFault (match_rules state)
unfolding IsNotFault
match_leads Normal = All-from_recursion IsNotFault (match_rules Normal) (refl, tt)
match_leads Offnormal = All-from_recursion IsNotFault (match_rules Offnormal) (refl, (refl, tt))
match_leads _ = All-nil IsNotFault

command_leads : (state : EventState) → All IsNotFault (command_rules state)
unfolding IsNotFault
command_leads Normal = All-from_recursion IsNotFault (command_rules Normal) (refl, tt)
command_leads Offnormal = All-from_recursion IsNotFault (command_rules Offnormal) (refl, tt)
command_leads _ = All-nil IsNotFault

limit_leads : (state : EventState) → All IsNotFault (limit_rules state)
unfolding IsNotFault
limit_leads Normal = All-from_recursion IsNotFault (limit_rules Normal) (refl, (refl, tt))
limit_leads HighLimit = All-from_recursion IsNotFault (limit_rules HighLimit) (refl, (refl, (refl, tt)))
limit_leads LowLimit = All-from_recursion IsNotFault (limit_rules LowLimit) (refl, (refl, (refl, tt)))
limit_leads _ = All-nil IsNotFault

range_leads : (state : EventState) → All IsNotFault (range_rules state)
unfolding IsNotFault
range_leads Normal = All-from_recursion IsNotFault (range_rules Normal) (refl, (refl, tt))
range_leads HighLimit = All-from_recursion IsNotFault (range_rules HighLimit) (refl, (refl, tt))
range_leads LowLimit = All-from_recursion IsNotFault (range_rules LowLimit) (refl, (refl, tt))
range_leads _ = All-nil IsNotFault

rules_lead : (algorithm : Algorithm) (state : EventState) → All IsNotFault (rules_of algorithm state)
rules_lead ChangeOfState state = match_leads state
rules_lead ChangeOfBitstring state = match_leads state
rules_lead ChangeOfCharacterstring state = match_leads state
rules_lead CommandFailure state = command_leads state
rules_lead SignedOutOfRange state = limit_leads state
rules_lead UnsignedOutOfRange state = limit_leads state
rules_lead UnsignedRange state = range_leads state

held_leads : (algorithm : Algorithm) (d : Detection) → IfSome (rule_held algorithm d) IsNotFault
held_leads algorithm d = found IsNotFault (λ rule. is_held rule d.cause d.newest d.older) (rules_of algorithm d.state) (rules_lead algorithm d.state)

-- ---- behind the fault step: at most one move, and none into FAULT

rule_few : (lasting : Option Rule) (algorithm : Algorithm) (point : Point) (alarm : AlarmState) → length (next.rule_by lasting algorithm point alarm).moves ≤ 1
rule_few None algorithm point alarm = omega arith
rule_few (Some rule) algorithm point alarm = omega arith

inhibited_few : (normal : Bool) (algorithm : Algorithm) (point : Point) (alarm : AlarmState) → length (if normal then next.stays alarm else next.enters algorithm point Normal false alarm).moves ≤ 1
inhibited_few true algorithm point alarm = omega arith
inhibited_few false algorithm point alarm = omega arith

free_few : (inhibited : Bool) (lasting : Option Rule) (algorithm : Algorithm) (point : Point) (alarm : AlarmState) →
    length (if inhibited then inhibited_change algorithm point alarm else next.rule_by lasting algorithm point alarm).moves ≤ 1
free_few true lasting algorithm point alarm = inhibited_few (is_normal alarm.state) algorithm point alarm
free_few false lasting algorithm point alarm = rule_few lasting algorithm point alarm

later_few : (fault : Bool) (lasting : Option Rule) (algorithm : Algorithm) (point : Point) (alarm : AlarmState) →
    length (if fault then next.stays alarm else (if point.inhibited then inhibited_change algorithm point alarm else next.rule_by lasting algorithm point alarm)).moves ≤ 1
later_few true lasting algorithm point alarm = omega arith
later_few false lasting algorithm point alarm = free_few point.inhibited lasting algorithm point alarm

rule_free : (held : Option Rule) (d : Detection) → IfSome held IsNotFault → is_fault d.state ≡ false → is_fault (rule_by held d).detection.state ≡ false
unfolding IsNotFault
rule_free None d leads free = free
rule_free (Some rule) d leads free = leads

inhibited_free : (normal : Bool) (d : Detection) → is_fault d.state ≡ false → is_fault (if normal then stays (record d { older = [] }) else enters Normal false d).detection.state ≡ false
inhibited_free true d free = free
inhibited_free false d free = refl

free_free : (inhibited : Bool) (held : Option Rule) (d : Detection) → IfSome held IsNotFault → is_fault d.state ≡ false → is_fault (if inhibited then inhibited_step d else rule_by held d).detection.state ≡ false
free_free true held d leads free = inhibited_free (is_normal d.state) d free
free_free false held d leads free = rule_free held d leads free

later_free : (fault : Bool) (held : Option Rule) (d : Detection) → IfSome held IsNotFault → is_fault d.state ≡ false →
    is_fault (if fault then stays d else (if d.newest.inhibited then inhibited_step d else rule_by held d)).detection.state ≡ false
later_free true held d leads free = free
later_free false held d leads free = free_free d.newest.inhibited held d leads free

-- ---- the whole look

-- an object is in FAULT only where its reliability shows a fault
abbrev pub FaultShows : EventState → Reliability → Type 0
FaultShows state reliability = is_fault state ≡ true → (number_of_reliability reliability == 0) ≡ false

OnlyFault : Option EventState → Type 0
OnlyFault to = IfSome to (λ state. state ≡ Fault)

target_by : (none fault same : Bool) → (fault ≡ true → none ≡ false) → OnlyFault (if none then (if fault then Some Normal else None) else (if fault && same then None else Some Fault))
unfolding OnlyFault
target_by true true same shows = absurd (true≢false (shows refl))
target_by true false same shows = tt
target_by false true true shows = tt
target_by false true false shows = refl
target_by false false same shows = refl

fault_or_none : (now last : Reliability) (state : EventState) → FaultShows state now → OnlyFault (fault_target now last state)
fault_or_none now last state shows = target_by (number_of_reliability now == 0) (is_fault state) (number_of_reliability now == number_of_reliability last) shows

once_by : (to : Option EventState) → OnlyFault to → (algorithm : Algorithm) (point : Point) (alarm : AlarmState) →
    length (next.and_then (next.fault_by to algorithm point alarm) (later_change algorithm point)).moves ≤ 1
unfolding OnlyFault
once_by None only algorithm point alarm =
    let before = goes_on algorithm point alarm in
    later_few (is_fault before.state) (rule_lasting algorithm point before.state before.runs) algorithm point before
once_by (Some to) only algorithm point alarm =
    subst (λ state. length (next.and_then (next.fault_by (Some state) algorithm point alarm) (later_change algorithm point)).moves ≤ 1) (sym only) (omega arith)

pub moves_once : (algorithm : Algorithm) (point : Point) (alarm : AlarmState) → FaultShows alarm.state point.reliability → length (next_look algorithm point alarm).moves ≤ 1
moves_once algorithm point alarm shows =
    once_by (fault_target point.reliability alarm.last_reliability alarm.state) (fault_or_none point.reliability alarm.last_reliability alarm.state shows) algorithm point (relied_on point alarm)

-- where there is no fault, the fault step ends FAULT
sound_free : (fault : Bool) (d : Detection) → is_fault d.state ≡ fault → is_fault (fault_by (if fault then Some Normal else None) d).detection.state ≡ false
sound_free true d is = refl
sound_free false d is = is

look_free : (algorithm : Algorithm) (point : Point) (d : Detection) → (number_of_reliability point.reliability == 0) ≡ true → is_fault (look_step algorithm point d).detection.state ≡ false
look_free algorithm point d none =
    let to : fault_target point.reliability d.reliability d.state ≡ (if is_fault d.state then Some Normal else None) =
    ap (λ b. if b then (if is_fault d.state then Some Normal else None) else (if is_fault d.state && number_of_reliability point.reliability == number_of_reliability d.reliability then None else Some Fault)) none in
    let before = (fault_by (fault_target point.reliability d.reliability d.state) (sees point d)).detection in
    let free : is_fault before.state ≡ false =
    subst (λ target. is_fault (fault_by target (sees point d)).detection.state ≡ false) (sym to) (sound_free (is_fault d.state) (sees point d) refl) in
    later_free (is_fault before.state) (rule_held algorithm before) before (held_leads algorithm before) free

pub look_shows : (algorithm : Algorithm) (point : Point) (d : Detection) → FaultShows (look_step algorithm point d).detection.state point.reliability
look_shows algorithm point d in_fault = elim (cases_Bool (number_of_reliability point.reliability == 0)) [
  | inl none ↦ let free = look_free algorithm point d none in absurd cc
  | inr shows ↦ shows
]
