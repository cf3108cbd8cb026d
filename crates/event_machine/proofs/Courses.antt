-- What is known of a detection after a course.
use Rattle.std.proofs.Common.{◌≡◌, ℕ, ◌==◌, ◌&&◌, Bool, true, false, if◌then◌else◌, Option, Some, None, List, [], ◌∷◌, find, refl, ap, ◌∙◌, sym, arith}
use Rattle.std.proofs.lemmas.Bool.Decides.{nat_tests}
use Rattle.bac_values.specs.declared.event_state.EventState.{EventState}
use Rattle.bac_values.specs.declared.event_state.EventState.TheVariants.{Normal, Fault, Offnormal, HighLimit, LowLimit}
use Rattle.bac_values.specs.declared.reliability.Reliability.{Reliability}
use Rattle.bac_values.specs.Reliabilities.{number_of_reliability}
use Rattle.algorithm_rules.specs.declared.table.Algorithm.{Algorithm}
use Rattle.algorithm_rules.specs.declared.table.Algorithm.TheVariants.{ChangeOfBitstring, ChangeOfState, CommandFailure, UnsignedRange, SignedOutOfRange, UnsignedOutOfRange, ChangeOfCharacterstring}
use Rattle.algorithm_rules.specs.declared.table.Rule.{Rule}
use Rattle.algorithm_rules.specs.Rules.{rules_of, match_rules, command_rules, limit_rules, range_rules}
use Rattle.event_machine.specs.Points.{Point, Incident, Looked, Acknowledged, newest_of, NeverFalls, IsCourse}
use Rattle.event_machine.specs.Held.{is_held}
use Rattle.bac_values.specs.EventStates.{is_fault, is_normal}
use Rattle.event_machine.specs.Detection.{Detection, sees, stays, enters, fault_target, fault_by, inhibited_step, rule_held, rule_by, later_step, and_then, detection_at}

-- no point of a course is before the one before it
pub never_falls : (first : Point) (later : List Incident) → IsCourse first later → NeverFalls first later
never_falls first [] course = tt
never_falls first (Looked point ∷ older) course = (course.0.not_before, never_falls first older course.1)
never_falls first (Acknowledged transition ∷ older) course = never_falls first older course

-- no rule leads to FAULT
abbrev pub NoneFails : List Rule → Type 0
NoneFails [] = Unit {0}
NoneFails (rule ∷ rules) = (is_fault rule.target ≡ false) × NoneFails rules

match_fine : (state : EventState) → NoneFails (match_rules state)
match_fine Normal = (refl, tt)
match_fine Offnormal = (refl, (refl, tt))
match_fine Fault = tt
match_fine HighLimit = tt
match_fine LowLimit = tt

command_fine : (state : EventState) → NoneFails (command_rules state)
command_fine Normal = (refl, tt)
command_fine Offnormal = (refl, tt)
command_fine Fault = tt
command_fine HighLimit = tt
command_fine LowLimit = tt

limit_fine : (state : EventState) → NoneFails (limit_rules state)
limit_fine Normal = (refl, (refl, tt))
limit_fine Offnormal = tt
limit_fine Fault = tt
limit_fine HighLimit = (refl, (refl, (refl, tt)))
limit_fine LowLimit = (refl, (refl, (refl, tt)))

range_fine : (state : EventState) → NoneFails (range_rules state)
range_fine Normal = (refl, (refl, tt))
range_fine Offnormal = tt
range_fine Fault = tt
range_fine HighLimit = (refl, (refl, tt))
range_fine LowLimit = (refl, (refl, tt))

pub none_fails : (algorithm : Algorithm) (state : EventState) → NoneFails (rules_of algorithm state)
none_fails ChangeOfState state = match_fine state
none_fails ChangeOfBitstring state = match_fine state
none_fails ChangeOfCharacterstring state = match_fine state
none_fails CommandFailure state = command_fine state
none_fails SignedOutOfRange state = limit_fine state
none_fails UnsignedOutOfRange state = limit_fine state
none_fails UnsignedRange state = range_fine state

-- what is found among such rules doesn't lead to FAULT
abbrev pub Fine : Option Rule → Type 0
Fine None = Unit {0}
Fine (Some rule) = is_fault rule.target ≡ false

fine_by : (b : Bool) (rule : Rule) (rest : Option Rule) → is_fault rule.target ≡ false → Fine rest → Fine (if b then Some rule else rest)
fine_by true rule rest one more = one
fine_by false rule rest one more = more

found_fine : (test : Rule → Bool) (rules : List Rule) → NoneFails rules → Fine (find test rules)
found_fine test [] fine = tt
found_fine test (rule ∷ rules) fine = fine_by (test rule) rule (find test rules) fine.0 (found_fine test rules fine.1)

held_fine : (algorithm : Algorithm) (d : Detection) → Fine (rule_held algorithm d)
held_fine algorithm d = found_fine (λ rule. is_held rule d.cause d.newest d.older) (rules_of algorithm d.state) (none_fails algorithm d.state)

-- there are no rules in FAULT
no_rules : (algorithm : Algorithm) → rules_of algorithm Fault ≡ []
no_rules ChangeOfState = refl
no_rules ChangeOfBitstring = refl
no_rules ChangeOfCharacterstring = refl
no_rules CommandFailure = refl
no_rules SignedOutOfRange = refl
no_rules UnsignedOutOfRange = refl
no_rules UnsignedRange = refl

pub no_rules_in_fault : (algorithm : Algorithm) (state : EventState) → is_fault state ≡ true → rules_of algorithm state ≡ []
no_rules_in_fault algorithm Fault e = no_rules algorithm
no_rules_in_fault algorithm Normal e = absurd cc
no_rules_in_fault algorithm Offnormal e = absurd cc
no_rules_in_fault algorithm HighLimit e = absurd cc
no_rules_in_fault algorithm LowLimit e = absurd cc

-- the target of the fault step, by whether there is no fault, whether the reliability is the last one, and whether the state is FAULT
abbrev target_by : Bool → Bool → Bool → Option EventState
target_by sound same fault = if sound then (if fault then Some Normal else None) else (if fault && same then None else Some Fault)

-- the state behind a fault step
abbrev pub state_by : Option EventState → EventState → EventState
state_by None state = state
state_by (Some to) state = to

settles_by : (sound same fault : Bool) (state : EventState) → is_fault state ≡ fault → target_by sound true (is_fault (state_by (target_by sound same fault) state)) ≡ None
settles_by true same true state is = refl
settles_by true same false state is = rw is refl
settles_by false true true state is = rw is refl
settles_by false false true state is = refl
settles_by false true false state is = refl
settles_by false false false state is = refl

abbrev pub FaultStays : Reliability → EventState → Type 0
FaultStays reliability state = fault_target reliability reliability state ≡ None

pub itself : (n : ℕ) → (n == n) ≡ true
itself n = grind (arith, nat_tests)

-- as it is with a reliability that is the last one
settled_from : (reliability : Reliability) (state : EventState) → target_by (number_of_reliability reliability == 0) true (is_fault state) ≡ None → FaultStays reliability state
settled_from reliability state none =
    ap (λ b. target_by (number_of_reliability reliability == 0) b (is_fault state)) (itself (number_of_reliability reliability)) ∙ none

settled_to : (reliability : Reliability) (state : EventState) → FaultStays reliability state → target_by (number_of_reliability reliability == 0) true (is_fault state) ≡ None
settled_to reliability state settled =
    ap (λ b. target_by (number_of_reliability reliability == 0) b (is_fault state)) (sym (itself (number_of_reliability reliability))) ∙ settled

pub fault_settles : (now last : Reliability) (state : EventState) → FaultStays now (state_by (fault_target now last state) state)
fault_settles now last state =
    settled_from now (state_by (fault_target now last state) state)
    (settles_by (number_of_reliability now == 0) (number_of_reliability now == number_of_reliability last) (is_fault state) state refl)

-- from one state that isn't FAULT to another
pub fault_stays_beside : (reliability : Reliability) (a b : EventState) → is_fault a ≡ false → is_fault b ≡ false → FaultStays reliability a → FaultStays reliability b
fault_stays_beside reliability a b free_a free_b settled =
    settled_from reliability b
    (ap (λ f. target_by (number_of_reliability reliability == 0) true f) (free_b ∙ sym free_a) ∙ settled_to reliability a settled)

-- what is known of a detection with its newest point
pub record IsKnown (newest : Point) (d : Detection) : Type 0 where
  pub newest_is : d.newest ≡ newest
  pub alone : d.newest.inhibited ≡ true → is_fault d.state ≡ false → d.older ≡ []
  pub settled : fault_target d.reliability d.reliability d.state ≡ None

known_inhibited : (normal : Bool) (d : Detection) → is_fault d.state ≡ false → FaultStays d.reliability d.state →
    IsKnown d.newest (if normal then stays (record d { older = [] }) else enters Normal false d).detection
known_inhibited true d free settled = record { newest_is = refl; alone = λ i f. refl; settled = settled }
known_inhibited false d free settled =
    record { newest_is = refl; alone = λ i f. refl; settled = fault_stays_beside d.reliability d.state Normal free refl settled }

known_rule : (found : Option Rule) (d : Detection) → Fine found → d.newest.inhibited ≡ false → is_fault d.state ≡ false → FaultStays d.reliability d.state → IsKnown d.newest (rule_by found d).detection
known_rule None d fine not_inhibited free settled = record { newest_is = refl; alone = λ i f. absurd cc; settled = settled }
known_rule (Some rule) d fine not_inhibited free settled =
    record { newest_is = refl; alone = λ i f. refl; settled = fault_stays_beside d.reliability d.state rule.target free fine settled }

known_free : (inhibited : Bool) (found : Option Rule) (d : Detection) → Fine found → d.newest.inhibited ≡ inhibited → is_fault d.state ≡ false → FaultStays d.reliability d.state →
    IsKnown d.newest (if inhibited then inhibited_step d else rule_by found d).detection
known_free true found d fine is free settled = known_inhibited (is_normal d.state) d free settled
known_free false found d fine is free settled = known_rule found d fine is free settled

known_later : (fault : Bool) (found : Option Rule) (d : Detection) → Fine found → is_fault d.state ≡ fault → FaultStays d.reliability d.state →
    IsKnown d.newest (if fault then stays d else (if d.newest.inhibited then inhibited_step d else rule_by found d)).detection
known_later true found d fine is settled = record { newest_is = refl; alone = λ i f. absurd cc; settled = settled }
known_later false found d fine is settled = known_free d.newest.inhibited found d fine refl is settled

known_look : (to : Option EventState) (algorithm : Algorithm) (point : Point) (d : Detection) → FaultStays point.reliability (state_by to d.state) →
    IsKnown point (and_then (fault_by to (sees point d)) (later_step algorithm)).detection
known_look None algorithm point d settled =
    known_later (is_fault d.state) (rule_held algorithm (sees point d)) (sees point d) (held_fine algorithm (sees point d)) refl settled
known_look (Some to) algorithm point d settled =
    let moved = (enters to true (sees point d)).detection in
    known_later (is_fault to) (rule_held algorithm moved) moved (held_fine algorithm moved) refl settled

pub known : (algorithm : Algorithm) (first : Point) (later : List Incident) → IsKnown (newest_of first later) (detection_at algorithm first later)
unfolding detection_at
known algorithm first [] = record { newest_is = refl; alone = λ i f. refl; settled = refl }
known algorithm first (Looked point ∷ older) =
    let d = detection_at algorithm first older in
    known_look (fault_target point.reliability d.reliability d.state) algorithm point d (fault_settles point.reliability d.reliability d.state)
known algorithm first (Acknowledged transition ∷ older) = known algorithm first older
