-- The first rule whose run has gone on for its delay is the first that is held.
use Rattle.std.proofs.Common.{◌≡◌, ◌≤◌, Bool, true, false, if◌then◌else◌, Option, Some, None, List, [], ◌∷◌, length, find, refl, ap, ◌∙◌, sym, arith}
use Rattle.std.specs.List.{slice_get}
use Rattle.std.specs.Option.{option_and_then}
use Rattle.bac_values.specs.declared.event_state.EventState.{EventState}
use Rattle.bac_values.specs.declared.event_state.EventState.TheVariants.{Normal, Fault, Offnormal, HighLimit, LowLimit}
use Rattle.algorithm_rules.specs.declared.table.Algorithm.{Algorithm}
use Rattle.algorithm_rules.specs.declared.table.Algorithm.TheVariants.{ChangeOfBitstring, ChangeOfState, CommandFailure, UnsignedRange, SignedOutOfRange, UnsignedOutOfRange, ChangeOfCharacterstring}
use Rattle.algorithm_rules.specs.declared.table.Rule.{Rule}
use Rattle.algorithm_rules.specs.Rules.{rules_of, match_rules, command_rules, limit_rules, range_rules}
use Rattle.event_machine.specs.Held.{is_held}
use Rattle.event_machine.specs.Detection.{Detection, rule_held}
use Rattle.event_machine.specs.Runs.{run_start_of, runs_of, has_gone_on}
use Rattle.event_machine.specs.AlarmSteps.{lasting, lasting_at, or_else, rule_lasting}

abbrev pick : (Rule → Bool) → Option Rule → Option Rule
pick test None = None
pick test (Some rule) = if test rule then Some rule else None

-- each rule is held at the newest point of a detection exactly where its run has gone on for its delay
abbrev pub RunsTell : Detection → Type 0
RunsTell d = (rule : Rule) → is_held rule d.cause d.newest d.older ≡ has_gone_on rule d.newest (run_start_of rule d)

pick_lasting : (d : Detection) (found : Option Rule) → RunsTell d →
    lasting d.newest found (option_and_then (λ rule. run_start_of rule d) found) ≡ pick (λ rule. is_held rule d.cause d.newest d.older) found
pick_lasting d None tell = refl
pick_lasting d (Some rule) tell = ap (λ b. if b then Some rule else None) (sym (tell rule))

-- the first of at most three rules that passes
find_three : (test : Rule → Bool) (rules : List Rule) → length rules ≤ 3 →
    find test rules ≡ or_else (pick test (slice_get rules 0)) (or_else (pick test (slice_get rules 1)) (pick test (slice_get rules 2)))
find_three test [] few = refl
find_three test (a ∷ []) few = elim (test a) as (λ b. (if b then Some a else None) ≡ or_else (if b then Some a else None) None) [ true ↦ refl | false ↦ refl ]
find_three test (a ∷ b ∷ []) few =
    elim (test a) as (λ x. (if x then Some a else (if test b then Some b else None)) ≡ or_else (if x then Some a else None) (or_else (if test b then Some b else None) None)) [
      | true ↦ refl
      | false ↦ elim (test b) as (λ y. (if y then Some b else None) ≡ or_else (if y then Some b else None) None) [ true ↦ refl | false ↦ refl ]
    ]
find_three test (a ∷ b ∷ c ∷ []) few =
    elim (test a) as (λ x. (if x then Some a else (if test b then Some b else (if test c then Some c else None))) ≡ or_else (if x then Some a else None) (or_else (if test b then Some b else None) (if test c then Some c else None))) [
      | true ↦ refl
      | false ↦ elim (test b) as (λ y. (if y then Some b else (if test c then Some c else None)) ≡ or_else (if y then Some b else None) (if test c then Some c else None)) [ true ↦ refl | false ↦ refl ]
    ]
find_three test (a ∷ b ∷ c ∷ e ∷ rest) few = absurd (omega arith)

few_match : (state : EventState) → length (match_rules state) ≤ 3
few_match Normal = omega arith
few_match Offnormal = omega arith
few_match Fault = omega arith
few_match HighLimit = omega arith
few_match LowLimit = omega arith

few_command : (state : EventState) → length (command_rules state) ≤ 3
few_command Normal = omega arith
few_command Offnormal = omega arith
few_command Fault = omega arith
few_command HighLimit = omega arith
few_command LowLimit = omega arith

few_limit : (state : EventState) → length (limit_rules state) ≤ 3
few_limit Normal = omega arith
few_limit Offnormal = omega arith
few_limit Fault = omega arith
few_limit HighLimit = omega arith
few_limit LowLimit = omega arith

few_range : (state : EventState) → length (range_rules state) ≤ 3
few_range Normal = omega arith
few_range Offnormal = omega arith
few_range Fault = omega arith
few_range HighLimit = omega arith
few_range LowLimit = omega arith

few_rules : (algorithm : Algorithm) (state : EventState) → length (rules_of algorithm state) ≤ 3
few_rules ChangeOfState state = few_match state
few_rules ChangeOfBitstring state = few_match state
few_rules ChangeOfCharacterstring state = few_match state
few_rules CommandFailure state = few_command state
few_rules SignedOutOfRange state = few_limit state
few_rules UnsignedOutOfRange state = few_limit state
few_rules UnsignedRange state = few_range state

pub rule_lasting-held : (algorithm : Algorithm) (d : Detection) → RunsTell d → rule_lasting algorithm d.newest d.state (runs_of algorithm d) ≡ rule_held algorithm d
rule_lasting-held algorithm d tell =
    let rule = slice_get (rules_of algorithm d.state) in
    let held = λ (rule : Rule). is_held rule d.cause d.newest d.older in
    let at = lasting_at algorithm d.newest d.state (runs_of algorithm d) in
    ap (λ r. or_else r (or_else (at 1) (at 2))) (pick_lasting d (rule 0) tell)
    ∙ (ap (λ r. or_else (pick held (rule 0)) (or_else r (at 2))) (pick_lasting d (rule 1) tell)
    ∙ (ap (λ r. or_else (pick held (rule 0)) (or_else (pick held (rule 1)) r)) (pick_lasting d (rule 2) tell)
    ∙ sym (find_three held (rules_of algorithm d.state) (few_rules algorithm d.state))))
