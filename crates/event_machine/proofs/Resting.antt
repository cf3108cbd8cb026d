-- The test of rest says that nothing moves.
use Rattle.std.proofs.Common.{◌≡◌, ◌↔◌, ◌&&◌, ◌||◌, Bool, true, false, IsTrue, if◌then◌else◌, is_none, Option, Some, None, List, [], ◌∷◌, ◌++◌, refl, ◌∙◌, sym}
use Rattle.bac_values.specs.declared.event_state.EventState.{EventState}
use Rattle.bac_values.specs.declared.event_state.EventState.TheVariants.{Normal}
use Rattle.algorithm_rules.specs.declared.table.Algorithm.{Algorithm}
use Rattle.algorithm_rules.specs.declared.table.Rule.{Rule}
use Rattle.event_machine.specs.Points.{Point, Incident, Looked, IsCourse}
use Rattle.bac_values.specs.EventStates.{is_fault, is_normal}
use Rattle.event_machine.specs.Detection.{fault_target, moves_at}
use Rattle.event_machine.specs.AlarmSteps.{Change, stays, enters, goes_on, next_runs, rule_by, rule_lasting, fault_by, relied_on, later_change, next_look}
use Rattle.event_machine.specs.RestSteps.{rests}
use Rattle.event_machine.specs.Summary.{AlarmState, IsAfter}
use Rattle.event_machine.proofs.Keeping.{moves_look}

abbrev IsStill : Bool → Change → Type 0
IsStill still change = IsTrue still ↔ (change.moves ≡ [])

nothing_moves : (alarm : AlarmState) → IsStill true (stays alarm)
nothing_moves alarm = (λ t. refl, λ e. cc)

something_moves : (algorithm : Algorithm) (point : Point) (to : EventState) (by_fault : Bool) (alarm : AlarmState) → IsStill false (enters algorithm point to by_fault alarm)
something_moves algorithm point to by_fault alarm = (λ t. absurd cc, λ e. absurd cc)

rule_still : (rule : Option Rule) (algorithm : Algorithm) (point : Point) (alarm : AlarmState) → IsStill (is_none rule) (rule_by rule algorithm point alarm)
rule_still None algorithm point alarm = nothing_moves alarm
rule_still (Some rule) algorithm point alarm = something_moves algorithm point rule.target false alarm

inhibited_still : (normal : Bool) (algorithm : Algorithm) (point : Point) (alarm : AlarmState) →
    IsStill normal (if normal then stays alarm else enters algorithm point Normal false alarm)
inhibited_still true algorithm point alarm = nothing_moves alarm
inhibited_still false algorithm point alarm = something_moves algorithm point Normal false alarm

later_still : (fault inhibited normal : Bool) (rule : Option Rule) (algorithm : Algorithm) (point : Point) (alarm : AlarmState) →
    IsStill (fault || (if inhibited then normal else is_none rule))
    (if fault then stays alarm else (if inhibited then (if normal then stays alarm else enters algorithm point Normal false alarm) else rule_by rule algorithm point alarm))
later_still true inhibited normal rule algorithm point alarm = nothing_moves alarm
later_still false true normal rule algorithm point alarm = inhibited_still normal algorithm point alarm
later_still false false normal rule algorithm point alarm = rule_still rule algorithm point alarm

look_still : (target : Option EventState) (algorithm : Algorithm) (point : Point) (alarm : AlarmState) →
    IsTrue (is_none target && (is_fault alarm.state || (if point.inhibited then is_normal alarm.state
    else is_none (rule_lasting algorithm point alarm.state (next_runs algorithm point alarm.state alarm.cause alarm.runs)))))
    ↔ ((fault_by target algorithm point (relied_on point alarm)).moves ++ (later_change algorithm point (fault_by target algorithm point (relied_on point alarm)).alarm).moves ≡ [])
look_still None algorithm point alarm =
    later_still (is_fault alarm.state) point.inhibited (is_normal alarm.state)
    (rule_lasting algorithm point alarm.state (next_runs algorithm point alarm.state alarm.cause alarm.runs))
    algorithm point (goes_on algorithm point (relied_on point alarm))
look_still (Some to) algorithm point alarm = (λ t. absurd cc, λ e. absurd cc)

pub still : (algorithm : Algorithm) (point : Point) (alarm : AlarmState) → IsTrue (rests algorithm point alarm) ↔ ((next_look algorithm point alarm).moves ≡ [])
still algorithm point alarm = look_still (fault_target point.reliability alarm.last_reliability alarm.state) algorithm point alarm

pub still_after : (algorithm : Algorithm) (first : Point) (later : List Incident) (point : Point) (alarm : AlarmState) → IsCourse first (Looked point ∷ later) → IsAfter algorithm first later alarm →
    IsTrue (rests algorithm point alarm) ↔ (moves_at algorithm first (Looked point ∷ later) ≡ [])
still_after algorithm first later point alarm course after =
    let same = moves_look algorithm first later point alarm course after in
    let both = still algorithm point alarm in
    (λ t. sym same ∙ both.0 t, λ e. both.1 (same ∙ e))
