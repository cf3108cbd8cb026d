-- The event state of an alarm is the one that was entered last.
use Rattle.std.proofs.Common.{◌≡◌, Bool, true, false, if◌then◌else◌, Option, Some, None, List, [], ◌∷◌, ◌++◌, refl, sym, ap, ◌∙◌}
use Rattle.bac_values.specs.declared.event_state.EventState.{EventState}
use Rattle.bac_values.specs.declared.event_state.EventState.TheVariants.{Normal}
use Rattle.bac_values.specs.EventStates.{is_fault, is_normal}
use Rattle.algorithm_rules.specs.declared.table.Algorithm.{Algorithm}
use Rattle.algorithm_rules.specs.declared.table.Rule.{Rule}
use Rattle.event_machine.specs.AlarmRecord.{Entered, Mark, marks_of, marks_with}
use Rattle.event_machine.specs.Detection.{Detection, Step, and_then, detection_at, enters, fault_by, fault_target, inhibited_step, later_step, look_step, rule_by, rule_held, sees, stays}
use Rattle.event_machine.specs.Points.{Acknowledged, Incident, Looked, Point}
use Rattle.event_machine.specs.declared.moves.Move.{Move}
use Rattle.profile_laws.specs.ToldStates.{StatesWereEntered, last_entered}

-- the state behind some moves from another one
abbrev behind : List Move → EventState → EventState
behind [] state = state
behind (made ∷ moves) state = behind moves made.to

behind_both : (first later : List Move) (state : EventState) → behind (first ++ later) state ≡ behind later (behind first state)
behind_both [] later state = refl
behind_both (made ∷ first) later state = behind_both first later made.to

marked : (point : Point) (moves : List Move) (marks : List Mark) → last_entered (marks_with point moves marks) ≡ behind moves (last_entered marks)
marked point [] marks = refl
marked point (made ∷ moves) marks = marked point moves (Entered point made.to ∷ marks)

-- a step leads to the state behind its moves
abbrev Leads : EventState → Step → Type 0
Leads state step = step.detection.state ≡ behind step.moves state

by_fault : (to : Option EventState) (d : Detection) → Leads d.state (fault_by to d)
by_fault None d = refl
by_fault (Some to) d = refl

by_rule : (rule : Option Rule) (d : Detection) → Leads d.state (rule_by rule d)
by_rule None d = refl
by_rule (Some rule) d = refl

by_inhibition : (normal : Bool) (d : Detection) → Leads d.state (if normal then stays (record d { older = [] }) else enters Normal false d)
by_inhibition true d = refl
by_inhibition false d = refl

by_state : (fault inhibited : Bool) (rule : Option Rule) (d : Detection) → Leads d.state (if fault then stays d else (if inhibited then inhibited_step d else rule_by rule d))
by_state true inhibited rule d = refl
by_state false true rule d = by_inhibition (is_normal d.state) d
by_state false false rule d = by_rule rule d

later_leads : (algorithm : Algorithm) (d : Detection) → Leads d.state (later_step algorithm d)
later_leads algorithm d = by_state (is_fault d.state) d.newest.inhibited (rule_held algorithm d) d

both_lead : (algorithm : Algorithm) (state : EventState) (first : Step) → Leads state first → Leads state (and_then first (later_step algorithm))
both_lead algorithm state first h =
    let later = later_step algorithm first.detection in
    later_leads algorithm first.detection ∙ (ap (behind later.moves) h ∙ sym (behind_both first.moves later.moves state))

look_leads : (algorithm : Algorithm) (point : Point) (d : Detection) → Leads d.state (look_step algorithm point d)
look_leads algorithm point d =
    let to = fault_target point.reliability d.reliability d.state in
    both_lead algorithm d.state (fault_by to (sees point d)) (by_fault to (sees point d))

entered : (algorithm : Algorithm) (first : Point) (later : List Incident) → (detection_at algorithm first later).state ≡ last_entered (marks_of algorithm first later)
unfolding detection_at marks_of
entered algorithm first [] = refl
entered algorithm first (Looked point ∷ older) =
    let d = detection_at algorithm first older in
    let moves = (look_step algorithm point d).moves in
    look_leads algorithm point d ∙ (ap (behind moves) (entered algorithm first older) ∙ sym (marked point moves (marks_of algorithm first older)))
entered algorithm first (Acknowledged transition ∷ older) = entered algorithm first older

pub states_were_entered : StatesWereEntered
states_were_entered algorithm first later = entered algorithm first later
