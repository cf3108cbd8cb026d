-- The alarm of an object that goes on is what looking back over its course gives.
use Rattle.std.proofs.Common.{◌≡◌, Bool, true, false, if◌then◌else◌, Option, Some, None, List, [], ◌∷◌, ◌++◌, refl, ap, ◌∙◌, sym}
use Rattle.bac_values.specs.declared.event_state.EventState.{EventState}
use Rattle.bac_values.specs.declared.event_state.EventState.TheVariants.{Normal, Fault, Offnormal, HighLimit, LowLimit}
use Rattle.bac_values.specs.declared.transition.Transition.{Transition}
use Rattle.bac_values.specs.declared.transition.Transition.TheVariants.{ToOffnormal, ToFault, ToNormal}
use Rattle.algorithm_rules.specs.declared.table.Algorithm.{Algorithm}
use Rattle.algorithm_rules.specs.declared.table.Rule.{Rule}
use Rattle.event_machine.specs.declared.moves.Move.{Move}
use Rattle.event_machine.specs.declared.run.Run.{Run}
use Rattle.event_machine.specs.Points.{Point, Incident, Looked, Acknowledged, IsCourse}
use Rattle.bac_values.specs.EventStates.{is_fault, is_normal}
use Rattle.event_machine.specs.Detection.{Detection, Step, sees, enters, fault_target, fault_by, inhibited_step, rule_held, rule_by, later_step, and_then, look_step, stays, first_detection, detection_at, moves_at}
use Rattle.event_machine.specs.AlarmRecord.{Mark, Entered, Acked, marks_with, marks_of}
use Rattle.event_machine.specs.Runs.{runs_of}
use Rattle.event_machine.specs.Since.{entry_of, detection_tried}
use Rattle.event_machine.specs.Summary.{AlarmState, alarm_with, alarm_of, IsAfter}
use Rattle.event_machine.specs.AlarmSteps as next
use Rattle.event_machine.specs.AlarmSteps.{Change, next_runs, acknowledged, begun, entered, relied_on, rule_lasting, later_change, inhibited_change, next_look}
use Rattle.event_machine.specs.Laws.{KeepsCourse}
use Rattle.event_machine.proofs.Courses.{never_falls}
use Rattle.event_machine.proofs.GoingOn.{ready, runs_onward, runs_anew, runs_inhibited}
use Rattle.event_machine.proofs.Lasting.{RunsTell, rule_lasting-held}
use Rattle.event_machine.proofs.RunStarts.{tells}
use Rattle.event_machine.proofs.Since.{tried}

abbrev with_runs : AlarmState → List (Option Run) → AlarmState
with_runs alarm runs = record alarm { runs = runs }

-- an alarm, and the moves, are those of a step
abbrev Same : Algorithm → Point → Change → Step → List Mark → Type 0
Same algorithm point change step marks = (change.alarm ≡ alarm_with algorithm step.detection (marks_with point step.moves marks)) × (change.moves ≡ step.moves)

-- the alarm of a state that is entered, whatever runs there were before
entered_is : (algorithm : Algorithm) (to : EventState) (d : Detection) (runs : List (Option Run)) (marks : List Mark) →
    entered algorithm d.newest to (with_runs (alarm_with algorithm d marks) runs) ≡ alarm_with algorithm (enters to true d).detection (Entered d.newest to ∷ marks)
entered_is algorithm Normal d runs marks =
    let moved = (enters Normal true d).detection in
    ap (with_runs (alarm_with algorithm moved (Entered d.newest Normal ∷ marks))) (sym (runs_anew algorithm moved refl))
entered_is algorithm Fault d runs marks =
    let moved = (enters Fault true d).detection in
    ap (with_runs (alarm_with algorithm moved (Entered d.newest Fault ∷ marks))) (sym (runs_anew algorithm moved refl))
entered_is algorithm Offnormal d runs marks =
    let moved = (enters Offnormal true d).detection in
    ap (with_runs (alarm_with algorithm moved (Entered d.newest Offnormal ∷ marks))) (sym (runs_anew algorithm moved refl))
entered_is algorithm HighLimit d runs marks =
    let moved = (enters HighLimit true d).detection in
    ap (with_runs (alarm_with algorithm moved (Entered d.newest HighLimit ∷ marks))) (sym (runs_anew algorithm moved refl))
entered_is algorithm LowLimit d runs marks =
    let moved = (enters LowLimit true d).detection in
    ap (with_runs (alarm_with algorithm moved (Entered d.newest LowLimit ∷ marks))) (sym (runs_anew algorithm moved refl))

enters_same : (algorithm : Algorithm) (to : EventState) (by_fault : Bool) (d : Detection) (runs : List (Option Run)) (marks : List Mark) →
    Same algorithm d.newest (next.enters algorithm d.newest to by_fault (with_runs (alarm_with algorithm d marks) runs)) (enters to by_fault d) marks
enters_same algorithm to by_fault d runs marks = (entered_is algorithm to d runs marks, refl)

-- the runs go on to a point
abbrev GoesOn : Algorithm → Point → Detection → Type 0
GoesOn algorithm point d = runs_of algorithm (sees point d) ≡ next_runs algorithm point d.state d.cause (runs_of algorithm d)

fault_same : (to : Option EventState) (algorithm : Algorithm) (point : Point) (d : Detection) (marks : List Mark) → GoesOn algorithm point d →
    Same algorithm point (next.fault_by to algorithm point (relied_on point (alarm_with algorithm d marks))) (fault_by to (sees point d)) marks
fault_same None algorithm point d marks onward = (ap (with_runs (alarm_with algorithm (sees point d) marks)) (sym onward), refl)
fault_same (Some to) algorithm point d marks onward = enters_same algorithm to true (sees point d) (runs_of algorithm d) marks

rule_same : (rule : Option Rule) (algorithm : Algorithm) (d : Detection) (marks : List Mark) →
    Same algorithm d.newest (next.rule_by rule algorithm d.newest (alarm_with algorithm d marks)) (rule_by rule d) marks
rule_same None algorithm d marks = (refl, refl)
rule_same (Some rule) algorithm d marks = enters_same algorithm rule.target false d (runs_of algorithm d) marks

inhibited_same : (normal : Bool) (algorithm : Algorithm) (d : Detection) (marks : List Mark) → d.newest.inhibited ≡ true →
    let alarm = alarm_with algorithm d marks in
    Same algorithm d.newest (if normal then next.stays alarm else next.enters algorithm d.newest Normal false alarm)
    (if normal then stays (record d { older = [] }) else enters Normal false d) marks
inhibited_same true algorithm d marks is =
    let alone : Detection = record d { older = [] } in
    (ap (with_runs (alarm_with algorithm d marks)) (runs_inhibited algorithm d is ∙ sym (runs_inhibited algorithm alone is)), refl)
inhibited_same false algorithm d marks is = enters_same algorithm Normal false d (runs_of algorithm d) marks

held_same : (algorithm : Algorithm) (d : Detection) (marks : List Mark) (found : Option Rule) → found ≡ rule_held algorithm d →
    Same algorithm d.newest (next.rule_by found algorithm d.newest (alarm_with algorithm d marks)) (rule_by (rule_held algorithm d) d) marks
held_same algorithm d marks found is =
    let both = rule_same (rule_held algorithm d) algorithm d marks in
    let alarm = alarm_with algorithm d marks in
    (ap (λ r. (next.rule_by r algorithm d.newest alarm).alarm) is ∙ both.0, ap (λ r. (next.rule_by r algorithm d.newest alarm).moves) is ∙ both.1)

free_same : (inhibited : Bool) (algorithm : Algorithm) (d : Detection) (marks : List Mark) → d.newest.inhibited ≡ inhibited → (d.newest.inhibited ≡ false → RunsTell d) →
    let alarm = alarm_with algorithm d marks in
    Same algorithm d.newest (if inhibited then inhibited_change algorithm d.newest alarm else next.rule_by (rule_lasting algorithm d.newest d.state alarm.runs) algorithm d.newest alarm)
    (if inhibited then inhibited_step d else rule_by (rule_held algorithm d) d) marks
free_same true algorithm d marks is tell = inhibited_same (is_normal d.state) algorithm d marks is
free_same false algorithm d marks is tell =
    held_same algorithm d marks (rule_lasting algorithm d.newest d.state (runs_of algorithm d)) (rule_lasting-held algorithm d (tell is))

later_by : (fault : Bool) (algorithm : Algorithm) (d : Detection) (marks : List Mark) → (d.newest.inhibited ≡ false → RunsTell d) →
    let alarm = alarm_with algorithm d marks in
    Same algorithm d.newest
    (if fault then next.stays alarm else (if d.newest.inhibited then inhibited_change algorithm d.newest alarm else next.rule_by (rule_lasting algorithm d.newest d.state alarm.runs) algorithm d.newest alarm))
    (if fault then stays d else (if d.newest.inhibited then inhibited_step d else rule_by (rule_held algorithm d) d)) marks
later_by true algorithm d marks tell = (refl, refl)
later_by false algorithm d marks tell = free_same d.newest.inhibited algorithm d marks refl tell

later_same : (algorithm : Algorithm) (d : Detection) (marks : List Mark) → (d.newest.inhibited ≡ false → RunsTell d) →
    Same algorithm d.newest (later_change algorithm d.newest (alarm_with algorithm d marks)) (later_step algorithm d) marks
later_same algorithm d marks tell = later_by (is_fault d.state) algorithm d marks tell

with_append : (point : Point) (xs ys : List Move) (marks : List Mark) → marks_with point ys (marks_with point xs marks) ≡ marks_with point (xs ++ ys) marks
with_append point [] ys marks = refl
with_append point (x ∷ xs) ys marks = with_append point xs ys (Entered point x.to ∷ marks)

-- one step, and then another
and_same : (algorithm : Algorithm) (point : Point) (change : Change) (step : Step) (f : AlarmState → Change) (g : Detection → Step) (marks : List Mark) → Same algorithm point change step marks →
    Same algorithm point (f (alarm_with algorithm step.detection (marks_with point step.moves marks))) (g step.detection) (marks_with point step.moves marks) →
    Same algorithm point (next.and_then change f) (and_then step g) marks
and_same algorithm point change step f g marks one two =
    let between = alarm_with algorithm step.detection (marks_with point step.moves marks) in (
      ap (λ a. (f a).alarm) one.0 ∙ (two.0 ∙ ap (alarm_with algorithm (g step.detection).detection) (with_append point step.moves (g step.detection).moves marks)),
      ap (λ a. change.moves ++ (f a).moves) one.0 ∙ (ap (λ ms. ms ++ (f between).moves) one.1 ∙ ap (λ ms. step.moves ++ ms) two.1),
    )

look_by : (to : Option EventState) (algorithm : Algorithm) (point : Point) (d : Detection) (marks : List Mark) → GoesOn algorithm point d → (point.inhibited ≡ false → RunsTell (fault_by to (sees point d)).detection) →
    Same algorithm point (next.and_then (next.fault_by to algorithm point (relied_on point (alarm_with algorithm d marks))) (later_change algorithm point)) (and_then (fault_by to (sees point d)) (later_step algorithm)) marks
look_by None algorithm point d marks onward tell =
    and_same algorithm point (next.fault_by None algorithm point (relied_on point (alarm_with algorithm d marks))) (fault_by None (sees point d)) (later_change algorithm point) (later_step algorithm) marks
    (fault_same None algorithm point d marks onward) (later_same algorithm (sees point d) marks tell)
look_by (Some to) algorithm point d marks onward tell =
    and_same algorithm point (next.fault_by (Some to) algorithm point (relied_on point (alarm_with algorithm d marks))) (fault_by (Some to) (sees point d)) (later_change algorithm point) (later_step algorithm) marks
    (fault_same (Some to) algorithm point d marks onward) (later_same algorithm (enters to true (sees point d)).detection (Entered point to ∷ marks) tell)

-- at one more point of a course, where the object isn't inhibited, run starts tell what is held
pub runs_tell : (algorithm : Algorithm) (first : Point) (later : List Incident) (point : Point) → IsCourse first (Looked point ∷ later) → point.inhibited ≡ false → RunsTell (detection_tried algorithm first later point)
runs_tell algorithm first later point course free = λ rule.
    tells rule (entry_of algorithm first later) point (detection_tried algorithm first later point) (tried algorithm first later point (never_falls first (Looked point ∷ later) course)) free

-- one look
look_same : (algorithm : Algorithm) (first : Point) (later : List Incident) (point : Point) → IsCourse first (Looked point ∷ later) →
    Same algorithm point (next_look algorithm point (alarm_of algorithm first later)) (look_step algorithm point (detection_at algorithm first later)) (marks_of algorithm first later)
look_same algorithm first later point course =
    let d = detection_at algorithm first later in
    look_by (fault_target point.reliability d.reliability d.state) algorithm point d (marks_of algorithm first later)
    (runs_onward algorithm d point (ready algorithm first later point course)) (runs_tell algorithm first later point course)

-- the alarm behind a look is that of the longer course
pub after_look : (algorithm : Algorithm) (first : Point) (later : List Incident) (point : Point) (alarm : AlarmState) → IsCourse first (Looked point ∷ later) → IsAfter algorithm first later alarm →
    IsAfter algorithm first (Looked point ∷ later) (next_look algorithm point alarm).alarm
unfolding detection_at marks_of
after_look algorithm first later point alarm course after =
    ap (λ a. (next_look algorithm point a).alarm) after ∙ (look_same algorithm first later point course).0

-- the moves of a look are those of the longer course
pub moves_look : (algorithm : Algorithm) (first : Point) (later : List Incident) (point : Point) (alarm : AlarmState) → IsCourse first (Looked point ∷ later) → IsAfter algorithm first later alarm →
    (next_look algorithm point alarm).moves ≡ moves_at algorithm first (Looked point ∷ later)
moves_look algorithm first later point alarm course after =
    ap (λ a. (next_look algorithm point a).moves) after ∙ (look_same algorithm first later point course).1

acknowledged_is : (algorithm : Algorithm) (transition : Transition) (d : Detection) (marks : List Mark) →
    acknowledged transition (alarm_with algorithm d marks) ≡ alarm_with algorithm d (Acked transition ∷ marks)
acknowledged_is algorithm ToOffnormal d marks = refl
acknowledged_is algorithm ToFault d marks = refl
acknowledged_is algorithm ToNormal d marks = refl

-- so is the alarm behind an acknowledgement
pub after_acknowledgement : (algorithm : Algorithm) (first : Point) (later : List Incident) (transition : Transition) (alarm : AlarmState) → IsAfter algorithm first later alarm →
    IsAfter algorithm first (Acknowledged transition ∷ later) (acknowledged transition alarm)
unfolding detection_at marks_of
after_acknowledgement algorithm first later transition alarm after =
    ap (acknowledged transition) after ∙ acknowledged_is algorithm transition (detection_at algorithm first later) (marks_of algorithm first later)

-- and the alarm after the first point
pub after_first : (algorithm : Algorithm) (first : Point) → IsAfter algorithm first [] (begun algorithm first)
unfolding detection_at marks_of
after_first algorithm first =
    let d = first_detection first in
    ap (with_runs (alarm_with algorithm d [])) (sym (runs_anew algorithm d refl))

pub keeps_course : KeepsCourse
keeps_course = record { begins = after_first; looks = after_look; moves = moves_look; acknowledges = after_acknowledgement }
