-- After a history an object that is due moves, so that a look at what is due is one for each move.
use Rattle.std.proofs.Common.{◌≡◌, ◌≢◌, ◌⊎◌, inl, inr, ℕ, Bool, true, false, true≢false, if◌then◌else◌, Option, Some, None, List, [], ◌∷◌, ◌++◌, map, refl, ap, ◌∙◌, sym, subst}
use Rattle.std.specs.Option.{option_map, unwrap_or}
use Rattle.bac_values.specs.declared.transition.Transition.{Transition}
use Rattle.bac_values.specs.declared.event_state.EventState.{EventState}
use Rattle.bac_values.specs.declared.event_state.EventState.TheVariants.{Normal}
use Rattle.algorithm_rules.specs.Facts.{Facts}
use Rattle.algorithm_rules.specs.declared.table.Algorithm.{Algorithm}
use Rattle.algorithm_rules.specs.declared.table.Rule.{Rule}
use Rattle.civil_stamp.specs.LocalTime.{LocalMomentData}
use Rattle.event_machine.specs.AlarmSteps.{acknowledged, and_then, begun, entered, enters, fault_by, goes_on, later_change, next_look, relied_on, rule_by, rule_lasting, stays}
use Rattle.bac_values.specs.EventStates.{is_fault, is_normal}
use Rattle.event_machine.specs.Detection.{fault_target}
use Rattle.event_machine.specs.Points.{Point}
use Rattle.event_machine.specs.Due.{next_due_of}
use Rattle.event_machine.specs.SettledSteps.{is_settled}
use Rattle.event_machine.specs.Summary.{AlarmState}
use Rattle.event_machine.proofs.Settling.{looks_are_skipped}
use Rattle.held_timers.specs.Dues.{is_due}
use Rattle.object_table.specs.Rows.{is_object}
use Rattle.bac_values.specs.Identifier.{ObjectIdData}
use Rattle.enrollment.specs.declared.subject.Subject.{Subject}
use Rattle.enrollment.specs.Objects.{ObjectsState, facts_at, written}
use Rattle.alarm_core.specs.declared.event.Act.{Act}
use Rattle.alarm_core.specs.declared.event.Act.TheVariants.{Tick, Write, Ack, Pump, Answer, Edit}
use Rattle.alarm_core.specs.declared.event.Event.{Event}
use Rattle.alarm_core.specs.declared.site.Site.{Site}
use Rattle.alarm_core.specs.Evaluations.{no_facts, point_with, site_moment}
use Rattle.alarm_core.specs.History.{occurrences_of, values_after, values_with}
use Rattle.alarm_core.specs.Allowed.{Comes, IsHistory}
use Rattle.alarm_core.specs.Sites.{IsSite}
use Rattle.alarm_core.specs.Subjects.{ack_required_of, detecting_subjects}
use Rattle.alarm_core.specs.Values.{first_values}
use Rattle.alarm_core.specs.CoreSteps.{acked, alarms_with, change_at, change_by, evaluated_all, first_detected}
use Rattle.alarm_core.specs.State.{CoreState, DetectedObjectState, alarms_of}
use Rattle.alarm_core.specs.DueSteps.{due_by, due_of, sight_with}
use Rattle.alarm_core.proofs.Dues.{is_due-come}
use Rattle.alarm_core.proofs.Standing.{stands}

-- an object sees these facts, and its alarm is settled
abbrev pub IsSettledWith : ObjectsState → DetectedObjectState → Option Facts → Type 0
IsSettledWith values detected None = Unit {0}
IsSettledWith values detected (Some facts) = is_settled detected.algorithm (sight_with detected.object values facts) detected.alarm ≡ true

abbrev pub IsSettledAt : ObjectsState → DetectedObjectState → Type 0
IsSettledAt values detected = IsSettledWith values detected (facts_at detected.object values)

-- it moves at every look
abbrev pub MovesWith : ObjectsState → DetectedObjectState → Option Facts → Type 0
MovesWith values detected facts = (at : LocalMomentData) → (change_by detected.algorithm (option_map (point_with at detected.ack_required detected.object values) facts) detected.alarm).moves ≢ []

abbrev pub StandsWith : ObjectsState → DetectedObjectState → Option Facts → Type 0
StandsWith values detected facts = IsSettledWith values detected facts ⊎ MovesWith values detected facts

-- after a history it is the one or the other
abbrev pub Stands : ObjectsState → DetectedObjectState → Type 0
Stands values detected = StandsWith values detected (facts_at detected.object values)

abbrev pub AllStand : ObjectsState → List DetectedObjectState → Type 0
AllStand values [] = Unit {0}
AllStand values (detected ∷ alarms) = Stands values detected × AllStand values alarms

-- the same is seen at every moment
settled_at : (at : LocalMomentData) (values : ObjectsState) (detected : DetectedObjectState) (facts : Facts) (alarm : AlarmState) →
    is_settled detected.algorithm (sight_with detected.object values facts) alarm ≡ is_settled detected.algorithm (point_with at detected.ack_required detected.object values facts) alarm
settled_at at values detected facts alarm =
    looks_are_skipped.any_moment detected.algorithm (sight_with detected.object values facts) (point_with at detected.ack_required detected.object values facts) alarm refl refl refl

-- a look settles an object
settles_by : (at : LocalMomentData) (values : ObjectsState) (detected : DetectedObjectState) (facts : Option Facts) →
    IsSettledWith values (record detected { alarm = (change_by detected.algorithm (option_map (point_with at detected.ack_required detected.object values) facts) detected.alarm).alarm }) facts
settles_by at values detected None = tt
settles_by at values detected (Some facts) =
    let point = point_with at detected.ack_required detected.object values facts in
    settled_at at values detected facts (next_look detected.algorithm point detected.alarm).alarm ∙ looks_are_skipped.settles detected.algorithm point detected.alarm

pub settles : (at : LocalMomentData) (values : ObjectsState) (alarms : List DetectedObjectState) → AllStand values (evaluated_all at values alarms)
settles at values [] = tt
settles at values (detected ∷ alarms) = (inl (settles_by at values detected (facts_at detected.object values)), settles at values alarms)

-- a settled object that is due moves
next_due-is : (settled : Bool) (due : Option ℕ) (moment : ℕ) → settled ≡ true → is_due moment (if settled then due else Some 0) ≡ true → is_due moment due ≡ true
next_due-is true due moment is now = now
next_due-is false due moment is now = absurd (true≢false (sym is))

moves_by : (at : LocalMomentData) (values : ObjectsState) (detected : DetectedObjectState) (facts : Option Facts) → IsSettledWith values detected facts →
    is_due at.moment (due_by detected.algorithm (option_map (sight_with detected.object values) facts) detected.alarm) ≡ true →
    (change_by detected.algorithm (option_map (point_with at detected.ack_required detected.object values) facts) detected.alarm).moves ≢ []
moves_by at values detected None settled due = absurd (true≢false (sym due))
moves_by at values detected (Some facts) settled due =
    let point = point_with at detected.ack_required detected.object values facts in
    let next = next_due_of detected.algorithm facts detected.alarm in
    let now = next_due-is (is_settled detected.algorithm (sight_with detected.object values facts) detected.alarm) next at.moment settled due in
    looks_are_skipped.moves detected.algorithm point detected.alarm (sym (settled_at at values detected facts detected.alarm) ∙ settled) (sym (is_due-come at.moment next) ∙ now)

pub fires : (at : LocalMomentData) (values : ObjectsState) (detected : DetectedObjectState) → Stands values detected → is_due at.moment (due_of values detected) ≡ true → (change_at at values detected).moves ≢ []
fires at values detected (inl settled) due = moves_by at values detected (facts_at detected.object values) settled due
fires at values detected (inr moves) due = moves at

-- what comes of a look doesn't hang on what is acknowledged
later_alike : (fault inhibited normal : Bool) (rule : Option Rule) (algorithm : Algorithm) (point : Point) (one other : AlarmState) → one.state ≡ other.state →
    (if fault then stays one else (if inhibited then (if normal then stays one else enters algorithm point Normal false one) else rule_by rule algorithm point one)).moves
    ≡ (if fault then stays other else (if inhibited then (if normal then stays other else enters algorithm point Normal false other) else rule_by rule algorithm point other)).moves
later_alike true inhibited normal rule algorithm point one other same = refl
later_alike false true true rule algorithm point one other same = refl
later_alike false true false rule algorithm point one other same = ap (λ (state : EventState). record { from = state; to = Normal; by_fault = false } ∷ []) same
later_alike false false normal None algorithm point one other same = refl
later_alike false false normal (Some rule) algorithm point one other same = ap (λ (state : EventState). record { from = state; to = rule.target; by_fault = false } ∷ []) same

looks_alike_by : (target : Option EventState) (algorithm : Algorithm) (point : Point) (transition : Transition) (alarm : AlarmState) →
    (and_then (fault_by target algorithm point (relied_on point (acknowledged transition alarm))) (later_change algorithm point)).moves
    ≡ (and_then (fault_by target algorithm point (relied_on point alarm)) (later_change algorithm point)).moves
looks_alike_by None algorithm point transition alarm =
    let one = goes_on algorithm point (relied_on point (acknowledged transition alarm)) in
    let other = goes_on algorithm point (relied_on point alarm) in
    ap (λ moves. [] ++ moves) (later_alike (is_fault other.state) point.inhibited (is_normal other.state) (rule_lasting algorithm point other.state other.runs) algorithm point one other refl)
looks_alike_by (Some to) algorithm point transition alarm =
    let one = entered algorithm point to (relied_on point (acknowledged transition alarm)) in
    let other = entered algorithm point to (relied_on point alarm) in
    ap (λ moves. (record { from = alarm.state; to = to; by_fault = true } ∷ []) ++ moves)
    (later_alike (is_fault other.state) point.inhibited (is_normal other.state) (rule_lasting algorithm point other.state other.runs) algorithm point one other refl)

looks_alike : (algorithm : Algorithm) (point : Point) (transition : Transition) (alarm : AlarmState) → (next_look algorithm point (acknowledged transition alarm)).moves ≡ (next_look algorithm point alarm).moves
looks_alike algorithm point transition alarm = looks_alike_by (fault_target point.reliability alarm.last_reliability alarm.state) algorithm point transition alarm

-- an acknowledgement changes nothing of it
acked_settled : (values : ObjectsState) (detected : DetectedObjectState) (transition : Transition) (facts : Option Facts) → IsSettledWith values detected facts →
    IsSettledWith values (record detected { alarm = acknowledged transition detected.alarm }) facts
acked_settled values detected transition None settled = tt
acked_settled values detected transition (Some facts) settled =
    looks_are_skipped.acknowledges detected.algorithm (sight_with detected.object values facts) transition detected.alarm ∙ settled

acked_moves_by : (at : LocalMomentData) (values : ObjectsState) (detected : DetectedObjectState) (transition : Transition) (facts : Option Facts) →
    (change_by detected.algorithm (option_map (point_with at detected.ack_required detected.object values) facts) (acknowledged transition detected.alarm)).moves
    ≡ (change_by detected.algorithm (option_map (point_with at detected.ack_required detected.object values) facts) detected.alarm).moves
acked_moves_by at values detected transition None = refl
acked_moves_by at values detected transition (Some facts) = looks_alike detected.algorithm (point_with at detected.ack_required detected.object values facts) transition detected.alarm

acked_stands : (same : Bool) (values : ObjectsState) (detected : DetectedObjectState) (transition : Transition) → Stands values detected →
    Stands values (if same then record detected { alarm = acknowledged transition detected.alarm } else detected)
acked_stands false values detected transition stands = stands
acked_stands true values detected transition (inl settled) = inl (acked_settled values detected transition (facts_at detected.object values) settled)
acked_stands true values detected transition (inr moves) =
    inr (λ at none. moves at (sym (acked_moves_by at values detected transition (facts_at detected.object values)) ∙ none))

acked_all_stand : (object : ObjectIdData) (transition : Transition) (values : ObjectsState) (alarms : List DetectedObjectState) → AllStand values alarms → AllStand values (map (acked object transition) alarms)
acked_all_stand object transition values [] all = tt
acked_all_stand object transition values (detected ∷ alarms) all =
    (acked_stands (is_object object detected.object) values detected transition all.0, acked_all_stand object transition values alarms all.1)

-- so it goes on from event to event
pub stand_more : (at : LocalMomentData) (act : Act) (values : ObjectsState) (alarms : List DetectedObjectState) → AllStand values alarms → AllStand (values_with act values) (alarms_with at act values alarms)
stand_more at Tick values alarms all = settles at values alarms
stand_more at (Write change) values alarms all = settles at (written change values) (evaluated_all at values alarms)
stand_more at (Ack object transition state) values alarms all = acked_all_stand object transition values alarms all
stand_more at Pump values alarms all = all
stand_more at (Answer peer invoke kind) values alarms all = all
stand_more at (Edit number recipients) values alarms all = all

-- and so it begins
start_by : (is : Bool) (at : LocalMomentData) (values : ObjectsState) (detected : DetectedObjectState) (facts : Facts) →
    let first = point_with at detected.ack_required detected.object values facts in
    is_settled detected.algorithm first (begun detected.algorithm first) ≡ is → detected.alarm ≡ begun detected.algorithm first → StandsWith values detected (Some facts)
start_by true at values detected facts is alarm =
    let first = point_with at detected.ack_required detected.object values facts in
    inl (settled_at at values detected facts detected.alarm ∙ (ap (is_settled detected.algorithm first) alarm ∙ is))
start_by false at values detected facts is alarm =
    let first = point_with at detected.ack_required detected.object values facts in
    inr (λ now none. let point = point_with now detected.ack_required detected.object values facts in
    looks_are_skipped.faulty_start detected.algorithm first point is refl (ap (λ a. (next_look detected.algorithm point a).moves) (sym alarm) ∙ none))

start_with : (at : LocalMomentData) (ack_required : List Bool) (values : ObjectsState) (subject : Subject) (facts : Option Facts) →
    StandsWith values (record { object = subject.object; algorithm = subject.algorithm; ack_required = ack_required; alarm = begun subject.algorithm (point_with at ack_required subject.object values (unwrap_or facts no_facts)) }) facts
start_with at ack_required values subject None = inl tt
start_with at ack_required values subject (Some facts) =
    let first = point_with at ack_required subject.object values facts in
    start_by (is_settled subject.algorithm first (begun subject.algorithm first)) at values
    (record { object = subject.object; algorithm = subject.algorithm; ack_required = ack_required; alarm = begun subject.algorithm first }) facts refl refl

first_all_stand : (site : Site) (subjects : List Subject) → AllStand (first_values site) (map (first_detected site) subjects)
first_all_stand site [] = tt
first_all_stand site (subject ∷ subjects) =
    (start_with (site_moment site site.device.start) (ack_required_of site subject) (first_values site) subject (facts_at subject.object (first_values site)), first_all_stand site subjects)

pub all_stand : (site : Site) → IsSite site → (history : List Event) → IsHistory site history → AllStand (values_after site history) (alarms_of site (occurrences_of site history))
all_stand site is [] history = subst (AllStand (first_values site)) (ap (λ (s : CoreState). s.alarms) (stands.starts site)) (first_all_stand site (detecting_subjects site))
all_stand site is (event ∷ older) history =
    let comes : Comes site event older = record { is_site = is; is_history = history.4; not_before = history.0 } in
    subst (AllStand (values_after site (event ∷ older))) (ap (λ (s : CoreState). s.alarms) (stands.state site event older comes))
    (stand_more (site_moment site event.moment) event.act (values_after site older) (alarms_of site (occurrences_of site older)) (all_stand site is older history.4))
