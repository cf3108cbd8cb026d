-- The due moments of objects: what isn't due stays as it is, and what sees the same is due at the same moment.
use Rattle.std.proofs.Common.{◌≡◌, ℕ, Bool, true, false, true≢false, if◌then◌else◌, Option, Some, None, [], map, refl, ap, ◌∙◌, sym, arith}
use Rattle.std.specs.Option.{option_map}
use Rattle.algorithm_rules.specs.Facts.{Facts}
use Rattle.algorithm_rules.specs.declared.table.Algorithm.{Algorithm}
use Rattle.civil_stamp.specs.LocalTime.{LocalMomentData}
use Rattle.event_machine.specs.AlarmSteps.{next_look, stays}
use Rattle.event_machine.specs.Due.{has_come, next_due_of}
use Rattle.event_machine.specs.Points.{Point}
use Rattle.event_machine.specs.SettledSteps.{due_with, is_settled}
use Rattle.event_machine.specs.Summary.{AlarmState}
use Rattle.event_machine.proofs.Settling.{looks_are_skipped}
use Rattle.held_timers.specs.Dues.{is_due}
use Rattle.enrollment.specs.Objects.{ObjectsState, facts_at}
use Rattle.alarm_core.specs.Evaluations.{point_in, point_with}
use Rattle.alarm_core.specs.State.{DetectedObjectState}
use Rattle.alarm_core.specs.History.{object_transition}
use Rattle.alarm_core.specs.CoreSteps.{change_at, change_by, evaluated, transitions_by}
use Rattle.alarm_core.specs.DueSteps.{due_by, due_of, sight_with}

-- two points at which the same is seen
pub record SeesAlike (one other : Point) : Type 0 where
  pub facts : one.facts ≡ other.facts
  pub reliability : one.reliability ≡ other.reliability
  pub inhibited : one.inhibited ≡ other.inhibited

pub due_alike : (algorithm : Algorithm) (one other : Point) (alarm : AlarmState) → SeesAlike one other → due_with algorithm one alarm ≡ due_with algorithm other alarm
due_alike algorithm one other alarm alike =
    ap (λ (settled : Bool). if settled then next_due_of algorithm one.facts alarm else Some 0) (looks_are_skipped.any_moment algorithm one other alarm alike.facts alike.reliability alike.inhibited)
    ∙ ap (λ (facts : Facts). if is_settled algorithm other alarm then next_due_of algorithm facts alarm else Some 0) alike.facts

-- the due moment, as it is computed at a moment
due_at_by : (at : LocalMomentData) (values : ObjectsState) (detected : DetectedObjectState) (facts : Option Facts) →
    due_by detected.algorithm (option_map (point_with at detected.ack_required detected.object values) facts) detected.alarm
    ≡ due_by detected.algorithm (option_map (sight_with detected.object values) facts) detected.alarm
due_at_by at values detected None = refl
due_at_by at values detected (Some facts) =
    due_alike detected.algorithm (point_with at detected.ack_required detected.object values facts) (sight_with detected.object values facts) detected.alarm
    (record { facts = refl; reliability = refl; inhibited = refl })

pub due_at : (at : LocalMomentData) (values : ObjectsState) (detected : DetectedObjectState) →
    due_by detected.algorithm (point_in at detected.ack_required detected.object values) detected.alarm ≡ due_of values detected
due_at at values detected = due_at_by at values detected (facts_at detected.object values)

-- what isn't due stays
pub is_due-come : (moment : ℕ) (due : Option ℕ) → is_due moment due ≡ has_come due moment
is_due-come moment None = refl
is_due-come moment (Some due) = refl

pub due_at_once : (moment : ℕ) → is_due moment (Some 0) ≡ true
due_at_once moment = grind arith

stays_by : (settled : Bool) (algorithm : Algorithm) (point : Point) (alarm : AlarmState) → is_settled algorithm point alarm ≡ settled →
    is_due point.moment (if settled then next_due_of algorithm point.facts alarm else Some 0) ≡ false → next_look algorithm point alarm ≡ stays alarm
stays_by true algorithm point alarm settled quiet = looks_are_skipped.quiet algorithm point alarm settled (sym (is_due-come point.moment (next_due_of algorithm point.facts alarm)) ∙ quiet)
stays_by false algorithm point alarm settled quiet = absurd (true≢false (sym (due_at_once point.moment) ∙ quiet))

stays_at : (at : LocalMomentData) (values : ObjectsState) (detected : DetectedObjectState) (facts : Option Facts) →
    is_due at.moment (due_by detected.algorithm (option_map (point_with at detected.ack_required detected.object values) facts) detected.alarm) ≡ false →
    change_by detected.algorithm (option_map (point_with at detected.ack_required detected.object values) facts) detected.alarm ≡ stays detected.alarm
stays_at at values detected None quiet = refl
stays_at at values detected (Some facts) quiet =
    let point = point_with at detected.ack_required detected.object values facts in
    stays_by (is_settled detected.algorithm point detected.alarm) detected.algorithm point detected.alarm refl quiet

pub quiet_change : (at : LocalMomentData) (values : ObjectsState) (detected : DetectedObjectState) → is_due at.moment (due_of values detected) ≡ false → change_at at values detected ≡ stays detected.alarm
quiet_change at values detected quiet = stays_at at values detected (facts_at detected.object values) (ap (is_due at.moment) (due_at at values detected) ∙ quiet)

pub quiet_evaluated : (at : LocalMomentData) (values : ObjectsState) (detected : DetectedObjectState) → is_due at.moment (due_of values detected) ≡ false → evaluated at values detected ≡ detected
quiet_evaluated at values detected quiet = ap (λ c. record detected { alarm = c.alarm }) (quiet_change at values detected quiet)

pub quiet_transitions : (at : LocalMomentData) (values : ObjectsState) (detected : DetectedObjectState) → is_due at.moment (due_of values detected) ≡ false → transitions_by at values detected ≡ []
quiet_transitions at values detected quiet = ap (λ c. map (object_transition detected.object detected.alarm.cause) c.moves) (quiet_change at values detected quiet)
