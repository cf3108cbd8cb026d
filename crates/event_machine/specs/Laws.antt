-- The alarm of an object that goes on from look to look is what looking back over its course gives; what tests and run starts tell; and which looks can be left out.
use Rattle.std.specs.Prelude.{◌≡◌, ◌≢◌, ◌↔◌, ℕ, ◌==◌, false, IsTrue, Option, List, [], ◌∷◌}
use Rattle.bac_values.specs.declared.transition.Transition.{Transition}
use Rattle.bac_values.specs.Reliabilities.{number_of_reliability}
use Rattle.algorithm_rules.specs.declared.table.Algorithm.{Algorithm}
use Rattle.algorithm_rules.specs.declared.table.Rule.{Rule}
use Rattle.algorithm_rules.specs.Facts.{Facts}
use Rattle.event_machine.specs.Points.{Point, Incident, Looked, Acknowledged, NeverFalls, IsCourse}
use Rattle.event_machine.specs.Held.{IsHeld, is_held}
use Rattle.event_machine.specs.Detection.{sees, detection_at, moves_at}
use Rattle.event_machine.specs.Runs.{run_at, run_start_of, has_gone_on}
use Rattle.event_machine.specs.Since.{detection_tried}
use Rattle.event_machine.specs.Summary.{AlarmState, IsAfter}
use Rattle.event_machine.specs.AlarmSteps.{acknowledged, begun, key_at, next_look, next_run, next_runs, stays}
use Rattle.event_machine.specs.Due.{has_come, next_due_of}
use Rattle.event_machine.specs.SettledSteps.{is_settled, runs_stand}

pub record KeepsCourse : Type 0 where
  pub begins : (algorithm : Algorithm) (first : Point) → IsAfter algorithm first [] (begun algorithm first)
  pub looks : (algorithm : Algorithm) (first : Point) (later : List Incident) (point : Point) (alarm : AlarmState) → IsCourse first (Looked point ∷ later) → IsAfter algorithm first later alarm →
      IsAfter algorithm first (Looked point ∷ later) (next_look algorithm point alarm).alarm
  pub moves : (algorithm : Algorithm) (first : Point) (later : List Incident) (point : Point) (alarm : AlarmState) → IsCourse first (Looked point ∷ later) → IsAfter algorithm first later alarm →
      (next_look algorithm point alarm).moves ≡ moves_at algorithm first (Looked point ∷ later)
  pub acknowledges : (algorithm : Algorithm) (first : Point) (later : List Incident) (transition : Transition) (alarm : AlarmState) → IsAfter algorithm first later alarm →
      IsAfter algorithm first (Acknowledged transition ∷ later) (acknowledged transition alarm)

-- The runs of a state's rules at one more point follow from those before it.
abbrev pub RunsGoOn : Type 0
RunsGoOn = (algorithm : Algorithm) (first : Point) (later : List Incident) (point : Point) (place : ℕ) → IsCourse first (Looked point ∷ later) →
    let d = detection_at algorithm first later in
    run_at algorithm (sees point d) place ≡ next_run point (key_at algorithm d.state d.cause point.facts place) (run_at algorithm d place)

-- the test says when a rule is held
abbrev pub TellsHeld : Type 0
TellsHeld = (rule : Rule) (cause : Option ℕ) (newest : Point) (older : List Point) → IsTrue (is_held rule cause newest older) ↔ IsHeld rule cause newest older

-- where moments never fall, the run start alone says whether a rule is held at a point at which the object isn't inhibited
abbrev pub RunStartTellsHeld : Type 0
RunStartTellsHeld = (algorithm : Algorithm) (first : Point) (later : List Incident) (point : Point) (rule : Rule) → NeverFalls first (Looked point ∷ later) → point.inhibited ≡ false →
    let d = detection_tried algorithm first later point in
    is_held rule d.cause d.newest d.older ≡ has_gone_on rule d.newest (run_start_of rule d)

-- An object that is settled needs no look before it is due. What each field says: nothing comes of a look before it is due; a look when it is due makes a move; each look settles the object; the first point does exactly where no fault is there, and otherwise the next look at the same reliability makes a move; an acknowledgement changes nothing of this; and the same facts, reliability and inhibition settle it at any moment. The runs stand exactly where one more point leaves them as they are.
pub record LooksAreSkipped : Type 0 where
  pub quiet : (algorithm : Algorithm) (point : Point) (alarm : AlarmState) → IsTrue (is_settled algorithm point alarm) →
      has_come (next_due_of algorithm point.facts alarm) point.moment ≡ false → next_look algorithm point alarm ≡ stays alarm
  pub moves : (algorithm : Algorithm) (point : Point) (alarm : AlarmState) → IsTrue (is_settled algorithm point alarm) →
      IsTrue (has_come (next_due_of algorithm point.facts alarm) point.moment) → (next_look algorithm point alarm).moves ≢ []
  pub settles : (algorithm : Algorithm) (point : Point) (alarm : AlarmState) → IsTrue (is_settled algorithm point (next_look algorithm point alarm).alarm)
  pub begins : (algorithm : Algorithm) (first : Point) → is_settled algorithm first (begun algorithm first) ≡ (number_of_reliability first.reliability == 0)
  pub faulty_start : (algorithm : Algorithm) (first point : Point) → is_settled algorithm first (begun algorithm first) ≡ false → point.reliability ≡ first.reliability →
      (next_look algorithm point (begun algorithm first)).moves ≢ []
  pub acknowledges : (algorithm : Algorithm) (point : Point) (transition : Transition) (alarm : AlarmState) →
      is_settled algorithm point (acknowledged transition alarm) ≡ is_settled algorithm point alarm
  pub acknowledges_due : (algorithm : Algorithm) (facts : Facts) (transition : Transition) (alarm : AlarmState) →
      next_due_of algorithm facts (acknowledged transition alarm) ≡ next_due_of algorithm facts alarm
  pub any_moment : (algorithm : Algorithm) (one other : Point) (alarm : AlarmState) → one.facts ≡ other.facts → one.reliability ≡ other.reliability → one.inhibited ≡ other.inhibited →
      is_settled algorithm one alarm ≡ is_settled algorithm other alarm
  pub runs : (algorithm : Algorithm) (point : Point) (alarm : AlarmState) →
      IsTrue (runs_stand algorithm point alarm) ↔ (next_runs algorithm point alarm.state alarm.cause alarm.runs ≡ alarm.runs)
