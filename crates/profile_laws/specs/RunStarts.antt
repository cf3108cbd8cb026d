-- Since when the condition of a rule has held, over all points of an object's course that count (ANSI/ASHRAE 135-2020, 13.2.2.1 and 13.3: the conditions of each algorithm hold "for pTimeDelay"). Points are listed with the newest first.
use Rattle.std.specs.Prelude.{◌≡◌, ◌≢◌, ◌↔◌, ◌⊎◌, ℕ, true, false, All, Option, Some, None, List, [], ◌∷◌, ◌++◌}
use Rattle.algorithm_rules.specs.declared.table.Algorithm.{Algorithm}
use Rattle.algorithm_rules.specs.declared.table.Rule.{Rule}
use Rattle.event_machine.specs.declared.run.Run.{Run}
use Rattle.event_machine.specs.Detection.{detection_at}
use Rattle.event_machine.specs.Held.{key_in_detection}
use Rattle.event_machine.specs.Points.{Incident, Point, newest_of}
use Rattle.event_machine.specs.Runs.{run_start_of}
use Rattle.event_machine.specs.Since.{points_since}

-- a run starts at one of some points: at that and at all that came later the rule has had the key of the run, and at the one just before it, if there is one, it hadn't
pub record StartsAt (rule : Rule) (cause : Option ℕ) (points : List Point) (run : Run) : Type 0 where
  pub later : List Point
  pub start : Point
  pub earlier : List Point
  pub whole : points ≡ later ++ start ∷ earlier
  pub same_key : All (λ point. key_in_detection rule point.facts cause ≡ Some run.key) (later ++ start ∷ [])
  pub no_earlier : (before : Point) (others : List Point) → earlier ≡ before ∷ others → key_in_detection rule before.facts cause ≢ Some run.key
  pub since : run.start ≡ start.moment

-- there is a run that starts at one of some points; or none, where the object is inhibited at the newest one, or the rule has no key there
abbrev pub IsRunOver : Rule → Option ℕ → Point → List Point → Option Run → Type 0
IsRunOver rule cause newest points (Some run) = (newest.inhibited ≡ false) × StartsAt rule cause points run
IsRunOver rule cause newest points None = (newest.inhibited ≡ true) ⊎ (key_in_detection rule newest.facts cause ≡ None)

-- After any course of an object, the run of a rule is the one that starts at one of the points since the object last moved, or was last seen inhibited.
abbrev pub RunsStartAtPoints : Type 0
RunsStartAtPoints =
    (algorithm : Algorithm) (first : Point) (later : List Incident) (rule : Rule) (run : Option Run) →
    (run_start_of rule (detection_at algorithm first later) ≡ run) ↔ IsRunOver rule (detection_at algorithm first later).cause (newest_of first later) (points_since algorithm first later) run
