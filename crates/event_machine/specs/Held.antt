-- When a rule is held: its condition has gone on for the rule's delay (ANSI/ASHRAE 135-2020, 13.3: the conditions of each algorithm hold "for pTimeDelay"). Points are listed with the newest first.
use Rattle.std.specs.Prelude.{◌≡◌, ℕ, ◌+◌, ◌*◌, ◌≤◌, Bool, false, ◌==◌, nat_le, All, Option, Some, None, List, [], ◌∷◌, ◌++◌, if◌then◌else◌}
use Rattle.std.specs.List.{list_any, take_while}
use Rattle.algorithm_rules.specs.declared.table.Rule.{Rule}
use Rattle.algorithm_rules.specs.declared.table.Test.{Test}
use Rattle.algorithm_rules.specs.declared.table.Test.TheVariants.{OtherMatch}
use Rattle.algorithm_rules.specs.Facts.{Facts}
use Rattle.algorithm_rules.specs.Conditions.{key_of, delay_of}
use Rattle.event_machine.specs.Points.{Point}

-- a key, where it isn't the cause
abbrev pub other_than : Option ℕ → Option ℕ → Option ℕ
other_than cause None = None
other_than None (Some key) = Some key
other_than (Some cause) (Some key) = if key == cause then None else Some key

abbrev pub key_despite : Test → Option ℕ → Option ℕ → Option ℕ
key_despite OtherMatch cause key = other_than cause key
key_despite test cause key = key

-- the key of a rule in a state with a cause: on another match it is there only where the first alarm value that matches isn't the cause
abbrev pub key_in_detection : Rule → Facts → Option ℕ → Option ℕ
key_in_detection rule facts cause = key_despite rule.test cause (key_of rule facts)

-- A rule is held at the newest of some points: it has had one key at one of them and at all that came later, and that one lies at least the rule's delay back. The delay is the one at the newest point.
pub record IsHeld (rule : Rule) (cause : Option ℕ) (newest : Point) (older : List Point) : Type 0 where
  pub key : ℕ
  pub later : List Point
  pub start : Point
  pub earlier : List Point
  pub points : newest ∷ older ≡ later ++ start ∷ earlier
  pub same_key : All (λ point. key_in_detection rule point.facts cause ≡ Some key) (later ++ start ∷ [])
  pub lasted : start.moment + 1000 * delay_of rule newest.facts ≤ newest.moment

-- whether there is a key, and it is this one
abbrev pub is_key : ℕ → Option ℕ → Bool
is_key key (Some other) = other == key
is_key key None = false

-- the points, from the newest back, at which a rule has this key without a break
abbrev pub run_of : Rule → Option ℕ → ℕ → List Point → List Point
run_of rule cause key points = take_while (λ point. is_key key (key_in_detection rule point.facts cause)) points

-- whether one of some points lies at least so many milliseconds before a moment
abbrev pub reaches_back : ℕ → ℕ → List Point → Bool
reaches_back wait moment points = list_any (λ point. nat_le (point.moment + wait) moment) points

abbrev pub is_held_by : Rule → Option ℕ → Point → List Point → Option ℕ → Bool
is_held_by rule cause newest older None = false
is_held_by rule cause newest older (Some key) =
    reaches_back (1000 * delay_of rule newest.facts) newest.moment (run_of rule cause key (newest ∷ older))

-- the test of it: the run of the key that the rule has at the newest point reaches back by the delay
abbrev pub is_held : Rule → Option ℕ → Point → List Point → Bool
is_held rule cause newest older = is_held_by rule cause newest older (key_in_detection rule newest.facts cause)
