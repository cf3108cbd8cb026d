-- Since when the condition of a rule has held.
use Rattle.std.specs.Prelude.{ℕ, ◌+◌, ◌*◌, nat_le, Bool, false, if◌then◌else◌, Option, Some, None, List, [], ◌∷◌, map, slice_get}
use Rattle.std.specs.List.{All, fold}
use Rattle.std.specs.Option.{IfSome, option_and_then}
use Rattle.bac_values.specs.Moments.{IsMoment}
use Rattle.algorithm_rules.specs.declared.table.Algorithm.{Algorithm}
use Rattle.algorithm_rules.specs.declared.table.Rule.{Rule}
use Rattle.algorithm_rules.specs.Rules.{rules_of}
use Rattle.algorithm_rules.specs.Conditions.{delay_of}
use Rattle.event_machine.specs.declared.run.Run.{Run}
use Rattle.event_machine.specs.Points.{Point}
use Rattle.event_machine.specs.Held.{key_in_detection, run_of}
use Rattle.event_machine.specs.Detection.{Detection}

-- the moment of the earliest of some points, or another one where there are none
abbrev pub earliest : ℕ → List Point → ℕ
earliest newest points = fold (λ later point. point.moment) newest points

abbrev pub run_with : Rule → Detection → Option ℕ → Option Run
run_with rule d None = None
run_with rule d (Some key) = Some (record { start = earliest d.newest.moment (run_of rule d.cause key d.older); key = key })

-- The run start of a rule: the moment of the earliest point since the state was entered from which on the rule has had the key that it has at the newest one. There is none without a key, and none where the object is inhibited.
abbrev pub run_start_of : Rule → Detection → Option Run
run_start_of rule d = if d.newest.inhibited then None else run_with rule d (key_in_detection rule d.newest.facts d.cause)

-- the places of the rules of a state, of which there are at most three
abbrev pub places : List ℕ
places = 0 ∷ 1 ∷ 2 ∷ []

-- the run start of the rule at a place, if there is one
abbrev pub run_at : Algorithm → Detection → ℕ → Option Run
run_at algorithm d place = option_and_then (λ rule. run_start_of rule d) (slice_get (rules_of algorithm d.state) place)

-- the run starts of the rules of the state, by their places
abbrev pub runs_of : Algorithm → Detection → List (Option Run)
runs_of algorithm d = map (run_at algorithm d) places

-- whether a run that starts then has gone on for a rule's delay at a point
abbrev pub has_gone_on : Rule → Point → Option Run → Bool
has_gone_on rule point None = false
has_gone_on rule point (Some run) = nat_le (run.start + 1000 * delay_of rule point.facts) point.moment

-- each of some runs starts at a moment in range
abbrev pub AreInRange : List (Option Run) → Type 0
AreInRange runs = All (λ run. IfSome run (λ r. IsMoment r.start)) runs
