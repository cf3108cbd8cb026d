-- Runs that go on keep their starts in range.
use Rattle.std.proofs.Common.{ℕ, zero, suc, ◌==◌, Bool, true, false, if◌then◌else◌, Option, Some, None, List, [], ◌∷◌}
use Rattle.std.specs.List.{slice_index_or}
use Rattle.std.specs.Option.{IfSome}
use Rattle.std.proofs.lemmas.List.Elements.{All-nil, All-cons, All-head, All-tail}
use Rattle.bac_values.specs.Moments.{IsMoment}
use Rattle.bac_values.specs.declared.event_state.EventState.{EventState}
use Rattle.algorithm_rules.specs.declared.table.Algorithm.{Algorithm}
use Rattle.event_machine.specs.declared.run.Run.{Run}
use Rattle.event_machine.specs.Points.{Point}
use Rattle.event_machine.specs.Runs.{AreInRange}
use Rattle.event_machine.specs.AlarmSteps.{key_at, run_onward, next_run, next_runs}
use Rattle.event_machine.specs.Summary.{no_runs}

abbrev InRange : Option Run → Type 0
InRange run = IfSome run (λ r. IsMoment r.start)

range_by : (b : Bool) (m n : ℕ) → IsMoment m → IsMoment n → IsMoment (if b then m else n)
range_by true m n one two = one
range_by false m n one two = two

onward_in : (m : ℕ) (key : Option ℕ) (run : Option Run) → IsMoment m → InRange run → InRange (run_onward m key run)
onward_in m None run at old = tt
onward_in m (Some key) None at old = at
onward_in m (Some key) (Some run) at old = range_by (run.key == key) run.start m old at

next_by : (b : Bool) (run : Option Run) → InRange run → InRange (if b then None else run)
next_by true run here = tt
next_by false run here = here

next_in : (point : Point) (key : Option ℕ) (run : Option Run) → IsMoment point.moment → InRange run → InRange (next_run point key run)
next_in point key run at old = next_by point.inhibited (run_onward point.moment key run) (onward_in point.moment key run at old)

place_in : (runs : List (Option Run)) (place : ℕ) → AreInRange runs → InRange (slice_index_or runs place None)
place_in [] place all = tt
place_in (run ∷ runs) zero all = All-head InRange run runs all
place_in (run ∷ runs) (suc place) all = place_in runs place (All-tail InRange run runs all)

three_in : (a b c : Option Run) → InRange a → InRange b → InRange c → AreInRange (a ∷ b ∷ c ∷ [])
three_in a b c one two three = All-cons InRange a (b ∷ c ∷ []) one (All-cons InRange b (c ∷ []) two (All-cons InRange c [] three (All-nil InRange)))

-- runs that go on to a point in range
pub runs_in : (algorithm : Algorithm) (point : Point) (state : EventState) (cause : Option ℕ) (runs : List (Option Run)) → IsMoment point.moment → AreInRange runs →
    AreInRange (next_runs algorithm point state cause runs)
runs_in algorithm point state cause runs at old =
    let key = key_at algorithm state cause point.facts in
    three_in (next_run point (key 0) (slice_index_or runs 0 None)) (next_run point (key 1) (slice_index_or runs 1 None)) (next_run point (key 2) (slice_index_or runs 2 None))
    (next_in point (key 0) (slice_index_or runs 0 None) at (place_in runs 0 old))
    (next_in point (key 1) (slice_index_or runs 1 None) at (place_in runs 1 old))
    (next_in point (key 2) (slice_index_or runs 2 None) at (place_in runs 2 old))

pub none_in : AreInRange no_runs
none_in = three_in None None None tt tt tt
