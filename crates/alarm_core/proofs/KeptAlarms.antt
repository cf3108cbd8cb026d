-- The alarm of an object after a course is one that an alarm of its algorithm may be.
use Rattle.std.proofs.Common.{◌≡◌, ℕ, zero, suc, ◌<◌, ◌≤◌, Bool, true, false, cond, if◌then◌else◌, Option, Some, None, List, [], ◌∷◌, length, find, refl, arith}
use Rattle.std.specs.List.{All, slice_get, take_while}
use Rattle.std.specs.Option.{IfSome, option_and_then}
use Rattle.std.proofs.lemmas.List.Elements.{All-nil, All-cons, All-head, All-tail}
use Rattle.std.proofs.lemmas.List.Sums.{take_while-cons}
use Rattle.bac_values.specs.EventStates.{transition_to}
use Rattle.bac_values.specs.Moments.{IsMoment}
use Rattle.bac_values.specs.declared.transition.Transition.{Transition}
use Rattle.bac_values.specs.declared.transition.Transition.TheVariants.{ToOffnormal, ToFault, ToNormal}
use Rattle.algorithm_rules.specs.declared.table.Algorithm.{Algorithm}
use Rattle.algorithm_rules.specs.declared.table.Rule.{Rule}
use Rattle.algorithm_rules.specs.Rules.{rules_of}
use Rattle.event_machine.specs.declared.run.Run.{Run}
use Rattle.event_machine.specs.AlarmRecord.{Mark, Entered, Acked, is_coming, is_same, marks_of, state_in}
use Rattle.event_machine.specs.Detection.{Detection, detection_at}
use Rattle.event_machine.specs.Held.{is_key, key_in_detection, run_of}
use Rattle.event_machine.specs.Points.{Point, Incident}
use Rattle.event_machine.specs.Runs.{earliest, run_at, run_start_of, run_with}
use Rattle.event_machine.specs.Summary.{alarm_of}
use Rattle.alarm_core.specs.SiteStates.{IsAlarmOf, IsLastState, IsRunAt}
use Rattle.alarm_core.proofs.KeptDetections.{AreSeen, IsFit, IsSeen, Suits, detection_fit}

-- ---- the states that transitions last entered

one_kind : (a b : Transition) → is_same a b ≡ true → b ≡ a
one_kind ToOffnormal ToOffnormal e = refl
one_kind ToOffnormal ToFault e = absurd cc
one_kind ToOffnormal ToNormal e = absurd cc
one_kind ToFault ToOffnormal e = absurd cc
one_kind ToFault ToFault e = refl
one_kind ToFault ToNormal e = absurd cc
one_kind ToNormal ToOffnormal e = absurd cc
one_kind ToNormal ToFault e = absurd cc
one_kind ToNormal ToNormal e = refl

last_by : (transition : Transition) (mark : Mark) (b : Bool) (rest : Option Mark) → is_coming transition mark ≡ b → IsLastState transition (state_in rest) →
    IsLastState transition (state_in (if b then Some mark else rest))
last_by transition (Entered point state) true rest e more = one_kind transition (transition_to state) e
last_by transition (Acked other) true rest e more = tt
last_by transition mark false rest e more = more

last_found : (transition : Transition) (marks : List Mark) → IsLastState transition (state_in (find (is_coming transition) marks))
last_found transition [] = tt
last_found transition (mark ∷ marks) = last_by transition mark (is_coming transition mark) (find (is_coming transition) marks) refl (last_found transition marks)

-- ---- the runs

within_found : (rules : List Rule) (place : ℕ) (rule : Rule) → slice_get rules place ≡ Some rule → place < length rules
within_found [] place rule e = absurd cc
within_found (first ∷ rules) zero rule e = omega arith
within_found (first ∷ rules) (suc place) rule e = omega (arith, within_found rules place rule e)

module _ (algorithm : Algorithm) (values last : ℕ) where
  -- a run starts at a moment in range, and not after the last one
  abbrev Starts : Run → Type 0
  Starts run = IsMoment run.start × (run.start ≤ last)

  earliest_starts : (newest : ℕ) (points : List Point) → IsMoment newest → newest ≤ last → All (IsSeen values last) points →
      IsMoment (earliest newest points) × (earliest newest points ≤ last)
  earliest_starts newest [] range past seen = (range, past)
  earliest_starts newest (point ∷ points) range past seen =
      let here = All-head (IsSeen values last) point points seen in
      earliest_starts point.moment points here.range here.past (All-tail (IsSeen values last) point points seen)

  while_by : (b : Bool) (point : Point) (points : List Point) → IsSeen values last point → All (IsSeen values last) points → All (IsSeen values last) (cond b (point ∷ points) [])
  while_by true point points one more = All-cons (IsSeen values last) point points one more
  while_by false point points one more = All-nil (IsSeen values last)

  while_seen : (test : Point → Bool) (points : List Point) → All (IsSeen values last) points → All (IsSeen values last) (take_while test points)
  while_seen test [] seen = All-nil (IsSeen values last)
  while_seen test (point ∷ points) seen =
      rw (take_while-cons test point points)
      (while_by (test point) point (take_while test points) (All-head (IsSeen values last) point points seen) (while_seen test points (All-tail (IsSeen values last) point points seen)))

  module _ (d : Detection) (fit : IsFit algorithm values last d) where
    key_starts : (rule : Rule) (key : Option ℕ) → IfSome (run_with rule d key) Starts
    key_starts rule None = tt
    key_starts rule (Some key) =
        earliest_starts d.newest.moment (run_of rule d.cause key d.older) fit.newest.range fit.newest.past
        (while_seen (λ point. is_key key (key_in_detection rule point.facts d.cause)) d.older fit.older)

    free_starts : (rule : Rule) (inhibited : Bool) → IfSome (if inhibited then None else run_with rule d (key_in_detection rule d.newest.facts d.cause)) Starts
    free_starts rule true = tt
    free_starts rule false = key_starts rule (key_in_detection rule d.newest.facts d.cause)

    as_run : (rules : List Rule) (place : ℕ) (run : Option Run) → place < length rules → IfSome run Starts → IsRunAt rules last place run
    as_run rules place None low starts = tt
    as_run rules place (Some run) low starts = record { within = low; range = starts.0; past = starts.1 }

    run_found : (rules : List Rule) (place : ℕ) (found : Option Rule) → slice_get rules place ≡ found → IsRunAt rules last place (option_and_then (λ rule. run_start_of rule d) found)
    run_found rules place None e = tt
    run_found rules place (Some rule) e = as_run rules place (run_start_of rule d) (within_found rules place rule e) (free_starts rule d.newest.inhibited)

    run_is : (place : ℕ) → IsRunAt (rules_of algorithm d.state) last place (run_at algorithm d place)
    run_is place = run_found (rules_of algorithm d.state) place (slice_get (rules_of algorithm d.state) place) refl

  -- the alarm after a course
  pub alarm_is : Suits algorithm values → (first : Point) (later : List Incident) → AreSeen values last first later → IsAlarmOf algorithm values last (alarm_of algorithm first later)
  alarm_is suits first later seen =
      let d = detection_at algorithm first later in
      let fit = detection_fit algorithm values last suits first later seen in
      let marks = marks_of algorithm first later in
      record {
        state = fit.state;
        acked = refl;
        stamps = refl;
        last_states = (last_found ToOffnormal marks, (last_found ToFault marks, (last_found ToNormal marks, tt)));
        cause = fit.cause;
        caused = fit.caused;
        runs = (run_is d fit 0, (run_is d fit 1, (run_is d fit 2, tt)));
      }
