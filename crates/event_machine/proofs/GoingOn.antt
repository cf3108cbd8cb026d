-- The runs of a state's rules at one more point follow from those before it.
use Rattle.std.proofs.Common.{◌≡◌, ℕ, ◌==◌, Bool, true, false, cond, if◌then◌else◌, Option, Some, None, List, [], ◌∷◌, refl, ap, ◌∙◌, sym, arith}
use Rattle.std.specs.List.{slice_get}
use Rattle.std.specs.Option.{option_and_then}
use Rattle.std.proofs.lemmas.List.Sums.{take_while-cons}
use Rattle.std.proofs.lemmas.Bool.Decides.{nat_tests}
use Rattle.algorithm_rules.specs.declared.table.Algorithm.{Algorithm}
use Rattle.algorithm_rules.specs.declared.table.Rule.{Rule}
use Rattle.algorithm_rules.specs.Rules.{rules_of}
use Rattle.event_machine.specs.declared.run.Run.{Run}
use Rattle.event_machine.specs.Points.{Point, Incident, Looked, Follows, IsCourse, newest_of}
use Rattle.event_machine.specs.Held.{key_in_detection, is_key, run_of}
use Rattle.bac_values.specs.EventStates.{is_fault}
use Rattle.event_machine.specs.Detection.{Detection, sees, detection_at}
use Rattle.event_machine.specs.Runs.{earliest, run_with, run_start_of, run_at, runs_of}
use Rattle.event_machine.specs.AlarmSteps.{key_at, start_with, run_onward, next_run, next_runs}
use Rattle.event_machine.specs.Summary.{no_runs}
use Rattle.event_machine.specs.Laws.{RunsGoOn}
use Rattle.event_machine.proofs.Courses.{IsKnown, known, no_rules_in_fault}

pub key_same : (a b : ℕ) → (a == b) ≡ true → a ≡ b
key_same a b e = grind (arith, nat_tests)

abbrev run_from : ℕ → ℕ → Option Run
run_from key start = Some (record { start = start; key = key })

-- a run goes back behind a moment where the key is the same at the newest of some points
start_by : (rule : Rule) (cause : Option ℕ) (key other m : ℕ) (q : Point) (qs : List Point) (same : Bool) → (other == key) ≡ same →
    earliest m (cond same (q ∷ run_of rule cause key qs) []) ≡ (if same then earliest q.moment (run_of rule cause other qs) else m)
start_by rule cause key other m q qs true e = ap (λ k. earliest q.moment (run_of rule cause k qs)) (sym (key_same other key e))
start_by rule cause key other m q qs false e = refl

start_back : (rule : Rule) (d : Detection) (key m : ℕ) (found : Option ℕ) → key_in_detection rule d.newest.facts d.cause ≡ found →
    earliest m (run_of rule d.cause key (d.newest ∷ d.older)) ≡ start_with m key (run_with rule d found)
start_back rule d key m None e =
    ap (earliest m) (take_while-cons (λ point. is_key key (key_in_detection rule point.facts d.cause)) d.newest d.older)
    ∙ ap (λ k. earliest m (cond (is_key key k) (d.newest ∷ run_of rule d.cause key d.older) [])) e
start_back rule d key m (Some other) e =
    ap (earliest m) (take_while-cons (λ point. is_key key (key_in_detection rule point.facts d.cause)) d.newest d.older)
    ∙ (ap (λ k. earliest m (cond (is_key key k) (d.newest ∷ run_of rule d.cause key d.older) [])) e
    ∙ start_by rule d.cause key other m d.newest d.older (other == key) refl)

-- the points that count are the newest one alone, and it lies at this moment
pub record OnlyAt (d : Detection) (moment : ℕ) : Type 0 where
  pub alone : d.older ≡ []
  pub at : d.newest.moment ≡ moment

only_by : (b : Bool) (q : Point) (m : ℕ) → q.moment ≡ m → earliest m (cond b (q ∷ []) []) ≡ m
only_by true q m e = e
only_by false q m e = refl

start_only : (rule : Rule) (d : Detection) (key m : ℕ) → OnlyAt d m → earliest m (run_of rule d.cause key (d.newest ∷ d.older)) ≡ m
start_only rule d key m only =
    ap (λ ps. earliest m (run_of rule d.cause key (d.newest ∷ ps))) only.alone
    ∙ (ap (earliest m) (take_while-cons (λ point. is_key key (key_in_detection rule point.facts d.cause)) d.newest [])
    ∙ only_by (is_key key (key_in_detection rule d.newest.facts d.cause)) d.newest m only.at)

onward_by : (before : Bool) (rule : Rule) (d : Detection) (point : Point) (key : Option ℕ) → (before ≡ true → OnlyAt d point.moment) →
    run_with rule (sees point d) key ≡ run_onward point.moment key (if before then None else run_with rule d (key_in_detection rule d.newest.facts d.cause))
onward_by before rule d point None only = refl
onward_by true rule d point (Some key) only = ap (run_from key) (start_only rule d key point.moment (only refl))
onward_by false rule d point (Some key) only = ap (run_from key) (start_back rule d key point.moment (key_in_detection rule d.newest.facts d.cause) refl)

next_by : (inhibited : Bool) (rule : Rule) (d : Detection) (point : Point) (key : Option ℕ) → (d.newest.inhibited ≡ true → inhibited ≡ false → OnlyAt d point.moment) →
    (if inhibited then None else run_with rule (sees point d) key) ≡ (if inhibited then None else run_onward point.moment key (run_start_of rule d))
next_by true rule d point key only = refl
next_by false rule d point key only = onward_by d.newest.inhibited rule d point key (λ before. only before refl)

abbrev nothing : Option Run
nothing = None

no_run : (b : Bool) → nothing ≡ (if b then nothing else nothing)
no_run true = refl
no_run false = refl

placed : (found : Option Rule) (d : Detection) (point : Point) → (d.newest.inhibited ≡ true → point.inhibited ≡ false → OnlyAt d point.moment) →
    option_and_then (λ rule. run_start_of rule (sees point d)) found ≡ next_run point (option_and_then (λ rule. key_in_detection rule point.facts d.cause) found) (option_and_then (λ rule. run_start_of rule d) found)
placed None d point only = no_run point.inhibited
placed (Some rule) d point only = next_by point.inhibited rule d point (key_in_detection rule point.facts d.cause) only

-- where an object that is inhibited and not in FAULT has no other point than the newest
abbrev pub IsReady : Detection → Point → Type 0
IsReady d point = d.newest.inhibited ≡ true → point.inhibited ≡ false → is_fault d.state ≡ false → OnlyAt d point.moment

none_placed : (rules : List Rule) (d : Detection) (point : Point) (place : ℕ) → rules ≡ [] →
    option_and_then (λ rule. run_start_of rule (sees point d)) (slice_get rules place) ≡ next_run point (option_and_then (λ rule. key_in_detection rule point.facts d.cause) (slice_get rules place)) (option_and_then (λ rule. run_start_of rule d) (slice_get rules place))
none_placed [] d point place e = no_run point.inhibited
none_placed (rule ∷ rules) d point place e = absurd cc

placed_by : (fault : Bool) (algorithm : Algorithm) (d : Detection) (point : Point) (place : ℕ) → is_fault d.state ≡ fault → IsReady d point →
    run_at algorithm (sees point d) place ≡ next_run point (key_at algorithm d.state d.cause point.facts place) (run_at algorithm d place)
placed_by true algorithm d point place is ready = none_placed (rules_of algorithm d.state) d point place (no_rules_in_fault algorithm d.state is)
placed_by false algorithm d point place is ready = placed (slice_get (rules_of algorithm d.state) place) d point (λ before now. ready before now is)

pub place_goes_on : (algorithm : Algorithm) (d : Detection) (point : Point) (place : ℕ) → IsReady d point →
    run_at algorithm (sees point d) place ≡ next_run point (key_at algorithm d.state d.cause point.facts place) (run_at algorithm d place)
place_goes_on algorithm d point place ready = placed_by (is_fault d.state) algorithm d point place refl ready

abbrev pub three : Option Run → Option Run → Option Run → List (Option Run)
three a b c = a ∷ b ∷ c ∷ []

pub three_same : (a b c x y z : Option Run) → a ≡ x → b ≡ y → c ≡ z → three a b c ≡ three x y z
three_same a b c x y z one two last = ap (λ r. three r b c) one ∙ (ap (λ r. three x r c) two ∙ ap (three x y) last)

-- the runs go on to one more point
pub runs_onward : (algorithm : Algorithm) (d : Detection) (point : Point) → IsReady d point →
    runs_of algorithm (sees point d) ≡ next_runs algorithm point d.state d.cause (runs_of algorithm d)
runs_onward algorithm d point ready =
    let run = run_at algorithm (sees point d) in
    let next = λ (place : ℕ). next_run point (key_at algorithm d.state d.cause point.facts place) (run_at algorithm d place) in
    three_same (run 0) (run 1) (run 2) (next 0) (next 1) (next 2)
    (place_goes_on algorithm d point 0 ready) (place_goes_on algorithm d point 1 ready) (place_goes_on algorithm d point 2 ready)

anew_by : (inhibited : Bool) (rule : Rule) (d : Detection) (key : Option ℕ) → d.older ≡ [] →
    (if inhibited then None else run_with rule d key) ≡ (if inhibited then None else run_onward d.newest.moment key None)
anew_by true rule d key alone = refl
anew_by false rule d None alone = refl
anew_by false rule d (Some key) alone = ap (λ ps. run_from key (earliest d.newest.moment (run_of rule d.cause key ps))) alone

placed_anew : (found : Option Rule) (d : Detection) → d.older ≡ [] →
    option_and_then (λ rule. run_start_of rule d) found ≡ next_run d.newest (option_and_then (λ rule. key_in_detection rule d.newest.facts d.cause) found) None
placed_anew None d alone = no_run d.newest.inhibited
placed_anew (Some rule) d alone = anew_by d.newest.inhibited rule d (key_in_detection rule d.newest.facts d.cause) alone

-- the runs begin at the newest point where no other one counts
pub runs_anew : (algorithm : Algorithm) (d : Detection) → d.older ≡ [] → runs_of algorithm d ≡ next_runs algorithm d.newest d.state d.cause no_runs
runs_anew algorithm d alone =
    let run = run_at algorithm d in
    let next = λ (place : ℕ). next_run d.newest (key_at algorithm d.state d.cause d.newest.facts place) None in
    let rule = slice_get (rules_of algorithm d.state) in
    three_same (run 0) (run 1) (run 2) (next 0) (next 1) (next 2) (placed_anew (rule 0) d alone) (placed_anew (rule 1) d alone) (placed_anew (rule 2) d alone)

none_by : (b : Bool) (run : Option Run) → b ≡ true → (if b then None else run) ≡ None
none_by true run e = refl
none_by false run e = absurd cc

none_inhibited : (found : Option Rule) (d : Detection) → d.newest.inhibited ≡ true → option_and_then (λ rule. run_start_of rule d) found ≡ None
none_inhibited None d is = refl
none_inhibited (Some rule) d is = none_by d.newest.inhibited (run_with rule d (key_in_detection rule d.newest.facts d.cause)) is

-- an object that is inhibited has no runs
pub runs_inhibited : (algorithm : Algorithm) (d : Detection) → d.newest.inhibited ≡ true → runs_of algorithm d ≡ no_runs
runs_inhibited algorithm d is =
    let run = run_at algorithm d in
    let rule = slice_get (rules_of algorithm d.state) in
    three_same (run 0) (run 1) (run 2) None None None (none_inhibited (rule 0) d is) (none_inhibited (rule 1) d is) (none_inhibited (rule 2) d is)

only_from : (newest point : Point) (d : Detection) → IsKnown newest d → Follows newest point → IsReady d point
only_from newest point d k f = λ before now free.
    let same = ap (λ (p : Point). p.inhibited) k.newest_is in
    record { alone = k.alone before free; at = ap (λ (p : Point). p.moment) k.newest_is ∙ f.at_once (sym same ∙ before) now }

-- so it is at each point of a course
pub ready : (algorithm : Algorithm) (first : Point) (later : List Incident) (point : Point) → IsCourse first (Looked point ∷ later) → IsReady (detection_at algorithm first later) point
ready algorithm first later point course =
    only_from (newest_of first later) point (detection_at algorithm first later) (known algorithm first later) course.0

pub runs_go_on : RunsGoOn
runs_go_on algorithm first later point place course =
    place_goes_on algorithm (detection_at algorithm first later) point place (ready algorithm first later point course)
