-- An object that is settled needs no look before it is due.
use Rattle.std.proofs.Common.{◌≡◌, ◌≢◌, ℕ, zero, suc, ◌==◌, Bool, true, false, not, ◌&&◌, ◌||◌, if◌then◌else◌, is_none, is_some, Option, Some, None, List, [], ◌∷◌, map, refl, ap, ◌∙◌, sym}
use Rattle.std.specs.List.{slice_get, slice_index_or}
use Rattle.std.proofs.lemmas.Bool.{and_parts, and_from, or_left, or_right, false_from_ne_true, true≢false}
use Rattle.bac_values.specs.declared.event_state.EventState.{EventState}
use Rattle.bac_values.specs.declared.event_state.EventState.TheVariants.{Normal, Fault}
use Rattle.bac_values.specs.declared.reliability.Reliability.{Reliability}
use Rattle.bac_values.specs.declared.reliability.Reliability.TheVariants.{NoFaultDetected, OverRange, UnderRange, UnreliableOther, MultiStateFault, CommunicationFailure, MonitoredObjectFault}
use Rattle.bac_values.specs.Reliabilities.{number_of_reliability, reliability_of_number}
use Rattle.algorithm_rules.specs.declared.table.Algorithm.{Algorithm}
use Rattle.algorithm_rules.specs.declared.table.Rule.{Rule}
use Rattle.algorithm_rules.specs.Facts.{Facts}
use Rattle.algorithm_rules.specs.Rules.{rules_of}
use Rattle.event_machine.specs.declared.run.Run.{Run}
use Rattle.event_machine.specs.Points.{Point}
use Rattle.bac_values.specs.EventStates.{is_fault, is_normal}
use Rattle.event_machine.specs.Detection.{fault_target}
use Rattle.event_machine.specs.Runs.{places, has_gone_on}
use Rattle.event_machine.specs.Due.{next_due_of, has_come}
use Rattle.event_machine.specs.Summary.{AlarmState, no_runs}
use Rattle.event_machine.specs.AlarmSteps.{Change, and_then, begun, enters, fault_by, fault_change, key_at, lasting, lasting_at, later_change, next_look, next_run, next_runs, or_else, relied_on, rule_by, rule_lasting, run_onward, stays}
use Rattle.event_machine.specs.SettledSteps.{all_fit, fits, is_settled, obeys_inhibition, running_key, runs_stand}
use Rattle.event_machine.specs.Laws.{LooksAreSkipped}
use Rattle.event_machine.proofs.Courses.{Fine, NoneFails, FaultStays, fault_settles, fault_stays_beside, itself, none_fails, no_rules_in_fault, state_by}
use Rattle.event_machine.proofs.Dues.{lasts}
use Rattle.event_machine.proofs.GoingOn.{key_same, three}

-- a run that fits goes on as it was, and one that goes on fits
onward_stands : (m : ℕ) (key : Option ℕ) (run : Option Run) → fits key run ≡ true → run_onward m key run ≡ run
onward_stands m None None e = refl
onward_stands m None (Some run) e = absurd cc
onward_stands m (Some key) None e = absurd cc
onward_stands m (Some key) (Some run) e =
    ap (λ b. Some (record { start = if b then run.start else m; key = key })) e
    ∙ ap (λ k. Some (record { start = run.start; key = k })) (sym (key_same run.key key e))

onward_fits : (m : ℕ) (key : Option ℕ) (run : Option Run) → fits key (run_onward m key run) ≡ true
onward_fits m None run = refl
onward_fits m (Some key) run = itself key

-- an inhibited object's rules have no keys
next_by : (inhibited : Bool) (m : ℕ) (key : Option ℕ) (run : Option Run) → (if inhibited then None else run_onward m key run) ≡ run_onward m (if inhibited then None else key) run
next_by true m key run = refl
next_by false m key run = refl

-- the runs of some keys at a moment, from those before
abbrev onward : ℕ → Option ℕ → Option ℕ → Option ℕ → List (Option Run) → List (Option Run)
onward m x y z runs = three (run_onward m x (slice_index_or runs 0 None)) (run_onward m y (slice_index_or runs 1 None)) (run_onward m z (slice_index_or runs 2 None))

abbrev keys : Option ℕ → Option ℕ → Option ℕ → List (Option ℕ)
keys x y z = x ∷ y ∷ z ∷ []

all_stand : (m : ℕ) (x y z : Option ℕ) (runs : List (Option Run)) → all_fit (keys x y z) runs ≡ true → onward m x y z runs ≡ runs
all_stand m x y z [] e = absurd cc
all_stand m x y z (a ∷ []) e = absurd (let p = and_parts (fits x a) false e in cc)
all_stand m x y z (a ∷ b ∷ []) e = absurd (let p = and_parts (fits x a) (fits y b && false) e in let q = and_parts (fits y b) false p.1 in cc)
all_stand m x y z (a ∷ b ∷ c ∷ []) e =
    let p = and_parts (fits x a) (fits y b && (fits z c && true)) e in
    let q = and_parts (fits y b) (fits z c && true) p.1 in
    let r = and_parts (fits z c) true q.1 in
    ap (λ w. three w (run_onward m y b) (run_onward m z c)) (onward_stands m x a p.0)
    ∙ (ap (λ w. three a w (run_onward m z c)) (onward_stands m y b q.0) ∙ ap (three a b) (onward_stands m z c r.0))
all_stand m x y z (a ∷ b ∷ c ∷ d ∷ rest) e =
    absurd (let p = and_parts (fits x a) (fits y b && (fits z c && false)) e in let q = and_parts (fits y b) (fits z c && false) p.1 in let r = and_parts (fits z c) false q.1 in cc)

onward_all : (m : ℕ) (x y z : Option ℕ) (runs : List (Option Run)) → all_fit (keys x y z) (onward m x y z runs) ≡ true
onward_all m x y z runs =
    let one = onward_fits m x (slice_index_or runs 0 None) in
    let two = onward_fits m y (slice_index_or runs 1 None) in
    let last = onward_fits m z (slice_index_or runs 2 None) in
    and_from (fits x (run_onward m x (slice_index_or runs 0 None))) (fits y (run_onward m y (slice_index_or runs 1 None)) && (fits z (run_onward m z (slice_index_or runs 2 None)) && true)) one
    (and_from (fits y (run_onward m y (slice_index_or runs 1 None))) (fits z (run_onward m z (slice_index_or runs 2 None)) && true) two
    (and_from (fits z (run_onward m z (slice_index_or runs 2 None))) true last refl))

-- one more point is as a moment and the keys that have runs
next_is : (algorithm : Algorithm) (point : Point) (alarm : AlarmState) (runs : List (Option Run)) →
    next_runs algorithm point alarm.state alarm.cause runs
    ≡ onward point.moment (running_key algorithm point alarm 0) (running_key algorithm point alarm 1) (running_key algorithm point alarm 2) runs
next_is algorithm point alarm runs =
    let key = key_at algorithm alarm.state alarm.cause point.facts in
    let same = λ (place : ℕ). next_by point.inhibited point.moment (key place) (slice_index_or runs place None) in
    ap (λ w. three w (next_run point (key 1) (slice_index_or runs 1 None)) (next_run point (key 2) (slice_index_or runs 2 None))) (same 0)
    ∙ (ap (λ w. three (run_onward point.moment (running_key algorithm point alarm 0) (slice_index_or runs 0 None)) w (next_run point (key 2) (slice_index_or runs 2 None))) (same 1)
    ∙ ap (three (run_onward point.moment (running_key algorithm point alarm 0) (slice_index_or runs 0 None)) (run_onward point.moment (running_key algorithm point alarm 1) (slice_index_or runs 1 None))) (same 2))

stand : (algorithm : Algorithm) (point : Point) (alarm : AlarmState) → runs_stand algorithm point alarm ≡ true → next_runs algorithm point alarm.state alarm.cause alarm.runs ≡ alarm.runs
stand algorithm point alarm e =
    let key = running_key algorithm point alarm in
    next_is algorithm point alarm alarm.runs ∙ all_stand point.moment (key 0) (key 1) (key 2) alarm.runs e

-- runs that went on to a point stand there
gone_on : (algorithm : Algorithm) (point : Point) (alarm : AlarmState) (before : List (Option Run)) → alarm.runs ≡ next_runs algorithm point alarm.state alarm.cause before →
    runs_stand algorithm point alarm ≡ true
gone_on algorithm point alarm before e =
    let key = running_key algorithm point alarm in
    ap (all_fit (keys (key 0) (key 1) (key 2))) (e ∙ next_is algorithm point alarm before) ∙ onward_all point.moment (key 0) (key 1) (key 2) before

-- what a settled object is
record IsQuiet (algorithm : Algorithm) (point : Point) (alarm : AlarmState) : Type 0 where
  pub target : fault_target point.reliability alarm.last_reliability alarm.state ≡ None
  pub last : point.reliability ≡ alarm.last_reliability
  pub obeys : obeys_inhibition point alarm.state ≡ true
  pub runs : next_runs algorithm point alarm.state alarm.cause alarm.runs ≡ alarm.runs

none_is : {X : Type 0} (found : Option X) → is_none found ≡ true → found ≡ None
none_is None e = refl
none_is (Some x) e = absurd cc

number_back : (reliability : Reliability) → reliability_of_number (number_of_reliability reliability) ≡ Some reliability
number_back NoFaultDetected = refl
number_back OverRange = refl
number_back UnderRange = refl
number_back UnreliableOther = refl
number_back MultiStateFault = refl
number_back CommunicationFailure = refl
number_back MonitoredObjectFault = refl

same_reliability : (a b : Reliability) → (number_of_reliability a == number_of_reliability b) ≡ true → a ≡ b
same_reliability a b e =
    let both : Some a ≡ Some b = sym (number_back a) ∙ (ap reliability_of_number (key_same (number_of_reliability a) (number_of_reliability b) e) ∙ number_back b) in
    cc

quiet_of : (algorithm : Algorithm) (point : Point) (alarm : AlarmState) → is_settled algorithm point alarm ≡ true → IsQuiet algorithm point alarm
quiet_of algorithm point alarm e =
    let target = is_none (fault_target point.reliability alarm.last_reliability alarm.state) in
    let last = number_of_reliability point.reliability == number_of_reliability alarm.last_reliability in
    let obeys = obeys_inhibition point alarm.state in
    let stands = runs_stand algorithm point alarm in
    let p = and_parts target (last && (obeys && stands)) e in
    let q = and_parts last (obeys && stands) p.1 in
    let r = and_parts obeys stands q.1 in
    record {
      target = none_is (fault_target point.reliability alarm.last_reliability alarm.state) p.0;
      last = same_reliability point.reliability alarm.last_reliability q.0;
      obeys = r.0;
      runs = stand algorithm point alarm r.1;
    }

-- a look at it does what comes behind the fault step
looked_is : (algorithm : Algorithm) (point : Point) (alarm : AlarmState) → IsQuiet algorithm point alarm → next_look algorithm point alarm ≡ later_change algorithm point alarm
looked_is algorithm point alarm q =
    let later = later_change algorithm point in
    ap (λ to. and_then (fault_by to algorithm point (relied_on point alarm)) later) q.target
    ∙ (ap (λ r. later (record alarm { last_reliability = r; runs = next_runs algorithm point alarm.state alarm.cause alarm.runs })) q.last
    ∙ ap (λ runs. later (record alarm { runs = runs })) q.runs)

later_quiet : (fault inhibited normal : Bool) (rule : Option Rule) (algorithm : Algorithm) (point : Point) (alarm : AlarmState) → (not inhibited || (fault || normal)) ≡ true → is_some rule ≡ false →
    (if fault then stays alarm else (if inhibited then (if normal then stays alarm else enters algorithm point Normal false alarm) else rule_by rule algorithm point alarm)) ≡ stays alarm
later_quiet true inhibited normal rule algorithm point alarm obeys none = refl
later_quiet false true true rule algorithm point alarm obeys none = refl
later_quiet false true false rule algorithm point alarm obeys none = absurd cc
later_quiet false false normal None algorithm point alarm obeys none = refl
later_quiet false false normal (Some rule) algorithm point alarm obeys none = absurd cc

quiet : (algorithm : Algorithm) (point : Point) (alarm : AlarmState) → is_settled algorithm point alarm ≡ true → has_come (next_due_of algorithm point.facts alarm) point.moment ≡ false →
    next_look algorithm point alarm ≡ stays alarm
quiet algorithm point alarm settled early =
    let q = quiet_of algorithm point alarm settled in
    looked_is algorithm point alarm q
    ∙ later_quiet (is_fault alarm.state) point.inhibited (is_normal alarm.state) (rule_lasting algorithm point alarm.state alarm.runs) algorithm point alarm q.obeys (lasts algorithm point alarm ∙ early)

-- in FAULT there is no rule whose run could go on
no_rule_lasts : (rules : List Rule) (point : Point) (a b c : Option Run) → rules ≡ [] →
    is_some (or_else (lasting point (slice_get rules 0) a) (or_else (lasting point (slice_get rules 1) b) (lasting point (slice_get rules 2) c))) ≡ false
no_rule_lasts [] point a b c e = refl
no_rule_lasts (rule ∷ rules) point a b c e = absurd cc

-- and where the object is inhibited there is no run
no_run_lasts : (point : Point) (found : Option Rule) → lasting point found None ≡ None
no_run_lasts point None = refl
no_run_lasts point (Some rule) = refl

none_lasts : (algorithm : Algorithm) (point : Point) (state : EventState) → rule_lasting algorithm point state no_runs ≡ None
none_lasts algorithm point state =
    let rule = slice_get (rules_of algorithm state) in
    ap (λ r. or_else r (or_else (lasting point (rule 1) None) (lasting point (rule 2) None))) (no_run_lasts point (rule 0))
    ∙ (ap (λ r. or_else r (lasting point (rule 2) None)) (no_run_lasts point (rule 1)) ∙ no_run_lasts point (rule 2))

stopped_by : (inhibited : Bool) (x y z : Option Run) → inhibited ≡ true → three (if inhibited then None else x) (if inhibited then None else y) (if inhibited then None else z) ≡ no_runs
stopped_by true x y z e = refl
stopped_by false x y z e = absurd cc

stopped : (algorithm : Algorithm) (point : Point) (state : EventState) (cause : Option ℕ) (runs : List (Option Run)) → point.inhibited ≡ true → next_runs algorithm point state cause runs ≡ no_runs
stopped algorithm point state cause runs is =
    let run = λ (place : ℕ). run_onward point.moment (key_at algorithm state cause point.facts place) (slice_index_or runs place None) in
    stopped_by point.inhibited (run 0) (run 1) (run 2) is

-- so an object of which a rule has gone on is neither in FAULT nor inhibited
not_in_fault : (algorithm : Algorithm) (point : Point) (alarm : AlarmState) → is_some (rule_lasting algorithm point alarm.state alarm.runs) ≡ true → is_fault alarm.state ≡ false
not_in_fault algorithm point alarm some =
    let run = λ (place : ℕ). slice_index_or alarm.runs place None in
    false_from_ne_true (is_fault alarm.state)
    (λ is. true≢false (sym some ∙ no_rule_lasts (rules_of algorithm alarm.state) point (run 0) (run 1) (run 2) (no_rules_in_fault algorithm alarm.state is)))

not_inhibited : (algorithm : Algorithm) (point : Point) (alarm : AlarmState) → next_runs algorithm point alarm.state alarm.cause alarm.runs ≡ alarm.runs →
    is_some (rule_lasting algorithm point alarm.state alarm.runs) ≡ true → point.inhibited ≡ false
not_inhibited algorithm point alarm same some =
    let lasting_of = λ (runs : List (Option Run)). is_some (rule_lasting algorithm point alarm.state runs) in
    false_from_ne_true point.inhibited (λ is.
    let none : alarm.runs ≡ no_runs = sym same ∙ stopped algorithm point alarm.state alarm.cause alarm.runs is in
    true≢false (sym some ∙ (ap lasting_of none ∙ ap is_some (none_lasts algorithm point alarm.state))))

later_moves : (fault inhibited normal : Bool) (rule : Option Rule) (algorithm : Algorithm) (point : Point) (alarm : AlarmState) → fault ≡ false → inhibited ≡ false → is_some rule ≡ true →
    (if fault then stays alarm else (if inhibited then (if normal then stays alarm else enters algorithm point Normal false alarm) else rule_by rule algorithm point alarm)).moves ≢ []
later_moves true inhibited normal rule algorithm point alarm f i s = absurd cc
later_moves false true normal rule algorithm point alarm f i s = absurd cc
later_moves false false normal None algorithm point alarm f i s = absurd cc
later_moves false false normal (Some rule) algorithm point alarm f i s = λ e. absurd cc

moves : (algorithm : Algorithm) (point : Point) (alarm : AlarmState) → is_settled algorithm point alarm ≡ true → has_come (next_due_of algorithm point.facts alarm) point.moment ≡ true →
    (next_look algorithm point alarm).moves ≢ []
moves algorithm point alarm settled come =
    let q = quiet_of algorithm point alarm settled in
    let some = lasts algorithm point alarm ∙ come in
    λ e. later_moves (is_fault alarm.state) point.inhibited (is_normal alarm.state) (rule_lasting algorithm point alarm.state alarm.runs) algorithm point alarm
    (not_in_fault algorithm point alarm some) (not_inhibited algorithm point alarm q.runs some) some
    (sym (ap (λ (change : Change). change.moves) (looked_is algorithm point alarm q)) ∙ e)

-- what is known of an alarm at a point at which it was looked at
record IsSeen (algorithm : Algorithm) (point : Point) (alarm : AlarmState) : Type 0 where
  pub last : alarm.last_reliability ≡ point.reliability
  pub target : FaultStays point.reliability alarm.state
  pub before : List (Option Run)
  pub runs : alarm.runs ≡ next_runs algorithm point alarm.state alarm.cause before

settled_of : (algorithm : Algorithm) (point : Point) (alarm : AlarmState) → IsSeen algorithm point alarm → obeys_inhibition point alarm.state ≡ true → is_settled algorithm point alarm ≡ true
settled_of algorithm point alarm seen obeys =
    let last = number_of_reliability point.reliability == number_of_reliability alarm.last_reliability in
    let stands = runs_stand algorithm point alarm in
    and_from (is_none (fault_target point.reliability alarm.last_reliability alarm.state)) (last && (obeys_inhibition point alarm.state && stands))
    (ap (λ r. is_none (fault_target point.reliability r alarm.state)) seen.last ∙ ap is_none seen.target)
    (and_from last (obeys_inhibition point alarm.state && stands)
    (ap (λ r. number_of_reliability point.reliability == number_of_reliability r) seen.last ∙ itself (number_of_reliability point.reliability))
    (and_from (obeys_inhibition point alarm.state) stands obeys (gone_on algorithm point alarm seen.before seen.runs)))

entered_seen : (algorithm : Algorithm) (point : Point) (to : EventState) (by_fault : Bool) (alarm : AlarmState) → alarm.last_reliability ≡ point.reliability → FaultStays point.reliability to →
    IsSeen algorithm point (enters algorithm point to by_fault alarm).alarm
entered_seen algorithm point to by_fault alarm last target = record { last = last; target = target; before = no_runs; runs = refl }

fault_seen : (to : Option EventState) (algorithm : Algorithm) (point : Point) (alarm : AlarmState) → FaultStays point.reliability (state_by to alarm.state) →
    IsSeen algorithm point (fault_by to algorithm point (relied_on point alarm)).alarm
fault_seen None algorithm point alarm target = record { last = refl; target = target; before = alarm.runs; runs = refl }
fault_seen (Some to) algorithm point alarm target = entered_seen algorithm point to true (relied_on point alarm) refl target

-- the rule that has gone on doesn't lead to FAULT
get_fine : (rules : List Rule) (place : ℕ) → NoneFails rules → Fine (slice_get rules place)
get_fine [] place fine = tt
get_fine (rule ∷ rules) zero fine = fine.0
get_fine (rule ∷ rules) (suc place) fine = get_fine rules place fine.1

lasting_by : (b : Bool) (rule : Rule) → is_fault rule.target ≡ false → Fine (if b then Some rule else None)
lasting_by true rule fine = fine
lasting_by false rule fine = tt

lasting_fine : (point : Point) (found : Option Rule) (run : Option Run) → Fine found → Fine (lasting point found run)
lasting_fine point None run fine = tt
lasting_fine point (Some rule) run fine = lasting_by (has_gone_on rule point run) rule fine

or_fine : (a b : Option Rule) → Fine a → Fine b → Fine (or_else a b)
or_fine None b one other = other
or_fine (Some rule) b one other = one

rule_fine : (algorithm : Algorithm) (point : Point) (state : EventState) (runs : List (Option Run)) → Fine (rule_lasting algorithm point state runs)
rule_fine algorithm point state runs =
    let at = lasting_at algorithm point state runs in
    let fine = λ (place : ℕ). lasting_fine point (slice_get (rules_of algorithm state) place) (slice_index_or runs place None) (get_fine (rules_of algorithm state) place (none_fails algorithm state)) in
    or_fine (at 0) (or_else (at 1) (at 2)) (fine 0) (or_fine (at 1) (at 2) (fine 1) (fine 2))

abbrev Settles : Algorithm → Point → Change → Type 0
Settles algorithm point change = IsSeen algorithm point change.alarm × (obeys_inhibition point change.alarm.state ≡ true)

later_settles : (fault inhibited normal : Bool) (rule : Option Rule) (algorithm : Algorithm) (point : Point) (alarm : AlarmState) →
    is_fault alarm.state ≡ fault → point.inhibited ≡ inhibited → is_normal alarm.state ≡ normal → Fine rule → IsSeen algorithm point alarm →
    Settles algorithm point (if fault then stays alarm else (if inhibited then (if normal then stays alarm else enters algorithm point Normal false alarm) else rule_by rule algorithm point alarm))
later_settles true inhibited normal rule algorithm point alarm f i n fine seen =
    (seen, or_right (not point.inhibited) (is_fault alarm.state || is_normal alarm.state) (or_left (is_fault alarm.state) (is_normal alarm.state) f))
later_settles false true true rule algorithm point alarm f i n fine seen =
    (seen, or_right (not point.inhibited) (is_fault alarm.state || is_normal alarm.state) (or_right (is_fault alarm.state) (is_normal alarm.state) n))
later_settles false true false rule algorithm point alarm f i n fine seen =
    (entered_seen algorithm point Normal false alarm seen.last (fault_stays_beside point.reliability alarm.state Normal f refl seen.target), or_right (not point.inhibited) true refl)
later_settles false false normal None algorithm point alarm f i n fine seen =
    (seen, or_left (not point.inhibited) (is_fault alarm.state || is_normal alarm.state) (ap not i))
later_settles false false normal (Some rule) algorithm point alarm f i n fine seen = (
  entered_seen algorithm point rule.target false alarm seen.last (fault_stays_beside point.reliability alarm.state rule.target f fine seen.target),
  or_left (not point.inhibited) (is_fault rule.target || is_normal rule.target) (ap not i),
)

settles : (algorithm : Algorithm) (point : Point) (alarm : AlarmState) → is_settled algorithm point (next_look algorithm point alarm).alarm ≡ true
settles algorithm point alarm =
    let seen = fault_seen (fault_target point.reliability alarm.last_reliability alarm.state) algorithm point alarm (fault_settles point.reliability alarm.last_reliability alarm.state) in
    let between = (fault_change algorithm point alarm).alarm in
    let both = later_settles (is_fault between.state) point.inhibited (is_normal between.state) (rule_lasting algorithm point between.state between.runs) algorithm point between refl refl refl
    (rule_fine algorithm point between.state between.runs) seen in
    settled_of algorithm point (next_look algorithm point alarm).alarm both.0 both.1

begins_by : (sound obeys stands : Bool) → obeys ≡ true → stands ≡ true → (is_none (if sound then None else Some Fault) && (sound && (obeys && stands))) ≡ sound
begins_by true obeys stands o s = and_from obeys stands o s
begins_by false obeys stands o s = refl

begins : (algorithm : Algorithm) (first : Point) → is_settled algorithm first (begun algorithm first) ≡ (number_of_reliability first.reliability == 0)
begins algorithm first =
    begins_by (number_of_reliability first.reliability == 0) (obeys_inhibition first Normal) (runs_stand algorithm first (begun algorithm first))
    (or_right (not first.inhibited) true refl) (gone_on algorithm first (begun algorithm first) no_runs refl)

-- a fault that was there at the first point comes at the next one
faulty_by : (sound : Bool) (algorithm : Algorithm) (point : Point) (alarm : AlarmState) → sound ≡ false →
    (and_then (fault_by (if sound then None else Some Fault) algorithm point alarm) (later_change algorithm point)).moves ≢ []
faulty_by true algorithm point alarm e = absurd cc
faulty_by false algorithm point alarm e = λ none. absurd cc

faulty_start : (algorithm : Algorithm) (first point : Point) → is_settled algorithm first (begun algorithm first) ≡ false → point.reliability ≡ first.reliability →
    (next_look algorithm point (begun algorithm first)).moves ≢ []
faulty_start algorithm first point unsettled same =
    faulty_by (number_of_reliability point.reliability == 0) algorithm point (relied_on point (begun algorithm first))
    (ap (λ r. number_of_reliability r == 0) same ∙ (sym (begins algorithm first) ∙ unsettled))

-- what is looked at of a point
abbrev settled_with : Algorithm → Facts → Reliability → Bool → AlarmState → Bool
settled_with algorithm facts reliability inhibited alarm =
    is_none (fault_target reliability alarm.last_reliability alarm.state)
    && (number_of_reliability reliability == number_of_reliability alarm.last_reliability
    && ((not inhibited || (is_fault alarm.state || is_normal alarm.state))
    && all_fit (map (λ place. if inhibited then None else key_at algorithm alarm.state alarm.cause facts place) places) alarm.runs))

any_moment : (algorithm : Algorithm) (one other : Point) (alarm : AlarmState) → one.facts ≡ other.facts → one.reliability ≡ other.reliability → one.inhibited ≡ other.inhibited →
    is_settled algorithm one alarm ≡ is_settled algorithm other alarm
any_moment algorithm one other alarm facts reliability inhibited =
    ap (λ f. settled_with algorithm f one.reliability one.inhibited alarm) facts
    ∙ (ap (λ r. settled_with algorithm other.facts r one.inhibited alarm) reliability ∙ ap (λ i. settled_with algorithm other.facts other.reliability i alarm) inhibited)

pub looks_are_skipped : LooksAreSkipped
looks_are_skipped =
    record {
      quiet = quiet;
      moves = moves;
      settles = settles;
      begins = begins;
      faulty_start = faulty_start;
      acknowledges = λ algorithm point transition alarm. refl;
      acknowledges_due = λ algorithm facts transition alarm. refl;
      any_moment = any_moment;
      runs = λ algorithm point alarm. (stand algorithm point alarm, λ e. gone_on algorithm point alarm alarm.runs (sym e));
    }
