-- Where nothing that is seen changes, some rule is held exactly where the due moment has come.
use Rattle.std.proofs.Common.{◌≡◌, ℕ, ◌+◌, ◌*◌, ◌==◌, min, nat_le, Bool, true, false, ◌||◌, if◌then◌else◌, is_some, Option, Some, None, List, ◌∷◌, refl, ap, ◌∙◌, sym, arith}
use Rattle.std.specs.List.{slice_get, slice_index_or}
use Rattle.std.specs.Option.{option_and_then}
use Rattle.std.proofs.lemmas.Bool.Decides.{nat_tests}
use Rattle.bac_values.specs.declared.reliability.Reliability.{Reliability}
use Rattle.algorithm_rules.specs.declared.table.Algorithm.{Algorithm}
use Rattle.algorithm_rules.specs.declared.table.Rule.{Rule}
use Rattle.algorithm_rules.specs.Facts.{Facts}
use Rattle.algorithm_rules.specs.Rules.{rules_of}
use Rattle.algorithm_rules.specs.Conditions.{delay_of}
use Rattle.event_machine.specs.declared.run.Run.{Run}
use Rattle.event_machine.specs.Points.{Point, Incident, Looked, IsCourse, newest_of, Follows}
use Rattle.event_machine.specs.Held.{key_in_detection, run_of}
use Rattle.event_machine.specs.Detection.{Detection, sees, fault_target, fault_by, rule_held, detection_at}
use Rattle.event_machine.specs.Runs.{earliest, run_with, run_start_of, run_at, runs_of}
use Rattle.event_machine.specs.Since.{detection_tried}
use Rattle.event_machine.specs.Summary.{AlarmState, alarm_of, IsAfter}
use Rattle.event_machine.specs.AlarmSteps.{key_at, run_onward, next_run, next_runs, lasting, lasting_at, or_else, rule_lasting}
use Rattle.event_machine.specs.Due.{due_by, due_at, earlier, next_due_of, has_come, SeesTheSame}
use Rattle.event_machine.proofs.Courses.{IsKnown, known}
use Rattle.event_machine.proofs.GoingOn.{three_same, ready, runs_onward}
use Rattle.event_machine.proofs.Keeping.{runs_tell}
use Rattle.event_machine.proofs.Lasting.{rule_lasting-held}

-- whether a run has gone on is whether its due moment has come
some_by : (b : Bool) (rule : Rule) → is_some (if b then Some rule else None) ≡ b
some_by true rule = refl
some_by false rule = refl

come : (point : Point) (rule : Option Rule) (run : Option Run) → is_some (lasting point rule run) ≡ has_come (due_by rule point.facts run) point.moment
come point None run = refl
come point (Some rule) None = refl
come point (Some rule) (Some run) = some_by (nat_le (run.start + 1000 * delay_of rule point.facts) point.moment) rule

either : (a b : Option Rule) → is_some (or_else a b) ≡ (is_some a || is_some b)
either None b = refl
either (Some rule) b = refl

or_none : (b : Bool) → b ≡ (b || false)
or_none true = refl
or_none false = refl

least : (a b m : ℕ) → nat_le (min a b) m ≡ (nat_le a m || nat_le b m)
least a b m = grind (arith, nat_tests)

earlier_come : (a b : Option ℕ) (m : ℕ) → has_come (earlier a b) m ≡ (has_come a m || has_come b m)
earlier_come None b m = refl
earlier_come (Some a) None m = or_none (nat_le a m)
earlier_come (Some a) (Some b) m = least a b m

-- the first of three, and the least of their due moments
three_come : (a b c : Option Rule) (x y z : Option ℕ) (m : ℕ) → is_some a ≡ has_come x m → is_some b ≡ has_come y m → is_some c ≡ has_come z m →
    is_some (or_else a (or_else b c)) ≡ has_come (earlier x (earlier y z)) m
three_come a b c x y z m one two three =
    either a (or_else b c)
    ∙ (ap (λ r. is_some a || r) (either b c)
    ∙ (ap (λ r. r || (is_some b || is_some c)) one
    ∙ (ap (λ r. has_come x m || (r || is_some c)) two
    ∙ (ap (λ r. has_come x m || (has_come y m || r)) three
    ∙ (ap (λ r. has_come x m || r) (sym (earlier_come y z m)) ∙ sym (earlier_come x (earlier y z) m))))))

pub lasts : (algorithm : Algorithm) (point : Point) (alarm : AlarmState) →
    is_some (rule_lasting algorithm point alarm.state alarm.runs) ≡ has_come (next_due_of algorithm point.facts alarm) point.moment
lasts algorithm point alarm =
    let at = lasting_at algorithm point alarm.state alarm.runs in
    let due = due_at algorithm point.facts alarm in
    let here = λ (place : ℕ). come point (slice_get (rules_of algorithm alarm.state) place) (slice_index_or alarm.runs place None) in
    three_come (at 0) (at 1) (at 2) (due 0) (due 1) (due 2) point.moment (here 0) (here 1) (here 2)

abbrev nothing : Option Run
nothing = None

none_by : (b : Bool) → (if b then nothing else nothing) ≡ nothing
none_by true = refl
none_by false = refl

itself : (n : ℕ) → (n == n) ≡ true
itself n = grind (arith, nat_tests)

-- a run with the key that it had goes on as it was
onward_same : (rule : Rule) (d : Detection) (m : ℕ) (key : Option ℕ) → run_onward m key (run_with rule d key) ≡ run_with rule d key
onward_same rule d m None = refl
onward_same rule d m (Some key) = ap (λ b. Some (record { start = if b then earliest d.newest.moment (run_of rule d.cause key d.older) else m; key = key })) (itself key)

next_same : (before now : Bool) (rule : Rule) (d : Detection) (m : ℕ) (key : Option ℕ) → before ≡ false → now ≡ false →
    (if now then None else run_onward m key (if before then None else run_with rule d key)) ≡ (if before then None else run_with rule d key)
next_same true now rule d m key b n = absurd cc
next_same false true rule d m key b n = absurd cc
next_same false false rule d m key b n = onward_same rule d m key

placed_same : (found : Option Rule) (d : Detection) (point : Point) → d.newest.inhibited ≡ false → point.inhibited ≡ false → point.facts ≡ d.newest.facts →
    next_run point (option_and_then (λ rule. key_in_detection rule point.facts d.cause) found) (option_and_then (λ rule. run_start_of rule d) found) ≡ option_and_then (λ rule. run_start_of rule d) found
placed_same None d point before now same = none_by point.inhibited
placed_same (Some rule) d point before now same =
    ap (λ facts. next_run point (key_in_detection rule facts d.cause) (run_start_of rule d)) same
    ∙ next_same d.newest.inhibited point.inhibited rule d point.moment (key_in_detection rule d.newest.facts d.cause) before now

-- the runs of a detection stay as they are where nothing that is seen changes
runs_same : (algorithm : Algorithm) (d : Detection) (point : Point) → d.newest.inhibited ≡ false → point.inhibited ≡ false → point.facts ≡ d.newest.facts →
    next_runs algorithm point d.state d.cause (runs_of algorithm d) ≡ runs_of algorithm d
runs_same algorithm d point before now same =
    let run = run_at algorithm d in
    let next = λ (place : ℕ). next_run point (key_at algorithm d.state d.cause point.facts place) (run place) in
    let rule = slice_get (rules_of algorithm d.state) in
    three_same (next 0) (next 1) (next 2) (run 0) (run 1) (run 2)
    (placed_same (rule 0) d point before now same) (placed_same (rule 1) d point before now same) (placed_same (rule 2) d point before now same)

-- a point that sees the same follows
follows_same : (facts : Facts) (reliability : Reliability) (newest point : Point) → SeesTheSame facts reliability newest point → Follows newest point
follows_same facts reliability newest point s = record { not_before = s.not_before; at_once = λ before now. absurd cc }

-- no fault comes, changes or ends
no_target : (newest point : Point) (d : Detection) → IsKnown newest d → point.reliability ≡ d.reliability → fault_target point.reliability d.reliability d.state ≡ None
no_target newest point d k same = ap (λ r. fault_target r d.reliability d.state) same ∙ k.settled

pub tells_due : (algorithm : Algorithm) (facts : Facts) (alarm : AlarmState) (first : Point) (later : List Incident) (point : Point) → IsCourse first later → IsAfter algorithm first later alarm →
    SeesTheSame facts alarm.last_reliability (newest_of first later) point →
    is_some (rule_held algorithm (detection_tried algorithm first later point)) ≡ has_come (next_due_of algorithm facts alarm) point.moment
tells_due algorithm facts alarm first later point course after s =
    let d = detection_at algorithm first later in
    let newest = newest_of first later in
    let k = known algorithm first later in
    let longer : IsCourse first (Looked point ∷ later) = (follows_same facts alarm.last_reliability newest point s, course) in
    let reliability : point.reliability ≡ d.reliability = s.reliability_then ∙ ap (λ (a : AlarmState). a.last_reliability) after in
    let free : d.newest.inhibited ≡ false = ap (λ (p : Point). p.inhibited) k.newest_is ∙ s.free_before in
    let facts_same : point.facts ≡ d.newest.facts = s.facts_then ∙ sym (ap (λ (p : Point). p.facts) k.newest_is ∙ s.facts_before) in
    let target = no_target newest point d k reliability in
    let held = λ (b : Detection). is_some (rule_lasting algorithm b.newest b.state (runs_of algorithm b)) in
    ap is_some (sym (rule_lasting-held algorithm (detection_tried algorithm first later point) (runs_tell algorithm first later point longer s.free_then)))
    ∙ (ap (λ to. held (fault_by to (sees point d)).detection) target
    ∙ (ap (λ runs. is_some (rule_lasting algorithm point d.state runs)) (runs_onward algorithm d point (ready algorithm first later point longer) ∙ runs_same algorithm d point free s.free_then facts_same)
    ∙ (lasts algorithm point (alarm_of algorithm first later)
    ∙ (ap (λ f. has_come (next_due_of algorithm f (alarm_of algorithm first later)) point.moment) s.facts_then
    ∙ ap (λ a. has_come (next_due_of algorithm facts a) point.moment) (sym after)))))
