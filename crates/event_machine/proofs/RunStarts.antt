-- Where moments never fall, a run reaches back as far as its earliest point.
use Rattle.std.proofs.Common.{◌≡◌, ℕ, ◌+◌, ◌*◌, ◌≤◌, Bool, true, false, cond, ◌||◌, leb, if◌then◌else◌, Option, Some, None, List, [], ◌∷◌, refl, ap, ◌∙◌, sym, arith}
use Rattle.std.proofs.lemmas.List.Sums.{take_while-cons}
use Rattle.std.proofs.lemmas.Bool.Decides.{nat_tests}
use Rattle.algorithm_rules.specs.declared.table.Rule.{Rule}
use Rattle.algorithm_rules.specs.Conditions.{delay_of}
use Rattle.event_machine.specs.Points.{Point}
use Rattle.event_machine.specs.Held.{key_in_detection, is_key, run_of, reaches_back, is_held_by, is_held}
use Rattle.event_machine.specs.Detection.{Detection}
use Rattle.event_machine.specs.Since.{entry_of, detection_tried}
use Rattle.event_machine.specs.Runs.{earliest, run_with, run_start_of, has_gone_on}
use Rattle.event_machine.specs.Laws.{RunStartTellsHeld}
use Rattle.event_machine.proofs.Since.{DescendsFrom, IsTried, tried}

start_le : (m : ℕ) (ps : List Point) → DescendsFrom m ps → earliest m ps ≤ m
start_le m [] d = omega arith
start_le m (q ∷ qs) d = omega (arith, start_le q.moment qs d.1, d.0)

reaches_back-start : (wait now : ℕ) (p : Point) (ps : List Point) → DescendsFrom p.moment ps → reaches_back wait now (p ∷ ps) ≡ leb (earliest p.moment ps + wait) now
reaches_back-start wait now p [] d = elim (leb (p.moment + wait) now) as (λ b. (b || false) ≡ b) [ true ↦ refl | false ↦ refl ]
reaches_back-start wait now p (q ∷ qs) d =
    let more = reaches_back-start wait now q qs d.1 in
    let low : earliest q.moment qs ≤ p.moment = omega (arith, start_le q.moment qs d.1, d.0) in
    ap (λ b. leb (p.moment + wait) now || b) more ∙ grind (arith, nat_tests)

descends_cond : (b : Bool) (m : ℕ) (q : Point) (ps : List Point) → q.moment ≤ m → DescendsFrom q.moment ps → DescendsFrom m (cond b (q ∷ ps) [])
descends_cond true m q ps low d = (low, d)
descends_cond false m q ps low d = tt

descends_run : (rule : Rule) (cause : Option ℕ) (key m : ℕ) (ps : List Point) → DescendsFrom m ps → DescendsFrom m (run_of rule cause key ps)
descends_run rule cause key m [] d = tt
descends_run rule cause key m (q ∷ qs) d =
    rw (take_while-cons (λ point. is_key key (key_in_detection rule point.facts cause)) q qs)
    (descends_cond (is_key key (key_in_detection rule q.facts cause)) m q (run_of rule cause key qs) d.0 (descends_run rule cause key q.moment qs d.1))

is_itself : (key : ℕ) → is_key key (Some key) ≡ true
is_itself key = grind (arith, nat_tests)

run_newest : (rule : Rule) (cause : Option ℕ) (key : ℕ) (p : Point) (ps : List Point) → key_in_detection rule p.facts cause ≡ Some key → run_of rule cause key (p ∷ ps) ≡ p ∷ run_of rule cause key ps
run_newest rule cause key p ps has =
    take_while-cons (λ point. is_key key (key_in_detection rule point.facts cause)) p ps
    ∙ ap (λ b. cond b (p ∷ run_of rule cause key ps) []) (ap (is_key key) has ∙ is_itself key)

held_by : (rule : Rule) (d : Detection) (found : Option ℕ) → key_in_detection rule d.newest.facts d.cause ≡ found → DescendsFrom d.newest.moment d.older →
    is_held_by rule d.cause d.newest d.older found ≡ has_gone_on rule d.newest (run_with rule d found)
held_by rule d None has down = refl
held_by rule d (Some key) has down =
    let wait = 1000 * delay_of rule d.newest.facts in
    ap (reaches_back wait d.newest.moment) (run_newest rule d.cause key d.newest d.older has)
    ∙ reaches_back-start wait d.newest.moment d.newest (run_of rule d.cause key d.older) (descends_run rule d.cause key d.newest.moment d.older down)

-- a rule is held at a point, at which the object isn't inhibited, where its run has gone on for its delay
pub tells : (rule : Rule) (entry point : Point) (d : Detection) → IsTried entry point d → point.inhibited ≡ false → is_held rule d.cause d.newest d.older ≡ has_gone_on rule d.newest (run_start_of rule d)
tells rule entry point d t free =
    let key = key_in_detection rule d.newest.facts d.cause in
    let not_inhibited = ap (λ (p : Point). p.inhibited) t.newest ∙ free in
    let down : DescendsFrom d.newest.moment d.older = rw t.newest t.down in
    held_by rule d key refl down ∙ ap (λ b. has_gone_on rule d.newest (if b then None else run_with rule d key)) (sym not_inhibited)

pub run_start_tells_held : RunStartTellsHeld
run_start_tells_held algorithm first later point rule n free =
    tells rule (entry_of algorithm first later) point (detection_tried algorithm first later point) (tried algorithm first later point n) free
