-- The test of a held rule, and the relation.
use Rattle.std.proofs.Common.{◌≡◌, ℕ, ◌+◌, ◌*◌, ◌≤◌, Bool, true, false, cond, ◌&&◌, ◌||◌, leb, Option, Some, None, List, [], ◌∷◌, ◌++◌, refl, ap, ◌∙◌, sym, inl, inr, ◌⊎◌, arith}
use Rattle.std.specs.List.{All, list_any, take_while}
use Rattle.std.proofs.lemmas.List.Sums.{take_while-cons}
use Rattle.std.proofs.lemmas.List.Elements.{All-nil, All-cons, All-head, All-tail}
use Rattle.std.proofs.lemmas.Bool.Decides.{nat_tests}
use Rattle.algorithm_rules.specs.declared.table.Rule.{Rule}
use Rattle.algorithm_rules.specs.Conditions.{delay_of}
use Rattle.event_machine.specs.Points.{Point}
use Rattle.event_machine.specs.Laws.{TellsHeld}
use Rattle.event_machine.specs.Held.{key_in_detection, IsHeld, is_key, run_of, reaches_back, is_held_by, is_held}

-- the points at which a rule has this key
abbrev Has : Rule → Option ℕ → ℕ → Point → Type 0
Has rule cause key = λ point. key_in_detection rule point.facts cause ≡ Some key

-- one of some points, from which on the key was the same, and that lies far enough back
record Reaches (rule : Rule) (cause : Option ℕ) (key wait moment : ℕ) (points : List Point) : Type 0 where
  later : List Point
  start : Point
  earlier : List Point
  whole : points ≡ later ++ start ∷ earlier
  same_key : All (Has rule cause key) (later ++ start ∷ [])
  lasted : start.moment + wait ≤ moment

is_key-true : (key : ℕ) (found : Option ℕ) → is_key key found ≡ true → found ≡ Some key
is_key-true key None e = absurd cc
is_key-true key (Some n) e = grind (arith, nat_tests)

is_key-same : (key : ℕ) (found : Option ℕ) → found ≡ Some key → is_key key found ≡ true
is_key-same key None e = absurd cc
is_key-same key (Some n) e = grind (arith, nat_tests)

any_cond : {X : Type 0} (q : X → Bool) (b : Bool) (x : X) (xs : List X) → list_any q (cond b (x ∷ xs) []) ≡ (b && (q x || list_any q xs))
any_cond q true x xs = refl
any_cond q false x xs = refl

-- the run from a point back reaches far enough where the point has the key, and lies far enough back itself or an earlier one does
step : (rule : Rule) (cause : Option ℕ) (key wait moment : ℕ) (p : Point) (ps : List Point) → reaches_back wait moment (run_of rule cause key (p ∷ ps)) ≡ (is_key key (key_in_detection rule p.facts cause) && (leb (p.moment + wait) moment || reaches_back wait moment (run_of rule cause key ps)))
step rule cause key wait moment p ps =
    let test = λ (point : Point). is_key key (key_in_detection rule point.facts cause) in
    let early = λ (point : Point). leb (point.moment + wait) moment in
    ap (list_any early) (take_while-cons test p ps) ∙ any_cond early (test p) p (take_while test ps)

or_true : (b : Bool) → (b || true) ≡ true
or_true true = refl
or_true false = refl

both : (a b : Bool) → (a && b) ≡ true → (a ≡ true) × (b ≡ true)
both true b e = (refl, e)
both false b e = absurd cc

either : (a b : Bool) → (a || b) ≡ true → (a ≡ true) ⊎ (b ≡ true)
either true b e = inl refl
either false b e = inr e

reaches : (rule : Rule) (cause : Option ℕ) (key wait moment : ℕ) (points : List Point) → reaches_back wait moment (run_of rule cause key points) ≡ true → Reaches rule cause key wait moment points
reaches rule cause key wait moment [] e = absurd cc
reaches rule cause key wait moment (p ∷ ps) e =
    let parts = both (is_key key (key_in_detection rule p.facts cause)) (leb (p.moment + wait) moment || reaches_back wait moment (run_of rule cause key ps)) (sym (step rule cause key wait moment p ps) ∙ e) in
    let here = is_key-true key (key_in_detection rule p.facts cause) parts.0 in
    elim (either (leb (p.moment + wait) moment) (reaches_back wait moment (run_of rule cause key ps)) parts.1) [
      | inl early ↦ record {
        later = [];
        start = p;
        earlier = ps;
        whole = refl;
        same_key = All-cons (Has rule cause key) p [] here (All-nil (Has rule cause key));
        lasted = grind (arith, nat_tests);
      }
      | inr behind ↦
          let r = reaches rule cause key wait moment ps behind in
          record {
            later = p ∷ r.later;
            start = r.start;
            earlier = r.earlier;
            whole = ap (λ l. p ∷ l) r.whole;
            same_key = All-cons (Has rule cause key) p (r.later ++ r.start ∷ []) here r.same_key;
            lasted = r.lasted;
          }
    ]

reached : (rule : Rule) (cause : Option ℕ) (key wait moment : ℕ) (later : List Point) (start : Point) (earlier : List Point) → All (Has rule cause key) (later ++ start ∷ []) → start.moment + wait ≤ moment → reaches_back wait moment (run_of rule cause key (later ++ start ∷ earlier)) ≡ true
reached rule cause key wait moment [] start earlier same lasted =
    let has : is_key key (key_in_detection rule start.facts cause) ≡ true = is_key-same key (key_in_detection rule start.facts cause) (All-head (Has rule cause key) start [] same) in
    let early : leb (start.moment + wait) moment ≡ true = grind (arith, nat_tests) in
    step rule cause key wait moment start earlier ∙ rw (has, early) refl
reached rule cause key wait moment (p ∷ ps) start earlier same lasted =
    let has : is_key key (key_in_detection rule p.facts cause) ≡ true = is_key-same key (key_in_detection rule p.facts cause) (All-head (Has rule cause key) p (ps ++ start ∷ []) same) in
    let behind = reached rule cause key wait moment ps start earlier (All-tail (Has rule cause key) p (ps ++ start ∷ []) same) lasted in
    step rule cause key wait moment p (ps ++ start ∷ earlier) ∙ rw (has, behind) (or_true (leb (p.moment + wait) moment))

-- the newest point has the key of the run
newest_has : (rule : Rule) (cause : Option ℕ) (key : ℕ) (newest : Point) (older later : List Point) (start : Point) (earlier : List Point) → newest ∷ older ≡ later ++ start ∷ earlier → All (Has rule cause key) (later ++ start ∷ []) → key_in_detection rule newest.facts cause ≡ Some key
newest_has rule cause key newest older [] start earlier whole same =
    let first : newest ≡ start = cc in rw first (All-head (Has rule cause key) start [] same)
newest_has rule cause key newest older (p ∷ ps) start earlier whole same =
    let first : newest ≡ p = cc in rw first (All-head (Has rule cause key) p (ps ++ start ∷ []) same)

held_by : (rule : Rule) (cause : Option ℕ) (newest : Point) (older : List Point) (found : Option ℕ) → is_held_by rule cause newest older found ≡ true → IsHeld rule cause newest older
held_by rule cause newest older None e = absurd cc
held_by rule cause newest older (Some key) e =
    let r = reaches rule cause key (1000 * delay_of rule newest.facts) newest.moment (newest ∷ older) e in
    record { key = key; later = r.later; start = r.start; earlier = r.earlier; points = r.whole; same_key = r.same_key; lasted = r.lasted }

-- what passes the test is held
to_held : (rule : Rule) (cause : Option ℕ) (newest : Point) (older : List Point) → is_held rule cause newest older ≡ true → IsHeld rule cause newest older
to_held rule cause newest older e = held_by rule cause newest older (key_in_detection rule newest.facts cause) e

-- what is held passes the test
from_held : (rule : Rule) (cause : Option ℕ) (newest : Point) (older : List Point) → IsHeld rule cause newest older → is_held rule cause newest older ≡ true
from_held rule cause newest older h =
    let wait = 1000 * delay_of rule newest.facts in
    ap (is_held_by rule cause newest older) (newest_has rule cause h.key newest older h.later h.start h.earlier h.points h.same_key)
    ∙ (ap (λ points. reaches_back wait newest.moment (run_of rule cause h.key points)) h.points
    ∙ reached rule cause h.key wait newest.moment h.later h.start h.earlier h.same_key h.lasted)

pub tells_held : TellsHeld
tells_held rule cause newest older = (λ passes. to_held rule cause newest older passes, λ held. from_held rule cause newest older held)
