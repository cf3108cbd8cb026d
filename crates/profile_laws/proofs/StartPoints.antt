-- The run of a rule starts at the earliest point from which on the rule has had its key.
use Rattle.std.proofs.Common.{◌≡◌, ◌≢◌, ℕ, Bool, true, false, cond, if◌then◌else◌, Option, Some, None, List, [], ◌∷◌, ◌++◌, refl, sym, ap, ◌∙◌, subst, inl, inr, ◌⊎◌, arith}
use Rattle.std.specs.List.{All, take_while}
use Rattle.std.proofs.lemmas.Bool.{cases_Bool}
use Rattle.std.proofs.lemmas.Bool.Decides.{nat_tests}
use Rattle.std.proofs.lemmas.List.Elements.{All-cons, All-head, All-nil, All-tail}
use Rattle.std.proofs.lemmas.List.Sums.{take_while-cons}
use Rattle.algorithm_rules.specs.declared.table.Algorithm.{Algorithm}
use Rattle.algorithm_rules.specs.declared.table.Rule.{Rule}
use Rattle.event_machine.specs.declared.run.Run.{Run}
use Rattle.event_machine.specs.Detection.{Detection, detection_at, since}
use Rattle.event_machine.specs.Held.{is_key, key_in_detection, run_of}
use Rattle.event_machine.specs.Points.{Acknowledged, Incident, Looked, Point, newest_of}
use Rattle.event_machine.specs.Runs.{earliest, run_start_of, run_with}
use Rattle.event_machine.specs.Since.{points_since, starts_anew}
use Rattle.event_machine.proofs.Since.{keeps_points_since}
use Rattle.profile_laws.specs.RunStarts.{IsRunOver, RunsStartAtPoints, StartsAt}

-- ---- keys

has_key : (key : ℕ) (found : Option ℕ) → is_key key found ≡ true → found ≡ Some key
has_key key None e = absurd cc
has_key key (Some n) e = grind (arith, nat_tests)

is_this_key : (key : ℕ) (found : Option ℕ) → found ≡ Some key → is_key key found ≡ true
is_this_key key None e = absurd cc
is_this_key key (Some n) e = grind (arith, nat_tests)

other_key : (key : ℕ) (found : Option ℕ) → is_key key found ≡ false → found ≢ Some key
other_key key found e same = let yes = is_this_key key found same in absurd cc

module _ (rule : Rule) (cause : Option ℕ) where
  abbrev key_at : Point → Option ℕ
  key_at point = key_in_detection rule point.facts cause

  abbrev Has : ℕ → Point → Type 0
  Has key = λ point. key_at point ≡ Some key

  -- the moment from which on the points have the key, behind a newest one that has it
  abbrev start : ℕ → Point → List Point → ℕ
  start key newest older = earliest newest.moment (run_of rule cause key older)

  start_by : (b : Bool) (moment : ℕ) (point : Point) (points : List Point) → earliest moment (cond b (point ∷ points) []) ≡ (if b then earliest point.moment points else moment)
  start_by true moment point points = refl
  start_by false moment point points = refl

  start_with : (key : ℕ) (newest point : Point) (older : List Point) → start key newest (point ∷ older) ≡ (if is_key key (key_at point) then start key point older else newest.moment)
  start_with key newest point older =
      let test = λ (p : Point). is_key key (key_at p) in
      ap (earliest newest.moment) (take_while-cons test point older) ∙ start_by (test point) newest.moment point (take_while test older)

  abbrev run : ℕ → ℕ → Run
  run moment key = record { start = moment; key = key }

  -- one more point with the key
  longer : (newest : Point) (older : List Point) (r : Run) → key_at newest ≡ Some r.key → StartsAt rule cause older r → StartsAt rule cause (newest ∷ older) r
  longer newest older r has s = record {
    later = newest ∷ s.later;
    start = s.start;
    earlier = s.earlier;
    whole = ap (λ l. newest ∷ l) s.whole;
    same_key = All-cons (Has r.key) newest (s.later ++ s.start ∷ []) has s.same_key;
    no_earlier = s.no_earlier;
    since = s.since;
  }

  -- no earlier point has the key
  alone : (key : ℕ) (newest : Point) (older : List Point) → key_at newest ≡ Some key → ((before : Point) (others : List Point) → older ≡ before ∷ others → key_at before ≢ Some key) →
      StartsAt rule cause (newest ∷ older) (run newest.moment key)
  alone key newest older has none = record {
    later = [];
    start = newest;
    earlier = older;
    whole = refl;
    same_key = All-cons (Has key) newest [] has (All-nil (Has key));
    no_earlier = none;
    since = refl;
  }

  -- behind one more point, by whether it has the key
  starts_by : (key : ℕ) (newest point : Point) (older : List Point) (b : Bool) → is_key key (key_at point) ≡ b → key_at newest ≡ Some key →
      (key_at point ≡ Some key → StartsAt rule cause (point ∷ older) (run (start key point older) key)) → StartsAt rule cause (newest ∷ point ∷ older) (run (if b then start key point older else newest.moment) key)
  starts_by key newest point older true e has later = longer newest (point ∷ older) (run (start key point older) key) has (later (has_key key (key_at point) e))
  starts_by key newest point older false e has later =
      alone key newest (point ∷ older) has (λ before others same. let here : point ≡ before = cc in subst (λ (p : Point). key_at p ≢ Some key) here (other_key key (key_at point) e))

  starts : (key : ℕ) (newest : Point) (older : List Point) → key_at newest ≡ Some key → StartsAt rule cause (newest ∷ older) (run (start key newest older) key)
  starts key newest [] has = alone key newest [] has (λ before others e. absurd cc)
  starts key newest (point ∷ older) has =
      subst (λ (moment : ℕ). StartsAt rule cause (newest ∷ point ∷ older) (run moment key)) (sym (start_with key newest point older))
      (starts_by key newest point older (is_key key (key_at point)) refl has (starts key point older))

  -- ---- no other run starts there

  newest_has : (newest : Point) (older later : List Point) (first : Point) (earlier : List Point) (key : ℕ) → newest ∷ older ≡ later ++ first ∷ earlier → All (Has key) (later ++ first ∷ []) → key_at newest ≡ Some key
  newest_has newest older [] first earlier key whole same =
      let here : newest ≡ first = cc in subst (λ (p : Point). key_at p ≡ Some key) (sym here) (All-head (Has key) first [] same)
  newest_has newest older (p ∷ ps) first earlier key whole same =
      let here : newest ≡ p = cc in subst (λ (q : Point). key_at q ≡ Some key) (sym here) (All-head (Has key) p (ps ++ first ∷ []) same)

  -- no earlier point has the key
  last_is : (key : ℕ) (first : Point) (earlier : List Point) → ((before : Point) (others : List Point) → earlier ≡ before ∷ others → key_at before ≢ Some key) → start key first earlier ≡ first.moment
  last_is key first [] none = refl
  last_is key first (point ∷ others) none =
      start_with key first point others
      ∙ elim (cases_Bool (is_key key (key_at point))) [
        | inl same ↦ absurd (none point others refl (has_key key (key_at point) same))
        | inr other ↦ ap (λ (b : Bool). if b then start key point others else first.moment) other
      ]

  -- the start of a list that begins with points that have the key
  behind : (key : ℕ) (newest : Point) (later : List Point) (first : Point) (earlier : List Point) → All (Has key) (later ++ first ∷ []) → ((before : Point) (others : List Point) → earlier ≡ before ∷ others → key_at before ≢ Some key) →
      start key newest (later ++ first ∷ earlier) ≡ first.moment
  behind key newest [] first earlier same none =
      let has = is_this_key key (key_at first) (All-head (Has key) first [] same) in
      start_with key newest first earlier ∙ (ap (λ (b : Bool). if b then start key first earlier else newest.moment) has ∙ last_is key first earlier none)
  behind key newest (p ∷ ps) first earlier same none =
      let has = is_this_key key (key_at p) (All-head (Has key) p (ps ++ first ∷ []) same) in
      start_with key newest p (ps ++ first ∷ earlier)
      ∙ (ap (λ (b : Bool). if b then start key p (ps ++ first ∷ earlier) else newest.moment) has ∙ behind key p ps first earlier (All-tail (Has key) p (ps ++ first ∷ []) same) none)

  only_start : (key : ℕ) (newest : Point) (older later : List Point) (first : Point) (earlier : List Point) → newest ∷ older ≡ later ++ first ∷ earlier → All (Has key) (later ++ first ∷ []) →
      ((before : Point) (others : List Point) → earlier ≡ before ∷ others → key_at before ≢ Some key) → start key newest older ≡ first.moment
  only_start key newest older [] first earlier whole same none =
      let here : newest ≡ first = cc in
      let rest : older ≡ earlier = cc in
      subst (λ (p : Point). start key p older ≡ first.moment) (sym here) (subst (λ (ps : List Point). start key first ps ≡ first.moment) (sym rest) (last_is key first earlier none))
  only_start key newest older (p ∷ ps) first earlier whole same none =
      let rest : older ≡ ps ++ first ∷ earlier = cc in
      ap (start key newest) rest ∙ behind key newest ps first earlier (All-tail (Has key) p (ps ++ first ∷ []) same) none

  only : (newest : Point) (older : List Point) (r : Run) → StartsAt rule cause (newest ∷ older) r → (key_at newest ≡ Some r.key) × (start r.key newest older ≡ r.start)
  only newest older r s =
      (newest_has newest older s.later s.start s.earlier r.key s.whole s.same_key, only_start r.key newest older s.later s.start s.earlier s.whole s.same_key s.no_earlier ∙ sym s.since)

-- ---- a detection

some_is : (x y : Run) → Some x ≡ Some y → x ≡ y
some_is x y e = cc

module _ (rule : Rule) (d : Detection) where
  abbrev key : Option ℕ
  key = key_in_detection rule d.newest.facts d.cause

  -- the run, by whether the object is inhibited, and by the key
  abbrev found : Bool → Option ℕ → Option Run
  found inhibited k = if inhibited then None else run_with rule d k

  tells : (inhibited : Bool) (k : Option ℕ) (r : Option Run) → d.newest.inhibited ≡ inhibited → key ≡ k → found inhibited k ≡ r → IsRunOver rule d.cause d.newest (since d) r
  tells true k None i e h = inl i
  tells true k (Some r) i e h = absurd cc
  tells false None None i e h = inr e
  tells false None (Some r) i e h = absurd cc
  tells false (Some k) None i e h = absurd cc
  tells false (Some k) (Some r) i e h =
      (i, subst (StartsAt rule d.cause (since d)) (some_is (record { start = earliest d.newest.moment (run_of rule d.cause k d.older); key = k }) r h) (starts rule d.cause k d.newest d.older e))

  none_without : (inhibited : Bool) → found inhibited None ≡ None
  none_without true = refl
  none_without false = refl

  told : (r : Option Run) → IsRunOver rule d.cause d.newest (since d) r → run_start_of rule d ≡ r
  told None (inl i) = ap (λ (b : Bool). found b key) i
  told None (inr e) = ap (found d.newest.inhibited) e ∙ none_without d.newest.inhibited
  told (Some r) h =
      let o = only rule d.cause d.newest d.older r h.1 in
      ap (λ (b : Bool). found b key) h.0 ∙ (ap (run_with rule d) o.0 ∙ ap (λ (moment : ℕ). Some (record { start = moment; key = r.key })) o.1)

-- ---- a course

head_is : (p q : Point) (ps qs : List Point) → p ∷ ps ≡ q ∷ qs → p ≡ q
head_is p q ps qs e = cc

record Begins (newest : Point) (points : List Point) : Type 0 where
  others : List Point
  are : points ≡ newest ∷ others

begins_by : (b : Bool) (point : Point) (points : List Point) → Begins point (if b then point ∷ [] else point ∷ points)
begins_by true point points = record { others = []; are = refl }
begins_by false point points = record { others = points; are = refl }

begins : (algorithm : Algorithm) (first : Point) (later : List Incident) → Begins (newest_of first later) (points_since algorithm first later)
begins algorithm first [] = record { others = []; are = refl }
begins algorithm first (Looked point ∷ older) = begins_by (starts_anew algorithm first point older) point (points_since algorithm first older)
begins algorithm first (Acknowledged transition ∷ older) = begins algorithm first older

newest_is : (algorithm : Algorithm) (first : Point) (later : List Incident) → (detection_at algorithm first later).newest ≡ newest_of first later
newest_is algorithm first later =
    let d = detection_at algorithm first later in
    let b = begins algorithm first later in
    head_is d.newest (newest_of first later) d.older b.others (keeps_points_since algorithm first later ∙ b.are)

pub runs_start_at_points : RunsStartAtPoints
runs_start_at_points algorithm first later rule r =
    let d = detection_at algorithm first later in
    let there = λ (newest : Point) (points : List Point). IsRunOver rule d.cause newest points r in (
      λ h. subst (λ (newest : Point). there newest (points_since algorithm first later)) (newest_is algorithm first later)
          (subst (there d.newest) (keeps_points_since algorithm first later) (tells rule d d.newest.inhibited (key_in_detection rule d.newest.facts d.cause) r refl refl h)),
      λ h. told rule d r (subst (there d.newest) (sym (keeps_points_since algorithm first later)) (subst (λ (newest : Point). there newest (points_since algorithm first later)) (sym (newest_is algorithm first later)) h)),
    )
