-- Looking back over the course of one object gives what the book says.
use Rattle.std.proofs.Common.{◌≡◌, ℕ, ◌+◌, ◌*◌, ◌==◌, Bool, true, false, cond, ◌&&◌, ◌||◌, if◌then◌else◌, nat_le, Option, Some, None, List, [], ◌∷◌, ◌++◌, map, get_or, drop, refl, sym, ap, ◌∙◌, subst}
use Rattle.std.specs.Prelude.{All, is_some, find, take_while}
use Rattle.std.specs.List.{list_any}
use Rattle.std.proofs.lemmas.List.{map-append}
use Rattle.std.proofs.lemmas.List.Elements.{All-head, All-tail, All-cons, All-nil}
use Rattle.std.proofs.lemmas.List.Sums.{take_while-cons}
use Rattle.bac_values.specs.declared.event_state.EventState.{EventState}
use Rattle.bac_values.specs.declared.event_state.EventState.TheVariants.{Normal, Fault, Offnormal, HighLimit, LowLimit}
use Rattle.bac_values.specs.declared.reliability.Reliability.{Reliability}
use Rattle.bac_values.specs.declared.reliability.Reliability.TheVariants.{NoFaultDetected, OverRange, UnderRange, UnreliableOther, MultiStateFault, CommunicationFailure, MonitoredObjectFault}
use Rattle.bac_values.specs.EventStates.{is_fault, is_normal}
use Rattle.bac_values.specs.Reliabilities.{number_of_reliability}
use Rattle.algorithm_rules.specs.declared.table.Algorithm.{Algorithm}
use Rattle.algorithm_rules.specs.declared.table.Rule.{Rule}
use Rattle.algorithm_rules.specs.Conditions.{delay_of}
use Rattle.algorithm_rules.specs.Facts.{Facts}
use Rattle.algorithm_rules.specs.Rules.{rules_of}
use Rattle.event_machine.specs.Points.{Point, Incident, Looked, Acknowledged}
use Rattle.event_machine.specs.Held.{is_held, is_held_by, is_key, key_in_detection}
use Rattle.event_machine.specs.Detection.{Detection, Step, since, sees, stays, enters, fault_target, fault_by, fault_step, rule_held, rule_by, later_step, look_step, detection_at}
use Rattle.event_machine.specs.Since.{points_since, starts_anew}
use Rattle.event_machine.proofs.Since.{keeps_points_since}
use Rattle.profile.specs.Numbers as numbers
use Rattle.profile.specs.Numbers.{maybe, same_state, reliability_number, is_reliable}
use Rattle.profile.specs.Rules as rules
use Rattle.profile.specs.Courses as book
use Rattle.profile.specs.Sites.{Detection as Settings}
use Rattle.book_laws.specs.Values.{state_in_book, reliability_in_book, algorithm_in_book}
use Rattle.book_laws.specs.Points.{seen_in_book, settings_in_book, point_in_book, points_in_book, points_of, course_in_book, move_in_book}
use Rattle.book_laws.specs.RuleLaws.{AreKnown, told_by_code, told_by_book}
use Rattle.book_laws.specs.CourseLaws.{HasCourseOfBook, HasMovesOfBook}
use Rattle.book_laws.proofs.Matching.{first_matches}
use Rattle.book_laws.proofs.RulesTied.{has_rules_of_book}

-- ---- lists

any_of : {X : Type 0} (test : X → Bool) (keep b : Bool) (x : X) (xs : List X) → keep ≡ b →
    is_some (find test (cond keep (x ∷ xs) [])) ≡ (b && (test x || is_some (find test xs)))
any_of test true true x xs e = by (test x)
  where
    by : (found : Bool) → is_some (cond found (Some x) (find test xs)) ≡ (found || is_some (find test xs))
    by true = refl
    by false = refl
any_of test false false x xs e = refl
any_of test true false x xs e = absurd cc
any_of test false true x xs e = absurd cc

any_cond : {X : Type 0} (test : X → Bool) (keep : Bool) (x : X) (xs : List X) → list_any test (cond keep (x ∷ xs) []) ≡ (keep && (test x || list_any test xs))
any_cond test true x xs = refl
any_cond test false x xs = refl

-- whether one of the first elements that have something has something else
module _ {X Y : Type 0} (P : X → Type 0) (f : X → Y) (keep : Y → Bool) (keeps : X → Bool) (test : Y → Bool) (tests : X → Bool)
    (kept : (x : X) → P x → keep (f x) ≡ keeps x) (tested : (x : X) → test (f x) ≡ tests x) where
  reached : (xs : List X) → All P xs → is_some (find test (take_while keep (map f xs))) ≡ list_any tests (take_while keeps xs)
  reached [] all = refl
  reached (x ∷ xs) all =
      ap (λ ys. is_some (find test ys)) (take_while-cons keep (f x) (map f xs))
      ∙ any_of test (keep (f x)) (keeps x) (f x) (take_while keep (map f xs)) (kept x (All-head P x xs all))
      ∙ ap (λ b. keeps x && (b || is_some (find test (take_while keep (map f xs))))) (tested x)
      ∙ ap (λ b. keeps x && (tests x || b)) (reached xs (All-tail P x xs all))
      ∙ sym (any_cond tests (keeps x) x (take_while keeps xs))
      ∙ sym (ap (list_any tests) (take_while-cons keeps x xs))

-- ---- states and reliabilities

fault_same : (state : EventState) → same_state (state_in_book state) numbers.Fault ≡ is_fault state
fault_same Normal = refl
fault_same Fault = refl
fault_same Offnormal = refl
fault_same HighLimit = refl
fault_same LowLimit = refl

normal_same : (state : EventState) → same_state (state_in_book state) numbers.Normal ≡ is_normal state
normal_same Normal = refl
normal_same Fault = refl
normal_same Offnormal = refl
normal_same HighLimit = refl
normal_same LowLimit = refl

reliability_same : (reliability : Reliability) → reliability_number (reliability_in_book reliability) ≡ number_of_reliability reliability
reliability_same NoFaultDetected = refl
reliability_same OverRange = refl
reliability_same UnderRange = refl
reliability_same UnreliableOther = refl
reliability_same MultiStateFault = refl
reliability_same CommunicationFailure = refl
reliability_same MonitoredObjectFault = refl

module _ (algorithm : Algorithm) (others : Point → Settings) where
  abbrev Seen : Point → Type 0
  Seen = λ point. AreKnown point.facts

  abbrev at : Point → book.Point
  at = point_in_book others

  abbrev course : Detection → book.Course
  course d = course_in_book others d

  abbrev step : Step → book.Course × List book.Move
  step s = (course s.detection, map move_in_book s.moves)

  -- ---- a state is entered

  entered : (to : EventState) (by_fault : Bool) (d : Detection) → Seen d.newest → step (enters to by_fault d) ≡ book.enters (state_in_book to) by_fault (at d.newest) (course d)
  entered Normal by_fault d seen = refl
  entered Fault by_fault d seen = refl
  entered HighLimit by_fault d seen = refl
  entered LowLimit by_fault d seen = refl
  entered Offnormal by_fault d seen =
      ap (λ cause. (record (course d) { state = numbers.Offnormal; cause = cause; since = at d.newest ∷ [] }, (record { from = state_in_book d.state; to = numbers.Offnormal; by_reliability = by_fault }) ∷ []))
      (sym (first_matches (others d.newest) d.newest.facts seen))

  -- ---- the reliability

  faults_by : (reliable in_fault same : Bool) (d : Detection) → Seen d.newest →
      step (fault_by (if reliable then (if in_fault then Some Normal else None) else (if in_fault && same then None else Some Fault)) d)
      ≡ (if reliable then (if in_fault then book.enters numbers.Normal true (at d.newest) (course d) else book.stays (course d))
      else (if in_fault && same then book.stays (course d) else book.enters numbers.Fault true (at d.newest) (course d)))
  faults_by true true same d seen = entered Normal true d seen
  faults_by true false same d seen = refl
  faults_by false true true d seen = refl
  faults_by false true false d seen = entered Fault true d seen
  faults_by false false same d seen = entered Fault true d seen

  faults : (point : Point) (d : Detection) → Seen point → step (fault_step point d) ≡ book.fault_step (at point) (course d)
  faults point d seen =
      let now = number_of_reliability point.reliability in
      let last = number_of_reliability d.reliability in
      let e = sees point d in
      let says = λ (reliable in_fault same : Bool).
      if reliable then (if in_fault then book.enters numbers.Normal true (at point) (course e) else book.stays (course e))
      else (if in_fault && same then book.stays (course e) else book.enters numbers.Fault true (at point) (course e)) in
      faults_by (now == 0) (is_fault d.state) (now == last) e seen
      ∙ sym (ap (λ n. says (n == 0) (same_state (state_in_book d.state) numbers.Fault) (n == reliability_number (reliability_in_book d.reliability))) (reliability_same point.reliability)
      ∙ ap (λ b. says (now == 0) b (now == reliability_number (reliability_in_book d.reliability))) (fault_same d.state)
      ∙ ap (λ n. says (now == 0) (is_fault d.state) (now == n)) (reliability_same d.reliability))

  -- ---- the rules

  -- a rule and one of the book are the same, whatever is seen
  record IsSame (cause : Option ℕ) (rule : Rule) (other : rules.Rule) : Type 0 where
    target : state_in_book rule.target ≡ other.target
    key : (rest : Settings) (facts : Facts) → AreKnown facts → key_in_detection rule facts cause ≡ other.key cause (seen_in_book rest facts)
    delay : (rest : Settings) (facts : Facts) → AreKnown facts → delay_of rule facts ≡ rules.seconds other.delay (settings_in_book rest facts)

  keys : (key : ℕ) (found : Option ℕ) → maybe found false (λ its. its == key) ≡ is_key key found
  keys key None = refl
  keys key (Some other) = refl

  held : (cause : Option ℕ) (rule : Rule) (other : rules.Rule) → IsSame cause rule other → (newest : Point) (older : List Point) → All Seen (newest ∷ older) →
      book.is_held cause (at newest) (map at (newest ∷ older)) other ≡ is_held rule cause newest older
  held cause rule other same newest older all =
      let seen = All-head Seen newest older all in
      let wait = delay_of rule newest.facts in
      let its = λ (p : Point). other.key cause (at p).seen in
      let says = λ (found : Option ℕ) (seconds : ℕ). maybe found false (λ key.
      is_some (find (λ (start : book.Point). nat_le (start.moment + 1000 * seconds) newest.moment) (take_while (λ (p : book.Point). maybe (other.key cause p.seen) false (λ its. its == key)) (map at (newest ∷ older))))) in
      let by : (found : Option ℕ) → says found wait ≡ is_held_by rule cause newest older found = by_key cause rule other same newest older all in
      ap (λ n. says (its newest) n) (sym (same.delay (others newest) newest.facts seen))
      ∙ ap (λ found. says found wait) (sym (same.key (others newest) newest.facts seen))
      ∙ by (key_in_detection rule newest.facts cause)
    where
      by_key : (cause : Option ℕ) (rule : Rule) (other : rules.Rule) → IsSame cause rule other → (newest : Point) (older : List Point) → All Seen (newest ∷ older) → (found : Option ℕ) →
          maybe found false (λ key. is_some (find (λ (start : book.Point). nat_le (start.moment + 1000 * delay_of rule newest.facts) newest.moment)
          (take_while (λ (p : book.Point). maybe (other.key cause p.seen) false (λ its. its == key)) (map at (newest ∷ older))))) ≡ is_held_by rule cause newest older found
      by_key cause rule other same newest older all None = refl
      by_key cause rule other same newest older all (Some key) =
          reached Seen at (λ p. maybe (other.key cause p.seen) false (λ its. its == key)) (λ p. is_key key (key_in_detection rule p.facts cause))
          (λ start. nat_le (start.moment + 1000 * delay_of rule newest.facts) newest.moment) (λ p. nat_le (p.moment + 1000 * delay_of rule newest.facts) newest.moment)
          (λ p seen. ap (λ found. maybe found false (λ its. its == key)) (sym (same.key (others p) p.facts seen)) ∙ keys key (key_in_detection rule p.facts cause))
          (λ p. refl) (newest ∷ older) all

  -- the rules of the code and those of the book are the same, one by one
  abbrev AreSame : Option ℕ → List Rule → List rules.Rule → Type 0
  AreSame cause [] [] = Unit {0}
  AreSame cause (rule ∷ mine) (other ∷ theirs) = IsSame cause rule other × AreSame cause mine theirs
  AreSame cause _ _ = ⊥

  abbrev TellTheSame : Option ℕ → List Rule → List rules.Rule → Type 0
  TellTheSame cause mine theirs = (rest : Settings) (facts : Facts) → AreKnown facts → map (told_by_code cause facts) mine ≡ map (told_by_book cause (seen_in_book rest facts)) theirs

  are_same : (cause : Option ℕ) (rest : Settings) (facts : Facts) → AreKnown facts → (mine : List Rule) (theirs : List rules.Rule) → TellTheSame cause mine theirs → AreSame cause mine theirs
  are_same cause rest facts known [] [] told = tt
  are_same cause rest facts known [] (other ∷ theirs) told = let wrong = told rest facts known in absurd cc
  are_same cause rest facts known (rule ∷ mine) [] told = let wrong = told rest facts known in absurd cc
  are_same cause rest facts known (rule ∷ mine) (other ∷ theirs) told =
      let head = λ (r : Settings) (f : Facts) (k : AreKnown f). ap (λ l. get_or l 0 (told_by_code cause f rule)) (told r f k) in (
        record {
          target = ap (λ t. t.0) (head rest facts known);
          key = λ r f k. ap (λ t. t.1) (head r f k);
          delay = λ r f k. ap (λ t. t.2) (head r f k);
        },
        are_same cause rest facts known mine theirs (λ r f k. ap (drop 1) (told r f k)),
      )

  -- the first of some rules that is held
  moved : (d : Detection) → All Seen (since d) → (mine : List Rule) (theirs : List rules.Rule) → AreSame d.cause mine theirs →
      step (rule_by (find (λ rule. is_held rule d.cause d.newest d.older) mine) d)
      ≡ maybe (find (book.is_held d.cause (at d.newest) (course d).since) theirs) (book.stays (course d)) (λ rule. book.enters rule.target false (at d.newest) (course d))
  moved d all [] [] same = refl
  moved d all [] (other ∷ theirs) same = absurd same
  moved d all (rule ∷ mine) [] same = absurd same
  moved d all (rule ∷ mine) (other ∷ theirs) same =
      by (moved d all mine theirs same.1) (is_held rule d.cause d.newest d.older) (book.is_held d.cause (at d.newest) (course d).since other) (held d.cause rule other same.0 d.newest d.older all)
    where
      by : step (rule_by (find (λ rule. is_held rule d.cause d.newest d.older) mine) d)
          ≡ maybe (find (book.is_held d.cause (at d.newest) (course d).since) theirs) (book.stays (course d)) (λ rule. book.enters rule.target false (at d.newest) (course d))
          → (is his : Bool) → his ≡ is →
          step (rule_by (cond is (Some rule) (find (λ rule. is_held rule d.cause d.newest d.older) mine)) d)
          ≡ maybe (cond his (Some other) (find (book.is_held d.cause (at d.newest) (course d).since) theirs)) (book.stays (course d)) (λ rule. book.enters rule.target false (at d.newest) (course d))
      by rest true true e = entered rule.target false d (All-head Seen d.newest d.older all) ∙ ap (λ to. book.enters to false (at d.newest) (course d)) same.0.target
      by rest false false e = rest
      by rest true false e = absurd cc
      by rest false true e = absurd cc

  -- ---- the inhibition, or the rules

  later_by : (fault normal inhibited : Bool) (d : Detection) → All Seen (since d) → d.newest.inhibited ≡ inhibited →
      let held = find (book.is_held d.cause (at d.newest) (course d).since) (rules.rules_of (algorithm_in_book algorithm) (state_in_book d.state)) in
      step (if fault then stays d else (if inhibited then (if normal then stays (record d { older = [] }) else enters Normal false d) else rule_by (rule_held algorithm d) d))
      ≡ (if fault then book.stays (course d) else (if inhibited && normal then book.stays (record (course d) { since = at d.newest ∷ [] })
      else (if inhibited then book.enters numbers.Normal false (at d.newest) (course d)
      else maybe held (book.stays (course d)) (λ rule. book.enters rule.target false (at d.newest) (course d)))))
  later_by true normal inhibited d all e = refl
  later_by false true true d all e = refl
  later_by false false true d all e = entered Normal false d (All-head Seen d.newest d.older all)
  later_by false normal false d all e =
      let seen = All-head Seen d.newest d.older all in
      moved d all (rules_of algorithm d.state) (rules.rules_of (algorithm_in_book algorithm) (state_in_book d.state))
      (are_same d.cause (others d.newest) d.newest.facts seen _ _ (has_rules_of_book algorithm d.state d.cause))

  later_is : (d : Detection) → All Seen (since d) → step (later_step algorithm d) ≡ book.event_step (algorithm_in_book algorithm) (at d.newest) (course d)
  later_is d all =
      let held = find (book.is_held d.cause (at d.newest) (course d).since) (rules.rules_of (algorithm_in_book algorithm) (state_in_book d.state)) in
      let says = λ (fault normal : Bool).
      if fault then book.stays (course d) else (if d.newest.inhibited && normal then book.stays (record (course d) { since = at d.newest ∷ [] })
      else (if d.newest.inhibited then book.enters numbers.Normal false (at d.newest) (course d)
      else maybe held (book.stays (course d)) (λ rule. book.enters rule.target false (at d.newest) (course d)))) in
      later_by (is_fault d.state) (is_normal d.state) d.newest.inhibited d all refl
      ∙ sym (ap (λ b. says b (same_state (state_in_book d.state) numbers.Normal)) (fault_same d.state) ∙ ap (says (is_fault d.state)) (normal_same d.state))

  -- ---- one look

  newest_by : (to : Option EventState) (d : Detection) → (fault_by to d).detection.newest ≡ d.newest
  newest_by None d = refl
  newest_by (Some state) d = refl

  seen_by : (to : Option EventState) (d : Detection) → All Seen (since d) → All Seen (since (fault_by to d).detection)
  seen_by None d all = all
  seen_by (Some state) d all = All-cons Seen d.newest [] (All-head Seen d.newest d.older all) (All-nil Seen)

  abbrev then_event : book.Point → book.Course × List book.Move → book.Course × List book.Move
  then_event point first =
      let second = book.event_step (algorithm_in_book algorithm) point first.0 in
      (second.0, first.1 ++ second.1)

  look : (point : Point) (d : Detection) → Seen point → All Seen (since d) → step (look_step algorithm point d) ≡ book.looks (algorithm_in_book algorithm) (at point) (course d)
  look point d seen all =
      let first = fault_step point d in
      let target = fault_target point.reliability d.reliability d.state in
      let all_seen = seen_by target (sees point d) (All-cons Seen point (since d) seen all) in
      ap (λ moves. (course (later_step algorithm first.detection).detection, moves)) (map-append move_in_book first.moves (later_step algorithm first.detection).moves)
      ∙ ap (λ s. (s.0, map move_in_book first.moves ++ s.1)) (later_is first.detection all_seen)
      ∙ ap (λ p. then_event (at p) (step first)) (newest_by target (sees point d))
      ∙ ap (then_event (at point)) (faults point d seen)

  -- ---- a whole course

  since_by : (anew : Bool) (point : Point) (points : List Point) → Seen point → All Seen points → All Seen (if anew then point ∷ [] else point ∷ points)
  since_by true point points seen all = All-cons Seen point [] seen (All-nil Seen)
  since_by false point points seen all = All-cons Seen point points seen all

  all_since : (first : Point) (later : List Incident) → Seen first → All Seen (points_of later) → All Seen (points_since algorithm first later)
  all_since first [] seen all = All-cons Seen first [] seen (All-nil Seen)
  all_since first (Looked point ∷ older) seen all =
      since_by (starts_anew algorithm first point older) point (points_since algorithm first older) (All-head Seen point (points_of older) all)
      (all_since first older seen (All-tail Seen point (points_of older) all))
  all_since first (Acknowledged transition ∷ older) seen all = all_since first older seen all

  known_since : (first : Point) (later : List Incident) → Seen first → All Seen (points_of later) → All Seen (since (detection_at algorithm first later))
  known_since first later seen all = subst (All Seen) (sym (keeps_points_since algorithm first later)) (all_since first later seen all)

  whole : (first : Point) (later : List Incident) → Seen first → All Seen (points_of later) →
      course (detection_at algorithm first later) ≡ book.course_of (algorithm_in_book algorithm) (at first) (points_in_book others later)
  unfolding detection_at
  whole first [] seen all = refl
  whole first (Looked point ∷ older) seen all =
      let rest = All-tail Seen point (points_of older) all in
      ap (λ s. s.0) (look point (detection_at algorithm first older) (All-head Seen point (points_of older) all) (known_since first older seen rest))
      ∙ ap (λ c. (book.looks (algorithm_in_book algorithm) (at point) c).0) (whole first older seen rest)
  whole first (Acknowledged transition ∷ older) seen all = whole first older seen all

pub has_course_of_book : HasCourseOfBook
has_course_of_book algorithm others first later known =
    let Seen = λ (point : Point). AreKnown point.facts in
    whole algorithm others first later (All-head Seen first (points_of later) known) (All-tail Seen first (points_of later) known)

pub has_moves_of_book : HasMovesOfBook
has_moves_of_book algorithm others first point later known =
    let Seen = λ (p : Point). AreKnown p.facts in
    let seen = All-head Seen first (point ∷ points_of later) known in
    let all = All-tail Seen first (point ∷ points_of later) known in
    let rest = All-tail Seen point (points_of later) all in
    ap (λ s. s.1) (look algorithm others point (detection_at algorithm first later) (All-head Seen point (points_of later) all) (known_since algorithm others first later seen rest))
    ∙ ap (λ c. (book.looks (algorithm_in_book algorithm) (point_in_book others point) c).1) (whole algorithm others first later seen rest)
